-- What is noted of the seats' cubes stays right while the tree grows.
use Rattle.cube_machine.proofs.Prelude.{◌≡◌, ℕ, zero, suc, false, List, [], ◌∷◌, ◌++◌, length, Option, None, Some, refl, sym, ap, ◌∙◌, subst, inl, inr, arith, slice_get, slice_set, option_map_or, length-append, same_Some, Node, root, Side}
use Rattle.cube_machine.proofs.Prelude.{One, Two, with_mark, child, Cube, is_decided, CubeState, get_set, cube_in, flag_at, is_odd, IsOnce, AreOnce, IsNoted, AreNoted, Decided}
use Rattle.cube_machine.proofs.Lists.{get_pushed}
use Rattle.cube_machine.proofs.Flags.{odd_none}
use Rattle.cube_machine.proofs.Splits.{length_marked, cube_front}

-- ---- a mark is written
cube_written : (nodes : List Node) (id k : ℕ) (x y : Node) → slice_get nodes id ≡ Some x → y.cube ≡ x.cube → cube_in (slice_set nodes id y) k ≡ cube_in nodes k
cube_written [] id k x y at e = refl
cube_written (z ∷ zs) zero zero x y at e = e ∙ ap (λ (n : Node). n.cube) (sym (same_Some z x at))
cube_written (z ∷ zs) zero (suc k) x y at e = refl
cube_written (z ∷ zs) (suc id) zero x y at e = refl
cube_written (z ∷ zs) (suc id) (suc k) x y at e = cube_written zs id k x y at e

cube_under : (nodes : List Node) (id k : ℕ) (m : CubeState) (o : Option Node) → slice_get nodes id ≡ o → cube_in (option_map_or (λ (x : Node). slice_set nodes id (record x { mark = m })) o nodes) k ≡ cube_in nodes k
cube_under nodes id k m None e = refl
cube_under nodes id k m (Some x) e = cube_written nodes id k x (record x { mark = m }) e refl

pub cube_stays : (nodes : List Node) (id k : ℕ) (m : CubeState) → cube_in (with_mark nodes id m) k ≡ cube_in nodes k
cube_stays nodes id k m = cube_under nodes id k m (slice_get nodes id) refl

pub noted_marked : (nodes : List Node) (count : ℕ) (table : List Decided) (id : ℕ) (m : CubeState) → AreNoted nodes count table → AreNoted (with_mark nodes id m) count table
noted_marked nodes count table id m t = record {
  noted = λ k d e. (let n = t.noted k d e in let w = n.within in let l = length_marked nodes id m in record {
    within = omega (arith, w, l);
    each = λ c side lt. n.each c side lt ∙ ap (λ cube. is_odd cube c side) (sym (cube_stays nodes id d.node m));
  });
  wide = t.wide;
}

pub once_marked : (nodes : List Node) (id : ℕ) (m : CubeState) → AreOnce nodes → AreOnce (with_mark nodes id m)
once_marked nodes id m t = record { each = λ k. subst IsOnce (sym (cube_stays nodes id k m)) (t.each k) }

-- ---- nodes are added
once_joined : (nodes more : List Node) → ((k : ℕ) → IsOnce (cube_in nodes k)) → ((k : ℕ) → IsOnce (cube_in more k)) → (k : ℕ) → IsOnce (cube_in (nodes ++ more) k)
once_joined [] more a b k = b k
once_joined (x ∷ xs) more a b zero = a 0
once_joined (x ∷ xs) more a b (suc k) = once_joined xs more (λ j. a (suc j)) b k

pub once_more : (nodes more : List Node) → AreOnce nodes → ((k : ℕ) → IsOnce (cube_in more k)) → AreOnce (nodes ++ more)
once_more nodes more t b = record { each = once_joined nodes more t.each b }

pub once_children : (id c : ℕ) (cube : Cube) → IsOnce cube → is_decided cube c ≡ false → (k : ℕ) → IsOnce (cube_in (child id cube c One ∷ child id cube c Two ∷ []) k)
unfolding IsOnce
once_children id c cube once free zero = (free, once)
once_children id c cube once free (suc zero) = (free, once)
once_children id c cube once free (suc (suc k)) = tt

pub once_root : AreOnce (root ∷ [])
unfolding IsOnce
once_root = record { each = first }
  where
    first : (k : ℕ) → IsOnce (cube_in (root ∷ []) k)
    first zero = tt
    first (suc k) = tt

pub noted_more : (nodes more : List Node) (count : ℕ) (table : List Decided) → AreNoted nodes count table → AreNoted (nodes ++ more) count table
noted_more nodes more count table t = record {
  noted = λ k d e. (let n = t.noted k d e in let w = n.within in let l = length-append nodes more in record {
    within = omega (arith, w, l);
    each = λ c side lt. n.each c side lt ∙ ap (λ cube. is_odd cube c side) (sym (cube_front nodes more d.node w));
  });
  wide = t.wide;
}

-- ---- a seat goes to another node
pub noted_went : (nodes : List Node) (count : ℕ) (table : List Decided) (k : ℕ) (old now : Decided) → AreNoted nodes count table → slice_get table k ≡ Some old → IsNoted nodes now → length now.flags.items ≡ length old.flags.items → AreNoted nodes count (slice_set table k now)
noted_went nodes count table k old now t at n l = record {
  noted = λ j d e. (elim (get_set table k j now d e) [
    | inl p ↦ subst (IsNoted nodes) (sym p.1) n
    | inr q ↦ t.noted j d q.1
  ]);
  wide = λ j d e. (elim (get_set table k j now d e) [
    | inl p ↦ ap (λ (x : Decided). length x.flags.items) p.1 ∙ l ∙ t.wide k old at
    | inr q ↦ t.wide j d q.1
  ]);
}

-- ---- at first
pub noted_none : (count : ℕ) (d : Decided) → d.node ≡ 0 → ((c : ℕ) (side : Side) → flag_at d.flags.items c side ≡ false) → IsNoted (root ∷ []) d
noted_none count d at e = record {
  within = omega (arith, at);
  each = λ c side lt. e c side ∙ sym (odd_none (cube_in (root ∷ []) d.node) c side (ap (cube_in (root ∷ [])) at));
}

pub noted_pushed : (nodes : List Node) (count : ℕ) (table : List Decided) (d : Decided) → AreNoted nodes count table → IsNoted nodes d → length d.flags.items ≡ count → AreNoted nodes count (table ++ d ∷ [])
noted_pushed nodes count table now t n l = record {
  noted = λ k d e. (elim (get_pushed table k now d e) [
    | inl p ↦ subst (IsNoted nodes) (sym p.1) n
    | inr q ↦ t.noted k d q
  ]);
  wide = λ k d e. (elim (get_pushed table k now d e) [
    | inl p ↦ ap (λ (x : Decided). length x.flags.items) p.1 ∙ l
    | inr q ↦ t.wide k d q
  ]);
}
