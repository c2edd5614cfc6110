-- What each change of the tree keeps.
use Rattle.cube_machine.proofs.Prelude.{◌≡◌, ℕ, zero, suc, ◌+◌, ◌<◌, ◌≤◌, Bool, true, false, ◌||◌, List, [], ◌∷◌, ◌++◌, length, replicate, Option, None, Some, refl, sym, ap, ◌∙◌, subst, inl, inr, arith, slice_get, slice_set, option_map_or}
use Rattle.cube_machine.proofs.Prelude.{insert, remove, cases_lt, false≢true, length-set, slice_get_within, same_Some, get_put, Side, Node, is_open, is_solved, held_from, CubeState, Open, Held, none-some, get_other, get_front, get_set}
use Rattle.cube_machine.proofs.Prelude.{nodes_of, HasMark, IsAscending, IsTree, open_from, is_closed, Origin, TreeNode}
use Rattle.cube_laws.proofs.Counted.{open_unsolved}
use Rattle.cube_machine.proofs.Lists.{get_pushed, any_written, any_unchanged, any_pushed}
use Rattle.cube_machine.proofs.Cubes.{remark, leaf, mark_tested, mark_absent}
use Rattle.cube_machine.proofs.Places.{IsPlace, place_is, opens, open_removed, open_inserted, open_unchanged, open_pushed, open_fewer, open_within, open_ascending}
use Rattle.cube_machine.proofs.Seats.{slot_at}

-- ---- marks
open_free : (m : CubeState) (seat : ℕ) → is_open m ≡ true → m ≡ Held seat → ⊥
open_free m seat t e = false≢true (sym (ap is_open e) ∙ t)

pub held_shut : (m : CubeState) (seat : ℕ) → m ≡ Held seat → is_open m ≡ false
held_shut m seat e = ap is_open e

held_going : (m : CubeState) (seat : ℕ) → m ≡ Held seat → is_solved m ≡ false
held_going m seat e = ap is_solved e

pub same_seat : (a b : ℕ) → Held a ≡ Held b → a ≡ b
same_seat a b e = cc

closed_free : (m : CubeState) (seat : ℕ) → is_closed m ≡ true → m ≡ Held seat → ⊥
closed_free m seat t e = false≢true (sym (ap is_closed e) ∙ t)

pub closed_shut : (m : CubeState) → is_closed m ≡ true → is_open m ≡ false
closed_shut Open t = absurd (false≢true t)
closed_shut _ t = refl

-- ---- a written mark
ordered_written : (xs : List TreeNode) → ((k : ℕ) (x : TreeNode) (o : Origin) → slice_get xs k ≡ Some x → x.origin ≡ Some o → o.parent < k) → (id : ℕ) (x : TreeNode) (m : CubeState) → slice_get xs id ≡ Some x
    → (k : ℕ) (y : TreeNode) (o : Origin) → slice_get (slice_set xs id (remark x m)) k ≡ Some y → y.origin ≡ Some o → o.parent < k
ordered_written xs h id x m at k y o e f = elim (get_set xs id k (remark x m) y e) [
  | inl p ↦ h k x o (ap (slice_get xs) p.0 ∙ at) (sym (ap (λ (n : TreeNode). n.origin) p.1) ∙ f)
  | inr q ↦ h k y o q.1 f
]

pub tree_hold : (xs : List TreeNode) (numbers : List ℕ) (held : List (Option ℕ)) (solved : Bool) → IsTree xs numbers held solved → (seat id p : ℕ) (x : TreeNode) → slice_get xs id ≡ Some x → is_open x.mark ≡ true → slice_get held seat ≡ Some None → IsPlace id numbers p
    → IsTree (slice_set xs id (remark x (Held seat))) (remove numbers p) (slice_set held seat (Some id)) solved
tree_hold xs numbers held solved t seat id p x at o free w =
    let y = remark x (Held seat) in
    let lt = slice_get_within xs id x at in
    let z : id ≡ 0 + id = omega arith in
    let place : p ≡ opens id xs = place_is 0 xs id p (omega (arith, lt)) (subst (λ l. IsPlace (0 + id) l p) t.listed (subst (λ n. IsPlace n numbers p) z w)) in
    record {
      ordered = ordered_written xs t.ordered id x (Held seat) at;
      listed = (λ i. remove (t.listed i) (place i)) ∙ sym (open_removed 0 xs id x y at o refl);
      seats = length-set held seat (Some id) ∙ t.seats;
      holds = λ s k e. (elim (get_set held seat s (Some id) (Some k) e) [
        | inl q ↦ record {
          node = y;
          at = subst (λ n. slice_get (slice_set xs id y) n ≡ Some y) (sym (same_Some k id q.1)) (get_put xs id x y at);
          marked = ap (λ n. Held n) (sym q.0);
        }
        | inr q ↦ (let m = t.holds s k q.1 in record {
          node = m.node;
          at = get_other xs id k m.node y (λ same. open_free x.mark s o (ap (λ (n : TreeNode). n.mark) (same_Some x m.node (sym at ∙ ap (slice_get xs) (sym same) ∙ m.at)) ∙ m.marked)) m.at;
          marked = m.marked;
        })
      ]);
      slotted = λ s k m. (elim (get_set xs id k y m.node m.at) [
        | inl q ↦ (let same : s ≡ seat = sym (same_seat seat s (sym (ap (λ (n : TreeNode). n.mark) q.1) ∙ m.marked)) in
            subst (λ n. slice_get (slice_set held seat (Some id)) n ≡ Some (Some k)) (sym same)
            (subst (λ n. slice_get (slice_set held seat (Some id)) seat ≡ Some (Some n)) (sym q.0) (get_put held seat None (Some id) free)))
        | inr q ↦ (let there = t.slotted s k (record { node = m.node; at = q.1; marked = m.marked }) in
            get_other held seat s (Some k) (Some id) (λ same. none-some k (same_Some None (Some k) (sym free ∙ ap (slice_get held) (sym same) ∙ there))) there)
      ]);
      found = t.found ∙ sym (any_unchanged (λ (n : TreeNode). is_solved n.mark) xs id x y at (open_unsolved x.mark o) refl);
    }

-- the slots, where the node that a seat held gets a mark that is no seat's
record Freed (xs : List TreeNode) (held : List (Option ℕ)) : Type 0 where
  pub holds : (seat k : ℕ) → slice_get held seat ≡ Some (Some k) → HasMark xs k (Held seat)
  pub slotted : (seat k : ℕ) → HasMark xs k (Held seat) → slice_get held seat ≡ Some (Some k)

freed : (xs : List TreeNode) (numbers : List ℕ) (held : List (Option ℕ)) (solved : Bool) → IsTree xs numbers held solved → (seat id : ℕ) (x : TreeNode) (m : CubeState) → slice_get xs id ≡ Some x → slice_get held seat ≡ Some (Some id) → ((s : ℕ) → m ≡ Held s → ⊥)
    → Freed (slice_set xs id (remark x m)) (slice_set held seat None)
freed xs numbers held solved t seat id x m at mine none =
    let y = remark x m in
    let here = t.holds seat id mine in
    let own : x.mark ≡ Held seat = ap (λ (n : TreeNode). n.mark) (same_Some x here.node (sym at ∙ here.at)) ∙ here.marked in
    record {
      holds = λ s k e. (elim (get_set held seat s None (Some k) e) [
        | inl q ↦ absurd (none-some k (sym q.1))
        | inr q ↦ (let g = t.holds s k q.1 in record {
          node = g.node;
          at = get_other xs id k g.node y (λ same. q.0 (same_seat s seat (sym (ap (λ (n : TreeNode). n.mark) (same_Some x g.node (sym at ∙ ap (slice_get xs) (sym same) ∙ g.at)) ∙ g.marked) ∙ own))) g.at;
          marked = g.marked;
        })
      ]);
      slotted = λ s k g. (elim (get_set xs id k y g.node g.at) [
        | inl q ↦ absurd (none s (sym (ap (λ (n : TreeNode). n.mark) q.1) ∙ g.marked))
        | inr q ↦ (let there = t.slotted s k (record { node = g.node; at = q.1; marked = g.marked }) in
            get_other held seat s (Some k) None (λ same. q.0 (same_Some k id (same_Some (Some k) (Some id) (sym there ∙ ap (slice_get held) same ∙ mine)))) there)
      ]);
    }

pub tree_reopen : (xs : List TreeNode) (numbers : List ℕ) (held : List (Option ℕ)) (solved : Bool) → IsTree xs numbers held solved → (seat id p : ℕ) (x : TreeNode) → slice_get xs id ≡ Some x → slice_get held seat ≡ Some (Some id) → IsPlace id numbers p
    → IsTree (slice_set xs id (remark x Open)) (insert numbers p id) (slice_set held seat None) solved
tree_reopen xs numbers held solved t seat id p x at mine w =
    let y = remark x Open in
    let here = t.holds seat id mine in
    let own : x.mark ≡ Held seat = ap (λ (n : TreeNode). n.mark) (same_Some x here.node (sym at ∙ here.at)) ∙ here.marked in
    let lt = slice_get_within xs id x at in
    let z : id ≡ 0 + id = omega arith in
    let place : p ≡ opens id xs = place_is 0 xs id p (omega (arith, lt)) (subst (λ l. IsPlace (0 + id) l p) t.listed (subst (λ n. IsPlace n numbers p) z w)) in
    let f = freed xs numbers held solved t seat id x Open at mine (λ s e. open_free Open s refl e) in
    record {
      ordered = ordered_written xs t.ordered id x Open at;
      listed = (λ i. insert (t.listed i) (place i) (z i)) ∙ sym (open_inserted 0 xs id x y at (held_shut x.mark seat own) refl);
      seats = length-set held seat None ∙ t.seats;
      holds = f.holds;
      slotted = f.slotted;
      found = t.found ∙ sym (any_unchanged (λ (n : TreeNode). is_solved n.mark) xs id x y at (held_going x.mark seat own) refl);
    }

pub tree_close : (xs : List TreeNode) (numbers : List ℕ) (held : List (Option ℕ)) (solved : Bool) → IsTree xs numbers held solved → (seat id : ℕ) (x : TreeNode) (m : CubeState) → slice_get xs id ≡ Some x → slice_get held seat ≡ Some (Some id) → is_closed m ≡ true → (now : Bool) → now ≡ (solved || is_solved m)
    → IsTree (slice_set xs id (remark x m)) numbers (slice_set held seat None) now
tree_close xs numbers held solved t seat id x m at mine shut now e =
    let y = remark x m in
    let here = t.holds seat id mine in
    let own : x.mark ≡ Held seat = ap (λ (n : TreeNode). n.mark) (same_Some x here.node (sym at ∙ here.at)) ∙ here.marked in
    let f = freed xs numbers held solved t seat id x m at mine (λ s g. closed_free m s shut g) in
    record {
      ordered = ordered_written xs t.ordered id x m at;
      listed = t.listed ∙ sym (open_unchanged 0 xs id x y at (held_shut x.mark seat own) (closed_shut m shut));
      seats = length-set held seat None ∙ t.seats;
      holds = f.holds;
      slotted = f.slotted;
      found = e ∙ ap (λ b. b || is_solved m) t.found ∙ sym (any_written (λ (n : TreeNode). is_solved n.mark) xs id x y at (held_going x.mark seat own));
    }

-- ---- a new node
pub tree_grow : (xs : List TreeNode) (numbers : List ℕ) (held : List (Option ℕ)) (solved : Bool) → IsTree xs numbers held solved → (parent choice : ℕ) (side : Side) → parent < length xs
    → IsTree (xs ++ leaf parent choice side ∷ []) (numbers ++ length xs ∷ []) held solved
tree_grow xs numbers held solved t parent choice side lt =
    let y = leaf parent choice side in
    let z : 0 + length xs ≡ length xs = omega arith in
    record {
      ordered = λ k x o e f. (elim (get_pushed xs k y x e) [
        | inl q ↦ (let p : parent ≡ o.parent = ap (λ (n : Origin). n.parent) (same_Some (record { parent = parent; choice = choice; side = side }) o (sym (ap (λ (n : TreeNode). n.origin) q.1) ∙ f)) in
            let n = q.0 in omega (arith, p, n, lt))
        | inr q ↦ t.ordered k x o q f
      ]);
      listed = ap (λ l. l ++ length xs ∷ []) t.listed ∙ sym (open_pushed 0 xs y refl ∙ ap (λ n. open_from 0 xs ++ n ∷ []) z);
      seats = t.seats;
      holds = λ s k e. (let m = t.holds s k e in record { node = m.node; at = get_front xs (y ∷ []) k m.node m.at; marked = m.marked });
      slotted = λ s k m. (elim (get_pushed xs k y m.node m.at) [
        | inl q ↦ absurd (open_free Open s refl (sym (ap (λ (n : TreeNode). n.mark) q.1) ∙ m.marked))
        | inr q ↦ t.slotted s k (record { node = m.node; at = q; marked = m.marked })
      ]);
      found = t.found ∙ sym (any_pushed (λ (n : TreeNode). is_solved n.mark) xs y refl);
    }

-- ---- node 0 alone
abbrev pub first : TreeNode
first = record { origin = None; mark = Open }

empty_slot : (n k v : ℕ) → slice_get (replicate n None) k ≡ Some (Some v) → ⊥
empty_slot zero k v e = none-some (Some v) e
empty_slot (suc n) zero v e = none-some v (same_Some None (Some v) e)
empty_slot (suc n) (suc k) v e = empty_slot n k v e

pub tree_root : (held : List (Option ℕ)) → held ≡ replicate 17 None → IsTree (first ∷ []) (0 ∷ []) held false
unfolding open_from
tree_root held h = record {
  ordered = λ k x o e f. absurd (none-some o (sym (ap (λ (n : TreeNode). n.origin) (only k x e)) ∙ f));
  listed = refl;
  seats = ap length h;
  holds = λ s k e. absurd (empty_slot 17 s k (ap (λ l. slice_get l s) (sym h) ∙ e));
  slotted = λ s k m. absurd (open_free Open s refl (ap (λ (n : TreeNode). n.mark) (sym (only k m.node m.at)) ∙ m.marked));
  found = refl;
}
  where
    only : (k : ℕ) (x : TreeNode) → slice_get (first ∷ []) k ≡ Some x → x ≡ first
    only zero x e = sym (same_Some first x e)
    only (suc k) x e = absurd (none-some x e)

-- ---- what the callers know
pub open_below : (xs : List TreeNode) (id : ℕ) → option_map_or (λ (y : Node). is_open y.mark) (slice_get (nodes_of xs) id) false ≡ true → id < length xs
open_below xs id e = elim (cases_lt id (length xs)) [
  | inl lt ↦ lt
  | inr le ↦ absurd (false≢true (sym (mark_absent is_open false xs id le) ∙ e))
]

pub open_marked : (xs : List TreeNode) (id : ℕ) (x : TreeNode) → slice_get xs id ≡ Some x → option_map_or (λ (y : Node). is_open y.mark) (slice_get (nodes_of xs) id) false ≡ true → is_open x.mark ≡ true
open_marked xs id x at e = sym (mark_tested is_open false xs id x at) ∙ e

pub open_placed : (xs : List TreeNode) (numbers : List ℕ) (held : List (Option ℕ)) (solved : Bool) → IsTree xs numbers held solved → (id p : ℕ) (x : TreeNode) → slice_get xs id ≡ Some x → is_open x.mark ≡ true → IsPlace id numbers p → p < length numbers
open_placed xs numbers held solved t id p x at o w =
    let lt = slice_get_within xs id x at in
    let z : id ≡ 0 + id = omega arith in
    let place : p ≡ opens id xs = place_is 0 xs id p (omega (arith, lt)) (subst (λ l. IsPlace (0 + id) l p) t.listed (subst (λ n. IsPlace n numbers p) z w)) in
    let r = open_within 0 xs id x at o in
    let l = ap length t.listed in omega (arith, place, r, l)

pub held_below : (xs : List TreeNode) (numbers : List ℕ) (held : List (Option ℕ)) (solved : Bool) (seat id : ℕ) → IsTree xs numbers held solved → seat ≤ 16 → held_from seat 0 (nodes_of xs) ≡ Some id → id < length xs
held_below xs numbers held solved seat id t le e =
    let m = t.holds seat id (slot_at xs numbers held solved seat (Some id) t le e) in slice_get_within xs id m.node m.at

pub fewer_listed : (xs : List TreeNode) (numbers : List ℕ) (held : List (Option ℕ)) (solved : Bool) (seat id : ℕ) → IsTree xs numbers held solved → seat ≤ 16 → held_from seat 0 (nodes_of xs) ≡ Some id → length numbers < length xs
fewer_listed xs numbers held solved seat id t le e =
    let m = t.holds seat id (slot_at xs numbers held solved seat (Some id) t le e) in
    let r = open_fewer 0 xs id m.node m.at (held_shut m.node.mark seat m.marked) in
    let l = ap length t.listed in omega (arith, r, l)

pub listed_ascending : (xs : List TreeNode) (numbers : List ℕ) (held : List (Option ℕ)) (solved : Bool) → IsTree xs numbers held solved → IsAscending numbers
listed_ascending xs numbers held solved t = subst IsAscending (sym t.listed) (open_ascending 0 xs)
