-- Open choices that are not marked, and the first one of which a side is refuted.
use Rattle.branching.proofs.Prelude.{◌≡◌, ℕ, zero, suc, ◌+◌, ◌-◌, ◌<◌, ◌≤◌, Bool, true, false, List, [], ◌∷◌, length, drop, Option, Some, None, refl, sym, ap, ◌∙◌, subst, inl, inr, arith, slice_get, MatchOption, IfSome, IfNone, filter}
use Rattle.branching.proofs.Prelude.{cases_Bool, cases_lt, false≢true, Graph, Side, bit_of, row_len, side_of, View, is_open_in, edges_in, open_from, is_open_at, open_past, IsView, AreEdgesOf, AreMarked, IsUnmarked, is_forced_in}
use Rattle.branching.proofs.Prelude.{first_forced, AreUnforced}
use Rattle.prune_ledger.proofs.Grown.{refuted_in}
use Rattle.branching.proofs.Opens.{open_within, open_drop}
use Rattle.branching.proofs.Refuting.{forced_of, first_passes, first_fails}

-- ---- a choice without a mark
unmarked : (v : View) (g : Graph) (marks : List ℕ) (c : ℕ) → AreEdgesOf v g → AreMarked v.polygraph.choices v.sides g.edges marks → is_open_in v c ≡ true → bit_of marks c ≡ false → is_forced_in v c ≡ false
unmarked v g marks c a m free f = elim (cases_Bool (is_forced_in v c)) [
  | inl t ↦
      (let h = forced_of v c t in
      let r = refuted_in (edges_in v) g.edges (side_of v.polygraph.choices c h.0) (λ e i. (a.edges e).1 i) h.1 in
      absurd (false≢true (sym f ∙ m.marked c h.0 free r)))
  | inr n ↦ n
]

pub few_marks : (v : View) (marks : List ℕ) (g : Graph) → IsView v → AreMarked v.polygraph.choices v.sides g.edges marks → length marks < 4294967296
unfolding row_len
few_marks v marks g is m = let e = m.len in let f = is.whole.choices.few in omega (arith, e, f)

pub unforced_kept : (v : View) (g : Graph) (marks : List ℕ) (from to : ℕ) → AreEdgesOf v g → AreMarked v.polygraph.choices v.sides g.edges marks → IsUnmarked marks from to → AreUnforced v from to
unforced_kept v g marks from to a m u = record { each = λ c lo hi free. unmarked v g marks c a m free (u.each c lo hi) }

pub some_kept : (v : View) (g : Graph) (marks : List ℕ) (from : ℕ) (o : Option ℕ) → AreEdgesOf v g → AreMarked v.polygraph.choices v.sides g.edges marks → IfSome o (IsUnmarked marks from) → IfSome o (AreUnforced v from)
some_kept v g marks from None a m u = _
some_kept v g marks from (Some c) a m u = unforced_kept v g marks from c a m u

pub none_kept : (v : View) (g : Graph) (marks : List ℕ) (from : ℕ) (o : Option ℕ) → IsView v → AreEdgesOf v g → AreMarked v.polygraph.choices v.sides g.edges marks → IfNone o (IsUnmarked marks from 100000) → IfNone o ((to : ℕ) → AreUnforced v from to)
none_kept v g marks from (Some c) is a m u = _
none_kept v g marks from None is a m u = λ to. record {
  each = λ c lo hi free.
      (let within = open_within v.sides c free in
      let sided = is.sided in
      let few = is.whole.choices.few in
      unmarked v g marks c a m free (u.each c lo (omega (arith, within, sided, few))));
}

-- ---- an open choice
between : (sides : List (Option Side)) (k c i : ℕ) (rest : List ℕ) → open_from k sides ≡ c ∷ rest → k + i < c → is_open_at sides i ≡ false
between [] k c i rest e lt = refl
between (None ∷ xs) k c i rest e lt = let h : k ≡ c = cc in absurd (omega (arith, h, lt))
between (Some s ∷ xs) k c zero rest e lt = refl
between (Some s ∷ xs) k c (suc i) rest e lt = between xs (k + 1) c i rest e (omega (arith, lt))

closed : (sides : List (Option Side)) (k i : ℕ) → open_from k sides ≡ [] → is_open_at sides i ≡ false
closed [] k i e = refl
closed (None ∷ xs) k i e = cc
closed (Some s ∷ xs) k zero e = refl
closed (Some s ∷ xs) k (suc i) e = closed xs (k + 1) i e

never : (v : View) (from c : ℕ) → from ≤ c → is_open_at (drop from v.sides) (c - from) ≡ false → is_open_in v c ≡ true → ⊥
never v from c lo f free =
    let e : from + (c - from) ≡ c = omega (arith, lo) in
    false≢true (sym f ∙ open_drop v.sides from (c - from) ∙ ap (is_open_at v.sides) e ∙ free)

pub some_open : (v : View) (from : ℕ) (o : Option ℕ) → MatchOption o (open_past v.sides from ≡ []) (λ c. open_past v.sides from ≡ c ∷ open_past v.sides (c + 1)) → IfSome o (AreUnforced v from)
some_open v from None m = _
some_open v from (Some c) m = record {
  each = λ j lo hi free. absurd (never v from j lo (between (drop from v.sides) from c (j - from) (open_past v.sides (c + 1)) m (omega (arith, lo, hi))) free);
}

pub none_open : (v : View) (from : ℕ) (o : Option ℕ) → MatchOption o (open_past v.sides from ≡ []) (λ c. open_past v.sides from ≡ c ∷ open_past v.sides (c + 1)) → IfNone o ((to : ℕ) → AreUnforced v from to)
none_open v from (Some c) m = _
none_open v from None m = λ to. record { each = λ j lo hi free. absurd (never v from j lo (closed (drop from v.sides) from (j - from) m) free) }

-- ---- the choices up to a third one
pub unforced_joined : (v : View) (a b c : ℕ) → AreUnforced v a b → AreUnforced v b c → AreUnforced v a c
unforced_joined v a b c first second = record {
  each = λ n lo hi free. elim (cases_lt n b) [ inl lt ↦ first.each n lo lt free | inr ge ↦ second.each n ge hi free ];
}

-- ---- the first one that passes
first_found : (p : ℕ → Bool) (sides : List (Option Side)) (k i : ℕ) → is_open_at sides i ≡ true → p (k + i) ≡ true → ((j : ℕ) → j < i → is_open_at sides j ≡ true → p (k + j) ≡ false)
    → slice_get (filter p (open_from k sides)) 0 ≡ Some (k + i)
first_found p [] k i free t below = absurd (false≢true free)
first_found p (Some s ∷ xs) k zero free t below = absurd (false≢true free)
first_found p (None ∷ xs) k zero free t below =
    let e : k + 0 ≡ k = omega arith in
    first_passes p k (k ∷ open_from (k + 1) xs) (open_from (k + 1) xs) refl (subst (λ n. p n ≡ true) e t) ∙ ap (λ n. Some n) (sym e)
first_found p (Some s ∷ xs) k (suc i) free t below =
    let e : k + suc i ≡ k + 1 + i = omega arith in
    first_found p xs (k + 1) i free (subst (λ n. p n ≡ true) e t) (λ j lt o. (let d : k + suc j ≡ k + 1 + j = omega arith in subst (λ n. p n ≡ false) d (below (suc j) (omega (arith, lt)) o))) ∙ ap (λ n. Some n) (sym e)
first_found p (None ∷ xs) k (suc i) free t below =
    let e : k + suc i ≡ k + 1 + i = omega arith in
    let z : k + 0 ≡ k = omega arith in
    first_fails p k (k ∷ open_from (k + 1) xs) (open_from (k + 1) xs) refl (subst (λ n. p n ≡ false) z (below 0 (omega arith) refl))
    ∙ first_found p xs (k + 1) i free (subst (λ n. p n ≡ true) e t) (λ j lt o. (let d : k + suc j ≡ k + 1 + j = omega arith in subst (λ n. p n ≡ false) d (below (suc j) (omega (arith, lt)) o))) ∙ ap (λ n. Some n) (sym e)

none_found : (p : ℕ → Bool) (sides : List (Option Side)) (k : ℕ) → ((j : ℕ) → is_open_at sides j ≡ true → p (k + j) ≡ false) → slice_get (filter p (open_from k sides)) 0 ≡ None
none_found p [] k below = refl
none_found p (Some s ∷ xs) k below = none_found p xs (k + 1) (λ j o. (let d : k + suc j ≡ k + 1 + j = omega arith in subst (λ n. p n ≡ false) d (below (suc j) o)))
none_found p (None ∷ xs) k below =
    let z : k + 0 ≡ k = omega arith in
    first_fails p k (k ∷ open_from (k + 1) xs) (open_from (k + 1) xs) refl (subst (λ n. p n ≡ false) z (below 0 refl))
    ∙ none_found p xs (k + 1) (λ j o. (let d : k + suc j ≡ k + 1 + j = omega arith in subst (λ n. p n ≡ false) d (below (suc j) o)))

pub first_forced_is : (v : View) (c : ℕ) → is_open_in v c ≡ true → is_forced_in v c ≡ true → AreUnforced v 0 c → first_forced v ≡ Some c
first_forced_is v c free t u =
    let e : 0 + c ≡ c = omega arith in
    first_found (is_forced_in v) v.sides 0 c free (subst (λ n. is_forced_in v n ≡ true) (sym e) t) (λ j lt o. (let d : j ≡ 0 + j = omega arith in subst (λ n. is_forced_in v n ≡ false) d (u.each j (omega arith) lt o)))
    ∙ ap (λ n. Some n) e

pub none_forced_is : (v : View) → ((c : ℕ) → AreUnforced v 0 c) → first_forced v ≡ None
none_forced_is v u = none_found (is_forced_in v) v.sides 0 (λ j o. (let d : j ≡ 0 + j = omega arith in subst (λ n. is_forced_in v n ≡ false) d ((u (j + 1)).each j (omega arith) (omega arith) o)))
