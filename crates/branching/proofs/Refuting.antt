-- Which node reaches which, as a test; refuted sides, and the first choice that has one.
use Rattle.branching.proofs.Prelude.{◌≡◌, ◌⊎◌, ◌↔◌, ℕ, zero, suc, ◌+◌, ◌<◌, Bool, true, false, ◌&&◌, ◌||◌, cond, List, [], ◌∷◌, length, get_or, Option, Some, None, refl, sym, ap, ◌∙◌, subst, inl, inr, arith, slice_get, MatchOption, is_some}
use Rattle.branching.proofs.Prelude.{option_or, Contains, filter, list_any, cases_Bool, cases_lt, false≢true, and_parts, and_from, or_cases, or_left, or_right, cond-true, cond-false, same_Some, same_bool, Edge, Choice, Has, Walk, Reaches}
use Rattle.branching.proofs.Prelude.{Contains-here, Contains-further, reach_joined, Side, One, Two, edges_of, IsRefuted, In, In-from_Contains, edge_in, has_contained, side_of, Refutes, side_is, View, is_open_in, edges_in, open_from}
use Rattle.branching.proofs.Prelude.{open_choices, most_edges, IsView, reaches_below, reaches_in, is_refuted_in, is_forced_in, first_forced, forced_or_most, side_left, forced_is_open}
use Rattle.branching.specs.Forced.{IsRefutedSide, IsForcedChoice, HasForced, HasForcedOrMost}
use Rattle.branching.proofs.Meant.{listed_in, open_above, most_has_most}
use Rattle.branching.proofs.Views.{view_joined, choice_read}

-- ---- walks by nodes below a bound
abbrev Below : List Edge → ℕ → ℕ → ℕ → Type 0
Below edges k u w = reaches_below edges k u w ≡ true

once : (edges : List Edge) (k u w : ℕ) → Below edges (suc k) u w → Below edges k u w ⊎ (Below edges k u k × Below edges k k w)
unfolding reaches_below
once edges k u w t = elim (or_cases (reaches_below edges k u w) (reaches_below edges k u k && reaches_below edges k k w) t) [
  | inl a ↦ inl a
  | inr b ↦ inr (and_parts (reaches_below edges k u k) (reaches_below edges k k w) b)
]

as_before : (edges : List Edge) (k u w : ℕ) → Below edges k u w → Below edges (suc k) u w
unfolding reaches_below
as_before edges k u w t = or_left (reaches_below edges k u w) (reaches_below edges k u k && reaches_below edges k k w) t

by_way_of : (edges : List Edge) (k u w : ℕ) → Below edges k u k → Below edges k k w → Below edges (suc k) u w
unfolding reaches_below
by_way_of edges k u w a b = or_right (reaches_below edges k u w) (reaches_below edges k u k && reaches_below edges k k w) (and_from (reaches_below edges k u k) (reaches_below edges k k w) a b)

below_reaches : (edges : List Edge) (k u w : ℕ) → Below edges k u w → Reaches edges u w
unfolding reaches_below
below_reaches edges zero u w t = ([], edge_in edges (u, w) t)
below_reaches edges (suc k) u w t = elim (once edges k u w t) [
  | inl a ↦ below_reaches edges k u w a
  | inr b ↦ reach_joined edges u k w (below_reaches edges k u k b.0) (below_reaches edges k k w b.1)
]

edge_below : (edges : List Edge) (k u w : ℕ) → Contains edges (u, w) → Below edges k u w
unfolding reaches_below
edge_below edges zero u w c = has_contained edges (u, w) c
edge_below edges (suc k) u w c = as_before edges k u w (edge_below edges k u w c)

-- to node k and on, where each half may pass it
to_bound : (edges : List Edge) (k u : ℕ) → Below edges (suc k) u k → Below edges k u k
to_bound edges k u t = elim (once edges k u k t) [ inl a ↦ a | inr b ↦ b.0 ]

from_bound : (edges : List Edge) (k w : ℕ) → Below edges (suc k) k w → Below edges k k w
from_bound edges k w t = elim (once edges k k w t) [ inl a ↦ a | inr b ↦ b.1 ]

same_or_less : (x k : ℕ) → x < suc k → (x ≡ k) ⊎ (x < k)
same_or_less x k lt = elim (cases_lt x k) [ inl l ↦ inr l | inr ge ↦ (let e : x ≡ k = omega (arith, lt, ge) in inl e) ]

pub below_joined : (edges : List Edge) (k u x w : ℕ) → x < k → Below edges k u x → Below edges k x w → Below edges k u w
below_joined edges zero u x w lt a b = absurd (omega (arith, lt))
below_joined edges (suc k) u x w lt a b = elim (same_or_less x k lt) [
  | inl same ↦ by_way_of edges k u w (to_bound edges k u (subst (Below edges (suc k) u) same a)) (from_bound edges k w (subst (λ y. Below edges (suc k) y w) same b))
  | inr less ↦ elim (once edges k u x a) [
    | inl p ↦ elim (once edges k x w b) [
      | inl q ↦ as_before edges k u w (below_joined edges k u x w less p q)
      | inr q ↦ by_way_of edges k u w (below_joined edges k u x k less p q.0) q.1
    ]
    | inr p ↦ elim (once edges k x w b) [
      | inl q ↦ by_way_of edges k u w p.0 (below_joined edges k k x w less p.1 q)
      | inr q ↦ by_way_of edges k u w p.0 q.1
    ]
  ]
]

walk_below : (edges : List Edge) (n : ℕ) → ((e : Edge) → Contains edges e → e.1 < n) → (ws : List ℕ) (u w : ℕ) → Walk edges u ws w → Below edges n u w
walk_below edges n all [] u w c = edge_below edges n u w c
walk_below edges n all (x ∷ ws) u w c = below_joined edges n u x w (all (u, x) c.0) (edge_below edges n u x c.0) (walk_below edges n all ws x w c.1)

-- ---- in a view
pub reaches_of : (v : View) (u w : ℕ) → reaches_in v u w ≡ true → Reaches (edges_in v) u w
unfolding reaches_in
reaches_of v u w t = below_reaches (edges_in v) (v.polygraph.nodes + 1) u w t

pub reaches_from : (v : View) (u w : ℕ) → IsView v → Reaches (edges_in v) u w → reaches_in v u w ≡ true
unfolding reaches_in
reaches_from v u w is r = walk_below (edges_in v) (v.polygraph.nodes + 1) (λ e c. (let j = view_joined v e is c in let t = j.1 in omega (arith, t))) r.0 u w r.1

any_refuted : (v : View) (side : List Edge) → list_any (λ e. reaches_in v e.1 e.0) side ≡ true → IsRefuted (edges_in v) side
any_refuted v [] t = absurd (false≢true t)
any_refuted v (x ∷ xs) t = elim (or_cases (reaches_in v x.1 x.0) (list_any (λ e. reaches_in v e.1 e.0) xs) t) [
  | inl a ↦ (x.0, (x.1, (Contains-here x xs, reaches_of v x.1 x.0 a)))
  | inr b ↦ (let r = any_refuted v xs b in (r.0, (r.1.0, (Contains-further x (r.0, r.1.0) xs r.1.1.0, r.1.1.1))))
]

refuted_any : (v : View) (side : List Edge) (e : Edge) → In e side → reaches_in v e.1 e.0 ≡ true → list_any (λ x. reaches_in v x.1 x.0) side ≡ true
refuted_any v [] e i t = absurd i
refuted_any v (x ∷ xs) e (inl same) t = or_left (reaches_in v x.1 x.0) (list_any (λ y. reaches_in v y.1 y.0) xs) (ap (λ (y : Edge). reaches_in v y.1 y.0) same ∙ t)
refuted_any v (x ∷ xs) e (inr i) t = or_right (reaches_in v x.1 x.0) (list_any (λ y. reaches_in v y.1 y.0) xs) (refuted_any v xs e i t)

pub refuted_of : (v : View) (c : ℕ) (side : Side) → is_refuted_in v c side ≡ true → IsRefutedSide v c side
unfolding is_refuted_in
refuted_of v c side t = any_refuted v (side_of v.polygraph.choices c side) t

pub refuted_from : (v : View) (c : ℕ) (side : Side) → IsView v → IsRefutedSide v c side → is_refuted_in v c side ≡ true
unfolding is_refuted_in
refuted_from v c side is r =
    let xs = side_of v.polygraph.choices c side in
    refuted_any v xs (r.0, r.1.0) (In-from_Contains xs (r.0, r.1.0) r.1.1.0) (reaches_from v r.1.0 r.0 is r.1.1.1)

pub forced_of : (v : View) (c : ℕ) → is_forced_in v c ≡ true → IsForcedChoice v c
unfolding is_forced_in
forced_of v c t = elim (or_cases (is_refuted_in v c One) (is_refuted_in v c Two) t) [ inl a ↦ (One, refuted_of v c One a) | inr b ↦ (Two, refuted_of v c Two b) ]

pub forced_by : (v : View) (c : ℕ) (side : Side) → is_refuted_in v c side ≡ true → is_forced_in v c ≡ true
unfolding is_forced_in
forced_by v c One t = or_left (is_refuted_in v c One) (is_refuted_in v c Two) t
forced_by v c Two t = or_right (is_refuted_in v c One) (is_refuted_in v c Two) t

pub not_forced : (v : View) (c : ℕ) → IsView v → is_forced_in v c ≡ false → IsForcedChoice v c → ⊥
not_forced v c is f h = false≢true (sym f ∙ forced_by v c h.0 (refuted_from v c h.0 is h.1))

-- ---- what judging says
pub judged_is : (v : View) (c : ℕ) (side : Side) (h : Choice) (o : Option Edge) → IsView v → slice_get v.polygraph.choices c ≡ Some h
    → MatchOption o (IsRefuted (edges_in v) (edges_of h side) → ⊥) (Refutes (edges_in v) (edges_of h side)) → is_some o ≡ is_refuted_in v c side
judged_is v c side h None is at m =
    same_bool false (is_refuted_in v c side) (λ t. absurd (false≢true t)) (λ t. absurd (m (subst (IsRefuted (edges_in v)) (side_is v.polygraph.choices c h side at) (refuted_of v c side t))))
judged_is v c side h (Some e) is at m =
    sym (refuted_from v c side is (subst (IsRefuted (edges_in v)) (sym (side_is v.polygraph.choices c h side at)) (e.0, (e.1, (m.within, m.back)))))

pub forced_otherwise : (v : View) (c : ℕ) → is_refuted_in v c One ≡ false → is_refuted_in v c Two ≡ is_forced_in v c
unfolding is_forced_in
forced_otherwise v c f = sym (ap (λ x. x || is_refuted_in v c Two) f)

-- ---- the first of a list that passes a test
pub first_passes : (p : ℕ → Bool) (c : ℕ) (cs rest : List ℕ) → cs ≡ c ∷ rest → p c ≡ true → slice_get (filter p cs) 0 ≡ Some c
first_passes p c cs rest e t = ap (λ l. slice_get (filter p l) 0) e ∙ ap (λ l. slice_get l 0) (cond-true {A = List ℕ} (p c) (c ∷ filter p rest) (filter p rest) t)

pub first_fails : (p : ℕ → Bool) (c : ℕ) (cs rest : List ℕ) → cs ≡ c ∷ rest → p c ≡ false → slice_get (filter p cs) 0 ≡ slice_get (filter p rest) 0
first_fails p c cs rest e f = ap (λ l. slice_get (filter p l) 0) e ∙ ap (λ l. slice_get l 0) (cond-false {A = List ℕ} (p c) (c ∷ filter p rest) (filter p rest) f)

record IsFirst (p : ℕ → Bool) (cs : List ℕ) (c : ℕ) : Type 0 where
  passes : p c ≡ true
  least : (d : ℕ) → Has d cs → d < c → p d ≡ false

first_is : (p : ℕ → Bool) (sides : List (Option Side)) (k c : ℕ) → slice_get (filter p (open_from k sides)) 0 ≡ Some c → IsFirst p (open_from k sides) c
first_is p [] k c e = absurd (cc)
first_is p (Some s ∷ xs) k c e = first_is p xs (k + 1) c e
first_is p (None ∷ xs) k c e = elim (cases_Bool (p k)) [
  | inl t ↦
      (let same : k ≡ c = same_Some k c (sym (first_passes p k (k ∷ open_from (k + 1) xs) (open_from (k + 1) xs) refl t) ∙ e) in
      record {
        passes = subst (λ n. p n ≡ true) same t;
        least = λ d h lt. elim h [ inl i ↦ absurd (omega (arith, i, same, lt)) | inr r ↦ (let a = open_above xs (k + 1) d r in absurd (omega (arith, a, same, lt))) ];
      })
  | inr f ↦
      (let r = first_is p xs (k + 1) c (sym (first_fails p k (k ∷ open_from (k + 1) xs) (open_from (k + 1) xs) refl f) ∙ e) in
      record {
        passes = r.passes;
        least = λ d h lt. elim h [ inl i ↦ subst (λ n. p n ≡ false) i f | inr m ↦ r.least d m lt ];
      })
]

none_is : (p : ℕ → Bool) (cs : List ℕ) → slice_get (filter p cs) 0 ≡ None → (d : ℕ) → Has d cs → p d ≡ false
none_is p [] e d h = absurd h
none_is p (x ∷ xs) e d h = elim (cases_Bool (p x)) [
  | inl t ↦ absurd (let n : Some x ≡ None = sym (first_passes p x (x ∷ xs) xs refl t) ∙ e in cc)
  | inr f ↦ elim h [ inl i ↦ subst (λ n. p n ≡ false) i f | inr m ↦ none_is p xs (sym (first_fails p x (x ∷ xs) xs refl f) ∙ e) d m ]
]

-- ---- what the pick means
forced_first : (v : View) (c : ℕ) → IsView v → is_open_in v c ≡ true → first_forced v ≡ Some c → HasForced v c
forced_first v c is t e =
    let r = first_is (is_forced_in v) v.sides 0 c e in
    record { free = t; forced = forced_of v c r.passes; first = λ d o lt. not_forced v d is (r.least d (listed_in v d o) lt) }

pick_means : (v : View) (c : ℕ) (o : Option ℕ) → IsView v → is_open_in v c ≡ true → first_forced v ≡ o → option_or o (most_edges v) ≡ Some c → HasForcedOrMost v c
pick_means v c None is t e p = inr (record { none = λ d o. not_forced v d is (none_is (is_forced_in v) (open_choices v) e d (listed_in v d o)); most = most_has_most v c p })
pick_means v c (Some d) is t e p = inl (forced_first v c is t (e ∙ p))

pub forced_means : (v : View) (c : ℕ) → IsView v → forced_or_most v ≡ Some c → HasForcedOrMost v c
forced_means v c is e = pick_means v c (first_forced v) is (forced_is_open v c e) refl e

left_two : (b : Bool) → (let side : Side = cond b Two One in side) ≡ Two → b ≡ true
left_two true e = refl
left_two false e = absurd (cc)

pub left_means : (v : View) (c : ℕ) → IsView v → (side_left v c ≡ Two ↔ IsRefutedSide v c One)
left_means v c is = ((λ e. refuted_of v c One (left_two (is_refuted_in v c One) e)), (λ r. cond-true {A = Side} (is_refuted_in v c One) Two One (refuted_from v c One is r)))

-- judged by the rows that a view keeps up
pub verdict_is : (k v : View) (number c : ℕ) (side : Side) (hs : List Choice) (h : Choice) (o : Option Edge) → k ≡ v → IsView k → hs ≡ k.polygraph.choices → number ≡ c → c < length v.sides → h ≡ get_or hs number h
    → MatchOption o (IsRefuted (edges_in k) (edges_of h side) → ⊥) (Refutes (edges_in k) (edges_of h side)) → is_some o ≡ is_refuted_in v c side
verdict_is k v number c side hs h o same is e i lt at m =
    let n = ap (λ (w : View). length w.sides) same in
    let sided = is.sided in
    let within : c < length k.polygraph.choices = omega (arith, lt, n, sided) in
    judged_is k c side h o is (choice_read hs k.polygraph.choices number c h e i within at) m ∙ ap (λ (w : View). is_refuted_in w c side) same
