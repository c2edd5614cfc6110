-- The nodes of which it is stated when they ended, and the arcs from them.
use Rattle.known_graph.proofs.Prelude.{◌≡◌, ◌≢◌, ◌⊎◌, ◌↔◌, ℕ, suc, ◌+◌, ◌<◌, ◌≤◌, Bool, true, false, not, eqb, ◌&&◌, ◌||◌, List, [], ◌∷◌, ◌++◌, length, get_or, take, Option, Some, None, refl, sym, ap, ◌∙◌, subst, inl, inr, arith, nat_lt}
use Rattle.known_graph.proofs.Prelude.{eq-eqb, ne_eqb, eqb-true, Contains, list_any, or-false, cases_lt, cases_eq, or_cases, and_parts, eqb-false, not-true, or_left, or_right, and_from, get_or-take, length-take-le, Contains-append_left}
use Rattle.known_graph.proofs.Prelude.{Contains-push, Contains-push_cases, list_any_more, list_any_at, Contains-permutation, IsPermutation-sym, Log, precedes, Edge, begun_of, ended_of, log_of}
use Rattle.std.specs.List.Sorted.{IsPermutation, IsPartitionPoint, IsNonDecreasingBy}
use Rattle.session_log.specs.Moments.{is_earlier}
use Rattle.session_log.specs.Text.{ClientSession}
use Rattle.known_graph.specs.declared.moments.Ended.{Ended}
use Rattle.known_graph.specs.Moments.{AreEnded}
use Rattle.known_graph.proofs.Edges.{pair_same}

-- ---- those below a node
abbrev pub AreEndedBelow : List ClientSession → ℕ → List Ended → Type 0
AreEndedBelow ss n ended = (e : Ended) → (Contains ended e ↔ ((0 < e.node) × (e.node < n) × (ended_of ss e.node ≡ Some e.moment)))

pub none_ended : (ss : List ClientSession) (ended : List Ended) → ended ≡ [] → AreEndedBelow ss 1 ended
none_ended ss ended empty e = (
  λ c. absurd (let i = c.1 in let none = ap length empty in omega (arith, i, none)),
  λ h. absurd (omega (arith, h.0, h.1)),
)

pub ended_none : (ss : List ClientSession) (n : ℕ) (ended : List Ended) → ended_of ss n ≡ None → AreEndedBelow ss n ended → AreEndedBelow ss (n + 1) ended
ended_none ss n ended none below e = (
  λ c. let h = (below e).0 c in (h.0, omega (arith, h.1), h.2),
  λ h. elim (cases_lt e.node n) [
    | inl lt ↦ (below e).1 (h.0, lt, h.2)
    | inr ge ↦
        let here : e.node ≡ n = omega (arith, ge, h.1) in
        let stated : ended_of ss n ≡ Some e.moment = subst (λ u. ended_of ss u ≡ Some e.moment) here h.2 in
        absurd (cc (none, stated))
  ],
)

pub ended_more : (ss : List ClientSession) (n : ℕ) (entry : Ended) (old new : List Ended) → 0 < n → entry.node ≡ n → ended_of ss n ≡ Some entry.moment → new ≡ old ++ entry ∷ [] → AreEndedBelow ss n old → AreEndedBelow ss (n + 1) new
ended_more ss n entry old new lo node stated is below e = (
  λ c. elim (Contains-push_cases old entry e (subst (λ l. Contains l e) is c)) [
    | inl k ↦ let h = (below e).0 k in (h.0, omega (arith, h.1), h.2)
    | inr same ↦
        let there : e.node ≡ n = ap (λ (x : Ended). x.node) (sym same) ∙ node in
        (omega (arith, there, lo), omega (arith, there), ap (ended_of ss) there ∙ stated ∙ ap (λ (x : Ended). Some x.moment) same)
  ],
  λ h. subst (λ l. Contains l e) (sym is) (elim (cases_lt e.node n) [
    | inl lt ↦ Contains-append_left old (entry ∷ []) e ((below e).1 (h.0, lt, h.2))
    | inr ge ↦
        let here : e.node ≡ n = omega (arith, ge, h.1) in
        let moment : e.moment ≡ entry.moment = (let k : Some e.moment ≡ Some entry.moment = sym h.2 ∙ ap (ended_of ss) here ∙ stated in cc) in
        subst (Contains (old ++ entry ∷ [])) (entry_is entry e (node ∙ sym here) (sym moment)) (Contains-push old entry)
  ]),
)
  where
    entry_is : (a b : Ended) → a.node ≡ b.node → a.moment ≡ b.moment → a ≡ b
    entry_is a b n m = ap (λ k. (let x : Ended = record { moment = a.moment; node = k } in x)) n ∙ ap (λ k. (let x : Ended = record { moment = k; node = b.node } in x)) m

pub ended_all : (ss : List ClientSession) (n nodes : ℕ) (found sorted : List Ended) → n ≡ nodes + 1 → nodes ≡ (log_of ss).nodes → AreEndedBelow ss n found → IsPermutation found sorted → IsNonDecreasingBy (λ (e : Ended). e.moment) sorted → AreEnded ss sorted
ended_all ss n nodes found sorted end count below moved rises = record {
  each = λ e. (
    λ c. let h = (below e).0 (Contains-permutation sorted found e (IsPermutation-sym found sorted moved) c) in (h.0, omega (arith, h.1, end, count), h.2),
    λ h. Contains-permutation found sorted e moved ((below e).1 (h.0, omega (arith, h.1, end, count), h.2)),
  );
  sorted = rises;
}

pub none_of : (o : Option ℕ) → ((x : ℕ) → o ≡ Some x → ⊥) → o ≡ None
none_of None h = refl
none_of (Some x) h = absurd (h x refl)

pub apart_where : (a b : ℕ) → not (eqb a b) ≡ true → a ≢ b
apart_where a b h = eqb-false a b (not-true (eqb a b) h)

pub same_where : (a b : ℕ) → not (eqb a b) ≡ false → a ≡ b
same_where a b h = elim (cases_eq a b) [ inl e ↦ e | inr other ↦ absurd (let apart = ap not (ne_eqb a b other) in cc (h, apart)) ]

-- ---- the arcs from those that ended before a moment
abbrev pub is_end : ℕ → List Ended → ℕ → Bool
is_end v ended u = list_any (λ t. not (eqb t.node v) && eqb t.node u) ended

abbrev pub EndsAdded : ℕ → List Ended → List Edge → List Edge → Type 0
EndsAdded v ended old new = (e : Edge) → (Contains new e ↔ (Contains old e ⊎ ((e.1 ≡ v) × (is_end v ended e.0 ≡ true))))

pub no_ends : (v : ℕ) (old : List Edge) → EndsAdded v [] old old
no_ends v old e = (
  λ c. inl c,
  λ d. elim d [ inl k ↦ k | inr k ↦ absurd (let none = k.1 in cc) ],
)

pub end_within : (ss : List ClientSession) (ended : List Ended) (count i : ℕ) (entry : Ended) → AreEnded ss ended → count ≤ length ended → i < length (take count ended) → entry ≡ get_or (take count ended) i entry → entry.node ≤ (log_of ss).nodes
end_within ss ended count i entry h few lt is =
    let len = length-take-le count ended few in
    let below : i < count = omega (arith, len, lt) in
    ((h.each entry).0 (i, omega (arith, below, few), sym (get_or-take count ended i entry below) ∙ sym is)).1

pub no_end_added : (v : ℕ) (ended : List Ended) (i : ℕ) (entry : Ended) (old now : List Edge) → i < length ended → entry ≡ get_or ended i entry → entry.node ≡ v → EndsAdded v (take i ended) old now → EndsAdded v (take (i + 1) ended) old now
no_end_added v ended i entry old now lt is own before e =
    let test : Ended → Bool = λ t. not (eqb t.node v) && eqb t.node e.0 in
    let same : is_end v (take (i + 1) ended) e.0 ≡ is_end v (take i ended) e.0 =
    list_any_more test ended i entry lt ∙ ap (λ t. is_end v (take i ended) e.0 || test t) (sym is)
    ∙ ap (λ b. is_end v (take i ended) e.0 || (not b && eqb entry.node e.0)) (eq-eqb entry.node v own) ∙ or-false (is_end v (take i ended) e.0) in (
      λ c. elim ((before e).0 c) [ inl k ↦ inl k | inr k ↦ inr (k.0, same ∙ k.1) ],
      λ d. elim d [ inl k ↦ (before e).1 (inl k) | inr k ↦ (before e).1 (inr (k.0, sym same ∙ k.1)) ],
    )

pub end_added : (v : ℕ) (ended : List Ended) (i : ℕ) (entry : Ended) (old now new : List Edge) → i < length ended → entry ≡ get_or ended i entry → entry.node ≢ v → ((e : Edge) → (Contains new e ↔ (Contains now e ⊎ (e ≡ (entry.node, v))))) → EndsAdded v (take i ended) old now → EndsAdded v (take (i + 1) ended) old new
end_added v ended i entry old now new lt is other added before e =
    let test : Ended → Bool = λ t. not (eqb t.node v) && eqb t.node e.0 in
    let more : is_end v (take (i + 1) ended) e.0 ≡ (is_end v (take i ended) e.0 || eqb entry.node e.0) =
    list_any_more test ended i entry lt ∙ ap (λ t. is_end v (take i ended) e.0 || test t) (sym is)
    ∙ ap (λ b. is_end v (take i ended) e.0 || (not b && eqb entry.node e.0)) (ne_eqb entry.node v other) in (
      λ c. elim ((added e).0 c) [
        | inl h ↦ elim ((before e).0 h) [
          | inl k ↦ inl k
          | inr k ↦ inr (k.0, more ∙ or_left (is_end v (take i ended) e.0) (eqb entry.node e.0) k.1)
        ]
        | inr h ↦ inr (ap (λ (x : Edge). x.1) h, more ∙ or_right (is_end v (take i ended) e.0) (eqb entry.node e.0) (eq-eqb entry.node e.0 (sym (ap (λ (x : Edge). x.0) h))))
      ],
      λ d. elim d [
        | inl k ↦ (added e).1 (inl ((before e).1 (inl k)))
        | inr k ↦ elim (or_cases (is_end v (take i ended) e.0) (eqb entry.node e.0) (sym more ∙ k.1)) [
          | inl t ↦ (added e).1 (inl ((before e).1 (inr (k.0, t))))
          | inr t ↦ (added e).1 (inr (pair_same e entry.node v (sym (eqb-true entry.node e.0 t)) k.0))
        ]
      ],
    )

-- ---- and these are the arcs of the log
abbrev pub IsSplit : List Ended → ℕ → ℕ → Type 0
IsSplit ended begun count = IsPartitionPoint (λ (t : Ended). nat_lt t.moment begun ≡ true) (λ (t : Ended). nat_lt t.moment begun ≡ false) ended count

pub any_at : {X : Type 0} (p : X → Bool) (xs : List X) → list_any p xs ≡ true → (x : X) × (Contains xs x) × (p x ≡ true)
any_at p [] h = absurd (cc h)
any_at p (x ∷ xs) h = elim (or_cases (p x) (list_any p xs) h) [
  | inl t ↦ (x, (0, omega arith, refl), t)
  | inr t ↦ let r = any_at p xs t in (r.0, (suc r.1.0, omega (arith, r.1.1), r.1.2), r.2)
]

ends_are : (ss : List ClientSession) (ended : List Ended) (v begun count u : ℕ) → AreEnded ss ended → begun_of ss v ≡ Some begun → count ≤ length ended → IsSplit ended begun count → is_end v (take count ended) u ≡ true → (0 < u) × (u ≤ (log_of ss).nodes) × (precedes (log_of ss) u v ≡ true)
unfolding log_of
ends_are ss ended v begun count u h began few split t =
    let at = any_at (λ (x : Ended). not (eqb x.node v) && eqb x.node u) (take count ended) t in
    let x = at.0 in
    let parts = and_parts (not (eqb x.node v)) (eqb x.node u) at.2 in
    let node : x.node ≡ u = eqb-true x.node u parts.1 in
    let k = at.1.0 in
    let lt : k < count = (let len = length-take-le count ended few in omega (arith, len, at.1.1)) in
    let there : get_or ended k x ≡ x = sym (get_or-take count ended k x lt) ∙ at.1.2 in
    let facts = (h.each x).0 (k, omega (arith, lt, few), there) in
    let early : nat_lt x.moment begun ≡ true = ap (λ (y : Ended). nat_lt y.moment begun) (sym there) ∙ split.0 k x (omega arith) lt in
    let ordered : is_earlier (ended_of ss u) (begun_of ss v) ≡ true = ap (λ o. is_earlier o (begun_of ss v)) (ap (ended_of ss) (sym node) ∙ facts.2) ∙ (ap (is_earlier (Some x.moment)) began ∙ early) in
    (omega (arith, facts.0, node), omega (arith, facts.1, node), and_from (not (eqb u v)) (is_earlier (ended_of ss u) (begun_of ss v)) (ap (λ w. not (eqb w v)) (sym node) ∙ parts.0) ordered)

stated : (o b : Option ℕ) → is_earlier o b ≡ true → (m : ℕ) × (o ≡ Some m)
stated None b h = absurd (cc h)
stated (Some m) b h = (m, refl)

are_ends : (ss : List ClientSession) (ended : List Ended) (v begun count u : ℕ) → AreEnded ss ended → begun_of ss v ≡ Some begun → count ≤ length ended → IsSplit ended begun count → 0 < u → u ≤ (log_of ss).nodes → precedes (log_of ss) u v ≡ true → is_end v (take count ended) u ≡ true
unfolding log_of
are_ends ss ended v begun count u h began few split lo hi t =
    let parts = and_parts (not (eqb u v)) (is_earlier (ended_of ss u) (begun_of ss v)) t in
    let m = stated (ended_of ss u) (begun_of ss v) parts.1 in
    let x : Ended = record { moment = m.0; node = u } in
    let at = (h.each x).1 (lo, hi, m.1) in
    let k = at.0 in
    let early : nat_lt m.0 begun ≡ true = sym (ap (λ o. is_earlier o (begun_of ss v)) m.1 ∙ ap (is_earlier (Some m.0)) began) ∙ parts.1 in
    let lt : k < count = elim (cases_lt k count) [
      | inl lt ↦ lt
      | inr ge ↦ absurd (let late : nat_lt m.0 begun ≡ false = ap (λ (y : Ended). nat_lt y.moment begun) (sym at.2) ∙ split.1 k x ge at.1 in cc (early, late))
    ] in
    let len = length-take-le count ended few in
    let there : get_or (take count ended) k x ≡ x = get_or-take count ended k x lt ∙ at.2 in
    list_any_at (λ (y : Ended). not (eqb y.node v) && eqb y.node u) (take count ended) k x (omega (arith, len, lt))
    (ap (λ (y : Ended). not (eqb y.node v) && eqb y.node u) there ∙ and_from (not (eqb u v)) (eqb u u) parts.0 (eq-eqb u u refl))

abbrev pub MomentsAdded : Log → ℕ → List Edge → List Edge → Type 0
MomentsAdded log v old new = (e : Edge) → (Contains new e ↔ (Contains old e ⊎ ((e.1 ≡ v) × (0 < e.0) × (e.0 ≤ log.nodes) × (precedes log e.0 v ≡ true))))

pub ends_added : (ss : List ClientSession) (ended : List Ended) (v begun count : ℕ) (old new : List Edge) → AreEnded ss ended → begun_of ss v ≡ Some begun → count ≤ length ended → IsSplit ended begun count → EndsAdded v (take count ended) old new → MomentsAdded (log_of ss) v old new
ends_added ss ended v begun count old new h began few split added e = (
  λ c. elim ((added e).0 c) [
    | inl k ↦ inl k
    | inr k ↦ let a = ends_are ss ended v begun count e.0 h began few split k.1 in inr (k.0, a.0, a.1, a.2)
  ],
  λ d. elim d [
    | inl k ↦ (added e).1 (inl k)
    | inr k ↦ (added e).1 (inr (k.0, are_ends ss ended v begun count e.0 h began few split k.1 k.2 k.3))
  ],
)

-- without a stated moment nothing precedes it
not_earlier : (o b : Option ℕ) → b ≡ None → is_earlier o b ≡ false
not_earlier None b e = refl
not_earlier (Some m) b e = ap (is_earlier (Some m)) e

pub none_added : (ss : List ClientSession) (v : ℕ) (old : List Edge) → begun_of ss v ≡ None → MomentsAdded (log_of ss) v old old
unfolding log_of
none_added ss v old none e = (
  λ c. inl c,
  λ d. elim d [
    | inl k ↦ k
    | inr k ↦ absurd (let parts = and_parts (not (eqb e.0 v)) (is_earlier (ended_of ss e.0) (begun_of ss v)) k.3 in cc (not_earlier (ended_of ss e.0) (begun_of ss v) none, parts.1))
  ],
)
