-- Some nodes of a list are kept: an order of all of them becomes an order of the kept ones, by their own numbers.
use Rattle.log_definitions.proofs.Prelude.{◌≡◌, ◌≢◌, ℕ, zero, suc, ◌<◌, ◌≤◌, Bool, true, false, List, [], ◌∷◌, ◌++◌, length, get_or, Option, refl, sym, ap, ◌∙◌, subst, inl, inr, arith, map, slice_get, option_and_then, filter, flat_map}
use Rattle.log_definitions.proofs.Prelude.{option_map_or, cases_Bool, cases_eq, cases_order, false≢true, is_earlier, Op, place_of, Before, ListsOnce, Has, Apart, Has-from_Contains, Contains-from_Has, Apart-from_IsDistinct, place_of-here}
use Rattle.log_definitions.proofs.Prelude.{place_of-further, Committed, node_in, initial, Replays}
use Rattle.serializability.proofs.Listed.{Has_get, IsDistinct-from_Apart}
use Rattle.serializability.proofs.Serial.{behind_zero}

-- ---- orders of a list of nodes
abbrev pub session_at : List Committed → ℕ → ℕ
session_at nodes v = option_map_or (λ node. node.session) (node_in nodes v) 0

abbrev pub ops_at : List Committed → ℕ → List Op
ops_at nodes v = option_map_or (λ node. node.ops) (node_in nodes v) []

abbrev pub begun_at : List Committed → ℕ → Option ℕ
begun_at nodes v = option_and_then (λ node. node.begun) (node_in nodes v)

abbrev pub ended_at : List Committed → ℕ → Option ℕ
ended_at nodes v = option_and_then (λ node. node.ended) (node_in nodes v)

pub record Orders (nodes : List Committed) (order : List ℕ) : Type 0 where
  pub once : ListsOnce (length nodes) order
  pub sessions : (a b : ℕ) → 0 < a → a < b → b ≤ length nodes → session_at nodes a ≡ session_at nodes b → Before order a b
  pub moments : (a b : ℕ) → 0 < a → a ≤ length nodes → 0 < b → b ≤ length nodes → a ≢ b → is_earlier (ended_at nodes a) (begun_at nodes b) ≡ true → Before order a b
  pub reads : Replays initial (flat_map (ops_at nodes) order)

-- ---- nodes, each with the mark whether it is kept
abbrev pub Marked : Type 0
Marked = Bool × Committed

abbrev pub all_nodes : List Marked → List Committed
all_nodes [] = []
all_nodes ((kept, node) ∷ ms) = node ∷ all_nodes ms

abbrev pub kept_nodes : List Marked → List Committed
kept_nodes [] = []
kept_nodes ((true, node) ∷ ms) = node ∷ kept_nodes ms
kept_nodes ((false, node) ∷ ms) = kept_nodes ms

abbrev pub is_kept : List Marked → ℕ → Bool
is_kept [] i = false
is_kept ((kept, node) ∷ ms) zero = kept
is_kept ((kept, node) ∷ ms) (suc i) = is_kept ms i

-- so many are kept before this place
abbrev rank : List Marked → ℕ → ℕ
rank [] i = 0
rank (m ∷ ms) zero = 0
rank ((true, node) ∷ ms) (suc i) = suc (rank ms i)
rank ((false, node) ∷ ms) (suc i) = rank ms i

rank_below : (ms : List Marked) (i : ℕ) → is_kept ms i ≡ true → rank ms i < length (kept_nodes ms)
rank_below [] i k = absurd (false≢true k)
rank_below ((true, node) ∷ ms) zero k = omega arith
rank_below ((true, node) ∷ ms) (suc i) k = omega (arith, rank_below ms i k)
rank_below ((false, node) ∷ ms) zero k = absurd (false≢true k)
rank_below ((false, node) ∷ ms) (suc i) k = rank_below ms i k

rank_grows : (ms : List Marked) (i j : ℕ) → is_kept ms i ≡ true → i < j → rank ms i < rank ms j
rank_grows [] i j k lt = absurd (false≢true k)
rank_grows (m ∷ ms) i zero k lt = absurd (omega arith)
rank_grows ((true, node) ∷ ms) zero (suc j) k lt = omega arith
rank_grows ((true, node) ∷ ms) (suc i) (suc j) k lt = omega (arith, rank_grows ms i j k (omega arith))
rank_grows ((false, node) ∷ ms) zero (suc j) k lt = absurd (false≢true k)
rank_grows ((false, node) ∷ ms) (suc i) (suc j) k lt = rank_grows ms i j k (omega arith)

kept_at : (ms : List Marked) (i : ℕ) → is_kept ms i ≡ true → slice_get (kept_nodes ms) (rank ms i) ≡ slice_get (all_nodes ms) i
kept_at [] i k = absurd (false≢true k)
kept_at ((true, node) ∷ ms) zero k = refl
kept_at ((true, node) ∷ ms) (suc i) k = kept_at ms i k
kept_at ((false, node) ∷ ms) zero k = absurd (false≢true k)
kept_at ((false, node) ∷ ms) (suc i) k = kept_at ms i k

-- the place of a kept node among all
record Place (ms : List Marked) (j : ℕ) : Type 0 where
  pub place : ℕ
  pub within : place < length (all_nodes ms)
  pub kept : is_kept ms place ≡ true
  pub ranked : rank ms place ≡ j

place : (ms : List Marked) (j : ℕ) → j < length (kept_nodes ms) → Place ms j
place [] j lt = absurd (omega arith)
place ((true, node) ∷ ms) zero lt = record { place = 0; within = omega arith; kept = refl; ranked = refl }
place ((true, node) ∷ ms) (suc j) lt =
    let p = place ms j (omega arith) in
    record { place = suc p.place; within = omega (arith, p.within); kept = p.kept; ranked = ap suc p.ranked }
place ((false, node) ∷ ms) j lt =
    let p = place ms j lt in
    record { place = suc p.place; within = omega (arith, p.within); kept = p.kept; ranked = p.ranked }

-- ---- the same by numbers from 1
abbrev pub keeps : List Marked → ℕ → Bool
keeps ms zero = false
keeps ms (suc i) = is_kept ms i

abbrev number : List Marked → ℕ → ℕ
number ms zero = 0
number ms (suc i) = suc (rank ms i)

number_grows : (ms : List Marked) (u v : ℕ) → keeps ms u ≡ true → u < v → number ms u < number ms v
number_grows ms zero v k lt = absurd (false≢true k)
number_grows ms (suc i) zero k lt = absurd (omega arith)
number_grows ms (suc i) (suc j) k lt = omega (arith, rank_grows ms i j k (omega arith))

one_number : (ms : List Marked) (u v : ℕ) → keeps ms u ≡ true → keeps ms v ≡ true → number ms u ≡ number ms v → u ≡ v
one_number ms u v k l e = elim (cases_order u v) [
  | inl same ↦ same
  | inr apart ↦ elim apart [
    | inl less ↦ absurd (omega (arith, number_grows ms u v k less, e))
    | inr more ↦ absurd (omega (arith, number_grows ms v u l more, e))
  ]
]

-- the numbers of the kept ones, in this order
abbrev pub renumbered : List Marked → List ℕ → List ℕ
renumbered ms order = map (number ms) (filter (keeps ms) order)

record Stood (ms : List Marked) (order : List ℕ) (w : ℕ) : Type 0 where
  pub node : ℕ
  pub has : Has node order
  pub kept : keeps ms node ≡ true
  pub named : number ms node ≡ w

stood : (ms : List Marked) (order : List ℕ) (w : ℕ) → Has w (renumbered ms order) → Stood ms order w
stood ms [] w h = absurd h
stood ms (u ∷ us) w h = go (keeps ms u) refl h (stood ms us w)
  where
    later : Stood ms us w → Stood ms (u ∷ us) w
    later s = record { node = s.node; has = inr s.has; kept = s.kept; named = s.named }

    go : (b : Bool) → keeps ms u ≡ b → Has w (renumbered ms (u ∷ us)) → (Has w (renumbered ms us) → Stood ms us w) → Stood ms (u ∷ us) w
    go true e h ih = elim (rw e at h) [
      | inl same ↦ record { node = u; has = inl refl; kept = e; named = same }
      | inr k ↦ later (ih k)
    ]
    go false e h ih = later (ih (rw e at h))

stands : (ms : List Marked) (order : List ℕ) (u : ℕ) → Has u order → keeps ms u ≡ true → Has (number ms u) (renumbered ms order)
stands ms [] u h k = absurd h
stands ms (v ∷ vs) u (inl e) k = let kept : keeps ms v ≡ true = ap (keeps ms) e ∙ k in rw kept (inl (ap (number ms) e))
stands ms (v ∷ vs) u (inr h) k = elim (cases_Bool (keeps ms v)) [
  | inl e ↦ rw e (inr (stands ms vs u h k))
  | inr e ↦ rw e (stands ms vs u h k)
]

still_apart : (ms : List Marked) (order : List ℕ) → Apart order → Apart (renumbered ms order)
still_apart ms [] h = tt
still_apart ms (u ∷ us) h = elim (cases_Bool (keeps ms u)) [
  | inl e ↦ rw e ((λ k. (let s = stood ms us (number ms u) k in h.0 (subst (λ v. Has v us) (one_number ms s.node u s.kept e s.named) s.has))), still_apart ms us h.1)
  | inr e ↦ rw e (still_apart ms us h.1)
]

still_before : (ms : List Marked) (order : List ℕ) (u v : ℕ) → keeps ms u ≡ true → keeps ms v ≡ true → place_of order u < place_of order v → place_of (renumbered ms order) (number ms u) < place_of (renumbered ms order) (number ms v)
still_before ms [] u v k l lt = absurd (omega arith)
still_before ms (x ∷ xs) u v k l lt = elim (cases_eq x u) [
  | inl here ↦ first here
  | inr nu ↦ elim (cases_eq x v) [
    | inl here ↦
        let none : place_of (x ∷ xs) v ≡ 0 = ap (λ n. place_of (n ∷ xs) v) here ∙ place_of-here v xs in
        absurd (omega (arith, none, lt))
    | inr nv ↦ later nu nv (still_before ms xs u v k l (omega (arith, lt, place_of-further x u xs nu, place_of-further x v xs nv)))
  ]
]
  where
    first : x ≡ u → place_of (renumbered ms (x ∷ xs)) (number ms u) < place_of (renumbered ms (x ∷ xs)) (number ms v)
    first here =
        let kept : keeps ms x ≡ true = ap (keeps ms) here ∙ k in
        let others = renumbered ms xs in
        let apart : number ms x ≡ number ms v → ⊥ = λ e.
        (let same : u ≡ v = sym here ∙ one_number ms x v kept l e in
        let even : place_of (x ∷ xs) u ≡ place_of (x ∷ xs) v = ap (place_of (x ∷ xs)) same in
        omega (arith, even, lt)) in
        let at_u : place_of (number ms x ∷ others) (number ms u) ≡ 0 = ap (λ n. place_of (number ms n ∷ others) (number ms u)) here ∙ place_of-here (number ms u) others in
        rw kept (omega (arith, at_u, place_of-further (number ms x) (number ms v) others apart))

    later : (x ≡ u → ⊥) → (x ≡ v → ⊥) → place_of (renumbered ms xs) (number ms u) < place_of (renumbered ms xs) (number ms v) → place_of (renumbered ms (x ∷ xs)) (number ms u) < place_of (renumbered ms (x ∷ xs)) (number ms v)
    later nu nv less = elim (cases_Bool (keeps ms x)) [
      | inl e ↦
          let at_u = place_of-further (number ms x) (number ms u) (renumbered ms xs) (λ same. nu (one_number ms x u e k same)) in
          let at_v = place_of-further (number ms x) (number ms v) (renumbered ms xs) (λ same. nv (one_number ms x v e l same)) in
          rw e (omega (arith, at_u, at_v, less))
      | inr e ↦ rw e less
    ]

-- ---- the order of the kept ones
within : (ms : List Marked) (v : ℕ) → keeps ms v ≡ true → (0 < number ms v) × (number ms v ≤ length (kept_nodes ms))
within ms zero k = absurd (false≢true k)
within ms (suc i) k = (omega arith, omega (arith, rank_below ms i k))

ops_kept : (ms : List Marked) (v : ℕ) → keeps ms v ≡ true → ops_at (kept_nodes ms) (number ms v) ≡ ops_at (all_nodes ms) v
ops_kept ms zero k = absurd (false≢true k)
ops_kept ms (suc i) k = ap (λ o. option_map_or (λ (node : Committed). node.ops) o []) (kept_at ms i k)

ops_in_order : (ms : List Marked) (order : List ℕ) → flat_map (ops_at (kept_nodes ms)) (renumbered ms order) ≡ flat_map (ops_at (all_nodes ms)) (filter (keeps ms) order)
ops_in_order ms [] = refl
ops_in_order ms (v ∷ order) = elim (cases_Bool (keeps ms v)) [
  | inl e ↦ rw e (ap (λ l. l ++ flat_map (ops_at (kept_nodes ms)) (renumbered ms order)) (ops_kept ms v e) ∙ ap (λ l. ops_at (all_nodes ms) v ++ l) (ops_in_order ms order))
  | inr e ↦ rw e (ops_in_order ms order)
]

once_kept : (ms : List Marked) (order : List ℕ) → ListsOnce (length (all_nodes ms)) order → ListsOnce (length (kept_nodes ms)) (renumbered ms order)
once_kept ms order once = record {
  only = λ k d lt.
      let s = stood ms order (get_or (renumbered ms order) k d) (Has_get (renumbered ms order) k d lt) in
      subst (λ w. (0 < w) × (w ≤ length (kept_nodes ms))) s.named (within ms s.node s.kept);
  each = λ v lo hi. Contains-from_Has (renumbered ms order) v (each v lo hi);
  distinct = IsDistinct-from_Apart (renumbered ms order) (still_apart ms order (Apart-from_IsDistinct order once.distinct));
}
  where
    each : (v : ℕ) → 0 < v → v ≤ length (kept_nodes ms) → Has v (renumbered ms order)
    each zero lo hi = absurd (omega arith)
    each (suc j) lo hi =
        let p = place ms j (omega arith) in
        subst (λ w. Has w (renumbered ms order)) (ap suc p.ranked)
        (stands ms order (suc p.place) (Has-from_Contains order (suc p.place) (once.each (suc p.place) (omega arith) (omega (arith, p.within)))) p.kept)

pub orders_kept : (ms : List Marked) (order : List ℕ) → Orders (all_nodes ms) order → Replays initial (flat_map (ops_at (all_nodes ms)) (filter (keeps ms) order)) → Orders (kept_nodes ms) (renumbered ms order)
orders_kept ms order h reads = record {
  once = once_kept ms order h.once;
  sessions = sessions;
  moments = moments;
  reads = subst (Replays initial) (sym (ops_in_order ms order)) reads;
}
  where
    node_kept : (j : ℕ) (p : Place ms j) → slice_get (kept_nodes ms) j ≡ slice_get (all_nodes ms) p.place
    node_kept j p = ap (slice_get (kept_nodes ms)) (sym p.ranked) ∙ kept_at ms p.place p.kept

    session_kept : (j : ℕ) (p : Place ms j) → session_at (kept_nodes ms) (suc j) ≡ session_at (all_nodes ms) (suc p.place)
    session_kept j p = ap (λ o. option_map_or (λ (node : Committed). node.session) o 0) (node_kept j p)

    before_kept : (i j : ℕ) (p : Place ms i) (q : Place ms j) → Before order (suc p.place) (suc q.place) → Before (renumbered ms order) (suc i) (suc j)
    before_kept i j p q before =
        let u = suc p.place in
        let v = suc q.place in
        let kept = still_before ms order u v p.kept q.kept (omega (arith, before, behind_zero order u (omega arith), behind_zero order v (omega arith))) in
        let named = subst (λ w. place_of (renumbered ms order) (number ms u) < place_of (renumbered ms order) w) (ap suc q.ranked) kept in
        let all = subst (λ w. place_of (renumbered ms order) w < place_of (renumbered ms order) (suc j)) (ap suc p.ranked) named in
        omega (arith, all, behind_zero (renumbered ms order) (suc i) (omega arith), behind_zero (renumbered ms order) (suc j) (omega arith))

    in_order : (i j : ℕ) (p : Place ms i) (q : Place ms j) → i < j → p.place < q.place
    in_order i j p q lt = elim (cases_order p.place q.place) [
      | inl same ↦ absurd (let e = ap (rank ms) same in omega (arith, e, p.ranked, q.ranked))
      | inr apart ↦ elim apart [
        | inl less ↦ less
        | inr more ↦ absurd (omega (arith, rank_grows ms q.place p.place q.kept more, p.ranked, q.ranked))
      ]
    ]

    sessions : (a b : ℕ) → 0 < a → a < b → b ≤ length (kept_nodes ms) → session_at (kept_nodes ms) a ≡ session_at (kept_nodes ms) b → Before (renumbered ms order) a b
    sessions zero b lo lt hi e = absurd (omega arith)
    sessions (suc i) zero lo lt hi e = absurd (omega arith)
    sessions (suc i) (suc j) lo lt hi e =
        let p = place ms i (omega arith) in
        let q = place ms j (omega arith) in
        let u = suc p.place in
        let v = suc q.place in
        before_kept i j p q (h.sessions u v (omega arith) (omega (arith, in_order i j p q (omega arith))) (omega (arith, q.within)) (sym (session_kept i p) ∙ e ∙ session_kept j q))

    moments : (a b : ℕ) → 0 < a → a ≤ length (kept_nodes ms) → 0 < b → b ≤ length (kept_nodes ms) → a ≢ b → is_earlier (ended_at (kept_nodes ms) a) (begun_at (kept_nodes ms) b) ≡ true → Before (renumbered ms order) a b
    moments zero b lo hi blo bhi ne e = absurd (omega arith)
    moments (suc i) zero lo hi blo bhi ne e = absurd (omega arith)
    moments (suc i) (suc j) lo hi blo bhi ne e =
        let p = place ms i (omega arith) in
        let q = place ms j (omega arith) in
        let apart : suc p.place ≢ suc q.place = λ same. ne (ap suc (sym p.ranked) ∙ ap (number ms) same ∙ ap suc q.ranked) in
        let same : is_earlier (ended_at (kept_nodes ms) (suc i)) (begun_at (kept_nodes ms) (suc j)) ≡ is_earlier (ended_at (all_nodes ms) (suc p.place)) (begun_at (all_nodes ms) (suc q.place)) =
        ap (λ o. is_earlier (option_and_then (λ (node : Committed). node.ended) o) (begun_at (kept_nodes ms) (suc j))) (node_kept i p)
        ∙ ap (λ o. is_earlier (ended_at (all_nodes ms) (suc p.place)) (option_and_then (λ (node : Committed). node.begun) o)) (node_kept j q) in
        before_kept i j p q (h.moments (suc p.place) (suc q.place) (omega arith) (omega (arith, p.within)) (omega arith) (omega (arith, q.within)) apart (sym same ∙ e))
