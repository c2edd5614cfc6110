-- What is left of a walk over all triples of nodes.
use Rattle.order_cnf.proofs.Prelude.{◌≡◌, inl, inr, refl, sym, ap, ◌∙◌, ℕ, suc, ◌+◌, ◌-◌, ◌<◌, ◌≤◌, Option, None, Some, false, List, [], ◌∷◌, ◌++◌, length, arith, map, is_some, flat_map, range_with_len, cases_order, false≢true, map-append}
use Rattle.order_cnf.proofs.Prelude.{append_assoc, length-append, Literal, pairs_of, triples_of, cursor_left, Clause, Relation, given, of_three, of_two, of_one, up_to, clauses_at}
use Rattle.std.proofs.lemmas.List.Concat.{flat_map-append}

pub up_to_first : (k end : ℕ) → k < end → up_to k end ≡ k ∷ up_to (k + 1) end
up_to_first k end h = let e : end - k ≡ suc (end - (k + 1)) = omega arith in ap (range_with_len k) e

pub up_to_last : (k end : ℕ) → end ≤ k → up_to k end ≡ []
up_to_last k end h = let e : end - k ≡ 0 = omega arith in ap (range_with_len k) e

abbrev pair_with : ℕ → ℕ → ℕ × ℕ
pair_with j b = (j, b)

abbrev with_first : ℕ → (ℕ × ℕ) → ℕ × ℕ × ℕ
with_first i p = (i, p.0, p.1)

abbrev triple_with : ℕ → ℕ → ℕ → ℕ × ℕ × ℕ
triple_with i j k = (i, j, k)

with_two : (i j : ℕ) (nodes : List ℕ) → map (with_first i) (map (pair_with j) nodes) ≡ map (triple_with i j) nodes
with_two i j [] = refl
with_two i j (k ∷ nodes) = ap (λ l. (i, j, k) ∷ l) (with_two i j nodes)

none_of_three : (r : Relation) (nodes : List ℕ) → nodes ≡ [] → of_three r nodes ≡ []
unfolding of_three
none_of_three r nodes e = ap (λ l. flat_map (clauses_at r) (triples_of l)) e

none_of_two : (r : Relation) (i : ℕ) (nodes : List ℕ) → nodes ≡ [] → of_two r i nodes ≡ []
unfolding of_two
none_of_two r i nodes e = ap (λ l. flat_map (clauses_at r) (map (with_first i) (pairs_of l))) e

pub none_of_one : (r : Relation) (i j : ℕ) (nodes : List ℕ) → nodes ≡ [] → of_one r i j nodes ≡ []
unfolding of_one
none_of_one r i j nodes e = ap (λ l. flat_map (clauses_at r) (map (triple_with i j) l)) e

first_of_three : (r : Relation) (i : ℕ) (nodes rest : List ℕ) → nodes ≡ i ∷ rest → of_three r nodes ≡ of_two r i rest ++ of_three r rest
unfolding of_three of_two
first_of_three r i nodes rest e =
    ap (λ l. flat_map (clauses_at r) (triples_of l)) e
    ∙ flat_map-append (clauses_at r) (map (with_first i) (pairs_of rest)) (triples_of rest)

first_of_two : (r : Relation) (i j : ℕ) (nodes rest : List ℕ) → nodes ≡ j ∷ rest → of_two r i nodes ≡ of_one r i j rest ++ of_two r i rest
unfolding of_two of_one
first_of_two r i j nodes rest e =
    ap (λ l. flat_map (clauses_at r) (map (with_first i) (pairs_of l))) e
    ∙ ap (flat_map (clauses_at r)) (map-append (with_first i) (map (pair_with j) rest) (pairs_of rest))
    ∙ flat_map-append (clauses_at r) (map (with_first i) (map (pair_with j) rest)) (map (with_first i) (pairs_of rest))
    ∙ ap (λ l. flat_map (clauses_at r) l ++ flat_map (clauses_at r) (map (with_first i) (pairs_of rest))) (with_two i j rest)

pub first_of_one : (r : Relation) (i j k : ℕ) (nodes rest : List ℕ) → nodes ≡ k ∷ rest → of_one r i j nodes ≡ clauses_at r (i, j, k) ++ of_one r i j rest
unfolding of_one
first_of_one r i j k nodes rest e = ap (λ l. flat_map (clauses_at r) (map (triple_with i j) l)) e

-- ---- the beginning
ends : (r : Relation) (from third : ℕ) → r.nodes + 1 ≤ from → third ≡ r.nodes + 1 → cursor_left r (record { first = from; second = from; third = third }) ≡ of_three r (up_to from (r.nodes + 1))
unfolding cursor_left
ends r from third h e =
    ap (λ l. l ++ (of_two r from (up_to (from + 1) (r.nodes + 1)) ++ of_three r (up_to (from + 1) (r.nodes + 1)))) (none_of_one r from from (up_to third (r.nodes + 1)) (up_to_last third (r.nodes + 1) (omega (arith, e))))
    ∙ ap (λ l. l ++ of_three r (up_to (from + 1) (r.nodes + 1))) (none_of_two r from (up_to (from + 1) (r.nodes + 1)) (up_to_last (from + 1) (r.nodes + 1) (omega (arith, h))))
    ∙ none_of_three r (up_to (from + 1) (r.nodes + 1)) (up_to_last (from + 1) (r.nodes + 1) (omega (arith, h)))
    ∙ sym (none_of_three r (up_to from (r.nodes + 1)) (up_to_last from (r.nodes + 1) h))

pub begun : (r : Relation) (from third : ℕ) → from ≤ r.nodes + 1 → third ≡ r.nodes + 1 → cursor_left r (record { first = from; second = from; third = third }) ≡ of_three r (up_to from (r.nodes + 1))
unfolding cursor_left
begun r from third h e = elim (cases_order from (r.nodes + 1)) [
  | inl last ↦ ends r from third (omega (arith, last)) e
  | inr o ↦ elim o [
    | inl lt ↦
        ap (λ l. l ++ (of_two r from (up_to (from + 1) (r.nodes + 1)) ++ of_three r (up_to (from + 1) (r.nodes + 1)))) (none_of_one r from from (up_to third (r.nodes + 1)) (up_to_last third (r.nodes + 1) (omega (arith, e))))
        ∙ sym (first_of_three r from (up_to from (r.nodes + 1)) (up_to (from + 1) (r.nodes + 1)) (up_to_first from (r.nodes + 1) lt))
    | inr gt ↦ absurd (omega (arith, h, gt))
  ]
]

-- ---- a step
pub next_triple : (r : Relation) (i j k : ℕ) → k < r.nodes + 1
    → cursor_left r (record { first = i; second = j; third = k }) ≡ clauses_at r (i, j, k) ++ cursor_left r (record { first = i; second = j; third = k + 1 })
unfolding cursor_left
next_triple r i j k h =
    let rest = of_two r i (up_to (j + 1) (r.nodes + 1)) ++ of_three r (up_to (i + 1) (r.nodes + 1)) in
    ap (λ l. l ++ rest) (first_of_one r i j k (up_to k (r.nodes + 1)) (up_to (k + 1) (r.nodes + 1)) (up_to_first k (r.nodes + 1) h))
    ∙ append_assoc (clauses_at r (i, j, k)) (of_one r i j (up_to (k + 1) (r.nodes + 1))) rest

pub next_second : (r : Relation) (end i j k : ℕ) → r.nodes + 1 ≡ end → end ≤ k → j + 1 < end
    → cursor_left r (record { first = i; second = j + 1; third = j + 1 + 1 }) ≡ cursor_left r (record { first = i; second = j; third = k })
unfolding cursor_left
next_second r end i j k e hk hj =
    let three = of_three r (up_to (i + 1) (r.nodes + 1)) in
    let one = of_one r i (j + 1) (up_to (j + 1 + 1) (r.nodes + 1)) in
    let two = of_two r i (up_to (j + 1 + 1) (r.nodes + 1)) in
    sym (ap (λ l. l ++ (of_two r i (up_to (j + 1) (r.nodes + 1)) ++ three)) (none_of_one r i j (up_to k (r.nodes + 1)) (up_to_last k (r.nodes + 1) (omega (arith, e))))
    ∙ ap (λ l. l ++ three) (first_of_two r i (j + 1) (up_to (j + 1) (r.nodes + 1)) (up_to (j + 1 + 1) (r.nodes + 1)) (up_to_first (j + 1) (r.nodes + 1) (omega (arith, e))))
    ∙ append_assoc one two three)

pub next_first : (r : Relation) (end i j k : ℕ) → r.nodes + 1 ≡ end → end ≤ k → end ≤ j + 1 → i + 1 < end
    → cursor_left r (record { first = i + 1; second = i + 1; third = end }) ≡ cursor_left r (record { first = i; second = j; third = k })
unfolding cursor_left
next_first r end i j k e hk hj hi =
    let two = of_two r (i + 1) (up_to (i + 1 + 1) (r.nodes + 1)) in
    let three = of_three r (up_to (i + 1 + 1) (r.nodes + 1)) in
    ap (λ l. l ++ (two ++ three)) (none_of_one r (i + 1) (i + 1) (up_to end (r.nodes + 1)) (up_to_last end (r.nodes + 1) (omega (arith, e))))
    ∙ sym (ap (λ l. l ++ (of_two r i (up_to (j + 1) (r.nodes + 1)) ++ of_three r (up_to (i + 1) (r.nodes + 1)))) (none_of_one r i j (up_to k (r.nodes + 1)) (up_to_last k (r.nodes + 1) (omega (arith, e))))
    ∙ ap (λ l. l ++ of_three r (up_to (i + 1) (r.nodes + 1))) (none_of_two r i (up_to (j + 1) (r.nodes + 1)) (up_to_last (j + 1) (r.nodes + 1) (omega (arith, e))))
    ∙ first_of_three r (i + 1) (up_to (i + 1) (r.nodes + 1)) (up_to (i + 1 + 1) (r.nodes + 1)) (up_to_first (i + 1) (r.nodes + 1) (omega (arith, e))))

pub no_more : (r : Relation) (end i j k : ℕ) → r.nodes + 1 ≡ end → end ≤ k → end ≤ j + 1 → end ≤ i + 1 → cursor_left r (record { first = i; second = j; third = k }) ≡ []
unfolding cursor_left
no_more r end i j k e hk hj hi =
    ap (λ l. l ++ (of_two r i (up_to (j + 1) (r.nodes + 1)) ++ of_three r (up_to (i + 1) (r.nodes + 1)))) (none_of_one r i j (up_to k (r.nodes + 1)) (up_to_last k (r.nodes + 1) (omega (arith, e))))
    ∙ ap (λ l. l ++ of_three r (up_to (i + 1) (r.nodes + 1))) (none_of_two r i (up_to (j + 1) (r.nodes + 1)) (up_to_last (j + 1) (r.nodes + 1) (omega (arith, e))))
    ∙ none_of_three r (up_to (i + 1) (r.nodes + 1)) (up_to_last (i + 1) (r.nodes + 1) (omega (arith, e)))

-- ---- how many are left
pub row_left : (r : Relation) (i j k : ℕ) → length (cursor_left r (record { first = i; second = j; third = k }))
    ≡ length (of_one r i j (up_to k (r.nodes + 1))) + length (cursor_left r (record { first = i; second = j; third = r.nodes + 1 }))
unfolding cursor_left
row_left r i j k =
    let one = of_one r i j (up_to k (r.nodes + 1)) in
    let rest = of_two r i (up_to (j + 1) (r.nodes + 1)) ++ of_three r (up_to (i + 1) (r.nodes + 1)) in
    length-append one rest
    ∙ sym (ap (λ l. length one + length (l ++ rest)) (none_of_one r i j (up_to (r.nodes + 1) (r.nodes + 1)) (up_to_last (r.nodes + 1) (r.nodes + 1) (omega arith))))

pub row_counted : (r : Relation) (i j k end row left count all : ℕ) → end ≡ r.nodes + 1 → row ≡ length (of_one r i j (up_to k (r.nodes + 1))) → length (cursor_left r (record { first = i; second = j; third = k })) ≡ left → count + left ≡ all
    → count + row + length (cursor_left r (record { first = i; second = j; third = end })) ≡ all
row_counted r i j k end row left count all e er el ea =
    let same : length (cursor_left r (record { first = i; second = j; third = end })) ≡ length (cursor_left r (record { first = i; second = j; third = r.nodes + 1 })) =
    ap (λ n. length (cursor_left r (record { first = i; second = j; third = n }))) e in
    omega (arith, row_left r i j k, same, er, el, ea)

-- ---- the clauses of a triple, where it has them
pub pair_first : (r : Relation) (i j k : ℕ) (a b : Option Clause) (start : List (List Literal)) → given a ++ given b ≡ clauses_at r (i, j, k) → k < r.nodes + 1 → cursor_left r (record { first = i; second = j; third = k }) ≡ start
    → given a ++ (given b ++ cursor_left r (record { first = i; second = j; third = k + 1 })) ≡ start
pair_first r i j k a b start made lt same =
    let next = cursor_left r (record { first = i; second = j; third = k + 1 }) in
    sym (append_assoc (given a) (given b) next) ∙ ap (λ l. l ++ next) made ∙ sym (next_triple r i j k lt) ∙ same

pub none_given : (o : Option Clause) → is_some o ≡ false → given o ≡ []
none_given None h = refl
none_given (Some c) h = absurd (false≢true (sym h))

pub pair_second : (r : Relation) (i j k : ℕ) (a b : Option Clause) (start : List (List Literal)) → is_some a ≡ false → given a ++ given b ≡ clauses_at r (i, j, k) → k < r.nodes + 1 → cursor_left r (record { first = i; second = j; third = k }) ≡ start
    → given b ++ cursor_left r (record { first = i; second = j; third = k + 1 }) ≡ start
pair_second r i j k a b start none made lt same =
    let next = cursor_left r (record { first = i; second = j; third = k + 1 }) in
    sym (ap (λ l. l ++ (given b ++ next)) (none_given a none)) ∙ pair_first r i j k a b start made lt same

pub pair_none : (r : Relation) (i j k : ℕ) (a b : Option Clause) (start : List (List Literal)) → is_some a ≡ false → is_some b ≡ false → given a ++ given b ≡ clauses_at r (i, j, k) → k < r.nodes + 1 → cursor_left r (record { first = i; second = j; third = k }) ≡ start
    → cursor_left r (record { first = i; second = j; third = k + 1 }) ≡ start
pair_none r i j k a b start none neither made lt same =
    sym (ap (λ l. l ++ cursor_left r (record { first = i; second = j; third = k + 1 })) (none_given b neither)) ∙ pair_second r i j k a b start none made lt same
