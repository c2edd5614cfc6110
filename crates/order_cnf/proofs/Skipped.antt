-- Triples without a clause that a walk leaves out.
use Rattle.order_cnf.proofs.Prelude.{◌≡◌, ◌≢◌, refl, sym, ap, ◌∙◌, inl, inr, ℕ, zero, suc, ◌+◌, ◌-◌, ◌*◌, ◌/◌, ◌^◌, ◌<◌, ◌≤◌, Bool, true, false, ◌||◌, List, [], ◌∷◌, ◌++◌, length, arith, nat_le, bit_or, w64, trailing_zeros, cases_lt}
use Rattle.order_cnf.proofs.Prelude.{or_cases, or_parts, or_from, and_parts, leb-true, Literal, row_len, nodes_within_row, cursor_left, is_open_cycle, is_open_from, IsWord, clauses_at, of_one, of_two, of_three, up_to, Relation}
use Rattle.order_cnf.proofs.Walks.{up_to_first, up_to_last, first_of_one, none_of_one}
use Rattle.order_cnf.proofs.WordBits.{or_word, first_bit, none_of_word}
use Rattle.order_cnf.proofs.Counted.{one}
use Rattle.order_cnf.proofs.Cycles.{triple_number, not_from, as_from, row_begins}

-- k is a node from `from` on with a clause
abbrev pub has_clause : Relation → ℕ → ℕ → ℕ → ℕ → Bool
has_clause r i j from k = is_open_from r j i from k || is_open_from r i j from k

-- no number below this one is
pub record NoneTo (r : Relation) (i j from end : ℕ) : Type 0 where
  pub none : (k : ℕ) → k < end → has_clause r i j from k ≡ false

pub none_begun : (r : Relation) (i j from : ℕ) → NoneTo r i j from (from / 64 * 64)
none_begun r i j from = record {
  none = λ k h.
      let lt : k < from = omega (arith, h, row_begins from) in
      or_from (is_open_from r j i from k) (is_open_from r i j from k) (not_from r j i from k lt) (not_from r i j from k lt);
}

pub none_more : (r : Relation) (i j from place a b : ℕ) → IsWord (is_open_from r j i from) place a → IsWord (is_open_from r i j from) place b → bit_or a b ≡ 0 → NoneTo r i j from (place * 64) → NoneTo r i j from ((place + 1) * 64)
none_more r i j from place a b f g none before = record {
  none = λ k h. elim (cases_lt k (place * 64)) [
    | inl lt ↦ before.none k lt
    | inr ge ↦ none_of_word (has_clause r i j from) place (bit_or a b) (or_word (is_open_from r j i from) (is_open_from r i j from) place a b f g) none k ge h
  ];
}

-- ---- what is left of a row
is_none : (cs : List (List Literal)) → length cs ≡ 0 → cs ≡ []
is_none [] h = refl
is_none (c ∷ cs) h = absurd (omega (arith, h))

no_clauses : (r : Relation) (i j from k : ℕ) → from ≤ k → k ≤ r.nodes → has_clause r i j from k ≡ false → clauses_at r (i, j, k) ≡ []
no_clauses r i j from k lo hi h =
    let p = or_parts (is_open_from r j i from k) (is_open_from r i j from k) h in
    let a : one (is_open_cycle r j i k) ≡ 0 = ap one (sym (as_from r j i from k lo) ∙ p.0) in
    let b : one (is_open_cycle r i j k) ≡ 0 = ap one (sym (as_from r i j from k lo) ∙ p.1) in
    is_none (clauses_at r (i, j, k)) (omega (arith, triple_number r i j k hi, a, b))

-- so many nodes without a clause are left out
left_out : (r : Relation) (i j from a m : ℕ) → from ≤ a → a + m ≤ r.nodes + 1 → ((k : ℕ) → k < a + m → has_clause r i j from k ≡ false)
    → of_one r i j (up_to (a + m) (r.nodes + 1)) ≡ of_one r i j (up_to a (r.nodes + 1))
left_out r i j from a zero lo hi none = let e : a + 0 ≡ a = omega arith in ap (λ x. of_one r i j (up_to x (r.nodes + 1))) e
left_out r i j from a (suc m) lo hi none =
    let e : a + suc m ≡ a + 1 + m = omega arith in
    let rest = of_one r i j (up_to (a + 1) (r.nodes + 1)) in
    ap (λ x. of_one r i j (up_to x (r.nodes + 1))) e
    ∙ left_out r i j from (a + 1) m (omega (arith, lo)) (omega (arith, hi)) (λ k h. none k (omega (arith, h)))
    ∙ ap (λ l. l ++ rest) (sym (no_clauses r i j from a lo (omega (arith, hi)) (none a (omega arith))))
    ∙ sym (first_of_one r i j a (up_to a (r.nodes + 1)) (up_to (a + 1) (r.nodes + 1)) (up_to_first a (r.nodes + 1) (omega (arith, hi))))

skipped : (r : Relation) (i j from k : ℕ) → from ≤ k → k ≤ r.nodes + 1 → NoneTo r i j from k → of_one r i j (up_to k (r.nodes + 1)) ≡ of_one r i j (up_to from (r.nodes + 1))
skipped r i j from k lo hi none =
    let e : from + (k - from) ≡ k = omega (arith, lo) in
    ap (λ x. of_one r i j (up_to x (r.nodes + 1))) (sym e)
    ∙ left_out r i j from from (k - from) (omega arith) (omega (arith, e, hi)) (λ x h. none.none x (omega (arith, h, e)))

open_within : (r : Relation) (u v from k : ℕ) → is_open_from r u v from k ≡ true → (from ≤ k) × (k ≤ r.nodes)
unfolding is_open_from is_open_cycle
open_within r u v from k h =
    let p = and_parts (is_open_cycle r u v k) (nat_le from k) h in
    let q = and_parts (nat_le k r.nodes) _ p.0 in
    (leb-true from k p.1, leb-true k r.nodes q.0)

clause_within : (r : Relation) (i j from k : ℕ) → has_clause r i j from k ≡ true → (from ≤ k) × (k ≤ r.nodes)
clause_within r i j from k h = elim (or_cases (is_open_from r j i from k) (is_open_from r i j from k) h) [
  | inl a ↦ open_within r j i from k a
  | inr b ↦ open_within r i j from k b
]

has_one : (b : Bool) → b ≡ true → one b ≡ 1
has_one b h = ap one h

clause_there : (r : Relation) (i j from k : ℕ) → has_clause r i j from k ≡ true → clauses_at r (i, j, k) ≢ []
clause_there r i j from k h = λ none.
    let within = clause_within r i j from k h in
    let number = triple_number r i j k within.1 in
    let zero : length (clauses_at r (i, j, k)) ≡ 0 = ap length none in
    elim (or_cases (is_open_from r j i from k) (is_open_from r i j from k) h) [
      | inl a ↦ omega (arith, number, zero, has_one (is_open_cycle r j i k) (sym (as_from r j i from k within.0) ∙ a))
      | inr b ↦ omega (arith, number, zero, has_one (is_open_cycle r i j k) (sym (as_from r i j from k within.0) ∙ b))
    ]

pub record IsNextOpen (r : Relation) (i j from k : ℕ) : Type 0 where
  pub node : (from ≤ k) × (k ≤ r.nodes)
  pub some : clauses_at r (i, j, k) ≢ []
  pub passed : of_one r i j (up_to k (r.nodes + 1)) ≡ of_one r i j (up_to from (r.nodes + 1))

pub next_found : (r : Relation) (i j from place a b : ℕ) → IsWord (is_open_from r j i from) place a → IsWord (is_open_from r i j from) place b → bit_or a b < 2 ^ 64 → bit_or a b ≢ 0 → NoneTo r i j from (place * 64)
    → IsNextOpen r i j from (place * 64 + trailing_zeros w64 (bit_or a b))
next_found r i j from place a b f g small some before =
    let k = place * 64 + trailing_zeros w64 (bit_or a b) in
    let first = first_bit (has_clause r i j from) place (bit_or a b) (or_word (is_open_from r j i from) (is_open_from r i j from) place a b f g) small some in
    let within = clause_within r i j from k first.here in
    record {
      node = within;
      some = clause_there r i j from k first.here;
      passed = skipped r i j from k within.0 (omega (arith, within.1)) (record {
        none = λ x h. elim (cases_lt x (place * 64)) [
          | inl lt ↦ before.none x lt
          | inr ge ↦ first.before x ge h
        ];
      });
    }

pub none_found : (r : Relation) (i j from place end : ℕ) → from ≤ r.nodes → end ≡ row_len r.nodes → end ≤ place → NoneTo r i j from (place * 64) → of_one r i j (up_to from (r.nodes + 1)) ≡ []
none_found r i j from place end h e last none =
    let within : r.nodes < place * 64 = omega (arith, e, last, nodes_within_row r.nodes) in
    sym (skipped r i j from (r.nodes + 1) (omega (arith, h)) (omega arith) (record { none = λ k lt. none.none k (omega (arith, lt, within)) }))
    ∙ none_of_one r i j (up_to (r.nodes + 1) (r.nodes + 1)) (up_to_last (r.nodes + 1) (r.nodes + 1) (omega arith))

-- ---- what is left of the walk
pub moved_on : (r : Relation) (i j a b : ℕ) → of_one r i j (up_to b (r.nodes + 1)) ≡ of_one r i j (up_to a (r.nodes + 1))
    → cursor_left r (record { first = i; second = j; third = b }) ≡ cursor_left r (record { first = i; second = j; third = a })
unfolding cursor_left
moved_on r i j a b e = ap (λ l. l ++ (of_two r i (up_to (j + 1) (r.nodes + 1)) ++ of_three r (up_to (i + 1) (r.nodes + 1)))) e

pub moved_to_end : (r : Relation) (i j a end : ℕ) → r.nodes + 1 ≤ end → of_one r i j (up_to a (r.nodes + 1)) ≡ []
    → cursor_left r (record { first = i; second = j; third = end }) ≡ cursor_left r (record { first = i; second = j; third = a })
moved_to_end r i j a end h e = moved_on r i j a end (none_of_one r i j (up_to end (r.nodes + 1)) (up_to_last end (r.nodes + 1) h) ∙ sym e)
