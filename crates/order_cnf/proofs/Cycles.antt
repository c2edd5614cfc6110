-- Cycles of which no edge is known, and the clauses that they stand for.
use Rattle.order_cnf.proofs.Prelude.{◌≡◌, ◌↔◌, refl, sym, ap, ◌∙◌, ℕ, zero, suc, ◌+◌, ◌-◌, ◌*◌, ◌/◌, ◌^◌, ◌<◌, ◌≤◌, Bool, true, false, not, cond, ◌&&◌, ◌||◌, List, [], ◌∷◌, ◌++◌, length, get_or, arith, count_ones, nat_le, bit_and, Contains}
use Rattle.order_cnf.proofs.Prelude.{range_with_len, le-leb, lt-leb, and_right, false≢true, length-append, div-add-mod', ones-le, Literal, Graph, bit_of, row_len, nodes_within_row, Relation, known_in, is_open_cycle, is_open_from, IsWord}
use Rattle.order_cnf.proofs.Prelude.{IsPairTable, clauses_at, of_one, up_to}
use Rattle.list_lemmas.proofs.Bools.{same_bool}
use Rattle.known_graph.proofs.Words.{bit_there}
use Rattle.order_cnf.proofs.WordBits.{and_word, word_as, no_word}
use Rattle.order_cnf.proofs.Counted.{one, count_in, count_none, count_same, count_split, count_most, word_counted}

-- ---- a word of a row
pub record IsPairRow (n : ℕ) (p : ℕ → Bool) (row : List ℕ) : Type 0 where
  pub len : length row ≡ row_len n
  pub bits : (v : ℕ) → bit_of row v ≡ (nat_le v n && p v)

pub pair_row : (n u : ℕ) (f : ℕ → ℕ → Bool) (table : Graph) (row : List ℕ) → IsPairTable n f table → u ≤ n → ((v : ℕ) → ((bit_of row v ≡ true) ↔ Contains table.edges (u, v))) → length row ≡ row_len table.nodes → IsPairRow n (f u) row
pair_row n u f table row held hu edges len = record {
  len = len ∙ ap row_len held.nodes;
  bits = λ v. (let there = held.bits u v hu in same_bool (bit_of row v) (nat_le v n && f u v) (λ t. there.0 ((edges v).0 t)) (λ t. (edges v).1 (there.1 t)));
}

-- the bit of a pair that is read
pub pair_read : (n v : ℕ) (p : ℕ → Bool) (row : List ℕ) (bit : Bool) → IsPairRow n p row → v ≤ n → bit ≡ bit_of row v → p v ≡ bit
pair_read n v p row bit held hv e = sym (e ∙ held.bits v ∙ ap (λ t. t && p v) (le-leb v n hv))

row_word : (n place : ℕ) (p : ℕ → Bool) (row : List ℕ) → IsPairRow n p row → IsWord (λ k. nat_le k n && p k) place (get_or row place 0)
row_word n place p row held = record { bits = λ b h. sym (bit_there row place b h) ∙ held.bits (place * 64 + b) }

open_both : (t a b c : Bool) → a ≡ false → ((t && not b) && (t && not c)) ≡ (t && (not a && (not b && not c)))
open_both t true b c h = absurd (false≢true (sym h))
open_both true false b c h = refl
open_both false false b c h = refl

-- the words are read
pub read_word : (r : Relation) (u v place : ℕ) (first second : List ℕ) → IsPairRow r.nodes (λ k. not (known_in r v k)) first → IsPairRow r.nodes (λ k. not (known_in r k u)) second
    → known_in r u v ≡ false → IsWord (is_open_cycle r u v) place (bit_and (get_or first place 0) (get_or second place 0))
unfolding is_open_cycle
read_word r u v place first second tf ts free =
    word_as (λ k. (nat_le k r.nodes && not (known_in r v k)) && (nat_le k r.nodes && not (known_in r k u))) (is_open_cycle r u v) place (bit_and (get_or first place 0) (get_or second place 0))
    (λ k. open_both (nat_le k r.nodes) (known_in r u v) (known_in r v k) (known_in r k u) free)
    (and_word (λ k. nat_le k r.nodes && not (known_in r v k)) (λ k. nat_le k r.nodes && not (known_in r k u)) place (get_or first place 0) (get_or second place 0)
    (row_word r.nodes place (λ k. not (known_in r v k)) first tf) (row_word r.nodes place (λ k. not (known_in r k u)) second ts))

closed_both : (t a b : Bool) → a ≡ true → (t && (not a && b)) ≡ false
closed_both true true b h = refl
closed_both false true b h = refl
closed_both t false b h = absurd (false≢true h)

pub closed_word : (r : Relation) (u v place : ℕ) → known_in r u v ≡ true → IsWord (is_open_cycle r u v) place 0
unfolding is_open_cycle
closed_word r u v place known = no_word (is_open_cycle r u v) place (λ k. closed_both (nat_le k r.nodes) (known_in r u v) (not (known_in r v k) && not (known_in r k u)) known)

pub from_word : (r : Relation) (u v from place a b : ℕ) → IsWord (is_open_cycle r u v) place a → IsWord (nat_le from) place b → IsWord (is_open_from r u v from) place (bit_and a b)
unfolding is_open_from
from_word r u v from place a b f g = and_word (is_open_cycle r u v) (nat_le from) place a b f g

-- ---- the clauses of a triple
clause_number : (b : Bool) (c : List Literal) → length (cond b [] (c ∷ [])) ≡ one (not b)
clause_number true c = refl
clause_number false c = refl

back : (t a b c : Bool) → t ≡ true → not (a || (b || (c || false))) ≡ (t && (not a && (not c && not b)))
back false a b c h = absurd (false≢true h)
back true true b c h = refl
back true false true true h = refl
back true false true false h = refl
back true false false true h = refl
back true false false false h = refl

forth : (t a b c : Bool) → t ≡ true → not (a || (b || (c || false))) ≡ (t && (not a && (not b && not c)))
forth false a b c h = absurd (false≢true h)
forth true true b c h = refl
forth true false true c h = refl
forth true false false true h = refl
forth true false false false h = refl

both_clauses : (a b : Bool) (x y : List Literal) (p q : Bool) → not a ≡ p → not b ≡ q → length (cond a [] (x ∷ []) ++ cond b [] (y ∷ [])) ≡ one p + one q
both_clauses a b x y p q f g =
    omega (arith, length-append (cond a [] (x ∷ [])) (cond b [] (y ∷ [])), clause_number a x, clause_number b y, ap one f, ap one g)

pub triple_number : (r : Relation) (i j k : ℕ) → k ≤ r.nodes → length (clauses_at r (i, j, k)) ≡ one (is_open_cycle r j i k) + one (is_open_cycle r i j k)
unfolding is_open_cycle
triple_number r i j k h =
    let node = le-leb k r.nodes h in
    both_clauses _ _ _ _ (is_open_cycle r j i k) (is_open_cycle r i j k)
    (back (nat_le k r.nodes) (known_in r j i) (known_in r k j) (known_in r i k) node)
    (forth (nat_le k r.nodes) (known_in r i j) (known_in r j k) (known_in r k i) node)

-- ---- the clauses of a row
row_number : (r : Relation) (i j a m : ℕ) → a + m ≤ r.nodes + 1 → length (of_one r i j (range_with_len a m)) ≡ count_in (is_open_cycle r j i) a m + count_in (is_open_cycle r i j) a m
unfolding of_one count_in
row_number r i j a zero h = refl
row_number r i j a (suc m) h =
    omega (
      arith,
      length-append (clauses_at r (i, j, a)) (of_one r i j (range_with_len (a + 1) m)),
      triple_number r i j a (omega arith),
      row_number r i j (a + 1) m (omega arith),
    )

pub not_from : (r : Relation) (u v from k : ℕ) → k < from → is_open_from r u v from k ≡ false
unfolding is_open_from
not_from r u v from k h = and_right (is_open_cycle r u v k) (nat_le from k) (lt-leb from k h)

no_node : (r : Relation) (u v from k : ℕ) → r.nodes < k → is_open_from r u v from k ≡ false
unfolding is_open_from is_open_cycle
no_node r u v from k h = ap (λ t. (t && (not (known_in r u v) && (not (known_in r v k) && not (known_in r k u)))) && nat_le from k) (lt-leb k r.nodes h)

and_true : (a b : Bool) → b ≡ true → (a && b) ≡ a
and_true true b h = h
and_true false b h = refl

pub as_from : (r : Relation) (u v from k : ℕ) → from ≤ k → is_open_from r u v from k ≡ is_open_cycle r u v k
unfolding is_open_from
as_from r u v from k h = and_true (is_open_cycle r u v k) (nat_le from k) (le-leb from k h)

pub none_before : (r : Relation) (u v from n : ℕ) → n ≤ from → count_in (is_open_from r u v from) 0 n ≡ 0
none_before r u v from n h = count_none (is_open_from r u v from) 0 n (λ k lo hi. not_from r u v from k (omega (arith, hi, h)))

all_counted : (r : Relation) (u v from : ℕ) → from ≤ r.nodes + 1 → count_in (is_open_from r u v from) 0 (row_len r.nodes * 64) ≡ count_in (is_open_cycle r u v) from (r.nodes + 1 - from)
all_counted r u v from h =
    let p = is_open_from r u v from in
    let m = r.nodes + 1 - from in
    let rest = row_len r.nodes * 64 - (r.nodes + 1) in
    let parts : row_len r.nodes * 64 ≡ from + (m + rest) = omega (arith, h, nodes_within_row r.nodes) in
    let last : 0 + from + m ≡ r.nodes + 1 = omega (arith, h) in
    let start : 0 + from ≡ from = omega arith in
    omega (
      arith,
      ap (count_in p 0) parts,
      count_split p 0 from (m + rest),
      none_before r u v from from (omega arith),
      count_split p (0 + from) m rest,
      ap (λ x. count_in p x m) start,
      count_same p (is_open_cycle r u v) from m (λ k lo hi. as_from r u v from k lo),
      ap (λ x. count_in p x rest) last,
      count_none p (r.nodes + 1) rest (λ k lo hi. no_node r u v from k (omega (arith, lo))),
    )

pub whole_row : (r : Relation) (i j from : ℕ) → from ≤ r.nodes + 1
    → count_in (is_open_from r j i from) 0 (row_len r.nodes * 64) + count_in (is_open_from r i j from) 0 (row_len r.nodes * 64) ≡ length (of_one r i j (up_to from (r.nodes + 1)))
whole_row r i j from h = omega (arith, all_counted r j i from h, all_counted r i j from h, row_number r i j from (r.nodes + 1 - from) (omega (arith, h)))

pub row_most : (r : Relation) (i j from : ℕ) → from ≤ r.nodes + 1 → length (of_one r i j (up_to from (r.nodes + 1))) ≤ 2 * (r.nodes + 1)
row_most r i j from h =
    let m = r.nodes + 1 - from in
    omega (arith, row_number r i j from m (omega (arith, h)), count_most (is_open_cycle r j i) from m, count_most (is_open_cycle r i j) from m, h)

-- one word more is counted
pub word_more : (p : ℕ → Bool) (place w : ℕ) → w < 2 ^ 64 → IsWord p place w → count_in p 0 ((place + 1) * 64) ≡ count_in p 0 (place * 64) + count_ones w
word_more p place w small h =
    let parts : (place + 1) * 64 ≡ place * 64 + 64 = omega arith in
    let start : 0 + place * 64 ≡ place * 64 = omega arith in
    omega (arith, ap (count_in p 0) parts, count_split p 0 (place * 64) 64, ap (λ x. count_in p x 64) start, word_counted p place w small h)

pub row_begins : (from : ℕ) → from / 64 * 64 ≤ from
row_begins from = omega (arith, div-add-mod' from 64)

row_holds : (n from : ℕ) → from ≤ n → from / 64 ≤ row_len n
unfolding row_len
row_holds n from h = omega arith

pub few_counted : (p q : ℕ → Bool) (n place count a b : ℕ) → n ≤ 1000 → place < row_len n → a < 2 ^ 64 → b < 2 ^ 64 → count ≡ count_in p 0 (place * 64) + count_in q 0 (place * 64) → count + (count_ones a + count_ones b) ≤ 300000
unfolding row_len
few_counted p q n place count a b few within ha hb e =
    omega (arith, e, count_most p 0 (place * 64), count_most q 0 (place * 64), ones-le 64 a ha, ones-le 64 b hb, few, within)

pub row_ended : (n from place end : ℕ) → from ≤ n → end ≡ row_len n → (from / 64 ≤ end → place ≤ end) → end ≤ place → place * 64 ≡ row_len n * 64
row_ended n from place end h e most least = omega (arith, e, least, most (omega (arith, e, row_holds n from h)))
