-- The open choices, as a list and as bits.
use Rattle.branching.proofs.Prelude.{◌≡◌, ◌≢◌, ℕ, zero, suc, ◌+◌, ◌-◌, ◌/◌, ◌<◌, ◌≤◌, true, false, not, eqb, ◌&&◌, List, [], ◌∷◌, length, drop, set, replicate, Option, Some, None, refl, sym, ap, ◌∙◌, subst, inl, inr, arith, eq-eqb, ne_eqb}
use Rattle.branching.proofs.Prelude.{◌↔◌, nat_lt, slice_get, is_some, is_none, IsSome, IfSome, MatchOption, option_map_or, filter, cases_eq, cases_lt, false≢true, lt-ltb, le-ltb, drop-drop, length-set, length-replicate, Side, bit_of}
use Rattle.branching.proofs.Prelude.{row_len, slice_get-set_same, slice_get-set_other, IsNext, NoneFrom, open_from, is_open_at, open_past, AreBits}

-- ---- places of a list
pub slice_get-drop : {A : Type 0} (xs : List A) (n i : ℕ) → slice_get (drop n xs) i ≡ slice_get xs (n + i)
slice_get-drop xs zero i = let e : i ≡ 0 + i = omega arith in ap (slice_get xs) e
slice_get-drop [] (suc n) i = refl
slice_get-drop (x ∷ xs) (suc n) i = let e : suc (n + i) ≡ suc n + i = omega arith in slice_get-drop xs n i ∙ ap (slice_get (x ∷ xs)) e

-- ---- an open choice
pub open_within : (sides : List (Option Side)) (c : ℕ) → is_open_at sides c ≡ true → c < length sides
open_within [] c t = absurd (false≢true t)
open_within (x ∷ xs) zero t = omega arith
open_within (x ∷ xs) (suc c) t = omega (arith, open_within xs c t)

pub open_is_none : (sides : List (Option Side)) (c : ℕ) → is_open_at sides c ≡ true → slice_get sides c ≡ Some None
open_is_none [] c t = absurd (false≢true t)
open_is_none (None ∷ xs) zero t = refl
open_is_none (Some s ∷ xs) zero t = absurd (false≢true t)
open_is_none (x ∷ xs) (suc c) t = open_is_none xs c t

pub open_drop : (sides : List (Option Side)) (n i : ℕ) → is_open_at (drop n sides) i ≡ is_open_at sides (n + i)
open_drop sides n i = ap (λ o. option_map_or is_none o false) (slice_get-drop sides n i)

-- ---- the list of the open ones
pub open_from_none : (sides : List (Option Side)) (k : ℕ) → ((i : ℕ) → is_open_at sides i ≡ false) → open_from k sides ≡ []
open_from_none [] k h = refl
open_from_none (None ∷ xs) k h = absurd (false≢true (sym (h 0)))
open_from_none (Some s ∷ xs) k h = open_from_none xs (k + 1) (λ i. h (suc i))

open_from_next : (sides : List (Option Side)) (k i : ℕ) → is_open_at sides i ≡ true → ((j : ℕ) → j < i → is_open_at sides j ≡ false)
    → open_from k sides ≡ (k + i) ∷ open_from (k + i + 1) (drop (suc i) sides)
open_from_next [] k i t h = absurd (false≢true t)
open_from_next (None ∷ xs) k zero t h = let e : k ≡ k + 0 = omega arith in ap (λ n. n ∷ open_from (n + 1) xs) e
open_from_next (Some s ∷ xs) k zero t h = absurd (false≢true t)
open_from_next (None ∷ xs) k (suc i) t h = absurd (false≢true (sym (h 0 (omega arith))))
open_from_next (Some s ∷ xs) k (suc i) t h =
    let e : k + 1 + i ≡ k + suc i = omega arith in
    open_from_next xs (k + 1) i t (λ j lt. h (suc j) (omega arith))
    ∙ ap (λ n. n ∷ open_from (n + 1) (drop (suc i) xs)) e

pub none_opens : (sides : List (Option Side)) (words : List ℕ) (from : ℕ) → AreBits sides words → NoneFrom words from → open_past sides from ≡ []
none_opens sides words from b n = open_from_none (drop from sides) from (λ i. open_drop sides from i ∙ sym (b.bits (from + i)) ∙ n.clear (from + i) (omega arith))

pub next_opens : (sides : List (Option Side)) (words : List ℕ) (from k : ℕ) → AreBits sides words → IsNext words from k → open_past sides from ≡ k ∷ open_past sides (k + 1)
next_opens sides words from k b n =
    let past = n.past in
    let i = k - from in
    let whole : from + i ≡ k = omega (arith, past) in
    let step : from + suc i ≡ k + 1 = omega (arith, past) in
    open_from_next (drop from sides) from i
    (open_drop sides from i ∙ ap (is_open_at sides) whole ∙ sym (b.bits k) ∙ n.set)
    (λ j lt. open_drop sides from j ∙ sym (b.bits (from + j)) ∙ n.first (from + j) (omega arith) (omega (arith, lt, past)))
    ∙ ap (λ m. m ∷ open_from (m + 1) (drop (suc i) (drop from sides))) whole
    ∙ ap (λ l. k ∷ open_from (k + 1) l) (drop-drop (suc i) from sides ∙ ap (λ m. drop m sides) step)

pub next_is_open : (sides : List (Option Side)) (words : List ℕ) (from k : ℕ) → AreBits sides words → IsNext words from k → is_open_at sides k ≡ true
next_is_open sides words from k b n = sym (b.bits k) ∙ n.set

pub length-open_from : (sides : List (Option Side)) (k : ℕ) → length (open_from k sides) + length (filter is_some sides) ≡ length sides
length-open_from [] k = refl
length-open_from (None ∷ xs) k = omega (arith, length-open_from xs (k + 1))
length-open_from (Some s ∷ xs) k = omega (arith, length-open_from xs (k + 1))

-- ---- all open
pub all_open : (n c : ℕ) → (let xs : List (Option Side) = replicate n None in is_open_at xs c) ≡ nat_lt c n
all_open zero c = sym (le-ltb c 0 (omega arith))
all_open (suc n) zero = sym (lt-ltb 0 (suc n) (omega arith))
all_open (suc n) (suc c) = all_open n c ∙ elim (cases_lt c n) [
  | inl lt ↦ lt-ltb c n lt ∙ sym (lt-ltb (suc c) (suc n) (omega arith))
  | inr ge ↦ le-ltb c n ge ∙ sym (le-ltb (suc c) (suc n) (omega arith))
]

pub none_decided : (n : ℕ) → length (filter is_some (let xs : List (Option Side) = replicate n None in xs)) ≡ 0
none_decided zero = refl
none_decided (suc n) = none_decided n

-- ---- one decided
pub open_set : (sides : List (Option Side)) (c : ℕ) (side : Side) (j : ℕ) → c < length sides → is_open_at (set sides c (Some side)) j ≡ (not (eqb j c) && is_open_at sides j)
open_set sides c side j h = elim (cases_eq j c) [
  | inl e ↦
      ap (λ m. is_open_at (set sides c (Some side)) m) e
      ∙ ap (λ o. option_map_or is_none o false) (slice_get-set_same sides c (Some side) h)
      ∙ sym (ap (λ b. not b && is_open_at sides j) (eq-eqb j c e))
  | inr ne ↦
      ap (λ o. option_map_or is_none o false) (slice_get-set_other sides c j (Some side) ne)
      ∙ sym (ap (λ b. not b && is_open_at sides j) (ne_eqb j c ne))
]

pub one_more_decided : (sides : List (Option Side)) (c : ℕ) (side : Side) → is_open_at sides c ≡ true → length (filter is_some (set sides c (Some side))) ≡ length (filter is_some sides) + 1
one_more_decided [] c side t = absurd (false≢true t)
one_more_decided (None ∷ xs) zero side t = omega arith
one_more_decided (Some s ∷ xs) zero side t = absurd (false≢true t)
one_more_decided (None ∷ xs) (suc c) side t = one_more_decided xs c side t
one_more_decided (Some s ∷ xs) (suc c) side t = omega (arith, one_more_decided xs c side t)

-- ---- the bits
pub bits_within : (sides : List (Option Side)) (words : List ℕ) (c : ℕ) → AreBits sides words → c < length sides → c / 64 < length words
unfolding row_len
bits_within sides words c b h = let e = b.len in omega (arith, e)

pub few_words : (sides : List (Option Side)) (words : List ℕ) → AreBits sides words → length words < 4294967296
unfolding row_len
few_words sides words b = let e = b.len in let f = b.few in omega (arith, e, f)

pub bits_open : (n : ℕ) (words : List ℕ) (sides : List (Option Side)) → sides ≡ replicate n None → n ≤ 100000 → length words ≡ row_len n → ((k : ℕ) → bit_of words k ≡ nat_lt k n) → AreBits sides words
bits_open n words sides e few len bits = record {
  few = omega (arith, ap (λ (l : List (Option Side)). length l) e, length-replicate {A = Option Side} n None, few);
  bits = λ c. bits c ∙ sym (all_open n c) ∙ sym (ap (λ l. is_open_at l c) e);
  len = len ∙ ap row_len (sym (ap (λ (l : List (Option Side)). length l) e ∙ length-replicate {A = Option Side} n None));
}

pub bits_decide : (sides : List (Option Side)) (words new : List ℕ) (c : ℕ) (side : Side) → AreBits sides words → c < length sides → length new ≡ length words
    → ((k : ℕ) → bit_of new k ≡ (not (eqb k c) && bit_of words k)) → AreBits (set sides c (Some side)) new
bits_decide sides words new c side b h len bits = record {
  few = (let f = b.few in omega (arith, length-set sides c (Some side), f));
  bits = λ k. bits k ∙ ap (λ x. not (eqb k c) && x) (b.bits k) ∙ sym (open_set sides c side k h);
  len = len ∙ b.len ∙ ap row_len (sym (length-set sides c (Some side)));
}

-- what `Sides` keeps
pub held_open : (n : ℕ) (words new : List ℕ) (sides : List (Option Side)) → sides ≡ replicate n None → n ≤ 100000 → words ≡ new → length new ≡ row_len n → ((k : ℕ) → bit_of new k ≡ nat_lt k n)
    → AreBits sides words × (0 ≡ length (filter is_some sides))
held_open n words new sides e few same size bits =
    (subst (AreBits sides) (sym same) (bits_open n new sides e few size bits), sym (ap (λ (l : List (Option Side)). length (filter is_some l)) e ∙ none_decided n))

pub still_open : (sides now : List (Option Side)) (number c : ℕ) → sides ≡ now → number ≡ c → is_open_at now c ≡ true → is_open_at sides number ≡ true
still_open sides now number c e n t = ap (λ l. is_open_at l number) e ∙ ap (is_open_at now) n ∙ t

pub few_decided : (sides : List (Option Side)) (words : List ℕ) (decided : ℕ) → AreBits sides words → decided ≡ length (filter is_some sides) → decided + 1 < 18446744073709551616
few_decided sides words decided b e = let f = b.few in omega (arith, e, f, length-open_from sides 0)

-- the next open choice, by its number
pub made : (o : Option ℕ) (k : ℕ) → k < 100000 → (IsSome o ↔ (k < 100000)) → IfSome o (λ c. c ≡ k) → o ≡ Some k
made None k h some value = absurd (false≢true (some.1 h))
made (Some c) k h some value = ap (λ n. Some n) value

pub next_made : (sides now : List (Option Side)) (words line : List ℕ) (from k : ℕ) (o : Option ℕ) → AreBits sides words → sides ≡ now → line ≡ words → IsNext line from k → (IsSome o ↔ (k < 100000)) → IfSome o (λ c. c ≡ k)
    → MatchOption o (open_past now from ≡ []) (λ c. open_past now from ≡ c ∷ open_past now (c + 1)) × IfSome o (λ c. (from ≤ c) × (c < length now) × (is_open_at now c ≡ true))
next_made sides now words line from k o b same is n some value =
    let m : IsNext words from k = subst (λ (l : List ℕ). IsNext l from k) is n in
    let t : is_open_at sides k ≡ true = next_is_open sides words from k b m in
    let within : k < length sides = open_within sides k t in
    let few = b.few in
    let past = m.past in
    let e = made o k (omega (arith, within, few)) some value in
    subst (λ (l : List (Option Side)). MatchOption o (open_past l from ≡ []) (λ c. open_past l from ≡ c ∷ open_past l (c + 1)) × IfSome o (λ c. (from ≤ c) × (c < length l) × (is_open_at l c ≡ true))) same
    (subst (λ (p : Option ℕ). MatchOption p (open_past sides from ≡ []) (λ c. open_past sides from ≡ c ∷ open_past sides (c + 1)) × IfSome p (λ c. (from ≤ c) × (c < length sides) × (is_open_at sides c ≡ true))) (sym e)
    (next_opens sides words from k b m, (past, within, t)))

pub none_made : (sides now : List (Option Side)) (words line : List ℕ) (from : ℕ) (o : Option ℕ) → AreBits sides words → sides ≡ now → line ≡ words → NoneFrom line from → o ≡ None
    → MatchOption o (open_past now from ≡ []) (λ c. open_past now from ≡ c ∷ open_past now (c + 1))
none_made sides now words line from o b same is n e =
    subst (λ (p : Option ℕ). MatchOption p (open_past now from ≡ []) (λ c. open_past now from ≡ c ∷ open_past now (c + 1))) (sym e)
    (ap (λ l. open_past l from) (sym same) ∙ none_opens sides words from b (subst (λ (l : List ℕ). NoneFrom l from) is n))
