-- Flags of passed choices, and marks.
use Rattle.prune_ledger.proofs.Prelude.{◌≡◌, ◌⊎◌, ℕ, zero, suc, ◌+◌, ◌<◌, ◌≤◌, Bool, true, ◌||◌, List, [], ◌∷◌, ◌++◌, length, get_or, take, Some, refl, sym, ap, ◌∙◌, subst, inl, inr, arith, slice_get, slice_set, map, AllByRecursion}
use Rattle.prune_ledger.proofs.Prelude.{Contains, cases_Bool, take_more, slice_get-get_or, same_Some, Edge, Choice, each_contained, In, Contains-from_In, In-append_left, In-append_right, given_back, IsOpenIn, unrefused, AreOpen}
use Rattle.prune_ledger.proofs.Prelude.{ChoiceState}

-- ---- flags
-- each flag that is set now was set before, or is of a choice in this part
pub record Flagged (old now : List Bool) (part : List ℕ) : Type 0 where
  pub each : (c : ℕ) → slice_get now c ≡ Some true → (slice_get old c ≡ Some true) ⊎ In c part
  pub len : length now ≡ length old

pub flagged_more : (old now next : List Bool) (passed : List ℕ) (k d : ℕ) → k < length passed → d ≡ get_or passed k d → Flagged old now (take k passed)
    → ((c : ℕ) → slice_get next c ≡ Some true → (slice_get now c ≡ Some true) ⊎ (d ≡ c)) → length next ≡ length now → Flagged old next (take (k + 1) passed)
flagged_more old now next passed k d lt is f g len =
    subst (Flagged old next) (ap (λ x. take k passed ++ x ∷ []) is ∙ sym (take_more passed k d lt))
    (record {
      each = λ c h. (elim (g c h) [
        | inl a ↦ (elim (f.each c a) [ inl x ↦ inl x | inr y ↦ inr (In-append_left c (take k passed) (d ∷ []) y) ])
        | inr same ↦ inr (In-append_right c (take k passed) (d ∷ []) (inl same))
      ]);
      len = len ∙ f.len;
    })

pub flagged_contains : (old now : List Bool) (part : List ℕ) → Flagged old now part → (c : ℕ) → slice_get now c ≡ Some true → (slice_get old c ≡ Some true) ⊎ Contains part c
flagged_contains old now part f c h = elim (f.each c h) [ inl a ↦ inl a | inr b ↦ inr (Contains-from_In part c b) ]

pub open_more : (edges : List Edge) (choices : List Choice) (old now : List Bool) (passed : List ℕ) → AreOpen edges choices old → AllByRecursion (IsOpenIn edges choices) passed
    → ((c : ℕ) → slice_get now c ≡ Some true → (slice_get old c ≡ Some true) ⊎ Contains passed c) → AreOpen edges choices now
open_more edges choices old now passed a b f = record { each = λ c h. (elim (f c h) [ inl x ↦ a.each c x | inr y ↦ each_contained (IsOpenIn edges choices) passed c b y ]) }

-- ---- marks that are given back
pub given_part : ℕ → List ChoiceState → List ChoiceState
given_part zero ms = ms
given_part (suc n) [] = []
given_part (suc n) (m ∷ ms) = given_back m ∷ given_part n ms

pub given_none : (ms : List ChoiceState) → given_part 0 ms ≡ ms
unfolding given_part
given_none ms = refl

set_given : (n : ℕ) (ms : List ChoiceState) (m : ChoiceState) → slice_get (given_part n ms) n ≡ Some m → slice_set (given_part n ms) n (given_back m) ≡ given_part (suc n) ms
unfolding given_part
set_given zero [] m e = refl
set_given zero (x ∷ xs) m e = ap (λ (y : ChoiceState). given_back y ∷ xs) (sym (same_Some x m e))
set_given (suc n) [] m e = refl
set_given (suc n) (x ∷ xs) m e = ap (λ l. given_back x ∷ l) (set_given n xs m e)

pub given_more : (n : ℕ) (ms : List ChoiceState) (m : ChoiceState) → slice_get (given_part n ms) n ≡ Some m → slice_set (given_part n ms) n (given_back m) ≡ given_part (n + 1) ms
given_more n ms m e = let s : suc n ≡ n + 1 = omega arith in set_given n ms m e ∙ ap (λ k. given_part k ms) s

pub given_all : (n : ℕ) (ms : List ChoiceState) → length ms ≤ n → given_part n ms ≡ map given_back ms
unfolding given_part
given_all zero [] h = refl
given_all zero (m ∷ ms) h = absurd (omega arith)
given_all (suc n) [] h = refl
given_all (suc n) (m ∷ ms) h = ap (λ l. given_back m ∷ l) (given_all n ms (omega arith))

-- ---- open choices
pub unrefused_each : (P : Choice → Type 0) (ms : List ChoiceState) (hs : List Choice) → AllByRecursion P hs → AllByRecursion P (unrefused ms hs)
unrefused_each P [] hs a = tt
unrefused_each P (m ∷ ms) [] a = tt
unrefused_each P (m ∷ ms) (h ∷ hs) a = elim (cases_Bool (m.one || m.two)) [
  | inl t ↦ rw t (unrefused_each P ms hs a.1)
  | inr f ↦ rw f (a.0, unrefused_each P ms hs a.1)
]

pub unrefused_few : (ms : List ChoiceState) (hs : List Choice) → length (unrefused ms hs) ≤ length hs
unrefused_few [] hs = omega arith
unrefused_few (m ∷ ms) [] = omega arith
unrefused_few (m ∷ ms) (h ∷ hs) = (let i = unrefused_few ms hs in elim (cases_Bool (m.one || m.two)) [
  | inl t ↦ rw t (omega (arith, i))
  | inr f ↦ rw f (omega (arith, i))
])

-- ---- settled choices
pub record SettledTo (k : ℕ) (marks : List ChoiceState) (flags : List Bool) : Type 0 where
  pub each : (c : ℕ) (m : ChoiceState) (f : Bool) → c < k → slice_get marks c ≡ Some m → slice_get flags c ≡ Some f → ((m.one || m.two) || f) ≡ true

pub given_step : (k : ℕ) (ms now : List ChoiceState) (x d : ChoiceState) → now ≡ given_part k ms → k < length now → x ≡ given_back (get_or now k d) → slice_set now k x ≡ given_part (k + 1) ms
given_step k ms now x d is lt e =
    let at : slice_get (given_part k ms) k ≡ Some (get_or now k d) = ap (λ l. slice_get l k) (sym is) ∙ slice_get-get_or now k d lt in
    ap (λ (y : ChoiceState). slice_set now k y) e ∙ ap (λ l. slice_set l k (given_back (get_or now k d))) is ∙ given_more k ms (get_or now k d) at

pub all_from_index : {X : Type 0} (P : X → Type 0) (xs : List X) (n : ℕ) → length xs ≡ n → ((i : ℕ) (d : X) → i < n → P (get_or xs i d)) → AllByRecursion P xs
all_from_index P [] n e f = tt
all_from_index P (x ∷ xs) n e f = (f 0 x (omega (arith, e)), all_from_index P xs (length xs) refl (λ i d lt. f (suc i) d (omega (arith, e, lt))))
