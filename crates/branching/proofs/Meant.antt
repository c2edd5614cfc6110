-- The picks by number of edges are the best of the open choices.
use Rattle.branching.proofs.Prelude.{◌≡◌, ℕ, zero, suc, ◌+◌, ◌<◌, ◌≤◌, Bool, true, false, cond, List, [], ◌∷◌, Option, Some, None, refl, sym, ap, ◌∙◌, subst, inl, inr, arith, nat_lt, cases_Bool, false≢true, ltb-true, ltb-false, le-ltb}
use Rattle.branching.proofs.Prelude.{same_Some, Choice, Has, Side, View, is_open_in, open_from, open_choices, edge_count, has_more, has_fewer, or_better, first_best, most_edges, least_edges, better_is_some, most_is_open, least_is_open}
use Rattle.branching.proofs.Prelude.{is_open_at}
use Rattle.branching.specs.Meant.{HasMost, HasFewest}

-- ---- the open ones are listed, ascending
open_has : (sides : List (Option Side)) (k i : ℕ) → is_open_at sides i ≡ true → Has (k + i) (open_from k sides)
open_has [] k i t = absurd (false≢true t)
open_has (None ∷ xs) k zero t = let e : k ≡ k + 0 = omega arith in inl e
open_has (Some s ∷ xs) k zero t = absurd (false≢true t)
open_has (None ∷ xs) k (suc i) t = let e : k + 1 + i ≡ k + suc i = omega arith in inr (subst (λ n. Has n (open_from (k + 1) xs)) e (open_has xs (k + 1) i t))
open_has (Some s ∷ xs) k (suc i) t = let e : k + 1 + i ≡ k + suc i = omega arith in subst (λ n. Has n (open_from (k + 1) xs)) e (open_has xs (k + 1) i t)

pub listed_in : (v : View) (d : ℕ) → is_open_in v d ≡ true → Has d (open_choices v)
listed_in v d t = let e : 0 + d ≡ d = omega arith in subst (λ n. Has n (open_choices v)) e (open_has v.sides 0 d t)

pub open_above : (sides : List (Option Side)) (k d : ℕ) → Has d (open_from k sides) → k ≤ d
open_above [] k d h = absurd h
open_above (None ∷ xs) k d (inl e) = omega (arith, e)
open_above (None ∷ xs) k d (inr h) = omega (arith, open_above xs (k + 1) d h)
open_above (Some s ∷ xs) k d h = omega (arith, open_above xs (k + 1) d h)

-- ---- the best
-- what is better is not worse, and what is no better than one that is no better than a third is no better than that
record IsOrder (better : ℕ → ℕ → Bool) : Type 0 where
  apart : (b c : ℕ) → better b c ≡ true → better c b ≡ false
  through : (b c d : ℕ) → better b c ≡ false → better c d ≡ false → better b d ≡ false

lt_apart : (m n : ℕ) → nat_lt m n ≡ true → nat_lt n m ≡ false
lt_apart m n t = let lt = ltb-true m n t in le-ltb n m (omega (arith, lt))

le_through : (m n o : ℕ) → nat_lt m n ≡ false → nat_lt n o ≡ false → nat_lt m o ≡ false
le_through m n o f g = let a = ltb-false m n f in let b = ltb-false n o g in le-ltb m o (omega (arith, a, b))

more_order : (choices : List Choice) → IsOrder (has_more choices)
more_order choices = record {
  apart = λ b c t. lt_apart (edge_count choices c) (edge_count choices b) t;
  through = λ b c d f g. le_through (edge_count choices d) (edge_count choices c) (edge_count choices b) g f;
}

fewer_order : (choices : List Choice) → IsOrder (has_fewer choices)
fewer_order choices = record {
  apart = λ b c t. lt_apart (edge_count choices b) (edge_count choices c) t;
  through = λ b c d f g. le_through (edge_count choices b) (edge_count choices c) (edge_count choices d) f g;
}

record IsBest (better : ℕ → ℕ → Bool) (cs : List ℕ) (c : ℕ) : Type 0 where
  best : (d : ℕ) → Has d cs → better d c ≡ false
  first : (d : ℕ) → Has d cs → d < c → better c d ≡ true

-- nothing is better than itself
not_itself : (better : ℕ → ℕ → Bool) → IsOrder better → (k d : ℕ) → d ≡ k → better d k ≡ false
not_itself better o k d e = elim (cases_Bool (better d k)) [
  | inl t ↦ ap (λ n. better n k) e ∙ o.apart k k (ap (λ n. better n k) (sym e) ∙ t)
  | inr f ↦ f
]

best_later : (better : ℕ → ℕ → Bool) → IsOrder better → (k b : ℕ) (rest : List ℕ) → better b k ≡ true → IsBest better rest b → IsBest better (k ∷ rest) b
best_later better o k b rest more best = record {
  best = λ d h. elim h [ inl e ↦ ap (λ n. better n b) (sym e) ∙ o.apart b k more | inr r ↦ best.best d r ];
  first = λ d h lt. elim h [ inl e ↦ ap (better b) (sym e) ∙ more | inr r ↦ best.first d r lt ];
}

-- the first of a list is the best one, where none of the rest is better
best_here : (better : ℕ → ℕ → Bool) → IsOrder better → (k : ℕ) (rest : List ℕ) → ((d : ℕ) → Has d rest → (k + 1 ≤ d) × (better d k ≡ false)) → IsBest better (k ∷ rest) k
best_here better o k rest above = record {
  best = λ d h. elim h [ inl e ↦ not_itself better o k d (sym e) | inr r ↦ (above d r).1 ];
  first = λ d h lt. elim h [ inl e ↦ absurd (omega (arith, e, lt)) | inr r ↦ (let a = (above d r).0 in absurd (omega (arith, a, lt))) ];
}

none_left : (better : ℕ → ℕ → Bool) (cs : List ℕ) → first_best better cs ≡ None → cs ≡ []
none_left better [] e = refl
none_left better (x ∷ xs) e = absurd (better_is_some better x (first_best better xs) e)

best_of : (better : ℕ → ℕ → Bool) → IsOrder better → (k c : ℕ) (rest : List ℕ) (o : Option ℕ) → first_best better rest ≡ o → ((d : ℕ) → Has d rest → k + 1 ≤ d) → ((b : ℕ) → o ≡ Some b → IsBest better rest b) → or_better better k o ≡ Some c → IsBest better (k ∷ rest) c
best_of better order k c rest None e above best t =
    subst (IsBest better (k ∷ rest)) (same_Some k c t) (best_here better order k rest (λ d h. absurd (subst (Has d) (none_left better rest e) h)))
best_of better order k c rest (Some b) e above best t = elim (cases_Bool (better b k)) [
  | inl more ↦
      (let is : b ≡ c = same_Some b c (sym (ap (λ x. cond x (Some b) (Some k)) more) ∙ t) in
      subst (IsBest better (k ∷ rest)) is (best_later better order k b rest more (best b refl)))
  | inr less ↦
      (let is : k ≡ c = same_Some k c (sym (ap (λ x. cond x (Some b) (Some k)) less) ∙ t) in
      subst (IsBest better (k ∷ rest)) is (best_here better order k rest (λ d h. (above d h, order.through d b k ((best b refl).best d h) less))))
]

first_is_best : (better : ℕ → ℕ → Bool) → IsOrder better → (sides : List (Option Side)) (k c : ℕ) → first_best better (open_from k sides) ≡ Some c → IsBest better (open_from k sides) c
first_is_best better o [] k c e = absurd (cc)
first_is_best better o (None ∷ xs) k c e = best_of better o k c (open_from (k + 1) xs) (first_best better (open_from (k + 1) xs)) refl (open_above xs (k + 1)) (λ b s. first_is_best better o xs (k + 1) b s) e
first_is_best better o (Some s ∷ xs) k c e = first_is_best better o xs (k + 1) c e

-- ---- the most, and the fewest
pub most_has_most : (v : View) (c : ℕ) → most_edges v ≡ Some c → HasMost v c
most_has_most v c e =
    let choices = v.polygraph.choices in
    let best = first_is_best (has_more choices) (more_order choices) v.sides 0 c e in
    record {
      free = most_is_open v c e;
      most = λ d t. ltb-false (edge_count choices c) (edge_count choices d) (best.best d (listed_in v d t));
      first = λ d t lt. ltb-true (edge_count choices d) (edge_count choices c) (best.first d (listed_in v d t) lt);
    }

pub least_has_fewest : (v : View) (c : ℕ) → least_edges v ≡ Some c → HasFewest v c
least_has_fewest v c e =
    let choices = v.polygraph.choices in
    let best = first_is_best (has_fewer choices) (fewer_order choices) v.sides 0 c e in
    record {
      free = least_is_open v c e;
      fewest = λ d t. ltb-false (edge_count choices d) (edge_count choices c) (best.best d (listed_in v d t));
      first = λ d t lt. ltb-true (edge_count choices c) (edge_count choices d) (best.first d (listed_in v d t) lt);
    }
