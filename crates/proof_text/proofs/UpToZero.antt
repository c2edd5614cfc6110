-- Reading up to a 0.
use Rattle.proof_text.proofs.Prelude.{◌≡◌, ℕ, true, false, List, [], ◌∷◌, ◌++◌, map, drop, Option, Some, None, refl, sym, ap, ◌∙◌, append_assoc, ◌==◌, ne_eqb, append-nil, number_of, numbers_of, first_number, before_zero, with_front}
use Rattle.proof_text.proofs.Prelude.{behind_zero, Number}

-- what is read behind these
abbrev pub behind : {A B : Type 0} → List A → Option (List A × B) → Option (List A × B)
behind xs None = None
behind xs (Some m) = Some (xs ++ m.0, m.1)

zero_is : {A : Type 0} (f : Number → Option A) (n : Number) (ns : List (Option Number)) → (n.size == 0) ≡ true → before_zero f (Some n ∷ ns) ≡ Some ([], ns)
unfolding before_zero
zero_is f n ns e = rw e refl

more_is : {A : Type 0} (f : Number → Option A) (n : Number) (ns : List (Option Number)) → (n.size == 0) ≡ false → before_zero f (Some n ∷ ns) ≡ with_front (f n) (before_zero f ns)
unfolding before_zero
more_is f n ns e = rw e refl

none_is : {A : Type 0} (f : Number → Option A) (ns : List (Option Number)) → None ≡ first_number ns → before_zero f ns ≡ None
unfolding before_zero
none_is f [] e = refl
none_is f (None ∷ ns) e = refl
none_is f (Some n ∷ ns) e = cc

-- the numbers, when one was taken
pub taken : (number : List ℕ → Option Number) (old new : List (List ℕ)) (n : Number) → Some n ≡ first_number (map number old) → new ≡ drop 1 old → map number old ≡ Some n ∷ map number new
taken number [] new n e is = cc
taken number (w ∷ ws) new n e is = cc

behind_more : {A B : Type 0} (xs : List A) (x : A) (m : Option (List A × B)) → behind xs (with_front (Some x) m) ≡ behind (xs ++ x ∷ []) m
behind_more xs x None = refl
behind_more xs x (Some m) = ap (λ ys. Some (ys, m.1)) (sym (append_assoc xs (x ∷ []) m.0))

module _ {A : Type 0} (number : List ℕ → Option Number) (f : Number → Option A) (all : List (Option Number)) (xs : List A) (old new : List (List ℕ)) (so_far : before_zero f all ≡ behind xs (before_zero f (map number old))) where
  -- no number is next
  pub at_end : None ≡ first_number (map number old) → before_zero f all ≡ None
  at_end none = so_far ∙ ap (behind xs) (none_is f (map number old) none)

  -- a 0
  pub at_zero : (n : Number) → Some n ≡ first_number (map number old) → new ≡ drop 1 old → n.size ≡ 0 → before_zero f all ≡ Some (xs, map number new)
  at_zero n first is zero =
      let nums = taken number old new n first is in
      let there = zero_is f n (map number new) (ap (λ k. k == 0) zero) in
      so_far ∙ (ap (λ ns. behind xs (before_zero f ns)) nums ∙ (ap (behind xs) there ∙ ap (λ ys. Some (ys, map number new)) (append-nil xs)))

  -- a number that stands for nothing
  pub at_bad : (n : Number) → Some n ≡ first_number (map number old) → new ≡ drop 1 old → (n.size ≡ 0 → ⊥) → None ≡ f n → before_zero f all ≡ None
  at_bad n first is ne bad =
      let nums = taken number old new n first is in
      let there = more_is f n (map number new) (ne_eqb n.size 0 ne) in
      so_far ∙ (ap (λ ns. behind xs (before_zero f ns)) nums ∙ (ap (behind xs) there ∙ ap (λ o. behind xs (with_front o (before_zero f (map number new)))) (sym bad)))

  -- one that stands for something
  pub at_item : (n : Number) (x : A) (ys : List A) → Some n ≡ first_number (map number old) → new ≡ drop 1 old → (n.size ≡ 0 → ⊥) → Some x ≡ f n → ys ≡ xs ++ x ∷ [] → before_zero f all ≡ behind ys (before_zero f (map number new))
  at_item n x ys first is ne good pushed =
      let nums = taken number old new n first is in
      let there = more_is f n (map number new) (ne_eqb n.size 0 ne) in
      so_far ∙ (ap (λ ns. behind xs (before_zero f ns)) nums ∙ (ap (behind xs) there ∙ (ap (λ o. behind xs (with_front o (before_zero f (map number new)))) (sym good) ∙ (behind_more xs x (before_zero f (map number new)) ∙ ap (λ zs. behind zs (before_zero f (map number new))) (sym pushed)))))

behind_zero_none : (ns : List (Option Number)) → None ≡ first_number ns → behind_zero ns ≡ None
unfolding behind_zero
behind_zero_none [] e = refl
behind_zero_none (None ∷ ns) e = refl
behind_zero_none (Some n ∷ ns) e = cc

-- behind a 0
pub pass_none : (old : List (List ℕ)) → None ≡ first_number (numbers_of old) → behind_zero (numbers_of old) ≡ None
pass_none old none = behind_zero_none (numbers_of old) none

pub pass_zero : (old new : List (List ℕ)) (n : Number) → Some n ≡ first_number (numbers_of old) → new ≡ drop 1 old → n.size ≡ 0 → behind_zero (numbers_of old) ≡ Some (numbers_of new)
unfolding behind_zero
pass_zero old new n first is zero = ap behind_zero (taken number_of old new n first is) ∙ rw (ap (λ k. k == 0) zero) refl

pub pass_more : (old new : List (List ℕ)) (n : Number) → Some n ≡ first_number (numbers_of old) → new ≡ drop 1 old → (n.size ≡ 0 → ⊥) → behind_zero (numbers_of old) ≡ behind_zero (numbers_of new)
unfolding behind_zero
pass_more old new n first is ne = ap behind_zero (taken number_of old new n first is) ∙ rw (ne_eqb n.size 0 ne) refl

-- the ways in which reading, or passing, up to a 0 goes on
pub ruleset pass_steps = (pass_none, pass_zero, pass_more)

pub ruleset read_steps = (at_end, at_zero, at_bad, at_item)
