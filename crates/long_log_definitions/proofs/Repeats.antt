-- The first number of a list that stood before.
use Rattle.std.proofs.Common.{◌≡◌, ◌⊎◌, inl, inr, ℕ, Bool, true, false, cond, List, [], ◌∷◌, ◌++◌, Some, None, refl, sym, ap, ◌∙◌, nat_eq}
use Rattle.std.specs.List.{list_any}
use Rattle.std.proofs.lemmas.Bool.{cond-false, false≢true}
use Rattle.serializability.proofs.Places.{Has, Apart, Has-append_front, Has-append_back, Has-append_cases}
use Rattle.serializability.proofs.Listed.{Has-from_any, any-from_Has}
use Rattle.log_definitions.specs.WellFormed.{repeated}
use Rattle.log_definitions.proofs.Scanning.{numbers}

-- none of them is among those that were seen
abbrev pub AreNew : List ℕ → List (ℕ × ℕ) → Type 0
AreNew seen xs = (w : ℕ) → Has w (numbers xs) → Has w seen → ⊥

unseen : (seen : List ℕ) (n : ℕ) → (Has n seen → ⊥) → list_any (nat_eq n) seen ≡ false
unseen seen n h = go (list_any (nat_eq n) seen) refl
  where
    go : (b : Bool) → list_any (nat_eq n) seen ≡ b → b ≡ false
    go true e = absurd (h (Has-from_any n seen e))
    go false e = refl

pub apart_where_none : (seen : List ℕ) (xs : List (ℕ × ℕ)) → repeated seen xs ≡ None → Apart (numbers xs) × AreNew seen xs
apart_where_none seen [] e = (tt, λ w h k. h)
apart_where_none seen (x ∷ xs) e = go (list_any (nat_eq x.1) seen) refl e (apart_where_none (seen ++ x.1 ∷ []) xs)
  where
    go : (b : Bool) → list_any (nat_eq x.1) seen ≡ b → cond b (Some x.0) (repeated (seen ++ x.1 ∷ []) xs) ≡ None → (repeated (seen ++ x.1 ∷ []) xs ≡ None → Apart (numbers xs) × AreNew (seen ++ x.1 ∷ []) xs) → Apart (numbers (x ∷ xs)) × AreNew seen (x ∷ xs)
    go true f e ih = cc
    go false f e ih =
        let later = ih e in
        (((λ h. later.1 x.1 h (Has-append_back x.1 seen (x.1 ∷ []) (inl refl))), later.0), new later.1)
      where
        new : AreNew (seen ++ x.1 ∷ []) xs → AreNew seen (x ∷ xs)
        new later w (inl same) k = false≢true (sym f ∙ (ap (λ n. list_any (nat_eq n) seen) same ∙ any-from_Has w seen k))
        new later w (inr h) k = later w h (Has-append_front w seen (x.1 ∷ []) k)

pub none_where_apart : (seen : List ℕ) (xs : List (ℕ × ℕ)) → Apart (numbers xs) → AreNew seen xs → repeated seen xs ≡ None
none_where_apart seen [] a new = refl
none_where_apart seen (x ∷ xs) a new =
    cond-false (list_any (nat_eq x.1) seen) (Some x.0) (repeated (seen ++ x.1 ∷ []) xs) (unseen seen x.1 (new x.1 (inl refl)))
    ∙ none_where_apart (seen ++ x.1 ∷ []) xs a.1 later
  where
    later : AreNew (seen ++ x.1 ∷ []) xs
    later w h k = elim (Has-append_cases w seen (x.1 ∷ []) k) [
      | inl s ↦ new w (inr h) s
      | inr (inl same) ↦ a.0 (rw same h)
      | inr (inr none) ↦ none
    ]

-- the list up to the first number that stood before, and behind it
pub record IsFirstRepeated (seen : List ℕ) (xs : List (ℕ × ℕ)) (n : ℕ) : Type 0 where
  pub front : List (ℕ × ℕ)
  pub number : ℕ
  pub back : List (ℕ × ℕ)
  pub whole : xs ≡ front ++ (n, number) ∷ back
  pub apart : Apart (numbers front)
  pub new : AreNew seen front
  pub stood : Has number seen ⊎ Has number (numbers front)

pub first_where_some : (seen : List ℕ) (xs : List (ℕ × ℕ)) (n : ℕ) → repeated seen xs ≡ Some n → IsFirstRepeated seen xs n
first_where_some seen [] n e = cc
first_where_some seen (x ∷ xs) n e = go (list_any (nat_eq x.1) seen) refl e (first_where_some (seen ++ x.1 ∷ []) xs n)
  where
    go : (b : Bool) → list_any (nat_eq x.1) seen ≡ b → cond b (Some x.0) (repeated (seen ++ x.1 ∷ []) xs) ≡ Some n → (repeated (seen ++ x.1 ∷ []) xs ≡ Some n → IsFirstRepeated (seen ++ x.1 ∷ []) xs n) → IsFirstRepeated seen (x ∷ xs) n
    go true f e ih = let same : x.0 ≡ n = cc in record {
      front = [];
      number = x.1;
      back = xs;
      whole = ap (λ k. (k, x.1) ∷ xs) same;
      apart = tt;
      new = λ w h k. h;
      stood = inl (Has-from_any x.1 seen f);
    }
    go false f e ih = let later = ih e in record {
      front = x ∷ later.front;
      number = later.number;
      back = later.back;
      whole = ap (λ l. x ∷ l) later.whole;
      apart = ((λ h. later.new x.1 h (Has-append_back x.1 seen (x.1 ∷ []) (inl refl))), later.apart);
      new = new later.front later.new;
      stood = stood later.number later.front later.stood;
    }
      where
        new : (front : List (ℕ × ℕ)) → AreNew (seen ++ x.1 ∷ []) front → AreNew seen (x ∷ front)
        new front later w (inl same) k = false≢true (sym f ∙ (ap (λ n. list_any (nat_eq n) seen) same ∙ any-from_Has w seen k))
        new front later w (inr h) k = later w h (Has-append_front w seen (x.1 ∷ []) k)

        stood : (w : ℕ) (front : List (ℕ × ℕ)) → Has w (seen ++ x.1 ∷ []) ⊎ Has w (numbers front) → Has w seen ⊎ Has w (numbers (x ∷ front))
        stood w front (inl h) = elim (Has-append_cases w seen (x.1 ∷ []) h) [
          | inl s ↦ inl s
          | inr (inl same) ↦ inr (inl same)
          | inr (inr none) ↦ absurd none
        ]
        stood w front (inr h) = inr (inr h)
