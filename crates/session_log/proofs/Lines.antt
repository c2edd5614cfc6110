-- The lines of a text, by its first LF.
use Rattle.session_log.proofs.Prelude.{◌≡◌, ℕ, ◌+◌, ◌<◌, ◌≤◌, suc, Bool, true, false, not, cond, eqb, List, [], ◌∷◌, ◌++◌, length, take, drop, nat_lt, Some, None, refl, sym, ap, ◌∙◌, arith, ◌==◌, position, subst, eqb-true, and_parts}
use Rattle.session_log.proofs.Prelude.{not-true, ltb-false, position_or_len, list_all, lines, onto_line}
use borrow.Author.Tests.{ltb-true}

abbrev pub is_lf : ℕ → Bool
is_lf b = b == 10

pub lines-cons_lf : (b : ℕ) (bs : List ℕ) → eqb b 10 ≡ true → lines (b ∷ bs) ≡ ([], true) ∷ lines bs
unfolding lines
lines-cons_lf b bs e = rw e refl

pub lines-cons : (b : ℕ) (bs : List ℕ) → eqb b 10 ≡ false → lines (b ∷ bs) ≡ onto_line b (lines bs)
unfolding lines
lines-cons b bs e = rw e refl

pub lines-nil : lines [] ≡ []
unfolding lines
lines-nil = refl

pub take_step : (b j k : ℕ) (bs : List ℕ) → j ≡ suc k → take j (b ∷ bs) ≡ b ∷ take k bs
take_step b j k bs e = ap (λ j. take j (b ∷ bs)) e

pub drop_step : (b j k : ℕ) (bs : List ℕ) → j ≡ suc k → drop j (b ∷ bs) ≡ drop k bs
drop_step b j k bs e = ap (λ j. drop j (b ∷ bs)) e

-- up to the first LF
pub lines_first : (bs : List ℕ) → position_or_len is_lf bs < length bs → lines bs ≡ (take (position_or_len is_lf bs) bs, true) ∷ lines (drop (position_or_len is_lf bs + 1) bs)
lines_first [] h = absurd (omega arith)
lines_first (b ∷ bs) h = go (lines_first bs) (eqb b 10) refl h
  where
    go : (position_or_len is_lf bs < length bs → lines bs ≡ (take (position_or_len is_lf bs) bs, true) ∷ lines (drop (position_or_len is_lf bs + 1) bs)) → (t : Bool) → eqb b 10 ≡ t → position_or_len is_lf (b ∷ bs) < length (b ∷ bs) → lines (b ∷ bs) ≡ (take (position_or_len is_lf (b ∷ bs)) (b ∷ bs), true) ∷ lines (drop (position_or_len is_lf (b ∷ bs) + 1) (b ∷ bs))
    go ih true e h = lines-cons_lf b bs e ∙ rw e refl
    go ih false e h =
        let k : ℕ = position_or_len is_lf bs in
        let small = rw e at h in
        let first = ih (omega arith) in
        lines-cons b bs e ∙ (ap (onto_line b) first ∙ rw e (cc (take_step b (1 + k) k bs (omega arith), drop_step b (1 + k + 1) (k + 1) bs (omega arith))))

pub split_first : (c : ℕ) (bs : List ℕ) → position_or_len (λ b. b == c) bs < length bs → bs ≡ take (position_or_len (λ b. b == c) bs) bs ++ c ∷ drop (position_or_len (λ b. b == c) bs + 1) bs
split_first c [] h = absurd (omega arith)
split_first c (b ∷ bs) h = go (split_first c bs) (eqb b c) refl h
  where
    go : (position_or_len (λ b. b == c) bs < length bs → bs ≡ take (position_or_len (λ b. b == c) bs) bs ++ c ∷ drop (position_or_len (λ b. b == c) bs + 1) bs) → (t : Bool) → eqb b c ≡ t → position_or_len (λ b. b == c) (b ∷ bs) < length (b ∷ bs) → b ∷ bs ≡ take (position_or_len (λ b. b == c) (b ∷ bs)) (b ∷ bs) ++ c ∷ drop (position_or_len (λ b. b == c) (b ∷ bs) + 1) (b ∷ bs)
    go ih true e h = ap (λ x. x ∷ bs) (eqb-true b c e) ∙ rw e refl
    go ih false e h =
        let k : ℕ = position_or_len (λ b. b == c) bs in
        let small = rw e at h in
        let first = ih (omega arith) in
        ap (λ xs. b ∷ xs) first ∙ rw e (cc (take_step b (1 + k) k bs (omega arith), drop_step b (1 + k + 1) (k + 1) bs (omega arith)))

-- with no LF
pub lines_last : (bs : List ℕ) → 0 < length bs → length bs ≤ position_or_len is_lf bs → lines bs ≡ (bs, false) ∷ []
lines_last [] h e = absurd (omega arith)
lines_last (b ∷ bs) h le = go (eqb b 10) (λ a c. lines_last bs a c) refl le
  where
    rest : (xs : List ℕ) → (0 < length xs → length xs ≤ position_or_len is_lf xs → lines xs ≡ (xs, false) ∷ []) → length xs ≤ position_or_len is_lf xs → onto_line b (lines xs) ≡ (b ∷ xs, false) ∷ []
    rest [] ih le = ap (onto_line b) lines-nil
    rest (x ∷ xs) ih le = ap (onto_line b) (ih (omega arith) le)

    go : (t : Bool) → (0 < length bs → length bs ≤ position_or_len is_lf bs → lines bs ≡ (bs, false) ∷ []) → eqb b 10 ≡ t → length (b ∷ bs) ≤ position_or_len is_lf (b ∷ bs) → lines (b ∷ bs) ≡ (b ∷ bs, false) ∷ []
    go true ih e le = let no = rw e at le in absurd (omega arith)
    go false ih e le = let shorter = rw e at le in lines-cons b bs e ∙ rest bs ih (omega arith)

-- what `position` answers, by the first place
position_cases : {X : Type 0} (p : X → Bool) (xs : List X) (t : Bool) → nat_lt (position_or_len p xs) (length xs) ≡ t → (i : ℕ) → Some i ≡ cond t (Some (position_or_len p xs)) None → (position_or_len p xs ≡ i) × (position_or_len p xs < length xs)
position_cases p xs true e i is = (cc, ltb-true (position_or_len p xs) (length xs) e)
position_cases p xs false e i is = cc

pub position_some : {X : Type 0} (p : X → Bool) (xs : List X) (i : ℕ) → Some i ≡ position p xs → (position_or_len p xs ≡ i) × (position_or_len p xs < length xs)
position_some p xs i is = position_cases p xs (nat_lt (position_or_len p xs) (length xs)) refl i is

none_cases : {X : Type 0} (p : X → Bool) (xs : List X) (t : Bool) → nat_lt (position_or_len p xs) (length xs) ≡ t → None ≡ cond t (Some (position_or_len p xs)) None → length xs ≤ position_or_len p xs
none_cases p xs true e is = cc
none_cases p xs false e is = ltb-false (position_or_len p xs) (length xs) e

pub position_none : {X : Type 0} (p : X → Bool) (xs : List X) → None ≡ position p xs → length xs ≤ position_or_len p xs
position_none p xs is = none_cases p xs (nat_lt (position_or_len p xs) (length xs)) refl is

-- at the place that `position` answers
pub lines_at : (bs : List ℕ) (i : ℕ) → Some i ≡ position is_lf bs → lines bs ≡ (take i bs, true) ∷ lines (drop (i + 1) bs)
lines_at bs i is =
    let at = position_some is_lf bs i is in
    rw (← at.0) (lines_first bs at.1)

split_at : (c : ℕ) (bs : List ℕ) (i : ℕ) → Some i ≡ position (λ b. b == c) bs → bs ≡ take i bs ++ c ∷ drop (i + 1) bs
split_at c bs i is =
    let at = position_some (λ b. b == c) bs i is in
    subst (λ j. bs ≡ take j bs ++ c ∷ drop (j + 1) bs) at.0 (split_first c bs at.1)

pub split_at_lf : (bs : List ℕ) (i : ℕ) → Some i ≡ position is_lf bs → bs ≡ take i bs ++ 10 ∷ drop (i + 1) bs
split_at_lf = split_at 10

pub split_at_space : (bs : List ℕ) (i : ℕ) → Some i ≡ position (λ b. b == 32) bs → bs ≡ take i bs ++ 32 ∷ drop (i + 1) bs
split_at_space = split_at 32

pub lines_unended : (bs : List ℕ) → 0 < length bs → None ≡ position is_lf bs → lines bs ≡ (bs, false) ∷ lines []
lines_unended bs h is = lines_last bs h (position_none is_lf bs is) ∙ ap (λ ls. (bs, false) ∷ ls) (sym lines-nil)

-- no line has an LF inside
abbrev pub is_other : ℕ → Bool
is_other b = not (b == 10)

-- a line and its LF
pub lines_line : (body rest : List ℕ) → list_all is_other body ≡ true → lines (body ++ 10 ∷ rest) ≡ (body, true) ∷ lines rest
unfolding lines
lines_line [] rest h = refl
lines_line (b ∷ body) rest h =
    let parts = and_parts (is_other b) (list_all is_other body) h in
    let ne = not-true (b == 10) parts.0 in
    rw (ne, lines_line body rest parts.1) refl
