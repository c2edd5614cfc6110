-- Where words and lines end.
use Rattle.proof_text.proofs.Prelude.{◌≡◌, ℕ, ◌+◌, ◌<◌, ◌≤◌, Bool, true, false, not, List, [], ◌∷◌, length, take, drop, position, Some, None, refl, sym, ap, ◌∙◌, arith, length-drop, ◌==◌, not-false, position_or_len, take_step, drop_step}
use Rattle.proof_text.proofs.Prelude.{position_some, position_none, is_lf, is_blank, onto_first, begins_word, words, lines, stated, is_passed}
use Rattle.std.proofs.lemmas.List.Sums.{prefix_len-le-length}

-- a byte of a word
abbrev pub is_text : ℕ → Bool
is_text b = not (is_blank b)

words_blank : (b : ℕ) (bs : List ℕ) → is_blank b ≡ true → words (b ∷ bs) ≡ words bs
unfolding words
words_blank b bs e = rw e refl

-- behind blanks
pub words_skip : (bs : List ℕ) → words bs ≡ words (drop (position_or_len is_text bs) bs)
words_skip [] = refl
words_skip (b ∷ bs) = go (words_skip bs) (is_blank b) refl
  where
    go : words bs ≡ words (drop (position_or_len is_text bs) bs) → (t : Bool) → is_blank b ≡ t → words (b ∷ bs) ≡ words (drop (position_or_len is_text (b ∷ bs)) (b ∷ bs))
    go ih true e =
        let k : ℕ = position_or_len is_text bs in
        words_blank b bs e ∙ (ih ∙ rw e (ap words (sym (drop_step b (1 + k) k bs (omega arith)))))
    go ih false e = rw e refl

-- a word begins behind them
pub begins_behind : (bs : List ℕ) → 0 < length (drop (position_or_len is_text bs) bs) → begins_word (drop (position_or_len is_text bs) bs) ≡ true
begins_behind [] h = absurd (omega arith)
begins_behind (b ∷ bs) h = go (begins_behind bs) (is_blank b) refl h
  where
    go : (0 < length (drop (position_or_len is_text bs) bs) → begins_word (drop (position_or_len is_text bs) bs) ≡ true) → (t : Bool) → is_blank b ≡ t → 0 < length (drop (position_or_len is_text (b ∷ bs)) (b ∷ bs)) → begins_word (drop (position_or_len is_text (b ∷ bs)) (b ∷ bs)) ≡ true
    go ih true e h =
        let k : ℕ = position_or_len is_text bs in
        let d = drop_step b (1 + k) k bs (omega arith) in
        let small = rw (e, d) at h in
        rw (e, d) (ih small)
    go ih false e h = rw e (rw e refl)

-- no word goes on here
no_more : (xs : List ℕ) → begins_word xs ≡ false → position_or_len is_blank xs ≡ 0
no_more [] f = refl
no_more (x ∷ xs) f = rw (not-false (is_blank x) f) refl

-- up to the first blank
pub words_first : (bs : List ℕ) → begins_word bs ≡ true → words bs ≡ take (position_or_len is_blank bs) bs ∷ words (drop (position_or_len is_blank bs) bs)
unfolding words
words_first [] h = cc
words_first (b ∷ bs) h = go (words_first bs) (is_blank b) (begins_word bs) refl refl h
  where
    go : (begins_word bs ≡ true → words bs ≡ take (position_or_len is_blank bs) bs ∷ words (drop (position_or_len is_blank bs) bs)) → (t s : Bool) → is_blank b ≡ t → begins_word bs ≡ s → not (is_blank b) ≡ true → words (b ∷ bs) ≡ take (position_or_len is_blank (b ∷ bs)) (b ∷ bs) ∷ words (drop (position_or_len is_blank (b ∷ bs)) (b ∷ bs))
    go ih true s e f h = let no = rw e at h in cc
    go ih false true e f h =
        let k : ℕ = position_or_len is_blank bs in
        rw (e, f) (ap (onto_first b) (ih f) ∙ cc (take_step b (1 + k) k bs (omega arith), drop_step b (1 + k) k bs (omega arith)))
    go ih false false e f h =
        let k : ℕ = position_or_len is_blank bs in
        let z = no_more bs f in
        rw (e, f) (cc (take_step b (1 + k) k bs (omega arith), drop_step b (1 + k) k bs (omega arith), z))

-- where `position` answers nothing, and how far it looks
pub position_end : {X : Type 0} (p : X → Bool) (xs : List X) → None ≡ position p xs → length xs ≡ position_or_len p xs
position_end p xs is = omega (arith, position_none p xs is, prefix_len-le-length (λ x. not (p x)) xs)

pub position_within : {X : Type 0} (p : X → Bool) (xs : List X) (n : ℕ) → n ≡ position_or_len p xs → n ≤ length xs
position_within p xs n is = omega (arith, is, prefix_len-le-length (λ x. not (p x)) xs)

-- the first word
pub words_at : (bs from : List ℕ) (i : ℕ) → Some i ≡ position is_text bs → from ≡ drop i bs → words bs ≡ take (position_or_len is_blank from) from ∷ words (drop (position_or_len is_blank from) from)
words_at bs from i found is =
    let at = position_some is_text bs i found in
    let k : ℕ = position_or_len is_text bs in
    let behind : from ≡ drop k bs = is ∙ ap (λ j. drop j bs) (sym at.0) in
    let some : 0 < length (drop k bs) = omega (arith, at.1, length-drop k bs) in
    words_skip bs ∙ rw behind (words_first (drop k bs) (begins_behind bs some))

-- no word
words_over : (bs : List ℕ) → length bs ≤ position_or_len is_text bs → words bs ≡ []
unfolding words
words_over [] h = refl
words_over (b ∷ bs) h = go (words_over bs) (is_blank b) refl h
  where
    go : (length bs ≤ position_or_len is_text bs → words bs ≡ []) → (t : Bool) → is_blank b ≡ t → length (b ∷ bs) ≤ position_or_len is_text (b ∷ bs) → words (b ∷ bs) ≡ []
    go ih true e h = let less = rw e at h in rw e (ih (omega arith))
    go ih false e h = let no = rw e at h in absurd (omega arith)

pub words_none : (bs : List ℕ) → None ≡ position is_text bs → words bs ≡ []
words_none bs none = words_over bs (position_none is_text bs none)

pub stated_passed : (n : ℕ) (l : List ℕ) (ls : List (List ℕ)) → is_passed (words l) ≡ true → stated n (l ∷ ls) ≡ stated (n + 1) ls
unfolding stated
stated_passed n l ls e = rw e refl

pub stated_first : (n : ℕ) (l : List ℕ) (ls : List (List ℕ)) → is_passed (words l) ≡ false → stated n (l ∷ ls) ≡ (n, words l) ∷ stated (n + 1) ls
unfolding stated
stated_first n l ls e = rw e refl

-- nothing stands in an empty text
pub stated_empty : (n : ℕ) (text : List ℕ) → length text ≡ 0 → stated n (lines text) ≡ []
unfolding words lines stated
stated_empty n [] e = refl
stated_empty n (b ∷ bs) e = absurd (omega arith)

-- up to the first line feed
lines_first : (bs : List ℕ) → position_or_len is_lf bs < length bs → lines bs ≡ take (position_or_len is_lf bs) bs ∷ lines (drop (position_or_len is_lf bs + 1) bs)
unfolding lines
lines_first [] h = absurd (omega arith)
lines_first (b ∷ bs) h = go (lines_first bs) (b == 10) refl h
  where
    go : (position_or_len is_lf bs < length bs → lines bs ≡ take (position_or_len is_lf bs) bs ∷ lines (drop (position_or_len is_lf bs + 1) bs)) → (t : Bool) → (b == 10) ≡ t → position_or_len is_lf (b ∷ bs) < length (b ∷ bs) → lines (b ∷ bs) ≡ take (position_or_len is_lf (b ∷ bs)) (b ∷ bs) ∷ lines (drop (position_or_len is_lf (b ∷ bs) + 1) (b ∷ bs))
    go ih true e h = rw e refl
    go ih false e h =
        let k : ℕ = position_or_len is_lf bs in
        let small = rw e at h in
        let first = ih (omega arith) in
        rw e (ap (onto_first b) first ∙ cc (take_step b (1 + k) k bs (omega arith), drop_step b (1 + k + 1) (k + 1) bs (omega arith)))

-- with no line feed
lines_last : (bs : List ℕ) → length bs ≤ position_or_len is_lf bs → lines bs ≡ bs ∷ []
unfolding lines
lines_last [] h = refl
lines_last (b ∷ bs) h = go (lines_last bs) (b == 10) refl h
  where
    go : (length bs ≤ position_or_len is_lf bs → lines bs ≡ bs ∷ []) → (t : Bool) → (b == 10) ≡ t → length (b ∷ bs) ≤ position_or_len is_lf (b ∷ bs) → lines (b ∷ bs) ≡ (b ∷ bs) ∷ []
    go ih true e h = let no = rw e at h in absurd (omega arith)
    go ih false e h =
        let less = rw e at h in
        rw e (ap (onto_first b) (ih (omega arith)))

-- at the place that `position` answers
pub lines_at : (bs : List ℕ) (i : ℕ) → Some i ≡ position is_lf bs → lines bs ≡ take i bs ∷ lines (drop (i + 1) bs)
lines_at bs i is =
    let at = position_some is_lf bs i is in
    rw (← at.0) (lines_first bs at.1)

pub lines_unended : (bs : List ℕ) → None ≡ position is_lf bs → lines bs ≡ bs ∷ []
lines_unended bs none = lines_last bs (position_none is_lf bs none)

-- the same as stated: the empty line behind the last says nothing
pub stated_last : (n : ℕ) (bs line behind : List ℕ) → lines bs ≡ line ∷ [] → length behind ≡ 0 → stated n (lines bs) ≡ stated n (line ∷ lines behind)
unfolding stated
stated_last n bs line behind is none = ap (stated n) is ∙ go (is_passed (words line)) refl
  where
    go : (t : Bool) → is_passed (words line) ≡ t → stated n (line ∷ []) ≡ stated n (line ∷ lines behind)
    go true e = rw e (sym (stated_empty (n + 1) behind none))
    go false e = rw e (ap (λ ls. (n, words line) ∷ ls) (sym (stated_empty (n + 1) behind none)))

-- these lemmas by what they serve
pub ruleset word_cuts = (words_at, words_none, position_within)

pub ruleset line_cuts = (lines_at, lines_unended, stated_last)

pub ruleset line_finds = (stated_empty, stated_first, stated_passed)
