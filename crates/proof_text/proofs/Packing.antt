-- Words, lines and steps of bytes.
use Rattle.proof_text.proofs.Prelude.{◌≡◌, ℕ, ◌+◌, ◌^◌, ◌<◌, ◌≤◌, zero, suc, Bool, true, false, List, [], ◌∷◌, length, take, drop, nat_lt, position, Option, Some, None, refl, sym, ap, ◌∙◌, arith, ◌==◌, ne_eqb, position_or_len}
use Rattle.proof_text.proofs.Prelude.{enumerate_from, OnTrue, then_some, take_step, drop_step, position_some, position_none, Literal, onto_first, first_number, before_zero, with_front, whole, if_whole, literal_of, action_of_word}
use Rattle.proof_text.proofs.Prelude.{binary_words, sevens, signed, binary_number, binary_numbers, is_zero, binary_lines, up_to_zero, behind_line, binary_action, clause_with, binary_step, DratStep, drat_with, steps_by, Number, DratAction}
use Rattle.std.proofs.lemmas.Slice.Eq.{bytes_eq-Decides}
use Rattle.std.specs.Str.{bytes_eq}
use Rattle.std.specs.Option.{OnSome}
use Rattle.proof_text.proofs.Stepping.{drat_is}
use Rattle.proof_text.proofs.UpToZero.{read_steps}

abbrev pub is_last : ℕ → Bool
is_last b = nat_lt b 128

pub binary_nil : (bs : List ℕ) → length bs ≡ 0 → binary_words bs ≡ []
unfolding binary_words
binary_nil [] e = refl
binary_nil (b ∷ bs) e = absurd (omega arith)

-- up to the first byte that ends a word
words_first : (bs : List ℕ) → position_or_len is_last bs < length bs → binary_words bs ≡ take (position_or_len is_last bs + 1) bs ∷ binary_words (drop (position_or_len is_last bs + 1) bs)
unfolding binary_words
words_first [] h = absurd (omega arith)
words_first (b ∷ bs) h = go (words_first bs) (nat_lt b 128) refl h
  where
    go : (position_or_len is_last bs < length bs → binary_words bs ≡ take (position_or_len is_last bs + 1) bs ∷ binary_words (drop (position_or_len is_last bs + 1) bs)) → (t : Bool) → nat_lt b 128 ≡ t → position_or_len is_last (b ∷ bs) < length (b ∷ bs) → binary_words (b ∷ bs) ≡ take (position_or_len is_last (b ∷ bs) + 1) (b ∷ bs) ∷ binary_words (drop (position_or_len is_last (b ∷ bs) + 1) (b ∷ bs))
    go ih true e h = rw e refl
    go ih false e h =
        let k : ℕ = position_or_len is_last bs in
        let small = rw e at h in
        let first = ih (omega arith) in
        rw e (ap (onto_first b) first ∙ (cc (take_step b (1 + k + 1) (k + 1) bs (omega arith), drop_step b (1 + k + 1) (k + 1) bs (omega arith))))

-- with no such byte
words_last : (bs : List ℕ) → 0 < length bs → length bs ≤ position_or_len is_last bs → binary_words bs ≡ bs ∷ []
unfolding binary_words
words_last [] h le = absurd (omega arith)
words_last (b ∷ bs) h le = go (nat_lt b 128) (λ a c. words_last bs a c) refl le
  where
    rest : (xs : List ℕ) → (0 < length xs → length xs ≤ position_or_len is_last xs → binary_words xs ≡ xs ∷ []) → length xs ≤ position_or_len is_last xs → onto_first b (binary_words xs) ≡ (b ∷ xs) ∷ []
    rest [] ih le = refl
    rest (x ∷ xs) ih le = ap (onto_first b) (ih (omega arith) le)

    go : (t : Bool) → (0 < length bs → length bs ≤ position_or_len is_last bs → binary_words bs ≡ bs ∷ []) → nat_lt b 128 ≡ t → length (b ∷ bs) ≤ position_or_len is_last (b ∷ bs) → binary_words (b ∷ bs) ≡ (b ∷ bs) ∷ []
    go true ih e le = let no = rw e at le in absurd (omega arith)
    go false ih e le = let less = rw e at le in rw e (rest bs ih (omega arith))

pub binary_at : (bs : List ℕ) (i : ℕ) → Some i ≡ position is_last bs → binary_words bs ≡ take (i + 1) bs ∷ binary_words (drop (i + 1) bs)
binary_at bs i is =
    let at = position_some is_last bs i is in
    rw (← at.0) (words_first bs at.1)

pub binary_unended : (bs : List ℕ) → 0 < length bs → None ≡ position is_last bs → binary_words bs ≡ bs ∷ binary_words []
binary_unended bs h none = words_last bs h (position_none is_last bs none) ∙ ap (λ ws. bs ∷ ws) (sym (binary_nil [] refl))

-- no more words than bytes
pub binary_fewer : (bs : List ℕ) → length (binary_words bs) ≤ length bs
unfolding binary_words
binary_fewer [] = omega arith
binary_fewer (b ∷ bs) = go (nat_lt b 128) refl (binary_fewer bs)
  where
    onto : (ws : List (List ℕ)) → length (onto_first b ws) ≤ length ws + 1
    onto [] = omega arith
    onto (w ∷ ws) = omega arith

    go : (t : Bool) → nat_lt b 128 ≡ t → length (binary_words bs) ≤ length bs → length (binary_words (b ∷ bs)) ≤ length (b ∷ bs)
    go true e ih = rw e (omega arith)
    go false e ih = rw e (omega (arith, onto (binary_words bs)))

-- so many bytes of seven bits
pub sevens_fit : (bs : List ℕ) (n : ℕ) → length bs ≤ n → sevens bs < 128 ^ n
unfolding sevens
sevens_fit [] zero h = omega arith
sevens_fit (b ∷ bs) zero h = absurd (omega arith)
sevens_fit [] (suc n) h = omega (arith, sevens_fit [] n (omega arith))
sevens_fit (b ∷ bs) (suc n) h =
    let ih = sevens_fit bs n (omega arith) in
    omega (arith, ih)

up_more : (w : List ℕ) (ws : List (List ℕ)) → is_zero (binary_number w) ≡ false → up_to_zero (w ∷ ws) ≡ w ∷ up_to_zero ws
unfolding up_to_zero
up_more w ws e = rw e refl

-- the first line, and those behind it
pub lines_cut : (ws : List (List ℕ)) → 0 < length ws → binary_lines ws ≡ up_to_zero ws ∷ binary_lines (behind_line ws)
unfolding binary_lines up_to_zero behind_line
lines_cut [] h = absurd (omega arith)
lines_cut (w ∷ ws) h = go (is_zero (binary_number w)) refl (λ some. lines_cut ws some)
  where
    rest : (vs : List (List ℕ)) → (0 < length vs → binary_lines vs ≡ up_to_zero vs ∷ binary_lines (behind_line vs)) → onto_first w (binary_lines vs) ≡ (w ∷ up_to_zero vs) ∷ binary_lines (behind_line vs)
    rest [] ih = refl
    rest (v ∷ vs) ih = ap (onto_first w) (ih (omega arith))

    go : (t : Bool) → is_zero (binary_number w) ≡ t → (0 < length ws → binary_lines ws ≡ up_to_zero ws ∷ binary_lines (behind_line ws)) → binary_lines (w ∷ ws) ≡ up_to_zero (w ∷ ws) ∷ binary_lines (behind_line (w ∷ ws))
    go true e ih = rw e refl
    go false e ih = rw e (rest ws ih)

pub behind_fewer : (ws : List (List ℕ)) → 0 < length ws → length (behind_line ws) + 1 ≤ length ws
unfolding behind_line
behind_fewer [] h = absurd (omega arith)
behind_fewer (w ∷ ws) h = go (is_zero (binary_number w)) refl (λ some. behind_fewer ws some)
  where
    rest : (vs : List (List ℕ)) → (0 < length vs → length (behind_line vs) + 1 ≤ length vs) → length (behind_line vs) ≤ length vs
    rest [] ih = omega arith
    rest (v ∷ vs) ih = omega (arith, ih (omega arith))

    go : (t : Bool) → is_zero (binary_number w) ≡ t → (0 < length ws → length (behind_line ws) + 1 ≤ length ws) → length (behind_line (w ∷ ws)) + 1 ≤ length (w ∷ ws)
    go true e ih = rw e (omega arith)
    go false e ih = rw e (omega (arith, rest ws ih))

-- the items that were read, whatever is left
abbrev pub items : {A B : Type 0} → Option (List A × B) → Option (List A)
items None = None
items (Some m) = Some m.0

front_same : {A : Type 0} (o : Option A) (m k : Option (List A × List (Option Number))) → whole m ≡ items k → whole (with_front o m) ≡ items (with_front o k)
front_same None m k e = refl
front_same (Some x) None None e = refl
front_same (Some x) None (Some k) e = cc
front_same {A = A} (Some x) (Some m) k e = go m.0 m.1 k e
  where
    go : (ls : List A) (ms : List (Option Number)) (k : Option (List A × List (Option Number))) → if_whole ls ms ≡ items k → if_whole (x ∷ ls) ms ≡ items (with_front (Some x) k)
    go ls [] None e = cc
    go ls [] (Some k) e = cc
    go ls (y ∷ ys) None e = refl
    go ls (y ∷ ys) (Some k) e = cc

-- of the first line the 0 stands last
pub whole_line : {A : Type 0} (f : Number → Option A) (ws : List (List ℕ)) → whole (before_zero f (binary_numbers (up_to_zero ws))) ≡ items (before_zero f (binary_numbers ws))
unfolding up_to_zero before_zero
whole_line f [] = refl
whole_line f (w ∷ ws) = go (binary_number w) refl (whole_line f ws)
  where
    go : (n : Option Number) → binary_number w ≡ n → whole (before_zero f (binary_numbers (up_to_zero ws))) ≡ items (before_zero f (binary_numbers ws)) → whole (before_zero f (binary_numbers (up_to_zero (w ∷ ws)))) ≡ items (before_zero f (binary_numbers (w ∷ ws)))
    go None e ih = rw (ap is_zero e, e) refl
    go (Some n) e ih = sized (n.size == 0) refl
      where
        sized : (t : Bool) → (n.size == 0) ≡ t → whole (before_zero f (binary_numbers (up_to_zero (w ∷ ws)))) ≡ items (before_zero f (binary_numbers (w ∷ ws)))
        sized true z = rw (ap is_zero e ∙ z, e, z) refl
        sized false z = rw (ap is_zero e ∙ z, e, z) (front_same (f n) (before_zero f (binary_numbers (up_to_zero ws))) (before_zero f (binary_numbers ws)) ih)

-- behind a word that is taken
pub behind_at_zero : (old new : List (List ℕ)) (n : Number) → Some n ≡ first_number (binary_numbers old) → new ≡ drop 1 old → n.size ≡ 0 → behind_line old ≡ new
unfolding behind_line
behind_at_zero [] new n e is none = cc
behind_at_zero (w ∷ ws) new n e is none = rw (ap is_zero (sym e) ∙ ap (λ k. k == 0) none) (sym is)

pub behind_at_more : (old new : List (List ℕ)) (n : Number) → Some n ≡ first_number (binary_numbers old) → new ≡ drop 1 old → (n.size ≡ 0 → ⊥) → behind_line old ≡ behind_line new
unfolding behind_line
behind_at_more [] new n e is ne = cc
behind_at_more (w ∷ ws) new n e is ne = rw (ap is_zero (sym e) ∙ ne_eqb n.size 0 ne) (ap behind_line (sym is))

-- the first word of the first line is that of all
first_action : (ws : List (List ℕ)) → binary_action (up_to_zero ws) ≡ binary_action ws
unfolding up_to_zero
first_action [] = refl
first_action (w ∷ ws) = go (is_zero (binary_number w)) refl
  where
    go : (t : Bool) → is_zero (binary_number w) ≡ t → binary_action (up_to_zero (w ∷ ws)) ≡ binary_action (w ∷ ws)
    go true e = rw e refl
    go false e = rw e refl

pub step_none : (v : ℕ) (ws : List (List ℕ)) → None ≡ binary_action ws → binary_step v (up_to_zero ws) ≡ None
unfolding binary_step clause_with
step_none v ws none = ap (clause_with v (binary_numbers (drop 1 (up_to_zero ws)))) (first_action ws ∙ sym none)

letter_a : is_zero (binary_number (97 ∷ [])) ≡ false
unfolding binary_number sevens signed
letter_a = refl

letter_d : is_zero (binary_number (100 ∷ [])) ≡ false
unfolding binary_number sevens signed
letter_d = refl

-- neither `a` nor `d` is a 0
action_word : (w : List ℕ) (action : DratAction) → Some action ≡ action_of_word w → is_zero (binary_number w) ≡ false
action_word w action e = go (bytes_eq w (97 ∷ [])) (bytes_eq w (100 ∷ [])) refl refl
  where
    go : (t s : Bool) → bytes_eq w (97 ∷ []) ≡ t → bytes_eq w (100 ∷ []) ≡ s → is_zero (binary_number w) ≡ false
    go true s a d = ap (λ u. is_zero (binary_number u)) ((bytes_eq-Decides w (97 ∷ [])).0 a) ∙ letter_a
    go false true a d = ap (λ u. is_zero (binary_number u)) ((bytes_eq-Decides w (100 ∷ [])).0 d) ∙ letter_d
    go false false a d = let no = rw (a, d) at e in cc

items_read : {A B : Type 0} (m : Option (List A × List B)) (read : Bool) (xs : List A) (ys : List B) → m ≡ then_some read (xs, ys) → items m ≡ then_some read xs
items_read m true xs ys e = ap items e
items_read m false xs ys e = ap items e

pub step_read : (v : ℕ) (ws mid : List (List ℕ)) (action : DratAction) (read : Bool) (literals : List Literal) (left : List (Option Number)) → Some action ≡ binary_action ws → mid ≡ drop 1 ws → before_zero (literal_of v) (binary_numbers mid) ≡ then_some read (literals, left) → binary_step v (up_to_zero ws) ≡ drat_with (then_some read action) literals
unfolding binary_step clause_with
step_read v [] mid action read literals left a is e = cc
step_read v (w ∷ ws) mid action read literals left a is e =
    let found : whole (before_zero (literal_of v) (binary_numbers (up_to_zero ws))) ≡ then_some read literals =
    whole_line (literal_of v) ws ∙ items_read (before_zero (literal_of v) (binary_numbers ws)) read literals left (ap (λ us. before_zero (literal_of v) (binary_numbers us)) (sym is) ∙ e) in
    ap (binary_step v) (up_more w ws (action_word w action a)) ∙ (ap (clause_with v (binary_numbers (up_to_zero ws))) (sym a) ∙ drat_is v action (binary_numbers (up_to_zero ws)) read literals found)

pub behind_read : (ws mid : List (List ℕ)) (action : DratAction) → Some action ≡ binary_action ws → mid ≡ drop 1 ws → behind_line mid ≡ behind_line ws
unfolding behind_line
behind_read [] mid action a is = cc
behind_read (w ∷ ws) mid action a is = ap behind_line is ∙ rw (action_word w action a) refl

pub where_read : {X : Type 0} (read : Bool) (x : X) (a b c : List (List ℕ)) → OnTrue read (a ≡ b) → b ≡ c → OnSome (then_some read x) (a ≡ c)
where_read true x a b c h e = h ∙ e
where_read false x a b c h e = tt

some_words : (bs : List ℕ) → 0 < length bs → 0 < length (binary_words bs)
unfolding binary_words
some_words [] h = absurd (omega arith)
some_words (b ∷ bs) h = go (nat_lt b 128) refl
  where
    onto : (ws : List (List ℕ)) → 0 < length (onto_first b ws)
    onto [] = omega arith
    onto (w ∷ ws) = omega arith

    go : (t : Bool) → nat_lt b 128 ≡ t → 0 < length (binary_words (b ∷ bs))
    go true e = rw e (omega arith)
    go false e = rw e (onto (binary_words bs))

-- the numbered steps of bytes, the first line of which has this number
abbrev pub steps_at : ℕ → ℕ → List (List ℕ) → List (ℕ × Option DratStep)
steps_at v n ws = steps_by (binary_step v) (enumerate_from n (binary_lines ws))

pub steps_none : (v n : ℕ) (bytes : List ℕ) → length bytes ≡ 0 → steps_at v n (binary_words bytes) ≡ []
unfolding binary_lines
steps_none v n bytes e = ap (steps_at v n) (binary_nil bytes e)

pub steps_first : (v n : ℕ) (bytes : List ℕ) (words : List (List ℕ)) (step : Option DratStep) → 0 < length bytes → words ≡ binary_words bytes → binary_step v (up_to_zero words) ≡ step → steps_at v n (binary_words bytes) ≡ (n, step) ∷ steps_at v (n + 1) (behind_line words)
steps_first v n bytes words step some is e =
    let many : 0 < length words = omega (arith, some_words bytes some, ap length is) in
    ap (steps_at v n) (sym is) ∙ (ap (λ ls. steps_by (binary_step v) (enumerate_from n ls)) (lines_cut words many) ∙ ap (λ o. (n, o) ∷ steps_at v (n + 1) (behind_line words)) e)

pub behind_within : (bytes : List ℕ) (words new : List (List ℕ)) (n limit : ℕ) → 0 < length bytes → words ≡ binary_words bytes → new ≡ behind_line words → n + length (binary_words bytes) ≤ limit → n + 1 + length new ≤ limit
behind_within bytes words new n limit some is left h =
    let many : 0 < length words = omega (arith, some_words bytes some, ap length is) in
    omega (arith, behind_fewer words many, ap length is, ap length left)

-- these lemmas by what they serve
pub ruleset word_cuts = (binary_nil, binary_at, binary_unended)

pub ruleset line_steps = (read_steps, behind_at_zero, behind_at_more)

pub ruleset steps_read = (step_none, step_read, behind_read, where_read)

pub ruleset lines_read = (steps_none, steps_first, behind_within)
