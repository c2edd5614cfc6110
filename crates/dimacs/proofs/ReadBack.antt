-- The answer that lists an assignment is read back.
use Rattle.dimacs.proofs.Prelude.{◌≡◌, ℕ, zero, suc, ◌+◌, ◌-◌, ◌^◌, ◌<◌, ◌≤◌, Bool, true, false, not, cond, List, [], ◌∷◌, ◌++◌, length, get_or, Some, None, refl, ap, ◌∙◌, arith, append-nil, length-append, IsWithin, codes, decimal, filter}
use Rattle.dimacs.proofs.Prelude.{map, nat_lt, ◌==◌, ◌||◌, All, AllByRecursion, flat_map, range_with_len, slice_split, strip_carriage_return, digits_value, ne_eqb, eq-eqb, lt-ltb, le-ltb, and_from, or_from, decimal_nonempty, first_decimal}
use Rattle.dimacs.proofs.Prelude.{digits_decimal, digits_value-decimal, get_or_at, same_lists, length-map-range_with_len, get_or-map-range_with_len, slice_split_at, and-false, Literal, Unclosed, literal_text, clause_text, Item, Claim}
use Rattle.dimacs.proofs.Prelude.{Given, Zero, is_blank, is_number, signed_item, number_item, status_named, words, line_items, lines_of, items_of, status, mentions, is_closed, item_fault, line_fault, first_fault, answer_fault, assignment}
use Rattle.dimacs.proofs.Prelude.{assignment_of, status_of}
use Rattle.std.specs.Bool.{beq}
use Rattle.dimacs.specs.declared.status.Status.TheVariants.{Satisfiable}
use Rattle.dimacs.specs.Models.{literals_of, model_text}
use Rattle.session_log.proofs.Digits.{own}
use Rattle.dimacs.proofs.Items.{literal, pushed_mention, other_variable, numbered_closed}
use Rattle.dimacs.proofs.Takings.{late_fault}
use Rattle.dimacs.proofs.Texts.{Avoids, body, word, literal_avoids, zero_avoids, body_avoids_lf, words_of_body, clause_text-body}
use Rattle.dimacs.proofs.Cuts.{is_lf}

-- ---- words
digits_item : (p : Bool) (n : ℕ) → 0 < n → n < 2 ^ 64 → signed_item p (decimal n) ≡ Given (literal p n)
digits_item p n some small =
    let number : is_number (decimal n) ≡ true = and_from _ _ (lt-ltb 0 (length (decimal n)) (decimal_nonempty n small)) (digits_decimal own n small) in
    let value : digits_value 10 (decimal n) ≡ n = digits_value-decimal own n small in
    let nonzero : (digits_value 10 (decimal n) == 0) ≡ false = ne_eqb (digits_value 10 (decimal n)) 0 (λ e. absurd (omega arith)) in
    rw (number, nonzero) (ap (λ v. Given (literal p v)) value)

signed_word : (p : Bool) (n : ℕ) → 0 < n → n < 2 ^ 64 → number_item (cond p (decimal n) (45 ∷ decimal n)) ≡ Given (literal p n)
unfolding number_item
signed_word true n some small =
    let first : (get_or (decimal n) 0 0 == 45) ≡ false = ne_eqb (get_or (decimal n) 0 0) 45 (λ e. absurd (omega (arith, first_decimal n some small))) in
    rw first (digits_item true n some small)
signed_word false n some small = digits_item false n some small

zero_word : number_item (48 ∷ []) ≡ Zero
unfolding number_item
zero_word = refl

word_has_bytes : (p : Bool) (n : ℕ) → n < 2 ^ 64 → nat_lt 0 (length (cond p (decimal n) (45 ∷ decimal n))) ≡ true
word_has_bytes true n small = lt-ltb 0 (length (decimal n)) (decimal_nonempty n small)
word_has_bytes false n small = lt-ltb 0 (suc (length (decimal n))) (omega arith)

abbrev has_bytes : List ℕ → Bool
has_bytes w = nat_lt 0 (length w)

-- the literals of a part of an assignment, and what is said with them
abbrev said : List Literal → List Item
said c = map (λ l. Given l) c ++ Zero ∷ []

kept_words : (v : ℕ) (c : List Literal) → v < 2 ^ 64 → AllByRecursion (IsWithin v) c → filter has_bytes (map literal_text c ++ (48 ∷ []) ∷ []) ≡ map literal_text c ++ (48 ∷ []) ∷ []
kept_words v [] small h = refl
kept_words v (l ∷ c) small h =
    let here = word_has_bytes l.positive l.variable (omega (arith, h.0.1)) in
    rw here (ap (λ ws. literal_text l ∷ ws) (kept_words v c small h.1))

said_words : (v : ℕ) (c : List Literal) → v < 2 ^ 64 → AllByRecursion (IsWithin v) c → map number_item (map literal_text c ++ (48 ∷ []) ∷ []) ≡ said c
said_words v [] small h = ap (λ i. i ∷ []) zero_word
said_words v (l ∷ c) small h =
    let here : number_item (literal_text l) ≡ Given l = signed_word l.positive l.variable h.0.0 (omega (arith, h.0.1)) in
    let there = said_words v c small h.1 in
    cc

blankless : (bytes : List ℕ) → Avoids 32 bytes → Avoids 9 bytes → All (λ b. is_blank b ≡ false) bytes
blankless bytes a b = λ k d h. or_from _ _ (a k d h) (b k d h)

value_words : (c : List Literal) → slice_split is_blank (body c) ≡ map literal_text c ++ (48 ∷ []) ∷ []
value_words c =
    words_of_body is_blank refl
    (λ l. blankless (literal_text l) (literal_avoids 32 l (omega arith)) (literal_avoids 9 l (omega arith)))
    (blankless (48 ∷ []) (zero_avoids 32 (omega arith)) (zero_avoids 9 (omega arith))) c

value_items : (v : ℕ) (c : List Literal) → v < 2 ^ 64 → AllByRecursion (IsWithin v) c → line_items (118 ∷ 32 ∷ body c) ≡ said c
unfolding line_items words
value_items v c small h =
    ap (λ ws. map number_item (filter has_bytes ws)) (value_words c) ∙ ap (map number_item) (kept_words v c small h) ∙ said_words v c small h

claim_items : line_items (codes "s SATISFIABLE") ≡ Claim Satisfiable ∷ []
unfolding line_items words status_named
claim_items = refl

-- ---- lines
no_return : (c : List Literal) → strip_carriage_return (118 ∷ 32 ∷ body c) ≡ 118 ∷ 32 ∷ body c
no_return c =
    let front = 118 ∷ 32 ∷ flat_map word c in
    let place : length front ≡ length (front ++ 48 ∷ []) - 1 = omega (arith, length-append front (48 ∷ [])) in
    let last : get_or (front ++ 48 ∷ []) (length (front ++ 48 ∷ []) - 1) 0 ≡ 48 = get_or_at front 48 [] 0 (length (front ++ 48 ∷ []) - 1) place in
    let plain : (get_or (front ++ 48 ∷ []) (length (front ++ 48 ∷ []) - 1) 0 == 13) ≡ false = ap (λ b. b == 13) last in
    rw plain refl

model_lines : (values : List Bool) → lines_of (model_text values) ≡ codes "s SATISFIABLE" ∷ (118 ∷ 32 ∷ body (literals_of 1 values)) ∷ []
unfolding lines_of model_text
model_lines values =
    let c = literals_of 1 values in
    let last : slice_split is_lf (clause_text c) ≡ body c ∷ [] ∷ [] = ap (slice_split is_lf) (clause_text-body c) ∙ slice_split_at is_lf (body c) 10 [] (body_avoids_lf c) refl in
    rw last (ap (λ l. codes "s SATISFIABLE" ∷ l ∷ []) (no_return c))

-- ---- the literals of an assignment
literals_in : (v n : ℕ) (values : List Bool) → 0 < n → n + length values ≤ v + 1 → AllByRecursion (IsWithin v) (literals_of n values)
literals_in v n [] some h = tt
literals_in v n (b ∷ values) some h = ((some, omega arith), literals_in v (n + 1) values (omega arith) (omega arith))

model_items : (values : List Bool) → length values < 2 ^ 64 → items_of (model_text values) ≡ Claim Satisfiable ∷ said (literals_of 1 values)
unfolding items_of
model_items values small =
    let c = literals_of 1 values in
    let second = value_items (length values) c small (literals_in (length values) 1 values (omega arith) (omega arith)) in
    ap (flat_map line_items) (model_lines values)
    ∙ ap (λ is. is ++ (line_items (118 ∷ 32 ∷ body c) ++ [])) claim_items
    ∙ ap (λ is. Claim Satisfiable ∷ is) (append-nil (line_items (118 ∷ 32 ∷ body c)) ∙ second)

-- ---- no literal is refused
no_fault : (vars n : ℕ) (before : List Item) (values : List Bool) → 0 < n → n + length values ≤ vars + 1 → ((v : ℕ) (p : Bool) → n ≤ v → mentions (literal p v) before ≡ false) → line_fault vars before 2 (said (literals_of n values)) ≡ None
unfolding item_fault
no_fault vars n before [] some h none = refl
no_fault vars n before (b ∷ values) some h none =
    let inside : nat_lt vars n ≡ false = le-ltb vars n (omega arith) in
    let opposite = none n (not b) (omega arith) in
    rw (inside, opposite)
    (no_fault vars (n + 1) (before ++ Given (literal b n) ∷ []) values (omega arith) (omega arith)
    (λ v p le. pushed_mention (literal p v) before (Given (literal b n)) (other_variable p b v n (λ e. absurd (omega arith))) ∙ none v p (omega arith)))

-- ---- what is said of a variable
not_said : (v n : ℕ) (values : List Bool) → v < n → mentions (literal true v) (said (literals_of n values)) ≡ false
not_said v n [] h = refl
not_said v n (b ∷ values) h =
    or_from _ _ (other_variable true b v n (λ e. absurd (omega arith))) (not_said v (n + 1) values (omega arith))

sign_is : (b : Bool) → (beq true b || false) ≡ b
sign_is true = refl
sign_is false = refl

value_said : (n k : ℕ) (values : List Bool) (d : Bool) → k < length values → mentions (literal true (n + k)) (said (literals_of n values)) ≡ get_or values k d
value_said n k [] d h = absurd (omega arith)
value_said n zero (b ∷ values) d h =
    let same : n + 0 ≡ n = omega arith in
    ap (λ v. mentions (literal true v) (said (literals_of n (b ∷ values)))) same ∙ rw (eq-eqb n n refl, not_said n (n + 1) values (omega arith)) (sign_is b)
value_said n (suc k) (b ∷ values) d h =
    let next : n + suc k ≡ (n + 1) + k = omega arith in
    rw (other_variable true b (n + suc k) n (λ e. absurd (omega arith))) (ap (λ v. mentions (literal true v) (said (literals_of (n + 1) values))) next ∙ value_said (n + 1) k values d (omega arith))

-- ---- the whole text
model_status : (values : List Bool) → length values < 2 ^ 64 → status_of (model_text values) ≡ Some Satisfiable
model_status values small = ap status (model_items values small)

model_closed : (values : List Bool) → length values < 2 ^ 64 → is_closed (items_of (model_text values)) ≡ true
model_closed values small =
    ap is_closed (model_items values small) ∙ numbered_closed (Claim Satisfiable ∷ map (λ l. Given l) (literals_of 1 values)) Zero 0 refl

lines_fault : (values : List Bool) → length values < 2 ^ 64 → first_fault (length values) [] 1 (lines_of (model_text values)) ≡ None
unfolding item_fault
lines_fault values small =
    let c = literals_of 1 values in
    let said_then = value_items (length values) c small (literals_in (length values) 1 values (omega arith) (omega arith)) in
    let sound = no_fault (length values) 1 (Claim Satisfiable ∷ []) values (omega arith) (omega arith) (λ v p le. refl) in
    ap (first_fault (length values) [] 1) (model_lines values)
    ∙ rw (claim_items, said_then, sound) refl

-- as many bytes as literals, at least
short_values : (n : ℕ) (values : List Bool) → length values ≤ length (flat_map word (literals_of n values))
short_values n [] = omega arith
short_values n (b ∷ values) =
    let l = literal b n in
    omega (arith, short_values (n + 1) values, length-append (word l) (flat_map word (literals_of (n + 1) values)), length-append (literal_text l) (32 ∷ []))

pub short_model : (values : List Bool) → length (model_text values) ≤ 2 ^ 26 → length values < 2 ^ 64
unfolding model_text
short_model values h = omega (arith, short_values 1 values, length-append (flat_map word (literals_of 1 values)) (codes "0\n"))

pub model_fault : (values : List Bool) → length (model_text values) ≤ 2 ^ 26 → answer_fault (length values) (model_text values) ≡ None
model_fault values h =
    let small = short_model values h in
    late_fault (length values) (model_text values) h (lines_fault values small)
    ∙ rw (model_closed values small, model_status values small) (ap (λ b. cond b (Some Unclosed) None) (and-false (nat_lt 0 (length values))))

pub model_claims : (values : List Bool) → length (model_text values) ≤ 2 ^ 26 → status_of (model_text values) ≡ Some Satisfiable
model_claims values h = model_status values (short_model values h)

pub model_values : (values : List Bool) → length (model_text values) ≤ 2 ^ 26 → assignment_of (length values) (model_text values) ≡ values
model_values values h =
    let n = length values in
    let said_of : ℕ → Bool = λ v. mentions (literal true v) (said (literals_of 1 values)) in
    ap (assignment n) (model_items values (short_model values h))
    ∙ same_lists (map said_of (range_with_len 1 n)) values (length-map-range_with_len said_of 1 n)
    (λ k d below.
    let inside : k < n = omega (arith, length-map-range_with_len said_of 1 n) in
    get_or-map-range_with_len said_of 1 n k (1 + k) d inside refl ∙ value_said 1 k values d inside)
