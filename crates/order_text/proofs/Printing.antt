-- The text of nodes is read back as those nodes.
use Rattle.order_text.proofs.Prelude.{◌≡◌, ℕ, ◌+◌, ◌*◌, ◌<◌, ◌≤◌, ◌^◌, Bool, true, false, not, List, [], ◌∷◌, ◌++◌, length, map, Some, None, refl, sym, ap, ◌∙◌, arith, append_assoc, length-append, ◌==◌, ◌&&◌, position, take, drop, nat_lt}
use Rattle.order_text.proofs.Prelude.{option_and_then, decimal, list_all, position_or_len, filter_map, cons_option, AllByRecursion, option_map, option_map_or, option_or, is_some, and_parts, and_from, not-true, not_from_false, ne_eqb}
use Rattle.order_text.proofs.Prelude.{cond-true, lt-ltb, take_at, recursion_from_All, cond_some, ClientSession, lines, is_numeral, number_of, number_complete, after_key, lines-nil, lines_line, log_lines, IsWellFormedList, name_in}
use Rattle.order_text.proofs.Prelude.{node_named, joined_by, name_line, order_text, AreNodes, words_of, are_numerals, is_name, named_by, named, line_fault, first_fault, order_fault}
use Rattle.std.specs.Char.{is_ascii_digit}
use Rattle.std.specs.Str.Parse.{digits_value}
use Rattle.std.proofs.lemmas.Fmt.{digits_decimal, length-decimal-le}
use Rattle.std.proofs.lemmas.List.Folds.{list_all-append}
use Rattle.session_log.proofs.Digits.{own}
use Rattle.order_text.proofs.Reading.{IsNode, short_fault}
use Rattle.order_text.proofs.Names.{node_named-name, name_fits}

-- ---- a name in a line

-- no digit is this byte
without : (c : ℕ) → is_ascii_digit c ≡ false → (ds : List ℕ) → list_all is_ascii_digit ds ≡ true → list_all (λ b. not (b == c)) ds ≡ true
without c other [] h = refl
without c other (d ∷ ds) h =
    let parts = and_parts (is_ascii_digit d) (list_all is_ascii_digit ds) h in
    let ne = ne_eqb d c (λ e. absurd (cc (ap is_ascii_digit e, parts.0, other))) in
    and_from (not (d == c)) (list_all (λ b. not (b == c)) ds) (not_from_false (d == c) ne) (without c other ds parts.1)

ends_at : (ds xs : List ℕ) → list_all (λ b. not (b == 32)) ds ≡ true → position_or_len (λ b. b == 32) (ds ++ 32 ∷ xs) ≡ length ds
ends_at [] xs h = refl
ends_at (d ∷ ds) xs h =
    let parts = and_parts (not (d == 32)) (list_all (λ b. not (b == 32)) ds) h in
    let ne = not-true (d == 32) parts.0 in
    let ih = ends_at ds xs parts.1 in
    rw ne (omega (arith, ih))

space_at : (ds xs : List ℕ) → list_all (λ b. not (b == 32)) ds ≡ true → position (λ b. b == 32) (ds ++ 32 ∷ xs) ≡ Some (length ds)
space_at ds xs h =
    let end = ends_at ds xs h in
    let room : length ds < length (ds ++ 32 ∷ xs) = simp length-append (omega arith) in
    cond-true (nat_lt (position_or_len (λ b. b == 32) (ds ++ 32 ∷ xs)) (length (ds ++ 32 ∷ xs))) (Some (position_or_len (λ b. b == 32) (ds ++ 32 ∷ xs))) None (lt-ltb (position_or_len (λ b. b == 32) (ds ++ 32 ∷ xs)) (length (ds ++ 32 ∷ xs)) (omega (arith, end, room)))
    ∙ ap (λ i. Some i) end

words_of-joined : (s t : ℕ) → s < 2 ^ 64 → words_of (joined_by 32 (s, t)) ≡ Some (decimal s, decimal t)
unfolding words_of
words_of-joined s t h =
    let body : List ℕ = joined_by 32 (s, t) in
    ap (option_map (λ i. (take i body, drop (i + 1) body))) (space_at (decimal s) (decimal t) (without 32 refl (decimal s) (digits_decimal own s h)))
    ∙ ap (λ (w : List ℕ × List ℕ). Some w) (cc (take_at (decimal s) (32 ∷ decimal t) (length (decimal s)) refl, after_key (decimal s) (decimal t)))

is_numeral-decimal : (n : ℕ) → n < 2 ^ 64 → is_numeral (decimal n) ≡ true
unfolding number_of
is_numeral-decimal n h =
    let read = cond_some (is_numeral (decimal n) && nat_lt (digits_value 10 (decimal n)) (2 ^ 64)) (digits_value 10 (decimal n)) n (number_complete n h) in
    (and_parts (is_numeral (decimal n)) (nat_lt (digits_value 10 (decimal n)) (2 ^ 64)) read.0).0

is_name-joined : (s t : ℕ) → s < 2 ^ 64 → t < 2 ^ 64 → is_name (joined_by 32 (s, t)) ≡ true
is_name-joined s t h k =
    ap (λ o. option_map_or are_numerals o false) (words_of-joined s t h)
    ∙ and_from (is_numeral (decimal s)) (is_numeral (decimal t)) (is_numeral-decimal s h) (is_numeral-decimal t k)

named-joined : (ss : List ClientSession) (s t : ℕ) → s < 2 ^ 64 → t < 2 ^ 64 → named ss (joined_by 32 (s, t)) ≡ node_named ss s t
unfolding named_by
named-joined ss s t h k =
    ap (option_and_then (λ (words : List ℕ × List ℕ). named_by ss words.0 words.1)) (words_of-joined s t h)
    ∙ ap (option_and_then (λ m. option_and_then (λ n. node_named ss m n) (number_of (decimal t)))) (number_complete s h)
    ∙ ap (option_and_then (λ n. node_named ss s n)) (number_complete t k)

-- ---- the line of a node

-- that of node v, without its LF
abbrev line_of : List ClientSession → ℕ → List ℕ × Bool
line_of ss v = (joined_by 32 (name_in ss v), true)

-- the log has fewer lines than 2 ^ 63, so that each place is a number that a machine holds
pub record IsLog (ss : List ClientSession) : Type 0 where
  pub well : IsWellFormedList ss
  pub room : length (log_lines ss) < 2 ^ 63

named-line : (ss : List ClientSession) → IsLog ss → (v : ℕ) → IsNode ss v → named ss (joined_by 32 (name_in ss v)) ≡ Some v
named-line ss log v h =
    let fits = name_fits ss log.well log.room v h in
    named-joined ss (name_in ss v).0 (name_in ss v).1 (omega (arith, fits.0)) (omega (arith, fits.1)) ∙ node_named-name ss log.well v h

line_fault-line : (ss : List ClientSession) → IsLog ss → (n v : ℕ) → IsNode ss v → line_fault ss n (line_of ss v) ≡ None
unfolding line_fault
line_fault-line ss log n v h =
    let fits = name_fits ss log.well log.room v h in
    cond-true (is_name (joined_by 32 (name_in ss v))) _ _ (is_name-joined (name_in ss v).0 (name_in ss v).1 (omega (arith, fits.0)) (omega (arith, fits.1)))
    ∙ cond-true (is_some (named ss (joined_by 32 (name_in ss v)))) _ _ (ap is_some (named-line ss log v h))

-- no LF stands inside
inside : (s t : ℕ) → s < 2 ^ 64 → t < 2 ^ 64 → list_all (λ b. not (b == 10)) (joined_by 32 (s, t)) ≡ true
inside s t h k =
    list_all-append (λ b. not (b == 10)) (decimal s) (32 ∷ decimal t)
    ∙ and_from (list_all (λ b. not (b == 10)) (decimal s)) (list_all (λ b. not (b == 10)) (decimal t)) (without 10 refl (decimal s) (digits_decimal own s h)) (without 10 refl (decimal t) (digits_decimal own t k))

-- ---- orders

lines-order_text : (ss : List ClientSession) → IsLog ss → (order : List ℕ) → AllByRecursion (IsNode ss) order → lines (order_text ss order) ≡ map (line_of ss) order
unfolding order_text
lines-order_text ss log [] h = lines-nil
lines-order_text ss log (v ∷ order) h =
    let fits = name_fits ss log.well log.room v h.0 in
    ap lines (append_assoc (joined_by 32 (name_in ss v)) (10 ∷ []) (order_text ss order))
    ∙ lines_line (joined_by 32 (name_in ss v)) (order_text ss order) (inside (name_in ss v).0 (name_in ss v).1 (omega (arith, fits.0)) (omega (arith, fits.1)))
    ∙ ap (λ ls. line_of ss v ∷ ls) (lines-order_text ss log order h.1)

no_fault : (ss : List ClientSession) → IsLog ss → (n : ℕ) (order : List ℕ) → AllByRecursion (IsNode ss) order → first_fault ss n (map (line_of ss) order) ≡ None
no_fault ss log n [] h = refl
no_fault ss log n (v ∷ order) h =
    ap (λ o. option_or o (first_fault ss (n + 1) (map (line_of ss) order))) (line_fault-line ss log n v h.0) ∙ no_fault ss log (n + 1) order h.1

pub printed_accepted : (ss : List ClientSession) → IsLog ss → (order : List ℕ) → AreNodes ss order → length (order_text ss order) ≤ 2 ^ 20 → order_fault ss (order_text ss order) ≡ None
printed_accepted ss log order h short =
    let each = recursion_from_All (IsNode ss) order h in
    short_fault ss (order_text ss order) short ∙ ap (first_fault ss 1) (lines-order_text ss log order each) ∙ no_fault ss log 1 order each

-- the nodes that lines name
abbrev read_back : List ClientSession → List (List ℕ × Bool) → List ℕ
read_back ss ls = filter_map (λ l. named ss l.0) ls

read_back-lines : (ss : List ClientSession) → IsLog ss → (order : List ℕ) → AllByRecursion (IsNode ss) order → read_back ss (map (line_of ss) order) ≡ order
read_back-lines ss log [] h = refl
read_back-lines ss log (v ∷ order) h =
    ap (λ o. cons_option o (read_back ss (map (line_of ss) order))) (named-line ss log v h.0) ∙ ap (λ us. v ∷ us) (read_back-lines ss log order h.1)

pub order_text-injective : (ss : List ClientSession) → IsLog ss → (a b : List ℕ) → AreNodes ss a → AreNodes ss b → order_text ss a ≡ order_text ss b → a ≡ b
order_text-injective ss log a b h k e =
    let one = recursion_from_All (IsNode ss) a h in
    let two = recursion_from_All (IsNode ss) b k in
    sym (read_back-lines ss log a one)
    ∙ ap (read_back ss) (sym (lines-order_text ss log a one) ∙ ap lines e ∙ lines-order_text ss log b two)
    ∙ read_back-lines ss log b two

short_line : (s t : ℕ) → s < 2 ^ 16 → t < 2 ^ 63 → length (name_line (s, t)) ≤ 26
short_line s t h k =
    let one = length-decimal-le 5 s (omega arith) (omega arith) (omega arith) in
    let two = length-decimal-le 19 t (omega arith) (omega arith) (omega arith) in
    simp length-append (omega (arith, one, two))

short_text : (ss : List ClientSession) → IsLog ss → (order : List ℕ) → AllByRecursion (IsNode ss) order → length (order_text ss order) ≤ 26 * length order
unfolding order_text
short_text ss log [] h = omega arith
short_text ss log (v ∷ order) h =
    let fits = name_fits ss log.well log.room v h.0 in
    let first = short_line (name_in ss v).0 (name_in ss v).1 fits.0 fits.1 in
    let both = length-append (name_line (name_in ss v)) (order_text ss order) in
    let ih = short_text ss log order h.1 in
    omega (arith, first, both, ih)

pub printed_short : (ss : List ClientSession) → IsLog ss → (order : List ℕ) → AreNodes ss order → length (order_text ss order) ≤ 26 * length order
printed_short ss log order h = short_text ss log order (recursion_from_All (IsNode ss) order h)
