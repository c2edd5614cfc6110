-- A log is the header of its version and the body behind it.
use Rattle.session_log.proofs.Prelude.{◌≡◌, ℕ, ◌+◌, ◌<◌, ◌≤◌, true, false, List, [], ◌∷◌, ◌++◌, length, length-append, drop, nat_eq, refl, sym, ap, ◌∙◌, subst, inl, inr, arith, codes, flat_map, starts_with, cases_Bool, Decides-eqb, drop_at}
use Rattle.session_log.proofs.Prelude.{starts_is, lines, ClientSession, line_text, session_text, log_text, header_text, first_line, version_of, body_of, version_number, Version, One, Two, Three}
use Rattle.session_log.proofs.Lines.{lines-nil, lines_line}

-- the version is told by the first bytes
version_three : (text : List ℕ) → starts_with nat_eq text (header_text Three) ≡ true → version_of text ≡ Three
unfolding version_of
version_three text e = rw e refl

version_two : (text : List ℕ) → starts_with nat_eq text (header_text Three) ≡ false → starts_with nat_eq text (header_text Two) ≡ true → version_of text ≡ Two
unfolding version_of
version_two text n e = rw (n, e) refl

version_one : (text : List ℕ) → starts_with nat_eq text (header_text Three) ≡ false → starts_with nat_eq text (header_text Two) ≡ false → version_of text ≡ One
unfolding version_of
version_one text n e = rw (n, e) refl

abbrev Split : Version → List ℕ → Type 0
Split v text = text ≡ header_text v ++ drop (length (header_text v)) text

begins_so : (v : Version) (text : List ℕ) → starts_with nat_eq text (header_text v) ≡ true → Split v text
begins_so v text e = (starts_is Decides-eqb text (header_text v) (starts_with nat_eq text (header_text v)) refl).0 e

pub header_and_body : (text : List ℕ) → text ≡ header_text (version_of text) ++ body_of text
unfolding body_of
header_and_body text = elim (cases_Bool (starts_with nat_eq text (header_text Three))) [
  | inl e ↦ subst (λ v. Split v text) (sym (version_three text e)) (begins_so Three text e)
  | inr n ↦ elim (cases_Bool (starts_with nat_eq text (header_text Two))) [
    | inl e ↦ subst (λ v. Split v text) (sym (version_two text n e)) (begins_so Two text e)
    | inr m ↦ subst (λ v. Split v text) (sym (version_one text n m)) refl
  ]
]

-- its lines
header_then : (v : Version) (rest : List ℕ) → lines (header_text v ++ rest) ≡ lines (header_text v) ++ lines rest
header_then One rest = sym (ap (λ ls. ls ++ lines rest) lines-nil)
header_then Two rest = lines_line (codes "log 2") rest refl ∙ sym (ap (λ ls. ls ++ lines rest) (header_is))
  where
    header_is : lines (header_text Two) ≡ (codes "log 2", true) ∷ []
    header_is = lines_line (codes "log 2") [] refl ∙ ap (λ ls. (codes "log 2", true) ∷ ls) lines-nil
header_then Three rest = lines_line (codes "log 3") rest refl ∙ sym (ap (λ ls. ls ++ lines rest) (header_is))
  where
    header_is : lines (header_text Three) ≡ (codes "log 3", true) ∷ []
    header_is = lines_line (codes "log 3") [] refl ∙ ap (λ ls. (codes "log 3", true) ∷ ls) lines-nil

pub header_lines : (text : List ℕ) → lines text ≡ lines (header_text (version_of text)) ++ lines (body_of text)
header_lines text = ap lines (header_and_body text) ∙ header_then (version_of text) (body_of text)

pub first_is : (v : Version) → first_line v ≡ length (lines (header_text v)) + 1
first_is One = sym (ap (λ ls. length ls + 1) lines-nil)
first_is Two = sym (ap (λ ls. length ls + 1) (lines_line (codes "log 2") [] refl ∙ ap (λ ls. (codes "log 2", true) ∷ ls) lines-nil))
first_is Three = sym (ap (λ ls. length ls + 1) (lines_line (codes "log 3") [] refl ∙ ap (λ ls. (codes "log 3", true) ∷ ls) lines-nil))

-- the header has a byte for each line
pub header_room : (v : Version) → first_line v ≤ length (header_text v) + 1
header_room One = omega arith
header_room Two = omega arith
header_room Three = omega arith

-- the version and the body of a text that was made
pub header_tells : (v : Version) (body : List ℕ) → 1 < version_number v → version_of (header_text v ++ body) ≡ v
unfolding version_of
header_tells One body h = absurd (omega (arith, h))
header_tells Two body h = refl
header_tells Three body h = refl

no_header : (ss : List ClientSession) → version_of (log_text One ss) ≡ One
unfolding version_of log_text session_text line_text
no_header [] = refl
no_header (s ∷ ss) = refl

made_with : (v : Version) (ss : List ClientSession) → 1 < version_number v → version_of (log_text v ss) ≡ v
unfolding log_text
made_with v ss h = header_tells v (flat_map session_text ss) h

pub version_of_log : (v : Version) (ss : List ClientSession) → version_of (log_text v ss) ≡ v
version_of_log One ss = no_header ss
version_of_log Two ss = made_with Two ss (omega arith)
version_of_log Three ss = made_with Three ss (omega arith)

log_is : (v : Version) (ss : List ClientSession) → log_text v ss ≡ header_text v ++ flat_map session_text ss
unfolding log_text
log_is v ss = refl

pub body_of_log : (v : Version) (ss : List ClientSession) → body_of (log_text v ss) ≡ flat_map session_text ss
unfolding body_of
body_of_log v ss =
    ap (λ w. drop (length (header_text w)) (log_text v ss)) (version_of_log v ss) ∙ (ap (drop (length (header_text v))) (log_is v ss) ∙ drop_at (header_text v) (flat_map session_text ss) (length (header_text v)) refl)

-- what stands behind a header that was found
pub header_fits : (text header : List ℕ) (v : Version) → v ≡ version_of text → header ≡ header_text v → length header ≤ length text
header_fits text header v a b =
    let whole = ap length (header_and_body text) ∙ length-append (header_text (version_of text)) (body_of text) in
    let same : length header ≡ length (header_text (version_of text)) = ap length (b ∙ ap header_text a) in
    omega (arith, whole, same)

pub body_behind : (text header : List ℕ) (v : Version) → v ≡ version_of text → header ≡ header_text v → drop (length header) text ≡ body_of text
unfolding body_of
body_behind text header v a b = ap (λ h. drop (length h) text) (b ∙ ap header_text a)
