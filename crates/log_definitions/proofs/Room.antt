-- A log has no more lines than bytes, and so few that their numbers fit.
use Rattle.log_definitions.proofs.Prelude.{◌≡◌, ℕ, ◌+◌, ◌<◌, ◌≤◌, ◌^◌, Bool, true, false, cond, List, [], ◌∷◌, ◌++◌, length, Option, Some, None, refl, ap, ◌∙◌, arith, length-append, nat_lt, ltb-false, ClientSession, line_text}
use Rattle.log_definitions.proofs.Prelude.{text_of_lines, log_text, header_text, size_fault, Line, LogFault, Version, log_by_lines, log_lines}
use Rattle.session_log.specs.declared.fault.Limit.TheVariants as limit
use Rattle.session_log.specs.declared.fault.LogFault.TheVariants as faults

pub lines_bytes : (fs : List Line) → length fs ≤ length (text_of_lines fs)
lines_bytes [] = omega arith
lines_bytes (f ∷ fs) =
    let ih = lines_bytes fs in
    let a = length-append (line_text f ++ 10 ∷ []) (text_of_lines fs) in
    let b = length-append (line_text f) (10 ∷ []) in
    omega (arith, ih, a, b)

size_of : (text : List ℕ) (t : Bool) (rest : Option LogFault) → nat_lt (2 ^ 24) (length text) ≡ t → cond t (Some (faults.OverLimit limit.LogBytes)) rest ≡ None → length text ≤ 2 ^ 24
size_of text true rest e h = cc
size_of text false rest e h = ltb-false (2 ^ 24) (length text) e

pub room_behind : (v : Version) (text : List ℕ) (ss : List ClientSession) → size_fault text ≡ None → text ≡ log_text v ss → length (log_lines ss) + 2 < 2 ^ 63
unfolding size_fault
room_behind v text ss s e =
    let bytes = size_of text (nat_lt (2 ^ 24) (length text)) _ refl s in
    let fewer = lines_bytes (log_lines ss) in
    let same = ap length (e ∙ log_by_lines v ss) ∙ length-append (header_text v) (text_of_lines (log_lines ss)) in
    omega (arith, bytes, fewer, same)

pub room : (v : Version) (text : List ℕ) (ss : List ClientSession) → size_fault text ≡ None → text ≡ log_text v ss → length (log_lines ss) < 2 ^ 63
room v text ss s e = omega (arith, room_behind v text ss s e)
