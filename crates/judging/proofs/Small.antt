-- A log within the limits has of nothing too much.
use Rattle.judging.proofs.Prelude.{◌≡◌, ℕ, ◌≤◌, Bool, true, false, cond, nat_lt, List, [], ◌∷◌, length, length-append, map, count_by, Some, None, refl, sym, ap, ◌∙◌, subst, arith, flat_map, AllByRecursion, ltb-false, sum_by-cons}
use Rattle.judging.proofs.Prelude.{sum_by-append, map-append, ClientSession, IsLegal, IsHeldBy, least_version, session_lines, txn_lines, line_text, text_of_lines, log_text, header_text, version_of, body_of, version_number, first_line}
use Rattle.judging.proofs.Prelude.{is_session_line, Limit, OverLimit, Version, One, Two, Three, log_by_lines, lines_log, stands, IsWellFormed, log_lines, rules_where_no_fault, IsReduceFault, one as one_if, Unknown, IsSearched, Serializable}
use Rattle.judging.proofs.Prelude.{IsOver, judged_at, IsVerdict, IsInVain, JudgeMeans, Why, Spent, TooLarge, TooManyChoices, NoRoom, NotBegun, NotShown, Tried}
use Rattle.session_log.specs.Lines.{lines}
use Rattle.session_log.specs.Blocks.{size_fault}
use Rattle.session_log.specs.declared.fault.Limit.TheVariants as limit
use Rattle.session_log.specs.declared.line.Line.TheVariants as line
use Rattle.session_log.proofs.Least.{least_is_least}
use Rattle.session_log.proofs.Cutting.{counted_behind}
use Rattle.polygraph.specs.declared.fault.PolyFault.TheVariants as poly_fault
use Rattle.judging.specs.declared.judged.Verdict.TheVariants.{Undecided}
use Rattle.judging.proofs.Levels.{not_snapshot, not_below}

-- ---- bytes
header_by_number : (v w : Version) → version_number v ≤ version_number w → length (header_text v) ≤ length (header_text w)
header_by_number One w h = omega arith
header_by_number Two One h = absurd (omega (arith, h))
header_by_number Two Two h = omega arith
header_by_number Two Three h = omega arith
header_by_number Three One h = absurd (omega (arith, h))
header_by_number Three Two h = absurd (omega (arith, h))
header_by_number Three Three h = omega arith

least_bytes : (v : Version) (ss : List ClientSession) → AllByRecursion (IsHeldBy v) ss → length (log_text (least_version ss) ss) ≤ length (log_text v ss)
least_bytes v ss held =
    let header = header_by_number (least_version ss) v (least_is_least v ss held) in
    let one = ap length (log_by_lines (least_version ss) ss) ∙ length-append (header_text (least_version ss)) (text_of_lines (log_lines ss)) in
    let other = ap length (log_by_lines v ss) ∙ length-append (header_text v) (text_of_lines (log_lines ss)) in
    omega (arith, header, one, other)

-- ---- sessions

abbrev begun_in : List (List ℕ × Bool) → ℕ
begun_in ls = count_by is_session_line ls

begins : (n : ℕ) → is_session_line (stands (line.Session n)) ≡ true
unfolding line_text
begins n = refl

many_begin : (ss : List ClientSession) → length ss ≤ begun_in (map stands (flat_map session_lines ss))
many_begin [] = omega arith
many_begin (s ∷ ss) =
    let behind = many_begin ss in
    let own = map stands (flat_map txn_lines s.txns) in
    let others = map stands (flat_map session_lines ss) in
    let parts = ap begun_in (map-append stands (session_lines s) (flat_map session_lines ss)) ∙ sum_by-append (λ l. one_if (is_session_line l)) (map stands (session_lines s)) others in
    let first = sum_by-cons (λ l. one_if (is_session_line l)) (stands (line.Session s.number)) own in
    let one = ap one_if (begins s.number) in
    omega (arith, behind, parts, first, one)

-- ---- the limits on the text
parts_of_size : (bytes count : ℕ) → cond (nat_lt 16777216 bytes) (Some (OverLimit limit.LogBytes)) (cond (nat_lt 64 count) (Some (OverLimit limit.Sessions)) None) ≡ None → (bytes ≤ 16777216) × (count ≤ 64)
parts_of_size bytes count e = by_bytes (nat_lt 16777216 bytes) refl e
  where
    by_count : (b : Bool) → nat_lt 64 count ≡ b → cond b (Some (OverLimit limit.Sessions)) None ≡ None → count ≤ 64
    by_count true is e = cc
    by_count false is e = ltb-false 64 count is

    by_bytes : (b : Bool) → nat_lt 16777216 bytes ≡ b → cond b (Some (OverLimit limit.LogBytes)) (cond (nat_lt 64 count) (Some (OverLimit limit.Sessions)) None) ≡ None → (bytes ≤ 16777216) × (count ≤ 64)
    by_bytes true is e = cc
    by_bytes false is e = (ltb-false 16777216 bytes is, by_count (nat_lt 64 count) refl e)

within_size : (text : List ℕ) → size_fault text ≡ None → (length text ≤ 16777216) × (begun_in (lines text) ≤ 64)
unfolding size_fault
within_size text e = parts_of_size (length text) (begun_in (lines text)) e

few_sessions : (text : List ℕ) (ss : List ClientSession) → AllByRecursion IsLegal ss → (v : Version) → text ≡ log_text v ss → length ss ≤ begun_in (lines text)
few_sessions text ss legal v e =
    let body = counted_behind text (body_of text) refl in
    let same = ap (λ t. begun_in (lines (body_of t))) e ∙ ap begun_in (lines_log v ss legal) in
    let many = many_begin ss in
    omega (arith, body, same, many)

pub never_too_large : (text : List ℕ) (ss : List ClientSession) (which : Limit) → IsWellFormed text ss → IsOver ss which → ⊥
never_too_large text ss limit.LogBytes w h =
    let size = (within_size text w.size).0 in
    let less = least_bytes (version_of text) ss w.held in
    let same = ap length w.lines in
    omega (arith, h, size, less, same)
never_too_large text ss limit.Sessions w h =
    let size = (within_size text w.size).1 in
    let few = few_sessions text ss w.legal (version_of text) w.lines in
    omega (arith, h, size, few)
never_too_large text ss limit.Operations w h = let k = (rules_where_no_fault (first_line (version_of text)) ss w.sessions).operations in omega (arith, h, k)
never_too_large text ss limit.Committed w h = let k = (rules_where_no_fault (first_line (version_of text)) ss w.sessions).committed in omega (arith, h, k)
never_too_large text ss limit.Keys w h = let k = (rules_where_no_fault (first_line (version_of text)) ss w.sessions).keys in omega (arith, h, k)

-- ---- undecided
pub in_vain : (m : JudgeMeans) (text : List ℕ) (ss : List ClientSession) (why : Why) (tried : Tried) → IsWellFormed text ss → m.level ≡ Serializable → m.deadline ≡ None → IsVerdict m ss (Undecided why tried) → IsInVain m ss why
in_vain m text ss (Spent closed) tried w e none h = (h.0.0, subst (λ l. IsSearched m.deciding.budget (judged_at l ss) (Unknown closed)) e h.0.1)
in_vain m text ss (TooLarge which) tried w e none h = never_too_large text ss which w (subst (λ l. IsOver (judged_at l ss) which) e h.0)
in_vain m text ss TooManyChoices tried w e none h = subst (λ l. IsReduceFault (judged_at l ss) poly_fault.TooManyChoices) e h.0
in_vain m text ss (NoRoom why) tried w e none h = absurd (not_snapshot (sym e ∙ h.0.0))
in_vain m text ss NotBegun tried w e none h = h.0 none
in_vain m text ss NotShown tried w e none h = absurd (not_below h.0.0 (sym e ∙ h.0.1))
