-- Sessions whose unknown outcomes are resolved hold no more than the sessions that they come from.
use Rattle.judging.proofs.Prelude.{◌≡◌, ℕ, ◌+◌, ◌≤◌, Bool, true, false, cond, ◌||◌, List, [], ◌∷◌, ◌++◌, length, length-append, map, count_by, Option, Some, None, refl, sym, ap, ◌∙◌, subst, arith, is_some, flat_map, list_any}
use Rattle.judging.proofs.Prelude.{AllByRecursion, ClientSession, Transaction, IsLegal, IsLegalTxn, MayEndAt, op_line, end_line, txn_lines, session_lines, line_text, full_line, text_of_lines, log_text, has_moment, has_unknown}
use Rattle.judging.proofs.Prelude.{least_version, header_text, Op, One, Two, Three, log_by_lines, Limit, length-map, sum_by-cons, sum_by-append, is_unknown, txns_in, settled_as, settle, settled, taken, resolved, log_lines, numbers_resolved}
use Rattle.judging.proofs.Prelude.{ops_resolved, one as one_if, IsOver}
use Rattle.std.proofs.lemmas.List.Concat.{flat_map-append}
use Rattle.session_log.specs.declared.line.Line.{Line}
use Rattle.session_log.specs.declared.line.Line.TheVariants as line
use Rattle.session_log.specs.declared.session.Outcome.{Outcome}
use Rattle.session_log.specs.declared.session.Outcome.TheVariants.{Commit, Abort, Unknown}
use Rattle.session_log.specs.declared.fault.Limit.TheVariants as limit
use Rattle.log_definitions.proofs.Taken.{resolved_is}
use Rattle.log_definitions.proofs.FewNodes.{may_be_node}
use Rattle.judging.proofs.Resolved.{keys_of_resolved}

abbrev size : List Line → ℕ
size ls = length (text_of_lines ls)

size-append : (a b : List Line) → size (a ++ b) ≡ size a + size b
size-append a b = ap length (flat_map-append full_line a b) ∙ length-append (text_of_lines a) (text_of_lines b)

shorter_end : (b : Bool) (o : Outcome) (ended : Option ℕ) → MayEndAt o ended → length (line_text (end_line (settled_as b o) ended)) ≤ length (line_text (end_line o ended))
unfolding line_text
shorter_end b Commit ended h = omega arith
shorter_end b Abort ended h = omega arith
shorter_end true Unknown None h = omega arith
shorter_end false Unknown None h = omega arith
shorter_end b Unknown (Some m) h = cc

size_one : (l : Line) → size (l ∷ []) ≡ length (line_text l) + 1
size_one l = length-append (line_text l ++ 10 ∷ []) [] ∙ (omega (arith, length-append (line_text l) (10 ∷ [])))

shorter_txn : (b : Bool) (t : Transaction) → IsLegalTxn t → size (txn_lines (settle b t)) ≤ size (txn_lines t)
shorter_txn b t h =
    let front : List Line = line.Begin t.begun ∷ map op_line t.ops in
    let new = end_line (settled_as b t.outcome) t.ended in
    let old = end_line t.outcome t.ended in
    let end = shorter_end b t.outcome t.ended h.told in
    let one = size-append front (new ∷ []) in
    let other = size-append front (old ∷ []) in
    let here = size_one new in
    let there = size_one old in
    omega (arith, end, one, other, here, there)

shorter_txns : (b : Bool) (ts : List Transaction) → AllByRecursion IsLegalTxn ts → size (flat_map txn_lines (map (settle b) ts)) ≤ size (flat_map txn_lines ts)
shorter_txns b [] h = omega arith
shorter_txns b (t ∷ ts) h =
    let first = shorter_txn b t h.0 in
    let behind = shorter_txns b ts h.1 in
    let one = size-append (txn_lines (settle b t)) (flat_map txn_lines (map (settle b) ts)) in
    let other = size-append (txn_lines t) (flat_map txn_lines ts) in
    omega (arith, first, behind, one, other)

shorter_sessions : (chosen : ℕ → Bool) (ss : List ClientSession) → AllByRecursion IsLegal ss → size (flat_map session_lines (settled chosen ss)) ≤ size (flat_map session_lines ss)
unfolding settled
shorter_sessions chosen [] h = omega arith
shorter_sessions chosen (s ∷ ss) h =
    let b = chosen s.number in
    let first : List Line = line.Session s.number ∷ [] in
    let here = shorter_txns b s.txns h.0.txns in
    let behind = shorter_sessions chosen ss h.1 in
    let new = flat_map txn_lines (map (settle b) s.txns) in
    let old = flat_map txn_lines s.txns in
    let a = size-append (first ++ new) (flat_map session_lines (settled chosen ss)) in
    let c = size-append (first ++ old) (flat_map session_lines ss) in
    let d = size-append first new in
    let e = size-append first old in
    omega (arith, here, behind, a, c, d, e)

-- ---- the header
same_moments : (b : Bool) (ts : List Transaction) → list_any (λ t. is_some t.begun || is_some t.ended) (map (settle b) ts) ≡ list_any (λ t. is_some t.begun || is_some t.ended) ts
same_moments b [] = refl
same_moments b (t ∷ ts) = ap (λ m. (is_some t.begun || is_some t.ended) || m) (same_moments b ts)

moments_stay : (chosen : ℕ → Bool) (ss : List ClientSession) → list_any has_moment (settled chosen ss) ≡ list_any has_moment ss
unfolding settled
moments_stay chosen [] = refl
moments_stay chosen (s ∷ ss) = ap (λ m. m || list_any has_moment (settled chosen ss)) (same_moments (chosen s.number) s.txns) ∙ ap (λ m. has_moment s || m) (moments_stay chosen ss)

header_within : (m u v : Bool) → v ≡ false → length (header_text (cond m Three (cond v Two One))) ≤ length (header_text (cond m Three (cond u Two One)))
header_within true u v e = omega arith
header_within false true v e = rw e (omega arith)
header_within false false v e = rw e (omega arith)

told : (b : Bool) (o : Outcome) → Rattle.session_log.specs.Text.is_unknown (settled_as b o) ≡ false
told b Commit = refl
told b Abort = refl
told true Unknown = refl
told false Unknown = refl

all_told : (b : Bool) (ts : List Transaction) → list_any is_unknown (map (settle b) ts) ≡ false
all_told b [] = refl
all_told b (t ∷ ts) = ap (λ m. m || list_any is_unknown (map (settle b) ts)) (told b t.outcome) ∙ all_told b ts

none_unknown : (chosen : ℕ → Bool) (ss : List ClientSession) → list_any has_unknown (settled chosen ss) ≡ false
unfolding settled
none_unknown chosen [] = refl
none_unknown chosen (s ∷ ss) = ap (λ m. m || list_any has_unknown (settled chosen ss)) (all_told (chosen s.number) s.txns) ∙ none_unknown chosen ss

shorter_text : (chosen : ℕ → Bool) (ss : List ClientSession) → AllByRecursion IsLegal ss → length (log_text (least_version (settled chosen ss)) (settled chosen ss)) ≤ length (log_text (least_version ss) ss)
shorter_text chosen ss legal =
    let new = settled chosen ss in
    let lines = shorter_sessions chosen ss legal in
    let header : length (header_text (least_version new)) ≤ length (header_text (least_version ss)) =
    subst (λ m. length (header_text (cond m Three (cond (list_any has_unknown new) Two One))) ≤ length (header_text (least_version ss))) (sym (moments_stay chosen ss))
    (header_within (list_any has_moment ss) (list_any has_unknown ss) (list_any has_unknown new) (none_unknown chosen ss)) in
    let one = ap length (log_by_lines (least_version new) new) ∙ length-append (header_text (least_version new)) (text_of_lines (log_lines new)) in
    let other = ap length (log_by_lines (least_version ss) ss) ∙ length-append (header_text (least_version ss)) (text_of_lines (log_lines ss)) in
    omega (arith, lines, header, one, other)

-- ---- the transactions that may be nodes

fewer_one : (b : Bool) (o : Outcome) (ops : List Op) (begun ended : Option ℕ) → one_if (may_be_node (record { ops = ops; outcome = settled_as b o; begun = begun; ended = ended })) ≤ one_if (may_be_node (record { ops = ops; outcome = o; begun = begun; ended = ended }))
fewer_one b Commit ops begun ended = omega arith
fewer_one b Abort ops begun ended = omega arith
fewer_one true Unknown ops begun ended = omega arith
fewer_one false Unknown ops begun ended = omega arith

fewer_txns : (b : Bool) (ts : List Transaction) → count_by may_be_node (map (settle b) ts) ≤ count_by may_be_node ts
fewer_txns b [] = omega arith
fewer_txns b (t ∷ ts) =
    let first = fewer_one b t.outcome t.ops t.begun t.ended in
    let behind = fewer_txns b ts in
    let one = sum_by-cons (λ u. one_if (may_be_node u)) (settle b t) (map (settle b) ts) in
    let other = sum_by-cons (λ u. one_if (may_be_node u)) t ts in
    omega (arith, first, behind, one, other)

fewer : (chosen : ℕ → Bool) (ss : List ClientSession) → count_by may_be_node (txns_in (settled chosen ss)) ≤ count_by may_be_node (txns_in ss)
unfolding settled
fewer chosen [] = omega arith
fewer chosen (s ∷ ss) =
    let first = fewer_txns (chosen s.number) s.txns in
    let behind = fewer chosen ss in
    let one = sum_by-append (λ u. one_if (may_be_node u)) (map (settle (chosen s.number)) s.txns) (txns_in (settled chosen ss)) in
    let other = sum_by-append (λ u. one_if (may_be_node u)) s.txns (txns_in ss) in
    omega (arith, first, behind, one, other)

-- ---- what is passed
pub over_resolved : (ss : List ClientSession) (which : Limit) → AllByRecursion IsLegal ss → IsOver (resolved ss) which → IsOver ss which
over_resolved ss limit.LogBytes legal h =
    let less = shorter_text (taken ss) ss legal in
    let P : List ClientSession → Type 0 = λ l. IsOver l limit.LogBytes in
    let over : P (settled (taken ss) ss) = subst P (resolved_is ss) h in
    omega (arith, less, over)
over_resolved ss limit.Sessions legal h =
    let same = ap length (numbers_resolved ss) in
    let one = length-map (resolved ss) (λ (s : ClientSession). s.number) in
    let other = length-map ss (λ (s : ClientSession). s.number) in
    omega (arith, h, same, one, other)
over_resolved ss limit.Operations legal h = let same = ap length (ops_resolved ss) in omega (arith, h, same)
over_resolved ss limit.Committed legal h =
    let less = fewer (taken ss) ss in
    let P : List ClientSession → Type 0 = λ l. IsOver l limit.Committed in
    let over : P (settled (taken ss) ss) = subst P (resolved_is ss) h in
    omega (arith, less, over)
over_resolved ss limit.Keys legal h = let same = keys_of_resolved ss in omega (arith, h, same)
