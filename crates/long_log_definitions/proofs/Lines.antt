-- The numbers of sessions and the identities of writes among the lines of a log.
use Rattle.std.proofs.Common.{◌≡◌, ℕ, ◌+◌, List, [], ◌∷◌, ◌++◌, length, map, Option, refl, sym, ap, ◌∙◌, arith}
use Rattle.std.specs.List.{flat_map}
use Rattle.std.proofs.lemmas.List.Concat.{flat_map-append}
use Rattle.std.proofs.lemmas.List.{map-append}
use Rattle.session_log.specs.Text.{ClientSession, Transaction, op_line, end_line, txn_lines, session_lines}
use Rattle.session_log.specs.declared.line.Line.{Line}
use Rattle.session_log.specs.declared.session.Op.{Op}
use Rattle.session_log.specs.declared.session.Outcome.{Outcome}
use Rattle.log_definitions.specs.Unknown.{txns_in, ops_in}
use Rattle.log_definitions.specs.WellFormed.{log_lines, sessions_from, writes_from, written}
use Rattle.log_definitions.proofs.Scanning.{written-append, numbers}
use Rattle.log_definitions.proofs.Settled.{txn_ops}
use Rattle.log_definitions.proofs.Lines.{sessions_from-append, writes_from-append}

-- ---- their numbers, by the sessions
joined_sessions : (n : ℕ) (a b : List Line) (xs ys : List ℕ) → ((m : ℕ) → numbers (sessions_from m a) ≡ xs) → ((m : ℕ) → numbers (sessions_from m b) ≡ ys) → numbers (sessions_from n (a ++ b)) ≡ xs ++ ys
joined_sessions n a b xs ys e f = ap numbers (sessions_from-append n a b) ∙ (map-append (λ x. x.1) (sessions_from n a) (sessions_from (n + length a) b) ∙ (ap (λ l. l ++ numbers (sessions_from (n + length a) b)) (e n) ∙ ap (λ l. xs ++ l) (f (n + length a))))

joined_writes : (n : ℕ) (a b : List Line) (xs ys : List ℕ) → ((m : ℕ) → numbers (writes_from m a) ≡ xs) → ((m : ℕ) → numbers (writes_from m b) ≡ ys) → numbers (writes_from n (a ++ b)) ≡ xs ++ ys
joined_writes n a b xs ys e f = ap numbers (writes_from-append n a b) ∙ (map-append (λ x. x.1) (writes_from n a) (writes_from (n + length a) b) ∙ (ap (λ l. l ++ numbers (writes_from (n + length a) b)) (e n) ∙ ap (λ l. xs ++ l) (f (n + length a))))

no_session_in_ops : (n : ℕ) (ops : List Op) (end : Outcome) (ended : Option ℕ) → numbers (sessions_from n (map op_line ops ++ end_line end ended ∷ [])) ≡ []
no_session_in_ops n [] end ended = grind arith
no_session_in_ops n (op ∷ ops) end ended = grind (arith, no_session_in_ops (n + 1) ops end ended)

no_session_in_txns : (ts : List Transaction) (n : ℕ) → numbers (sessions_from n (flat_map txn_lines ts)) ≡ []
no_session_in_txns [] n = refl
no_session_in_txns (t ∷ ts) n = joined_sessions n (txn_lines t) (flat_map txn_lines ts) [] [] (λ m. no_session_in_ops (m + 1) t.ops t.outcome t.ended) (no_session_in_txns ts)

pub session_numbers : (ss : List ClientSession) (n : ℕ) → numbers (sessions_from n (log_lines ss)) ≡ map (λ s. s.number) ss
session_numbers [] n = refl
session_numbers (s ∷ ss) n = joined_sessions n (session_lines s) (log_lines ss) (s.number ∷ []) (map (λ s. s.number) ss) (λ m. ap (λ l. s.number ∷ l) (no_session_in_txns s.txns (m + 1))) (session_numbers ss)

writes_in_ops : (n : ℕ) (ops : List Op) (end : Outcome) (ended : Option ℕ) → numbers (writes_from n (map op_line ops ++ end_line end ended ∷ [])) ≡ written ops
writes_in_ops n [] end ended = grind arith
writes_in_ops n (op ∷ ops) end ended = grind (arith, writes_in_ops (n + 1) ops end ended)

writes_in_txns : (ts : List Transaction) (n : ℕ) → numbers (writes_from n (flat_map txn_lines ts)) ≡ written (flat_map txn_ops ts)
writes_in_txns [] n = refl
writes_in_txns (t ∷ ts) n =
    joined_writes n (txn_lines t) (flat_map txn_lines ts) (written t.ops) (written (flat_map txn_ops ts)) (λ m. writes_in_ops (m + 1) t.ops t.outcome t.ended) (writes_in_txns ts)
    ∙ sym (written-append t.ops (flat_map txn_ops ts))

pub written_identities : (ss : List ClientSession) (n : ℕ) → numbers (writes_from n (log_lines ss)) ≡ written (ops_in ss)
written_identities [] n = refl
written_identities (s ∷ ss) n =
    joined_writes n (session_lines s) (log_lines ss) (written (flat_map txn_ops s.txns)) (written (ops_in ss)) (λ m. writes_in_txns s.txns (m + 1)) (written_identities ss)
    ∙ (sym (written-append (flat_map txn_ops s.txns) (ops_in ss)) ∙ ap written (sym (flat_map-append txn_ops s.txns (txns_in ss))))
