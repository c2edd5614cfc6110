-- What the sessions of a well-formed log keep to, and which fault others have.
use Rattle.session_history.proofs.Prelude.{◌≡◌, ℕ, ◌+◌, ◌<◌, ◌≤◌, not, List, length, count_by, nat_lt, Option, Some, None, sym, ap, ◌∙◌, arith, option_or, lt-ltb, le-ltb, cond-true, cond-false, ClientSession, capped, ops_in, txns_in}
use Rattle.session_history.proofs.Prelude.{log_lines, session_twice, write_twice, session_fault, write_fault, limit_fault, list_fault, keys_in, is_aborted, IsTally}
use Rattle.session_log.specs.declared.fault.Limit.TheVariants as limit
use Rattle.session_log.specs.declared.fault.LogFault.TheVariants.{SessionTwice, OverLimit}
use Rattle.session_history.specs.declared.count.Tally.{Tally}
use Rattle.session_history.proofs.Totals.{others_counted}

-- the limits
pub record KeepsLimits (ss : List ClientSession) : Type 0 where
  pub operations : length (ops_in ss) ≤ 200000
  pub committed : count_by (λ t. not (is_aborted t)) (txns_in ss) ≤ 1000
  pub keys : length (keys_in ss) ≤ 10000

-- by the numbers of the transactions that ended in each way
pub not_aborted : (ss : List ClientSession) (t : Tally) (sum : ℕ) → IsTally (txns_in ss) t → sum ≡ capped (t.committed + t.unknown) → capped (count_by (λ t. not (is_aborted t)) (txns_in ss)) ≡ sum
not_aborted ss t sum h e = omega (arith, others_counted (txns_in ss), h.committed, h.unknown, e)

pub within_limits : (ss : List ClientSession) (t : Tally) (sum keys : ℕ) → IsTally (txns_in ss) t → t.operations ≤ 200000 → sum ≡ capped (t.committed + t.unknown) → sum ≤ 1000 → keys ≡ length (keys_in ss) → keys ≤ 10000 → KeepsLimits ss
within_limits ss t sum keys h few e le number below = record {
  operations = omega (arith, h.operations, few);
  committed = omega (arith, not_aborted ss t sum h e, le);
  keys = omega (arith, number, below);
}

limits_none : (ss : List ClientSession) → KeepsLimits ss → limit_fault ss ≡ None
limits_none ss h =
    cond-false (nat_lt 200000 (length (ops_in ss))) _ _ (le-ltb 200000 (length (ops_in ss)) h.operations)
    ∙ cond-false (nat_lt 1000 (count_by (λ t. not (is_aborted t)) (txns_in ss))) _ _ (le-ltb 1000 (count_by (λ t. not (is_aborted t)) (txns_in ss)) h.committed)
    ∙ cond-false (nat_lt 10000 (length (keys_in ss))) _ _ (le-ltb 10000 (length (keys_in ss)) h.keys)

-- ---- the faults, in the order of the phases

pub fault_session : (n : ℕ) (ss : List ClientSession) (l : ℕ) → Some l ≡ session_twice n (log_lines ss) → list_fault n ss ≡ Some (SessionTwice l)
unfolding list_fault
fault_session n ss l e = ap (λ o. option_or (session_fault o) (option_or (limit_fault ss) (write_fault (write_twice n (log_lines ss))))) (sym e)

past_sessions : (n : ℕ) (ss : List ClientSession) → None ≡ session_twice n (log_lines ss) → list_fault n ss ≡ option_or (limit_fault ss) (write_fault (write_twice n (log_lines ss)))
unfolding list_fault
past_sessions n ss e = ap (λ o. option_or (session_fault o) (option_or (limit_fault ss) (write_fault (write_twice n (log_lines ss))))) (sym e)

pub fault_operations : (n : ℕ) (ss : List ClientSession) → None ≡ session_twice n (log_lines ss) → 200000 < length (ops_in ss) → list_fault n ss ≡ Some (OverLimit limit.Operations)
fault_operations n ss e h = past_sessions n ss e ∙ ap (λ o. option_or o (write_fault (write_twice n (log_lines ss)))) (cond-true (nat_lt 200000 (length (ops_in ss))) _ _ (lt-ltb 200000 (length (ops_in ss)) h))

pub fault_committed : (n : ℕ) (ss : List ClientSession) → None ≡ session_twice n (log_lines ss) → length (ops_in ss) ≤ 200000 → 1000 < count_by (λ t. not (is_aborted t)) (txns_in ss) → list_fault n ss ≡ Some (OverLimit limit.Committed)
fault_committed n ss e o h = past_sessions n ss e ∙ ap (λ o. option_or o (write_fault (write_twice n (log_lines ss))))
    (cond-false (nat_lt 200000 (length (ops_in ss))) _ _ (le-ltb 200000 (length (ops_in ss)) o) ∙ cond-true (nat_lt 1000 (count_by (λ t. not (is_aborted t)) (txns_in ss))) _ _ (lt-ltb 1000 (count_by (λ t. not (is_aborted t)) (txns_in ss)) h))

pub fault_keys : (n : ℕ) (ss : List ClientSession) → None ≡ session_twice n (log_lines ss) → length (ops_in ss) ≤ 200000 → count_by (λ t. not (is_aborted t)) (txns_in ss) ≤ 1000 → 10000 < length (keys_in ss) → list_fault n ss ≡ Some (OverLimit limit.Keys)
fault_keys n ss e o c h = past_sessions n ss e ∙ ap (λ o. option_or o (write_fault (write_twice n (log_lines ss))))
    (cond-false (nat_lt 200000 (length (ops_in ss))) _ _ (le-ltb 200000 (length (ops_in ss)) o) ∙ cond-false (nat_lt 1000 (count_by (λ t. not (is_aborted t)) (txns_in ss))) _ _ (le-ltb 1000 (count_by (λ t. not (is_aborted t)) (txns_in ss)) c)
    ∙ cond-true (nat_lt 10000 (length (keys_in ss))) _ _ (lt-ltb 10000 (length (keys_in ss)) h))

pub fault_write : (n : ℕ) (ss : List ClientSession) (o : Option ℕ) → None ≡ session_twice n (log_lines ss) → KeepsLimits ss → o ≡ write_twice n (log_lines ss) → list_fault n ss ≡ write_fault o
fault_write n ss o e l h = past_sessions n ss e ∙ ap (λ q. option_or q (write_fault (write_twice n (log_lines ss)))) (limits_none ss l) ∙ ap write_fault (sym h)
