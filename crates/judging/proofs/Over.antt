-- A log whose session numbers and identities are its own has no fault but a limit.
use Rattle.judging.proofs.Prelude.{◌≡◌, ℕ, ◌<◌, Bool, true, false, not, cond, List, ◌∷◌, length, count_by, subst, nat_lt, Option, Some, None, refl, sym, ap, ◌∙◌, arith, option_or, ltb-true, ClientSession, Limit, OverLimit, IsFault}
use Rattle.judging.proofs.Prelude.{Apart-from_IsDistinct, IsDistinct-from_Apart, written, IsLog, ops_in, txns_in, log_lines, session_twice, write_twice, session_fault, write_fault, limit_fault, list_fault, keys_in, is_aborted, neither}
use Rattle.judging.proofs.Prelude.{IsOver, IsLimitOrMemory}
use Rattle.session_log.specs.declared.fault.Limit.TheVariants as limit
use Rattle.session_log.specs.declared.fault.LogFault.{LogFault}
use Rattle.session_log.specs.declared.fault.LogFault.TheVariants as faults
use Rattle.long_log_definitions.specs.LongLog as long
use Rattle.long_log_definitions.specs.LongLog.{HasOwnNumbers}
use Rattle.long_log_definitions.proofs.Texts.{no_fault_where_numbers}

-- the fault is this limit, which is passed
pub record IsPassed (ss : List ClientSession) (f : LogFault) : Type 0 where
  pub which : Limit
  pub fault : f ≡ OverLimit which
  pub over : IsOver ss which

passed : (ss : List ClientSession) (most n : ℕ) (which : Limit) (rest : Option LogFault) (f : LogFault) → (most < n → IsOver ss which) → (rest ≡ Some f → IsPassed ss f) → cond (nat_lt most n) (Some (OverLimit which)) rest ≡ Some f → IsPassed ss f
passed ss most n which rest f over others e = go (nat_lt most n) refl e
  where
    go : (b : Bool) → nat_lt most n ≡ b → cond b (Some (OverLimit which)) rest ≡ Some f → IsPassed ss f
    go true h e = record { which = which; fault = sym cc; over = over (ltb-true most n h) }
    go false h e = others e

only_limits : (n : ℕ) (ss : List ClientSession) → HasOwnNumbers ss → list_fault n ss ≡ limit_fault ss
unfolding list_fault long.list_fault
only_limits n ss h =
    let none = neither (session_fault (session_twice n (log_lines ss))) (write_fault (write_twice n (log_lines ss))) (no_fault_where_numbers n ss h) in
    ap (λ o. option_or o (option_or (limit_fault ss) (write_fault (write_twice n (log_lines ss))))) none.0 ∙ ap (option_or (limit_fault ss)) none.1 ∙ own (limit_fault ss)
  where
    own : (o : Option LogFault) → option_or o None ≡ o
    own o = grind arith

pub limit_passed : (n : ℕ) (ss : List ClientSession) (f : LogFault) → HasOwnNumbers ss → list_fault n ss ≡ Some f → IsPassed ss f
limit_passed n ss f h e =
    passed ss 200000 (length (ops_in ss)) limit.Operations _ f (λ lt. lt)
    (passed ss 1000 (count_by (λ t. not (is_aborted t)) (txns_in ss)) limit.Committed _ f (λ lt. lt)
    (passed ss 10000 (length (keys_in ss)) limit.Keys None f (λ lt. lt) (λ s. cc)))
    (sym (only_limits n ss h) ∙ e)

own_numbers : (ss : List ClientSession) → IsLog ss → HasOwnNumbers ss
own_numbers ss h =
    let all = Apart-from_IsDistinct (0 ∷ written (ops_in ss)) h.sound.writes in
    record { sessions = h.sound.sessions; writes = IsDistinct-from_Apart (written (ops_in ss)) all.1 }

not_passed : (ss : List ClientSession) (f : LogFault) → IsLog ss → list_fault 1 ss ≡ Some f → ((which : Limit) → f ≡ OverLimit which → ⊥) → ⊥
not_passed ss f h e other = let p = limit_passed 1 ss f (own_numbers ss h) e in other p.which p.fault

pub limit_or_memory : (ss : List ClientSession) (f : LogFault) → IsLog ss → IsFault f (list_fault 1 ss) → IsLimitOrMemory f
limit_or_memory ss faults.Memory h e = tt
limit_or_memory ss (faults.OverLimit which) h e = tt
limit_or_memory ss f h e = not_passed ss f h e (λ which s. cc)

pub over_limit : (ss : List ClientSession) (f : LogFault) (which : Limit) → IsLog ss → IsFault f (list_fault 1 ss) → f ≡ OverLimit which → IsOver ss which
over_limit ss f which h e is =
    let P : LogFault → Type 0 = λ g. IsFault g (list_fault 1 ss) in
    let p = limit_passed 1 ss (OverLimit which) (own_numbers ss h) (subst P is e) in
    let same : p.which ≡ which = cc in
    subst (IsOver ss) same p.over
