-- What is wrong with an order as a whole.
use Rattle.decode_order.proofs.Prelude.{◌≡◌, ℕ, List, Option, Some, None, refl, sym, ap, ◌∙◌, subst, inl, inr, option_map, option_or, cases_Bool, cond-true, cond-false, false≢true, false_from_ne_true, Log, empty, Meets, IsSerial, ListsOnce}
use Rattle.decode_order.proofs.Prelude.{lists_once, first_early, first_before_ended, first_mismatch, in_replay, session_fault, moment_fault, read_fault, replay_fault}
use Rattle.decode_order.specs.declared.fault.ReplayFault.{ReplayFault}
use Rattle.decode_order.specs.declared.fault.ReplayFault.TheVariants.{NotAPermutation, SessionOrder, MomentOrder}
use Rattle.decode_order.proofs.Counted.{lists_once_is, lists_once_from}
use Rattle.decode_order.proofs.Early.{early_is, in_time, none_before}
use Rattle.serializability.proofs.Timed.{kept, from_kept, moments_kept, kept_moments, is_early, sessions_kept, kept_sessions}
use Rattle.decode_order.proofs.Mismatch.{meets_all, no_mismatch, ops-in_replay}

-- ---- one after the other
-- what is wrong where no node stands before an earlier one of its session
abbrev in_sessions : Log → List ℕ → Option ReplayFault
in_sessions log order = option_or (moment_fault (first_before_ended log.earlier order)) (read_fault (first_mismatch empty (in_replay log.ops order)))

pub fault_not_once : (log : Log) (order : List ℕ) → (ListsOnce log.nodes order → ⊥) → replay_fault log order ≡ Some NotAPermutation
unfolding replay_fault
fault_not_once log order h =
    cond-false (lists_once log.nodes order) (option_or (session_fault (first_early log.session order)) (in_sessions log order)) (Some NotAPermutation)
    (false_from_ne_true (lists_once log.nodes order) (λ t. h (lists_once_is log.nodes order t)))

pub fault_once : (log : Log) (order : List ℕ) → ListsOnce log.nodes order → replay_fault log order ≡ option_or (session_fault (first_early log.session order)) (in_sessions log order)
unfolding replay_fault
fault_once log order once =
    cond-true (lists_once log.nodes order) (option_or (session_fault (first_early log.session order)) (in_sessions log order)) (Some NotAPermutation)
    (lists_once_from log.nodes order once)

-- ---- nothing is wrong exactly where the order is serial
pub fault_serial : (log : Log) (order : List ℕ) → IsSerial log order → replay_fault log order ≡ None
fault_serial log order s =
    let early = early_is log.session order ∙ none_before (is_early log.session) order (from_kept log.nodes (is_early log.session) order s.once (kept_sessions log order s.sessions)) in
    let timed = none_before log.earlier order (from_kept log.nodes log.earlier order s.once (kept_moments log order s.moments)) in
    let met = no_mismatch empty (in_replay log.ops order) (subst (Meets empty) (sym (ops-in_replay log.ops order)) s.reads) in
    fault_once log order s.once
    ∙ ap (λ o. option_or (session_fault o) (in_sessions log order)) early
    ∙ ap (λ o. option_or (moment_fault o) (read_fault (first_mismatch empty (in_replay log.ops order)))) timed
    ∙ ap read_fault met

none_cases : {A : Type 0} (f : A → ReplayFault) (o : Option A) (rest : Option ReplayFault) → option_or (option_map f o) rest ≡ None → (o ≡ None) × (rest ≡ None)
none_cases f None rest e = (refl, e)
none_cases f (Some v) rest e = cc

read_cases : (o : Option (ℕ × ℕ)) → read_fault o ≡ None → o ≡ None
read_cases None e = refl
read_cases (Some p) e = cc

pub serial_where_no_fault : (log : Log) (order : List ℕ) → replay_fault log order ≡ None → IsSerial log order
serial_where_no_fault log order e = elim (cases_Bool (lists_once log.nodes order)) [
  | inl t ↦
      let once = lists_once_is log.nodes order t in
      let early = none_cases SessionOrder (first_early log.session order) (in_sessions log order) (sym (fault_once log order once) ∙ e) in
      let timed = none_cases MomentOrder (first_before_ended log.earlier order) (read_fault (first_mismatch empty (in_replay log.ops order))) early.1 in
      let turns = in_time (is_early log.session) order (sym (early_is log.session order) ∙ early.0) in
      record {
        once = once;
        sessions = sessions_kept log order (kept log.nodes (is_early log.session) order once turns);
        moments = moments_kept log order (kept log.nodes log.earlier order once (in_time log.earlier order timed.0));
        reads = subst (Meets empty) (ops-in_replay log.ops order)
            (meets_all empty (in_replay log.ops order) (read_cases (first_mismatch empty (in_replay log.ops order)) timed.1));
      }
  | inr f ↦
      let not_once = fault_not_once log order (λ once. false≢true (sym f ∙ lists_once_from log.nodes order once)) in
      let none : Some NotAPermutation ≡ None = sym not_once ∙ e in
      absurd (cc)
]
