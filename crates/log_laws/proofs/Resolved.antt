-- A log with its unknown outcomes resolved.
use Rattle.log_laws.proofs.Prelude.{◌≡◌, List, ◌∷◌, sym, ap, subst, nat_eq, flat_map, AllByRecursion, IsDistinct, ClientSession, each_of_flat_map, txns_in, settle, taken, resolved, written, committed_of, committed_in, each_member}
use Rattle.log_laws.proofs.Prelude.{each_from_settled, numbers_resolved, ops_resolved, learnt_resolved, outcome_learnt, IsLearnt, IsSoundLog, IsLearntLog, ◌≢◌, ℕ, Bool, true, false, [], map, Option, refl, IsLegal, IsLegalTxn, MayEndAt}
use Rattle.log_laws.proofs.Prelude.{IsKnown, is_unknown, each_from_map, settled_as, settled, taken as takes, each_weaker, IsLog}
use Rattle.log_definitions.proofs.Taken.{resolved_is}
use Rattle.log_laws.proofs.Identities.{IsOrdered}
use Rattle.session_log.specs.declared.session.Outcome.{Outcome}
use Rattle.session_log.specs.declared.session.Outcome.TheVariants.{Commit, Abort, Unknown}
use Rattle.session_log.proofs.Blocks.{all_before}

-- ---- a log with its unknown outcomes resolved
pub sound_resolved : (ss : List ClientSession) → IsSoundLog ss → IsSoundLog (resolved ss)
sound_resolved ss log = record {
  sessions = subst (IsDistinct nat_eq) (sym (numbers_resolved ss)) log.sessions;
  writes = subst (λ ops. IsDistinct nat_eq (0 ∷ written ops)) (sym (ops_resolved ss)) log.writes;
  ordered = subst (λ l. AllByRecursion IsOrdered (txns_in l)) (sym (resolved_is ss)) (each_from_settled IsOrdered (taken ss) ss (each_of_flat_map IsOrdered (λ (s : ClientSession). s.txns) ss log.ordered));
}

pub learnt_once_resolved : (ss : List ClientSession) → IsLearntLog (resolved ss)
learnt_once_resolved ss = subst IsLearntLog (sym (resolved_is ss))
    (each_from_settled IsLearnt (taken ss) ss (each_member _ ss (λ s _. each_member (λ t. IsLearnt (settle (taken ss s.number) t)) s.txns (λ t _. outcome_learnt (taken ss s.number) t.outcome))))

pub nodes_stay : (ss : List ClientSession) → committed_in (resolved ss) ≡ committed_in ss
unfolding committed_in
nodes_stay ss = ap (flat_map committed_of) (learnt_resolved (resolved ss) (learnt_once_resolved ss))

-- ---- outcomes that are known

pub known : (o : Outcome) → o ≢ Unknown → is_unknown o ≡ false
known Commit h = refl
known Abort h = refl
known Unknown h = absurd (h refl)

-- ---- outcomes resolved
told_settled : (b : Bool) (o : Outcome) (ended : Option ℕ) → MayEndAt o ended → MayEndAt (settled_as b o) ended
told_settled b Commit ended h = tt
told_settled b Abort ended h = h
told_settled true Unknown ended h = tt
told_settled false Unknown ended h = h

known_settled : (b : Bool) (o : Outcome) → is_unknown (settled_as b o) ≡ false
known_settled b Commit = refl
known_settled b Abort = refl
known_settled true Unknown = refl
known_settled false Unknown = refl

pub legal_settled : (chosen : ℕ → Bool) (ss : List ClientSession) → AllByRecursion IsLegal ss → AllByRecursion IsLegal (settled chosen ss)
unfolding settled
legal_settled chosen [] h = tt
legal_settled chosen (s ∷ ss) h =
    let b = chosen s.number in (
      record {
        low = h.0.low;
        high = h.0.high;
        txns = each_from_map IsLegalTxn (settle b) s.txns (each_weaker IsLegalTxn (λ t. IsLegalTxn (settle b t)) (λ t k. record { ops = k.ops; begun = k.begun; ended = k.ended; told = told_settled b t.outcome t.ended k.told; ordered = k.ordered }) s.txns h.0.txns);
        known = all_before (map (settle b) s.txns) (each_from_map IsKnown (settle b) s.txns (each_member (λ t. IsKnown (settle b t)) s.txns (λ t c. known_settled b t.outcome)));
      },
      legal_settled chosen ss h.1,
    )

-- with its unknown outcomes resolved, a log can be judged by itself
pub resolved_is_log : (ss : List ClientSession) → AllByRecursion IsLegal ss → IsSoundLog ss → IsLog (resolved ss)
resolved_is_log ss legal sound = record {
  legal = subst (AllByRecursion IsLegal) (sym (resolved_is ss)) (legal_settled (takes ss) ss legal);
  sound = sound_resolved ss sound;
  learnt = learnt_once_resolved ss;
}
