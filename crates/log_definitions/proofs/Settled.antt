-- Sessions keep their numbers and their operations, whichever unknown transactions count as committed.
use Rattle.log_definitions.proofs.Prelude.{◌≡◌, ◌≢◌, ℕ, Bool, true, false, List, [], ◌∷◌, ◌++◌, map, refl, sym, ap, ◌∙◌, flat_map, AllByRecursion, flat_map-append, flat_map-map, ClientSession, Transaction, Op, Outcome, Commit, Abort}
use Rattle.log_definitions.proofs.Prelude.{Unknown, each_of_append, each_from_append, each_of_map, each_from_map, txns_in, ops_in, settled_as, settle, settled, taken, resolved}
use Rattle.log_definitions.proofs.Members.{each_member}

abbrev pub txn_ops : Transaction → List Op
txn_ops t = t.ops

pub numbers_settled : (chosen : ℕ → Bool) (ss : List ClientSession) → map (λ s. s.number) (settled chosen ss) ≡ map (λ s. s.number) ss
unfolding settled
numbers_settled chosen [] = refl
numbers_settled chosen (s ∷ ss) = ap (λ l. s.number ∷ l) (numbers_settled chosen ss)

pub ops_settled : (chosen : ℕ → Bool) (ss : List ClientSession) → ops_in (settled chosen ss) ≡ ops_in ss
unfolding settled
ops_settled chosen [] = refl
ops_settled chosen (s ∷ ss) =
    flat_map-append txn_ops (map (settle (chosen s.number)) s.txns) (txns_in (settled chosen ss))
    ∙ ap (λ l. l ++ ops_in (settled chosen ss)) (flat_map-map txn_ops (settle (chosen s.number)) s.txns)
    ∙ ap (λ l. flat_map txn_ops s.txns ++ l) (ops_settled chosen ss)
    ∙ sym (flat_map-append txn_ops s.txns (txns_in ss))

-- what holds of each transaction once it is settled
pub each_of_settled : (P : Transaction → Type 0) (chosen : ℕ → Bool) (ss : List ClientSession) → AllByRecursion P (txns_in (settled chosen ss)) → AllByRecursion (λ s. AllByRecursion (λ t. P (settle (chosen s.number) t)) s.txns) ss
unfolding settled
each_of_settled P chosen [] h = tt
each_of_settled P chosen (s ∷ ss) h =
    let parts = each_of_append P (map (settle (chosen s.number)) s.txns) (txns_in (settled chosen ss)) h in
    (each_of_map P (settle (chosen s.number)) s.txns parts.0, each_of_settled P chosen ss parts.1)

pub each_from_settled : (P : Transaction → Type 0) (chosen : ℕ → Bool) (ss : List ClientSession) → AllByRecursion (λ s. AllByRecursion (λ t. P (settle (chosen s.number) t)) s.txns) ss → AllByRecursion P (txns_in (settled chosen ss))
unfolding settled
each_from_settled P chosen [] h = tt
each_from_settled P chosen (s ∷ ss) h =
    each_from_append P (map (settle (chosen s.number)) s.txns) (txns_in (settled chosen ss)) (each_from_map P (settle (chosen s.number)) s.txns h.0) (each_from_settled P chosen ss h.1)

pub numbers_resolved : (ss : List ClientSession) → map (λ s. s.number) (resolved ss) ≡ map (λ s. s.number) ss
unfolding resolved
numbers_resolved ss = numbers_settled (taken ss) ss

pub ops_resolved : (ss : List ClientSession) → ops_in (resolved ss) ≡ ops_in ss
unfolding resolved
ops_resolved ss = ops_settled (taken ss) ss

-- ---- outcomes that were learnt
abbrev pub IsLearnt : Transaction → Type 0
IsLearnt t = t.outcome ≢ Unknown

outcome_stays : (b : Bool) (o : Outcome) → o ≢ Unknown → settled_as b o ≡ o
outcome_stays b Commit h = refl
outcome_stays b Abort h = refl
outcome_stays b Unknown h = absurd (h refl)

txns_stay : (b : Bool) (ts : List Transaction) → AllByRecursion IsLearnt ts → map (settle b) ts ≡ ts
txns_stay b [] h = refl
txns_stay b (t ∷ ts) h =
    ap (λ o. record { ops = t.ops; outcome = o; begun = t.begun; ended = t.ended } ∷ map (settle b) ts) (outcome_stays b t.outcome h.0) ∙ ap (λ l. t ∷ l) (txns_stay b ts h.1)

learnt_stay : (chosen : ℕ → Bool) (ss : List ClientSession) → AllByRecursion IsLearnt (txns_in ss) → settled chosen ss ≡ ss
unfolding settled
learnt_stay chosen [] h = refl
learnt_stay chosen (s ∷ ss) h =
    let parts = each_of_append IsLearnt s.txns (txns_in ss) h in
    ap (λ ts. record { number = s.number; txns = ts } ∷ settled chosen ss) (txns_stay (chosen s.number) s.txns parts.0) ∙ ap (λ l. s ∷ l) (learnt_stay chosen ss parts.1)

pub outcome_learnt : (b : Bool) (o : Outcome) → settled_as b o ≢ Unknown
outcome_learnt b Commit e = cc
outcome_learnt b Abort e = cc
outcome_learnt true Unknown e = cc
outcome_learnt false Unknown e = cc

settled_learnt : (chosen : ℕ → Bool) (ss : List ClientSession) → AllByRecursion IsLearnt (txns_in (settled chosen ss))
settled_learnt chosen ss =
    each_from_settled IsLearnt chosen ss
    (each_member _ ss (λ s _. each_member (λ t. IsLearnt (settle (chosen s.number) t)) s.txns (λ t _. outcome_learnt (chosen s.number) t.outcome)))

pub learnt_resolved : (ss : List ClientSession) → AllByRecursion (λ t. t.outcome ≢ Unknown) (txns_in ss) → resolved ss ≡ ss
unfolding resolved
learnt_resolved ss h = learnt_stay (taken ss) ss h

pub settled_resolved : (chosen : ℕ → Bool) (ss : List ClientSession) → resolved (settled chosen ss) ≡ settled chosen ss
settled_resolved chosen ss = learnt_resolved (settled chosen ss) (settled_learnt chosen ss)
