-- A log without its moments is a log, and the same unknown transactions are taken.
use Rattle.point_laws.proofs.Prelude.{◌≡◌, ℕ, zero, suc, Bool, false, ◌==◌, ◌&&◌, ◌||◌, nat_eq, List, [], ◌∷◌, ◌++◌, length, map, None, refl, sym, ap, ◌∙◌, subst, inl, inr, filter, flat_map, list_any, AllByRecursion, IsDistinct, cases_Bool}
use Rattle.point_laws.proofs.Prelude.{length-map, map-append, is_earlier, ClientSession, Transaction, IsLegal, IsLegalTxn, MayEndAt, IsKnownBeforeLast, Op, Commit, Abort, Unknown, each_from_map, is_committed, is_unknown, txns_in, ops_in}
use Rattle.point_laws.proofs.Prelude.{settle, settled, reads_of, committed_ops, is_needed, taking, taking_times, taken, resolved, written, each_weaker, resolved_is, IsLearnt, IsSoundLog, IsLog, without, session_without, without_moments}
use Rattle.std.proofs.Math.Path.{fun_ext}
use Rattle.session_log.specs.declared.session.Outcome.{Outcome}

-- ---- its transactions
pub txns_without : (ss : List ClientSession) → txns_in (without_moments ss) ≡ map without (txns_in ss)
txns_without [] = refl
txns_without (s ∷ ss) = ap (λ l. map without s.txns ++ l) (txns_without ss) ∙ sym (map-append without s.txns (txns_in ss))

same_ops : (ts : List Transaction) → flat_map (λ (t : Transaction). t.ops) (map without ts) ≡ flat_map (λ (t : Transaction). t.ops) ts
same_ops [] = refl
same_ops (t ∷ ts) = ap (λ l. t.ops ++ l) (same_ops ts)

ops_without : (ss : List ClientSession) → ops_in (without_moments ss) ≡ ops_in ss
ops_without ss = ap (flat_map (λ (t : Transaction). t.ops)) (txns_without ss) ∙ same_ops (txns_in ss)

numbers_without : (ss : List ClientSession) → map (λ s. s.number) (without_moments ss) ≡ map (λ s. s.number) ss
numbers_without [] = refl
numbers_without (s ∷ ss) = ap (λ l. s.number ∷ l) (numbers_without ss)

-- ---- legal and sound
pub may_end : (o : Outcome) → MayEndAt o None
may_end Commit = tt
may_end Abort = refl
may_end Unknown = refl

legal_txn : (t : Transaction) → IsLegalTxn t → IsLegalTxn (without t)
legal_txn t h = record { ops = h.ops; begun = tt; ended = tt; told = may_end t.outcome; ordered = refl }

known_without : (ts : List Transaction) → IsKnownBeforeLast ts → IsKnownBeforeLast (map without ts)
known_without [] h = tt
known_without (t ∷ []) h = tt
known_without (t ∷ u ∷ ts) h = (h.0, known_without (u ∷ ts) h.1)

pub legal_without : (ss : List ClientSession) → AllByRecursion IsLegal ss → AllByRecursion IsLegal (without_moments ss)
legal_without [] h = tt
legal_without (s ∷ ss) h = (
  record {
    low = h.0.low;
    high = h.0.high;
    txns = each_from_map IsLegalTxn without s.txns (each_weaker IsLegalTxn (λ t. IsLegalTxn (without t)) legal_txn s.txns h.0.txns);
    known = known_without s.txns h.0.known;
  },
  legal_without ss h.1,
)

pub stays_sound : (ss : List ClientSession) → IsSoundLog ss → IsSoundLog (without_moments ss)
stays_sound ss sound = record {
  sessions = subst (IsDistinct nat_eq) (sym (numbers_without ss)) sound.sessions;
  writes = subst (λ ops. IsDistinct nat_eq (0 ∷ written ops)) (sym (ops_without ss)) sound.writes;
  ordered = subst (AllByRecursion (λ t. is_earlier t.ended t.begun ≡ false)) (sym (txns_without ss)) (each_from_map (λ (t : Transaction). is_earlier t.ended t.begun ≡ false) without (txns_in ss) (each_weaker (λ (t : Transaction). is_earlier t.ended t.begun ≡ false) (λ t. is_earlier (without t).ended (without t).begun ≡ false) (λ t h. refl) (txns_in ss) sound.ordered));
}

pub sound_without : (ss : List ClientSession) → AllByRecursion IsLegal ss → IsSoundLog ss → IsSoundLog (without_moments ss)
sound_without ss legal sound = stays_sound ss sound

pub log_without : (ss : List ClientSession) → IsLog ss → IsLog (without_moments ss)
log_without ss log = record {
  legal = legal_without ss log.legal;
  sound = sound_without ss log.legal log.sound;
  learnt = subst (AllByRecursion IsLearnt) (sym (txns_without ss)) (each_from_map IsLearnt without (txns_in ss) log.learnt);
}

-- ---- the taken transactions
settled_txns : (b : Bool) (ts : List Transaction) → map (settle b) (map without ts) ≡ map without (map (settle b) ts)
settled_txns b [] = refl
settled_txns b (t ∷ ts) = ap (λ l. without (settle b t) ∷ l) (settled_txns b ts)

settled_without : (chosen : ℕ → Bool) (ss : List ClientSession) → settled chosen (without_moments ss) ≡ without_moments (settled chosen ss)
unfolding settled
settled_without chosen [] = refl
settled_without chosen (s ∷ ss) =
    ap (λ ts. record { number = s.number; txns = ts } ∷ settled chosen (without_moments ss)) (settled_txns (chosen s.number) s.txns)
    ∙ ap (λ l. record { number = s.number; txns = map without (map (settle (chosen s.number)) s.txns) } ∷ l) (settled_without chosen ss)

committed_by : List Transaction → List Op
committed_by ts = flat_map (λ (t : Transaction). t.ops) (filter is_committed ts)

committed_without : (ts : List Transaction) → committed_by (map without ts) ≡ committed_by ts
unfolding committed_by
committed_without [] = refl
committed_without (t ∷ ts) = elim (cases_Bool (is_committed t)) [
  | inl e ↦ rw e (ap (λ l. t.ops ++ l) (committed_without ts))
  | inr e ↦ rw e (committed_without ts)
]

pub committed_ops_stay : (ss : List ClientSession) → committed_ops (without_moments ss) ≡ committed_ops ss
unfolding committed_by
committed_ops_stay ss = ap committed_by (txns_without ss) ∙ committed_without (txns_in ss)

committed_ops_without : (chosen : ℕ → Bool) (ss : List ClientSession) → committed_ops (settled chosen (without_moments ss)) ≡ committed_ops (settled chosen ss)
committed_ops_without chosen ss = ap committed_ops (settled_without chosen ss) ∙ committed_ops_stay (settled chosen ss)

needed_txns : (ops : List Op) (ts : List Transaction) → list_any (λ (t : Transaction). is_unknown t && reads_of ops t.ops) (map without ts) ≡ list_any (λ (t : Transaction). is_unknown t && reads_of ops t.ops) ts
needed_txns ops [] = refl
needed_txns ops (t ∷ ts) = ap (λ b. (is_unknown t && reads_of ops t.ops) || b) (needed_txns ops ts)

needed_without : (ops : List Op) (n : ℕ) (ss : List ClientSession) → list_any (λ (s : ClientSession). (s.number == n) && is_needed ops s) (without_moments ss) ≡ list_any (λ (s : ClientSession). (s.number == n) && is_needed ops s) ss
needed_without ops n [] = refl
needed_without ops n (s ∷ ss) =
    ap (λ b. ((s.number == n) && b) || list_any (λ (r : ClientSession). (r.number == n) && is_needed ops r) (without_moments ss)) (needed_txns ops s.txns)
    ∙ ap (λ b. ((s.number == n) && is_needed ops s) || b) (needed_without ops n ss)

taking_without : (ss : List ClientSession) (chosen : ℕ → Bool) → taking (without_moments ss) chosen ≡ taking ss chosen
taking_without ss chosen = fun_ext at
  where
    at : (n : ℕ) → taking (without_moments ss) chosen n ≡ taking ss chosen n
    at n =
        ap (λ ops. chosen n || list_any (λ (s : ClientSession). (s.number == n) && is_needed ops s) (without_moments ss)) (committed_ops_without chosen ss)
        ∙ ap (λ b. chosen n || b) (needed_without (committed_ops (settled chosen ss)) n ss)

times_without : (k : ℕ) (ss : List ClientSession) (chosen : ℕ → Bool) → taking_times k (without_moments ss) chosen ≡ taking_times k ss chosen
times_without zero ss chosen = refl
times_without (suc k) ss chosen = ap (taking_times k (without_moments ss)) (taking_without ss chosen) ∙ times_without k ss (taking ss chosen)

taken_without : (ss : List ClientSession) → taken (without_moments ss) ≡ taken ss
unfolding taken
taken_without ss =
    ap (λ k. taking_times k (without_moments ss) (λ n. false)) (length-map ss session_without)
    ∙ times_without (length ss) ss (λ n. false)

pub resolved_without : (ss : List ClientSession) → resolved (without_moments ss) ≡ without_moments (resolved ss)
resolved_without ss =
    resolved_is (without_moments ss)
    ∙ ap (λ chosen. settled chosen (without_moments ss)) (taken_without ss)
    ∙ settled_without (taken ss) ss
    ∙ ap without_moments (sym (resolved_is ss))
