-- The anomaly of an operation, by the tables and by the log.
use Rattle.census.proofs.Prelude.{◌≡◌, ℕ, Bool, cond, ◌&&◌, ◌||◌, eqb, List, ◌∷◌, ◌++◌, Option, None, Some, refl, ap, ◌∙◌, not, list_any, list_any-append, ClientSession, Op, Read, Write, ReadAnomaly, txns_in, ops_in, reads_write, Writes}
use Rattle.census.proofs.Prelude.{States, KeyState, last_write, writes_as, is_other_read, is_aborted, is_intermediate, fault_at, read_fault, external_fault, differs, state_of, state_in, has_version, op_fault, fault_among, external_among}
use Rattle.census.proofs.Prelude.{KnowsWrites}
use Rattle.serializability.specs.declared.anomaly.ReadAnomaly.TheVariants as anomaly
use Rattle.census.specs.declared.versions.Versions.{Versions}
use Rattle.census.proofs.Along.{written_in, no_write, split_in}

-- the first of these that holds
abbrev pick : Bool → Bool → Bool → Bool → Bool → Option ReadAnomaly
pick u a f m s =
    cond u (Some anomaly.Unknown) (cond a (Some anomaly.Aborted) (cond f (Some anomaly.Future) (cond m (Some anomaly.Intermediate) (cond s (Some anomaly.Split) None))))

pick_same : (u v a b f g m n s t : Bool) → u ≡ v → a ≡ b → f ≡ g → m ≡ n → s ≡ t → pick u a f m s ≡ pick v b g n t
pick_same u v a b f g m n s t hu ha hf hm hs =
    ap (λ x. pick x a f m s) hu ∙ ap (λ x. pick v x f m s) ha ∙ ap (λ x. pick v b x m s) hf ∙ ap (λ x. pick v b g x s) hm ∙ ap (λ x. pick v b g n x) hs

-- an own write of what an external read names stands behind it
own_behind : (key : List ℕ) (wid : ℕ) (before behind : List Op) → last_write key before ≡ None → writes_as key wid (before ++ Read key wid ∷ behind) ≡ writes_as key wid behind
own_behind key wid before behind none =
    list_any-append (reads_write (Read key wid)) before (Read key wid ∷ behind)
    ∙ ap (λ b. b || writes_as key wid behind) (no_write key wid before none)

external_same : (ss : List ClientSession) (writes : Writes) (own : Versions) (state : KeyState) (before behind : List Op) (key : List ℕ) (wid : ℕ)
    → KnowsWrites (txns_in ss) writes → ((k : List ℕ) (w : ℕ) → has_version own k w ≡ writes_as k w (before ++ Read key wid ∷ behind)) → state ≡ state_in key before → last_write key before ≡ None
    → external_among writes own state key wid ≡ external_fault ss before key wid behind
external_same ss writes own state before behind key wid knows owns is none =
    pick_same
    (not (eqb wid 0) && not (has_version writes.written key wid)) (not (eqb wid 0) && not (writes_as key wid (ops_in ss)))
    (has_version writes.aborted key wid) (is_aborted ss key wid)
    (has_version own key wid) (writes_as key wid behind)
    (has_version writes.passed key wid) (is_intermediate ss key wid)
    (differs state wid) (list_any (is_other_read key wid) before)
    (ap (λ b. not (eqb wid 0) && not b) (knows.written key wid))
    (knows.aborted key wid)
    (owns key wid ∙ own_behind key wid before behind none)
    (knows.passed key wid)
    (ap (λ s. differs s wid) is ∙ split_in key wid before none)

read_same : (ss : List ClientSession) (writes : Writes) (own : Versions) (state : KeyState) (before behind : List Op) (key : List ℕ) (wid : ℕ)
    → KnowsWrites (txns_in ss) writes → ((k : List ℕ) (w : ℕ) → has_version own k w ≡ writes_as k w (before ++ Read key wid ∷ behind)) → state ≡ state_in key before
    → (o : Option ℕ) → last_write key before ≡ o → fault_among writes own state key wid o ≡ read_fault ss before key wid behind o
read_same ss writes own state before behind key wid knows owns is (Some w) e = refl
read_same ss writes own state before behind key wid knows owns is None e = external_same ss writes own state before behind key wid knows owns is e

pub fault_same : (ss : List ClientSession) (writes : Writes) (own : Versions) (states : States) (before : List Op) (op : Op) (behind : List Op)
    → KnowsWrites (txns_in ss) writes → ((k : List ℕ) (w : ℕ) → has_version own k w ≡ writes_as k w (before ++ op ∷ behind)) → ((k : List ℕ) → state_of states k ≡ state_in k before)
    → op_fault writes own states op ≡ fault_at ss before op behind
fault_same ss writes own states before (Write key wid) behind knows owns are = refl
fault_same ss writes own states before (Read key wid) behind knows owns are =
    ap (fault_among writes own (state_of states key) key wid) (ap (λ s. s.written) (are key) ∙ written_in key before)
    ∙ read_same ss writes own (state_of states key) before behind key wid knows owns (are key) (last_write key before) refl
