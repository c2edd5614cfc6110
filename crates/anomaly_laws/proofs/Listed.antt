-- The anomalies of a log, as what holds of each read and of each two nodes.
use Rattle.anomaly_laws.proofs.Prelude.{◌≡◌, ℕ, ◌+◌, ◌<◌, ◌≤◌, true, List, [], ◌∷◌, ◌++◌, length, Option, None, Some, refl, sym, ap, ◌∙◌, subst, arith, append_assoc, map, AllByRecursion, filter, flat_map, option_map, option_or, append-nil}
use Rattle.anomaly_laws.proofs.Prelude.{Event, Read, Write, Anomaly, ReadAnomaly, Log, last_write, all_nodes, all_keys, committed, read_anomaly, Place, places_from, places, anomaly_at, first_some, updates, lost_update, lost_updates}
use Rattle.anomaly_laws.proofs.Prelude.{anomaly_of, each_of_range, each_from_range, each_of_flat_map, each_from_flat_map, each_of_map, each_from_map}
use Rattle.serializability.specs.declared.anomaly.Anomaly.TheVariants as anomaly
use Rattle.serializability.specs.Pairs.{pairs_of}
use Rattle.serializability.proofs.EachPair.{each_pair_from, each_pair_of}

-- no read is an anomaly
pub record NoReadAnomaly (log : Log) : Type 0 where
  pub each : (v x w : ℕ) (before behind : List Event) → 0 < v → v ≤ log.nodes → log.ops v ≡ before ++ Read x w ∷ behind → read_anomaly log v before x w behind (last_write x before) ≡ None

-- no two nodes update a key from one node
pub record NoLostUpdate (log : Log) : Type 0 where
  pub each : (x u a b : ℕ) → x < log.keys → u ≤ log.nodes → 0 < a → a < b → b ≤ log.nodes → updates log x u a ≡ true → updates log x u b ≡ true → ⊥

-- ---- the first of a list that is some
or_none : {X : Type 0} (o p : Option X) → option_or o p ≡ None → (o ≡ None) × (p ≡ None)
or_none None p e = (refl, e)
or_none (Some a) p e = cc

pub each_none : {X : Type 0} (f : X → Option Anomaly) (xs : List X) → first_some (map f xs) ≡ None → AllByRecursion (λ x. f x ≡ None) xs
each_none f [] e = tt
each_none f (x ∷ xs) e = let p = or_none (f x) (first_some (map f xs)) e in (p.0, each_none f xs p.1)

none_from_each : {X : Type 0} (f : X → Option Anomaly) (xs : List X) → AllByRecursion (λ x. f x ≡ None) xs → first_some (map f xs) ≡ None
none_from_each f [] h = refl
none_from_each f (x ∷ xs) h = ap (λ o. option_or o (first_some (map f xs))) h.0 ∙ none_from_each f xs h.1

pub mapped_none : {X Y : Type 0} (f : X → Y) (o : Option X) → option_map f o ≡ None → o ≡ None
mapped_none f None e = refl
mapped_none f (Some x) e = cc

-- ---- places
abbrev pub place : ℕ → List Event → Event → List Event → Place
place v before e behind = record { node = v; front = before; event = e; back = behind }

pub each_of_places_from : (P : Place → Type 0) (v : ℕ) (front back mid : List Event) (e : Event) (behind : List Event) → AllByRecursion P (places_from v front back) → back ≡ mid ++ e ∷ behind → P (place v (front ++ mid) e behind)
each_of_places_from P v front [] [] e behind h s = cc
each_of_places_from P v front [] (m ∷ mid) e behind h s = cc
each_of_places_from P v front (d ∷ back) [] e behind h s =
    let head : d ≡ e = cc in
    let tail : back ≡ behind = cc in
    subst P (ap (λ f. place v f d back) (sym (append-nil front)) ∙ ap (λ n. place v (front ++ []) n back) head ∙ ap (λ l. place v (front ++ []) e l) tail) h.0
each_of_places_from P v front (d ∷ back) (m ∷ mid) e behind h s =
    let head : d ≡ m = cc in
    let tail : back ≡ mid ++ e ∷ behind = cc in
    subst P (ap (λ f. place v f e behind) (append_assoc front (d ∷ []) mid ∙ ap (λ n. front ++ n ∷ mid) head))
    (each_of_places_from P v (front ++ d ∷ []) back mid e behind h.1 tail)

each_from_places_from : (P : Place → Type 0) (v : ℕ) (whole front back : List Event) → whole ≡ front ++ back → ((before : List Event) (e : Event) (behind : List Event) → whole ≡ before ++ e ∷ behind → P (place v before e behind)) → AllByRecursion P (places_from v front back)
each_from_places_from P v whole front [] s h = tt
each_from_places_from P v whole front (d ∷ back) s h =
    (h front d back s, each_from_places_from P v whole (front ++ d ∷ []) back (s ∙ sym (append_assoc front (d ∷ []) back)) h)

each_of_places : (log : Log) (P : Place → Type 0) → AllByRecursion P (places log) → (v : ℕ) (before : List Event) (e : Event) (behind : List Event) → 0 < v → v ≤ log.nodes → log.ops v ≡ before ++ e ∷ behind → P (place v before e behind)
each_of_places log P h v before e behind lo hi s =
    let rows = each_of_flat_map P (λ u. places_from u [] (log.ops u)) (committed log) h in
    let row = each_of_range (λ u. AllByRecursion P (places_from u [] (log.ops u))) 1 log.nodes rows v (omega arith) (omega arith) in
    each_of_places_from P v [] (log.ops v) before e behind row s

each_from_places : (log : Log) (P : Place → Type 0) → ((v : ℕ) (before : List Event) (e : Event) (behind : List Event) → 0 < v → v ≤ log.nodes → log.ops v ≡ before ++ e ∷ behind → P (place v before e behind)) → AllByRecursion P (places log)
each_from_places log P h =
    each_from_flat_map P (λ u. places_from u [] (log.ops u)) (committed log)
    (each_from_range (λ u. AllByRecursion P (places_from u [] (log.ops u))) 1 log.nodes (λ v lo hi.
    each_from_places_from P v (log.ops v) [] (log.ops v) refl (λ before e behind s. h v before e behind (omega arith) (omega arith) s)))

-- ---- lost updates
each_of_lost : (log : Log) (P : Anomaly → Type 0) → AllByRecursion P (lost_updates log) → (x u a b : ℕ) → x < log.keys → u ≤ log.nodes → 0 < a → a < b → b ≤ log.nodes → updates log x u a ≡ true → updates log x u b ≡ true → P (lost_update x u (a, b))
each_of_lost log P h x u a b hx hu lo lt hi ta tb =
    let row : ℕ → ℕ → List Anomaly = λ k s. map (lost_update k s) (pairs_of (filter (updates log k s) (committed log))) in
    let keys = each_of_flat_map P (λ k. flat_map (row k) (all_nodes log)) (all_keys log) h in
    let key = each_of_range (λ k. AllByRecursion P (flat_map (row k) (all_nodes log))) 0 log.keys keys x (omega arith) (omega arith) in
    let nodes = each_of_flat_map P (row x) (all_nodes log) key in
    let node = each_of_range (λ s. AllByRecursion P (row x s)) 0 (log.nodes + 1) nodes u (omega arith) (omega arith) in
    let pairs = each_of_map P (lost_update x u) (pairs_of (filter (updates log x u) (committed log))) node in
    each_pair_of (λ p. P (lost_update x u p)) (updates log x u) 1 log.nodes pairs a b (omega arith) lt (omega arith) ta tb

pub each_from_lost : (log : Log) (P : Anomaly → Type 0) → ((x u a b : ℕ) → x < log.keys → u ≤ log.nodes → 0 < a → a < b → b ≤ log.nodes → updates log x u a ≡ true → updates log x u b ≡ true → P (lost_update x u (a, b))) → AllByRecursion P (lost_updates log)
each_from_lost log P h =
    let row : ℕ → ℕ → List Anomaly = λ k s. map (lost_update k s) (pairs_of (filter (updates log k s) (committed log))) in
    each_from_flat_map P (λ k. flat_map (row k) (all_nodes log)) (all_keys log)
    (each_from_range (λ k. AllByRecursion P (flat_map (row k) (all_nodes log))) 0 log.keys (λ x lx hx.
    each_from_flat_map P (row x) (all_nodes log)
    (each_from_range (λ s. AllByRecursion P (row x s)) 0 (log.nodes + 1) (λ u lu hu.
    each_from_map P (lost_update x u) (pairs_of (filter (updates log x u) (committed log)))
    (each_pair_from (λ p. P (lost_update x u p)) (updates log x u) 1 log.nodes (λ a b lo lt hi ta tb.
    h x u a b (omega arith) (omega arith) (omega arith) lt (omega arith) ta tb))))))

-- ---- none is reported
pub reads_of_none : (log : Log) → first_some (map (anomaly_at log) (places log)) ≡ None → NoReadAnomaly log
reads_of_none log e = record {
  each = λ v x w before behind lo hi s.
      mapped_none (λ (kind : ReadAnomaly). anomaly.Read kind v (length before + 1)) (read_anomaly log v before x w behind (last_write x before))
      (each_of_places log (λ p. anomaly_at log p ≡ None) (each_none (anomaly_at log) (places log) e) v before (Read x w) behind lo hi s);
}

at_event : (log : Log) → NoReadAnomaly log → (v : ℕ) (before : List Event) (e : Event) (behind : List Event) → 0 < v → v ≤ log.nodes → log.ops v ≡ before ++ e ∷ behind → anomaly_at log (place v before e behind) ≡ None
at_event log none v before (Read x w) behind lo hi s = ap (option_map (λ kind. anomaly.Read kind v (length before + 1))) (none.each v x w before behind lo hi s)
at_event log none v before (Write x w) behind lo hi s = refl

pub none_reported : (log : Log) → anomaly_of log ≡ None → NoReadAnomaly log × NoLostUpdate log
unfolding anomaly_of
none_reported log e =
    let parts = or_none (first_some (map (anomaly_at log) (places log))) (first_some (map (λ a. Some a) (lost_updates log))) e in
    let lost = each_none (λ (a : Anomaly). Some a) (lost_updates log) parts.1 in (
      reads_of_none log parts.0,
      record { each = λ x u a b hx hu lo lt hi ta tb. (let bad = each_of_lost log (λ a. Some a ≡ None) lost x u a b hx hu lo lt hi ta tb in cc) },
    )

pub none_from_each_read : (log : Log) → NoReadAnomaly log → NoLostUpdate log → anomaly_of log ≡ None
unfolding anomaly_of
none_from_each_read log reads lost =
    ap (λ o. option_or o (first_some (map (λ a. Some a) (lost_updates log))))
    (none_from_each (anomaly_at log) (places log) (each_from_places log (λ p. anomaly_at log p ≡ None) (at_event log reads)))
    ∙ none_from_each (λ (a : Anomaly). Some a) (lost_updates log)
    (each_from_lost log (λ a. Some a ≡ None) (λ x u a b hx hu lo lt hi ta tb. absurd (lost.each x u a b hx hu lo lt hi ta tb)))
