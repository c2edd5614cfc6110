-- One turn of the loop over a node's operations.
use Rattle.anomalies.proofs.Prelude.{◌≡◌, ℕ, zero, suc, ◌+◌, ◌<◌, ◌≤◌, List, [], ◌∷◌, length, get_or, set, take, drop, Option, None, Some, sym, ap, ◌∙◌, subst, arith, AllByRecursion, option_map, option_or, take-append-drop, drop_more}
use Rattle.anomalies.proofs.Prelude.{take_more, length-take-le, get_or_default, Event, ReadAnomaly, Log, event_anomaly, anomaly_at, LastUse, Usage, event_key, StandsAt, IsUsage, used_by, used_after, AreMarked}
use Rattle.serializability.specs.declared.anomaly.Anomaly.TheVariants as anomaly
use Rattle.anomalies.proofs.Sound.{IsSound}
use Rattle.anomalies.proofs.Marks.{mark_of, marked_more}
use Rattle.anomalies.proofs.Scan.{first_behind, first_behind-more}

-- operation i of node v, which these are the operations of
pub record Turn (log : Log) (v : ℕ) (ops : List Event) (i : ℕ) : Type 0 where
  pub own : ops ≡ log.ops v
  pub within : i < length ops
  pub low : 0 < v
  pub high : v ≤ log.nodes

holds_at : (P : Event → Type 0) (ops : List Event) (i : ℕ) (d : Event) → AllByRecursion P ops → i < length ops → P (get_or ops i d)
holds_at P [] i d h lt = absurd (omega arith)
holds_at P (e ∷ ops) zero d h lt = h.0
holds_at P (e ∷ ops) (suc i) d h lt = holds_at P ops i d h.1 (omega arith)

pub key_within : (log : Log) (v : ℕ) (ops : List Event) (i : ℕ) (d : Event) → IsSound log → Turn log v ops i → event_key (get_or ops i d) < log.keys
key_within log v ops i d sound t = grind (arith, holds_at)

pub stands_at : (log : Log) (v : ℕ) (ops : List Event) (i : ℕ) (d : Event) → Turn log v ops i → StandsAt log v (take i ops) (get_or ops i d) (drop (i + 1) ops)
stands_at log v ops i d t = grind (arith, take-append-drop, drop_more)

-- what is read of the marks for it, at any default
pub record Looked (log : Log) (v : ℕ) (ops : List Event) (i : ℕ) (d : Event) (marks : List (Option LastUse)) (key : ℕ) (mark : Option LastUse) (used : Option Usage) : Type 0 where
  pub turn : Turn log v ops i
  pub sound : IsSound log
  pub keys : length marks ≡ log.keys
  pub marked : AreMarked v (take i ops) marks
  pub key_is : key ≡ event_key (get_or ops i d)
  pub used_is : used ≡ used_by v (get_or marks key mark)

in_marks : (log : Log) (v : ℕ) (ops : List Event) (i : ℕ) (d : Event) (marks : List (Option LastUse)) (key : ℕ) (mark : Option LastUse) (used : Option Usage) → Looked log v ops i d marks key mark used → event_key (get_or ops i d) < length marks
in_marks log v ops i d marks key mark used l = omega (arith, key_within log v ops i d l.sound l.turn, l.keys)

used_here : (log : Log) (v : ℕ) (ops : List Event) (i : ℕ) (d : Event) (marks : List (Option LastUse)) (key : ℕ) (mark : Option LastUse) (used : Option Usage) → Looked log v ops i d marks key mark used → used ≡ used_by v (get_or marks (event_key (get_or ops i d)) None)
used_here log v ops i d marks key mark used l = grind (arith, get_or_default, in_marks)

pub scanned : (log : Log) (v : ℕ) (ops : List Event) (i : ℕ) (d : Event) (marks : List (Option LastUse)) (key : ℕ) (mark : Option LastUse) (used : Option Usage) (result : Option ReadAnomaly) → Looked log v ops i d marks key mark used → ((before behind : List Event) → StandsAt log v before (get_or ops i d) behind → IsUsage (event_key (get_or ops i d)) before used → result ≡ event_anomaly log v before (get_or ops i d) behind) → result ≡ event_anomaly log v (take i ops) (get_or ops i d) (drop (i + 1) ops)
scanned log v ops i d marks key mark used result l h =
    let usage = l.marked.usages (event_key (get_or ops i d)) (in_marks log v ops i d marks key mark used l) in
    h (take i ops) (drop (i + 1) ops) (stands_at log v ops i d l.turn)
    (subst (IsUsage (event_key (get_or ops i d)) (take i ops)) (sym (used_here log v ops i d marks key mark used l)) usage)

pub found_here : (log : Log) (v : ℕ) (ops : List Event) (i : ℕ) (d : Event) (kind : ReadAnomaly) → Turn log v ops i → Some kind ≡ event_anomaly log v (take i ops) (get_or ops i d) (drop (i + 1) ops) → first_behind (anomaly_at log) v ops i ≡ Some (anomaly.Read kind v (i + 1))
found_here log v ops i d kind t e =
    let place : length (take i ops) ≡ i = length-take-le i ops (omega (arith, t.within)) in
    first_behind-more (anomaly_at log) v ops i d t.within
    ∙ ap (λ o. option_or (option_map (λ kind. anomaly.Read kind v (length (take i ops) + 1)) o) (first_behind (anomaly_at log) v ops (i + 1))) (sym e)
    ∙ ap (λ n. Some (anomaly.Read kind v (n + 1))) place

pub none_here : (log : Log) (v : ℕ) (ops : List Event) (i : ℕ) (d : Event) → Turn log v ops i → None ≡ event_anomaly log v (take i ops) (get_or ops i d) (drop (i + 1) ops) → first_behind (anomaly_at log) v ops i ≡ first_behind (anomaly_at log) v ops (i + 1)
none_here log v ops i d t e =
    first_behind-more (anomaly_at log) v ops i d t.within
    ∙ ap (λ o. option_or (option_map (λ kind. anomaly.Read kind v (length (take i ops) + 1)) o) (first_behind (anomaly_at log) v ops (i + 1))) (sym e)

pub marked_next : (log : Log) (v : ℕ) (ops : List Event) (i : ℕ) (d : Event) (marks : List (Option LastUse)) (key : ℕ) (mark : Option LastUse) (used : Option Usage) (after : Usage) → Looked log v ops i d marks key mark used → None ≡ event_anomaly log v (take i ops) (get_or ops i d) (drop (i + 1) ops) → after ≡ used_after used (get_or ops i d) → AreMarked v (take (i + 1) ops) (set marks key (Some (record { node = v; used = after })))
marked_next log v ops i d marks key mark used after l none is =
    let e = get_or ops i d in
    let new : after ≡ (mark_of v marks e).used = is ∙ ap (λ u. used_after u e) (used_here log v ops i d marks key mark used l) in
    let next = marked_more log v (take i ops) (drop (i + 1) ops) e marks l.marked (in_marks log v ops i d marks key mark used l) (sym none) in
    let written : set marks key (Some (record { node = v; used = after })) ≡ set marks (event_key e) (Some (mark_of v marks e)) =
    ap (λ k. set marks k (Some (record { node = v; used = after }))) l.key_is ∙ ap (λ u. set marks (event_key e) (Some (record { node = v; used = u }))) new in
    let P : List (Option LastUse) → Type 0 = λ m. AreMarked v (take (i + 1) ops) m in
    subst P (sym written) (subst (λ l. AreMarked v l (set marks (event_key e) (Some (mark_of v marks e)))) (sym (take_more ops i d l.turn.within)) next)
