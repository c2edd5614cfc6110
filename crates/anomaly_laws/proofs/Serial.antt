-- A log with a serial order is clean.
use Rattle.anomaly_laws.proofs.Prelude.{◌≡◌, ◌≢◌, ◌⊎◌, ℕ, ◌<◌, ◌≤◌, List, ◌∷◌, ◌++◌, Option, None, Some, refl, sym, ap, ◌∙◌, subst, inl, inr, arith, unwrap_or, append_assoc, flat_map, Event, Anomaly, Log, later, last_write, IsFinal}
use Rattle.anomaly_laws.proofs.Prelude.{ReadsAfter, IsNumbered, IsClean, anomaly_of, Has, Apart, Has-from_Contains, Apart-from_IsDistinct, Has-append_front, Has-append_back, Has-append_cases, Apart-not_both, Has-split, after_is}
use Rattle.anomaly_laws.proofs.Prelude.{last_write-append, Meets_read, Meets_node, last_writer, node_of, some_cases}
use Rattle.std.proofs.lemmas.List.Concat.{flat_map-append}
use Rattle.serializability.specs.Replay.{after, empty, Meets, IsSerial}
use Rattle.anomaly_laws.proofs.Writes.{final_writes, final_apart}
use Rattle.anomaly_laws.proofs.Clean.{none_from_clean}

-- ---- what a read meets
-- a node of a serial order, with those before it and those behind it
record At (log : Log) (order : List ℕ) (v : ℕ) : Type 0 where
  pub front : List ℕ
  pub back : List ℕ
  pub stands : order ≡ front ++ v ∷ back

at_node : (log : Log) (order : List ℕ) → IsSerial log order → (v : ℕ) → 0 < v → v ≤ log.nodes → At log order v
at_node log order s v lo hi =
    let c = Has-split v order (Has-from_Contains order v (s.once.each v lo hi)) in
    record { front = c.0; back = c.1.0; stands = c.1.1 }

apart_at : (log : Log) (order : List ℕ) → IsSerial log order → (front back : List ℕ) → order ≡ front ++ back → Apart (front ++ back)
apart_at log order s front back e = subst Apart e (Apart-from_IsDistinct order s.once.distinct)

-- a read meets its own last write before it, or else what the nodes in front left
read_met : (log : Log) (order : List ℕ) → IsSerial log order → (v x w : ℕ) (before : List Event) → (a : At log order v) → ReadsAfter log v before x w → unwrap_or (last_write x before) (unwrap_or (last_write x (flat_map log.ops a.front)) 0) ≡ w
read_met log order s v x w before a reads =
    let all = subst (λ l. Meets empty (flat_map log.ops l)) a.stands s.reads in
    let node = Meets_node empty log.ops a.front a.back v all in
    let start = after empty (flat_map log.ops a.front) in
    ap (unwrap_or (last_write x before)) (sym (after_is empty (flat_map log.ops a.front) x))
    ∙ sym (after_is start before x)
    ∙ Meets_read start before reads.2.0 x w (subst (Meets start) reads.2.1 node)

internal_met : (log : Log) (order : List ℕ) → IsSerial log order → (v x w own : ℕ) (before : List Event) → ReadsAfter log v before x w → last_write x before ≡ Some own → w ≡ own
internal_met log order s v x w own before reads e =
    let a = at_node log order s v reads.0 reads.1 in
    sym (read_met log order s v x w before a reads) ∙ ap (λ o. unwrap_or o (unwrap_or (last_write x (flat_map log.ops a.front)) 0)) e

external_met : (log : Log) (order : List ℕ) → IsSerial log order → (v x w : ℕ) (before : List Event) → (a : At log order v) → ReadsAfter log v before x w → last_write x before ≡ None → unwrap_or (last_write x (flat_map log.ops a.front)) 0 ≡ w
external_met log order s v x w before a reads e =
    sym (ap (λ o. unwrap_or o (unwrap_or (last_write x (flat_map log.ops a.front)) 0)) e) ∙ read_met log order s v x w before a reads

-- ---- the last writer among some nodes of the order
-- a node of this line whose final write of x is w
record Writer (log : Log) (x w : ℕ) (line : List ℕ) : Type 0 where
  pub node : ℕ
  pub there : Has node line
  pub low : 0 < node
  pub high : node ≤ log.nodes
  pub wrote : last_write x (log.ops node) ≡ Some w

writer : (log : Log) (order : List ℕ) → IsSerial log order → (x w : ℕ) (line : List ℕ) → ((u : ℕ) → Has u line → Has u order) → last_write x (flat_map log.ops line) ≡ Some w → Writer log x w line
writer log order s x w line within e =
    let l = last_writer log.ops x w line e in
    let there : Has l.writer line = subst (Has l.writer) (sym l.stands) (Has-append_back l.writer l.front (l.writer ∷ l.back) (inl refl)) in
    let node = node_of log.nodes order s.once l.writer (within l.writer there) in
    record { node = l.writer; there = there; low = node.0; high = node.1; wrote = l.wrote }

-- what is met externally is the initial value, or a final write of a node in front
front_value : (log : Log) (order : List ℕ) → IsSerial log order → (v x w : ℕ) (a : At log order v) → unwrap_or (last_write x (flat_map log.ops a.front)) 0 ≡ w → (w ≡ 0) ⊎ Writer log x w a.front
front_value log order s v x w a e = elim (some_cases (last_write x (flat_map log.ops a.front))) [
  | inl none ↦ inl (sym e ∙ ap (λ o. unwrap_or o 0) none)
  | inr some ↦
      let is : last_write x (flat_map log.ops a.front) ≡ Some w = some.1 ∙ ap Some (sym (ap (λ o. unwrap_or o 0) some.1) ∙ e) in
      inr (writer log order s x w a.front (λ u h. subst (Has u) (sym a.stands) (Has-append_front u a.front (v ∷ a.back) h)) is)
]

external_from : (log : Log) (order : List ℕ) → IsSerial log order → (v x w : ℕ) (before : List Event) → ReadsAfter log v before x w → last_write x before ≡ None → (u : ℕ) × (u ≢ v) × IsFinal log u x w
external_from log order s v x w before reads e =
    let a = at_node log order s v reads.0 reads.1 in
    elim (front_value log order s v x w a (external_met log order s v x w before a reads e)) [
      | inl z ↦ (0, λ same. omega (arith, same, reads.0), inl (refl, z))
      | inr l ↦
          let ne : l.node ≢ v = λ same.
          Apart-not_both l.node a.front (v ∷ a.back) (apart_at log order s a.front (v ∷ a.back) a.stands) l.there (inl (sym same)) in
          (l.node, ne, inr (l.low, l.high, l.wrote))
    ]

same_met : (log : Log) (order : List ℕ) → IsSerial log order → (v x w y : ℕ) (before after : List Event) → ReadsAfter log v before x w → last_write x before ≡ None → ReadsAfter log v after x y → last_write x after ≡ None → w ≡ y
same_met log order s v x w y before after first e second f =
    let a = at_node log order s v first.0 first.1 in
    sym (external_met log order s v x w before a first e) ∙ external_met log order s v x y after a second f

-- ---- no update is lost
later_some : (a b : Option ℕ) (p : ℕ) → a ≡ Some p → (q : ℕ) × (later a b ≡ Some q)
later_some a None p e = (p, e)
later_some a (Some q) p e = (q, refl)

-- where a stands before b, both read x as w, and a writes x, then the write that b reads is of a or of a later node, but a reads it
never_lost : (log : Log) → IsNumbered log → (order : List ℕ) → IsSerial log order → (a b x w p : ℕ) (before after : List Event) (front mid back : List ℕ) → order ≡ front ++ a ∷ (mid ++ b ∷ back) → ReadsAfter log a before x w → last_write x before ≡ None → ReadsAfter log b after x w → last_write x after ≡ None → last_write x (log.ops a) ≡ Some p → ⊥
never_lost log numbered order s a b x w p before after front mid back stands ra ea rb eb writes =
    let at_a : At log order a = record { front = front; back = mid ++ b ∷ back; stands = stands } in
    let joined : order ≡ (front ++ a ∷ mid) ++ b ∷ back = stands ∙ sym (append_assoc front (a ∷ mid) (b ∷ back)) in
    let at_b : At log order b = record { front = front ++ a ∷ mid; back = back; stands = joined } in
    let some = later_some (last_write x (log.ops a)) (last_write x (flat_map log.ops mid)) p writes in
    let mids : last_write x (flat_map log.ops (a ∷ mid)) ≡ Some some.0 = last_write-append x (log.ops a) (flat_map log.ops mid) ∙ some.1 in
    let whole : last_write x (flat_map log.ops (front ++ a ∷ mid)) ≡ Some some.0 =
    ap (last_write x) (flat_map-append log.ops front (a ∷ mid))
    ∙ last_write-append x (flat_map log.ops front) (flat_map log.ops (a ∷ mid))
    ∙ ap (later (last_write x (flat_map log.ops front))) mids in
    let value : some.0 ≡ w = sym (ap (λ o. unwrap_or o 0) whole) ∙ external_met log order s b x w after at_b rb eb in
    let inside : (u : ℕ) → Has u (a ∷ mid) → Has u order =
    λ u h. subst (Has u) (sym joined) (Has-append_front u (front ++ a ∷ mid) (b ∷ back) (Has-append_back u front (a ∷ mid) h)) in
    let source = writer log order s x w (a ∷ mid) inside (mids ∙ ap Some value) in
    elim (front_value log order s a x w at_a (external_met log order s a x w before at_a ra ea)) [
      | inl z ↦
          let f = final_writes log source.node x w source.low source.high source.wrote in
          omega (arith, numbered.nonzero source.node x w f.0 f.1, z)
      | inr l ↦
          let same = final_apart log numbered source.node l.node x w (inr (source.low, source.high, source.wrote)) (inr (l.low, l.high, l.wrote)) in
          let behind : Has l.node (a ∷ (mid ++ b ∷ back)) = subst (λ n. Has n (a ∷ (mid ++ b ∷ back))) same (Has-append_front source.node (a ∷ mid) (b ∷ back) source.there) in
          Apart-not_both l.node front (a ∷ (mid ++ b ∷ back)) (apart_at log order s front (a ∷ (mid ++ b ∷ back)) stands) l.there behind
    ]

unlost_met : (log : Log) → IsNumbered log → (order : List ℕ) → IsSerial log order → (a b x w p q : ℕ) (before after : List Event) → ReadsAfter log a before x w → last_write x before ≡ None → ReadsAfter log b after x w → last_write x after ≡ None → last_write x (log.ops a) ≡ Some p → last_write x (log.ops b) ≡ Some q → a ≡ b
unlost_met log numbered order s a b x w p q before after ra ea rb eb pa qb =
    let c = at_node log order s a ra.0 ra.1 in
    let there = Has-append_cases b c.front (a ∷ c.back) (subst (Has b) c.stands (Has-from_Contains order b (s.once.each b rb.0 rb.1))) in
    elim there [
      | inl h ↦
          let d = Has-split b c.front h in
          let stands : order ≡ d.0 ++ b ∷ (d.1.0 ++ a ∷ c.back) = c.stands ∙ ap (λ l. l ++ a ∷ c.back) d.1.1 ∙ append_assoc d.0 (b ∷ d.1.0) (a ∷ c.back) in
          absurd (never_lost log numbered order s b a x w q after before d.0 d.1.0 c.back stands rb eb ra ea qb)
      | inr h ↦ elim h [
        | inl same ↦ same
        | inr h' ↦
            let d = Has-split b c.back h' in
            let stands : order ≡ c.front ++ a ∷ (d.0 ++ b ∷ d.1.0) = c.stands ∙ ap (λ l. c.front ++ a ∷ l) d.1.1 in
            absurd (never_lost log numbered order s a b x w p before after c.front d.0 d.1.0 stands ra ea rb eb pa)
      ]
    ]

pub serial_clean : (log : Log) → IsNumbered log → (order : List ℕ) → IsSerial log order → IsClean log
serial_clean log numbered order s = record {
  internal = internal_met log order s;
  external = external_from log order s;
  same = same_met log order s;
  unlost = unlost_met log numbered order s;
  keys = numbered.keys;
  apart = final_apart log numbered;
  together = numbered.together;
}

pub no_order : (log : Log) → IsNumbered log → (a : Anomaly) → anomaly_of log ≡ Some a → (order : List ℕ) → IsSerial log order → ⊥
no_order log numbered a e order s =
    let none = none_from_clean log numbered (serial_clean log numbered order s) in cc
