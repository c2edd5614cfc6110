-- Each reason is kept by each serial order, and none has crossed reads.
use Rattle.std.proofs.Common.{◌≡◌, ◌≢◌, ℕ, ◌<◌, ◌≤◌, List, [], ◌∷◌, ◌++◌, None, Some, refl, sym, ap, ◌∙◌, subst, inl, inr, arith, lt-ltb, append_assoc}
use Rattle.session_log.specs.Text.{ClientSession}
use Rattle.session_log.specs.declared.session.Op.TheVariants.{Read, Write}
use Rattle.serializability.specs.declared.event.Event.{Event}
use Rattle.serializability.specs.declared.event.Event.TheVariants as event
use Rattle.serializability.specs.Log.{Log}
use Rattle.serializability.specs.Replay.{place_of, Before}
use Rattle.serializability.specs.Reads.{last_write, IsFinal, ReadsAfter, WritesAfter, IsNumbered, IsClean}
use Rattle.serializability.specs.Polygraph.{Fits, bipath_polygraph, source}
use Rattle.serializability.proofs.Sources.{source_from, reads_from_source, one_final}
use Rattle.serializability.proofs.Serial.{arcs_kept, bipaths_kept, serial_fits, some_cases, arc_from_read, rival_from, zero_first, source_within}
use Rattle.anomaly_laws.proofs.Writes.{final_writes}
use Rattle.anomaly_laws.proofs.Serial.{serial_clean}
use Rattle.log_definitions.specs.WellFormed.{keys_in}
use Rattle.log_definitions.specs.Serial.{IsSerialOrder}
use Rattle.log_definitions.specs.Numbers.{number_in, IsWellFormedList, log_of}
use Rattle.log_definitions.proofs.Numbered.{numbered}
use Rattle.log_definitions.proofs.Renaming.{serial_numbered}
use Rattle.reason_laws.specs.Reasons.{IsNode, IsOpAt, AreOfSession, IsReadBy, IsOverwrittenBy, Link, AreLinked, left_by, IsOfInitialBefore, EndsBefore, ReadsAt}
use Rattle.reason_laws.proofs.Numbers.{wrote, source_of_read, within, before_at, reads_after, writes_after, final_at, writes_some, reads_from, node_from, key_within}
use Rattle.std.proofs.lemmas.Bool.{cases_eq}
use Rattle.reason_laws.specs.Crossed.{AreCrossed}
use Rattle.reason_laws.specs.declared.crossing.Crossing.{Crossing}

-- ---- what is known of a log, and of a serial order of it
pub record Serial (log : Log) (order : List ℕ) : Type 0 where
  pub numbered : IsNumbered log
  pub clean : IsClean log
  pub fits : Fits (bipath_polygraph log) order

pub serial : (ss : List ClientSession) (order : List ℕ) → IsWellFormedList ss → IsSerialOrder ss order → Serial (log_of ss) order
serial ss order h s =
    let is = serial_numbered ss order s in
    let clean = serial_clean (log_of ss) (numbered ss h) order is in
    record { numbered = numbered ss h; clean = clean; fits = serial_fits (log_of ss) clean order is }

-- ---- sources
-- a write that is the final one of a node is of that node
one_writer : (log : Log) → IsNumbered log → (a u x w : ℕ) (after : List Event) → WritesAfter log a after x w → IsFinal log u x w → a ≡ u
one_writer log n a u x w after writes (inl z) = absurd (omega (arith, n.nonzero a x w after writes, z.1))
one_writer log n a u x w after writes (inr f) =
    let g = final_writes log u x w f.0 f.1 f.2 in
    (n.distinct a u x x w after g.0 writes g.1).0

-- who reads from a node stands behind it
pub source_before : (ss : List ClientSession) (order : List ℕ) → Serial (log_of ss) order → (v x u : ℕ) → IsNode ss v → x < (log_of ss).keys → source (log_of ss) v x ≡ Some u → Before order u v
source_before ss order s v x u node key e =
    let log = log_of ss in
    let hi = within ss v node in
    arcs_kept log order s.fits.known u v (source_within log s.clean v x u node.0 hi e) hi (arc_from_read log v u node.0 (reads_from_source log v x u key e))

-- ---- a read
-- who reads a write of another reads the key from that one
pub source_where : (log : Log) → IsNumbered log → IsClean log → (a b x w : ℕ) (after before : List Event) → a ≢ b → WritesAfter log a after x w → ReadsAfter log b before x w → source log b x ≡ Some a
source_where log numbered clean a b x w after before apart writes reads = elim (some_cases (last_write x before)) [
  | inl e ↦
      let f = clean.external b x w before reads e in
      source_from log clean b x f.0 w before reads e f.2 ∙ ap Some (sym (one_writer log numbered a f.0 x w after writes f.2))
  | inr own ↦
      let same = clean.internal b x w own.0 before reads own.1 in
      -- what stands before the read, as if it were all that b did
      let o = final_writes (record log { ops = λ v. before }) b x w reads.0 reads.1 (own.1 ∙ ap Some (sym same)) in
      let behind : List Event = o.1.2.0 in
      let stands : log.ops b ≡ o.0 ++ event.Write x w ∷ (behind ++ event.Read x w ∷ reads.2.0) =
      reads.2.1 ∙ ap (λ l. l ++ event.Read x w ∷ reads.2.0) o.1.2.1 ∙ append_assoc o.0 (event.Write x w ∷ behind) (event.Read x w ∷ reads.2.0) in
      absurd (apart (numbered.distinct a b x x w after o.0 writes (reads.0, reads.1, (behind ++ event.Read x w ∷ reads.2.0, stands))).0)
]

-- ---- a write that is not seen
-- v reads the key from u, and k, which writes it too, does not stand before u: v stands before k
pub overtaken : (ss : List ClientSession) (order : List ℕ) → Serial (log_of ss) order → (v i k u : ℕ) (key : List ℕ) (wid y : ℕ) → IsNode ss v → IsNode ss k → ReadsAt ss v i key wid → IsFinal (log_of ss) u (number_in (keys_in ss) key) wid → last_write (number_in (keys_in ss) key) ((log_of ss).ops k) ≡ Some y
    → k ≢ v → k ≢ u → place_of (0 ∷ order) u ≤ place_of (0 ∷ order) k → Before order v k
overtaken ss order s v i k u key wid y first second r final writes other apart behind =
    let x = number_in (keys_in ss) key in
    let from = source_of_read ss s.clean v i key wid u first r final in
    let low = key_within ss v i (Read key wid) r.read in
    elim (bipaths_kept (log_of ss) order s.fits.choices v x u k first.0 (within ss v first) low from second.0 (within ss k second) (rival_from (log_of ss) x u v k y writes apart other)) [
      | inl h ↦ absurd (let back = h.0 in omega (arith, back, behind))
      | inr h ↦ h.0
    ]

pub overtaken_behind : (ss : List ClientSession) (order : List ℕ) → Serial (log_of ss) order → (v i k j u : ℕ) (key : List ℕ) (wid y : ℕ) → IsNode ss v → IsNode ss k → ReadsAt ss v i key wid → IsFinal (log_of ss) u (number_in (keys_in ss) key) wid → IsOpAt ss k j (Write key y) → k ≢ v → Before order u k → Before order v k
overtaken_behind ss order s v i k j u key wid y first second r final writes other behind =
    let w = writes_some ss k j key y second writes in
    overtaken ss order s v i k u key wid w.0 first second r final w.1 other (λ e. let same = ap (place_of (0 ∷ order)) e in omega (arith, same, behind)) (omega (arith, behind))

-- ---- of the sessions
pub session_kept : (ss : List ClientSession) (order : List ℕ) → IsWellFormedList ss → IsSerialOrder ss order → (a b : ℕ) → AreOfSession ss a b → Before order a b
session_kept ss order h s a b r = s.sessions a b r.first.0 r.order r.second.1 r.session

pub read_kept : (ss : List ClientSession) (order : List ℕ) → IsWellFormedList ss → IsSerialOrder ss order → (a i b j : ℕ) → IsReadBy ss a i b j → Before order a b
read_kept ss order h s a i b j r =
    let facts = serial ss order h s in
    let x = number_in (keys_in ss) r.key in
    source_before ss order facts b x a r.second (key_within ss b j (Read r.key r.wid) r.reads)
    (source_where (log_of ss) facts.numbered facts.clean a b x r.wid (before_at ss a i) (before_at ss b j) r.apart (writes_after ss a i r.key r.wid r.first r.writes) (reads_after ss b j r.key r.wid r.second r.reads))

pub overwritten_kept : (ss : List ClientSession) (order : List ℕ) → IsWellFormedList ss → IsSerialOrder ss order → (a i b j : ℕ) → IsOverwrittenBy ss a i b j → Before order a b
overwritten_kept ss order h s a i b j r =
    let facts = serial ss order h s in
    let w = wrote ss facts.clean a i r.key r.wid r.first r.reads in
    let also = source_of_read ss facts.clean b r.also r.key r.wid w.node r.second r.reads_too w.final in
    overtaken_behind ss order facts a i b j w.node r.key r.wid r.next r.first r.second r.reads w.final r.writes (λ e. r.apart (sym e))
    (source_before ss order facts b (number_in (keys_in ss) r.key) w.node r.second (key_within ss b j (Write r.key r.next) r.writes) also)

-- ---- chains of the initial value
module _ (ss : List ClientSession) (order : List ℕ) (s : Serial (log_of ss) order) (a i b j : ℕ) (r : IsOfInitialBefore ss a i b j) where
  -- who reads the key from a node before b stands before b
  behind_begins : (v k wid u : ℕ) → IsNode ss v → ReadsAt ss v k r.key wid → IsFinal (log_of ss) u (number_in (keys_in ss) r.key) wid → Before order u b → Before order v b
  behind_begins v k wid u node reads final ahead =
      overtaken_behind ss order s v k b j u r.key wid r.wid node r.second reads final r.writes (λ e. r.unread k wid (subst (λ n. ReadsAt ss n k r.key wid) (sym e) reads)) ahead

  -- the node that wrote what the links leave stands before b
  all_ahead : (wid u : ℕ) (links : List Link) → AreLinked ss r.key wid links → IsFinal (log_of ss) u (number_in (keys_in ss) r.key) wid → Before order u b → (n : ℕ) × IsFinal (log_of ss) n (number_in (keys_in ss) r.key) (left_by wid links) × Before order n b
  all_ahead wid u [] linked final ahead = (u, final, ahead)
  all_ahead wid u (l ∷ ls) linked final ahead =
      all_ahead l.wid l.node ls linked.1.1.1 (inr (linked.0.0, within ss l.node linked.0, final_at ss l.node l.write r.key l.wid linked.1.1.0)) (behind_begins l.node l.read wid u linked.0 linked.1.0 final ahead)

pub initial_kept : (ss : List ClientSession) (order : List ℕ) → IsWellFormedList ss → IsSerialOrder ss order → (a i b j : ℕ) → IsOfInitialBefore ss a i b j → Before order a b
initial_kept ss order h s a i b j r =
    let facts = serial ss order h s in
    let t = all_ahead ss order facts a i b j r 0 0 r.links r.linked (inl (refl, refl)) (zero_first order b r.second.0) in
    behind_begins ss order facts a i b j r a i (left_by 0 r.links) t.0 r.first r.reads t.1 t.2

-- who reads the key from a node reads it externally
pub unread_source : (ss : List ClientSession) → IsClean (log_of ss) → (b : ℕ) (key : List ℕ) → 0 < b → b ≤ (log_of ss).nodes → ((i w : ℕ) → ReadsAt ss b i key w → ⊥) → source (log_of ss) b (number_in (keys_in ss) key) ≡ None
unread_source ss clean b key lo hi unread = elim (some_cases (source (log_of ss) b (number_in (keys_in ss) key))) [
  | inl e ↦ e
  | inr u ↦ let r = reads_from ss clean b u.0 key (node_from ss b lo hi) u.1 in absurd (unread r.place r.wid r.reads)
]

pub ended_kept : (ss : List ClientSession) (order : List ℕ) → IsWellFormedList ss → IsSerialOrder ss order → (a b : ℕ) → EndsBefore ss a b → Before order a b
ended_kept ss order h s a b r =
    s.moments a b r.first.0 r.first.1 r.second.0 r.second.1 r.apart (rw (r.ended, r.begun) (lt-ltb r.end r.begin r.earlier))

-- ---- crossed reads
-- who reads the version of u stands behind u, and where that of q is not older, not behind q
record Between (order : List ℕ) (v u q : ℕ) : Type 0 where
  after : Before order u v
  ahead : place_of (0 ∷ order) u ≤ place_of (0 ∷ order) q → place_of (0 ∷ order) v ≤ place_of (0 ∷ order) q

module _ (ss : List ClientSession) (order : List ℕ) (s : Serial (log_of ss) order) where
  not_past : (v i : ℕ) (key : List ℕ) (wid y u q : ℕ) → IsNode ss v → ReadsAt ss v i key wid → IsFinal (log_of ss) u (number_in (keys_in ss) key) wid → IsFinal (log_of ss) q (number_in (keys_in ss) key) y → q ≢ u → place_of (0 ∷ order) u ≤ place_of (0 ∷ order) q → place_of (0 ∷ order) v ≤ place_of (0 ∷ order) q
  not_past v i key wid y u q node r final (inl z) ne le = let e = ap (place_of (0 ∷ order)) z.0 in absurd (omega (arith, e, le, zero_first order u (omega (arith, z.0, ne))))
  not_past v i key wid y u q node r final (inr w) ne le = elim (cases_eq q v) [
    | inl same ↦ let e = ap (place_of (0 ∷ order)) same in omega (arith, e)
    | inr other ↦ let b = overtaken ss order s v i q u key wid y node (node_from ss q w.0 w.1) r final w.2 other ne le in omega (arith, b)
  ]

  between : (v i : ℕ) (key : List ℕ) (wid y u q : ℕ) → IsNode ss v → ReadsAt ss v i key wid → IsFinal (log_of ss) u (number_in (keys_in ss) key) wid → IsFinal (log_of ss) q (number_in (keys_in ss) key) y → (wid ≡ y → ⊥) → Between order v u q
  between v i key wid y u q node r final other apart =
      let x = number_in (keys_in ss) key in
      let ne : q ≢ u = λ e. apart (one_final (log_of ss) u x wid y final (subst (λ n. IsFinal (log_of ss) n x y) e other)) in
      record {
        after = source_before ss order s v x u node (key_within ss v i (Read key wid) r.read) (source_of_read ss s.clean v i key wid u node r final);
        ahead = not_past v i key wid y u q node r final other ne;
      }

  pub none_crossed : (c : Crossing) → AreCrossed ss c → ⊥
  none_crossed c h =
      let p = wrote ss s.clean c.one_one.node c.one_one.first h.first h.one h.one_one.node h.one_one.first in
      let q = wrote ss s.clean c.two_one.node c.two_one.first h.first h.two h.two_one.node h.two_one.first in
      let a = wrote ss s.clean c.one_one.node c.one_one.second h.second h.this h.one_one.node h.one_one.second in
      let b = wrote ss s.clean c.one_two.node c.one_two.second h.second h.that h.one_two.node h.one_two.second in
      let r1 = between c.one_one.node c.one_one.first h.first h.one h.two p.node q.node h.one_one.node h.one_one.first p.final q.final h.apart in
      let r2 = between c.one_one.node c.one_one.second h.second h.this h.that a.node b.node h.one_one.node h.one_one.second a.final b.final h.apart_too in
      let t1 = between c.one_two.node c.one_two.first h.first h.one h.two p.node q.node h.one_two.node h.one_two.first p.final q.final h.apart in
      let t2 = between c.one_two.node c.one_two.second h.second h.that h.this b.node a.node h.one_two.node h.one_two.second b.final a.final (λ e. h.apart_too (sym e)) in
      let f1 = between c.two_one.node c.two_one.first h.first h.two h.one q.node p.node h.two_one.node h.two_one.first q.final p.final (λ e. h.apart (sym e)) in
      let f2 = between c.two_one.node c.two_one.second h.second h.this h.that a.node b.node h.two_one.node h.two_one.second a.final b.final h.apart_too in
      let g1 = between c.two_two.node c.two_two.first h.first h.two h.one q.node p.node h.two_two.node h.two_two.first q.final p.final (λ e. h.apart (sym e)) in
      let g2 = between c.two_two.node c.two_two.second h.second h.that h.this b.node a.node h.two_two.node h.two_two.second b.final a.final (λ e. h.apart_too (sym e)) in
      grind (arith, r1.after, r1.ahead, r2.after, r2.ahead, t1.after, t1.ahead, t2.after, t2.ahead, f1.after, f1.ahead, f2.after, f2.ahead, g1.after, g1.ahead, g2.after, g2.ahead)
