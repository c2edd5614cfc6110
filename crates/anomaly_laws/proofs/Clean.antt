-- A log has no anomaly exactly where it is clean.
use Rattle.anomaly_laws.proofs.Prelude.{◌≡◌, ◌≢◌, ℕ, ◌<◌, ◌≤◌, Bool, true, false, eqb, not, ◌&&◌, cond, List, ◌∷◌, ◌++◌, Option, None, Some, refl, sym, ap, ◌∙◌, subst, inl, inr, arith, eqb-true, eq-eqb, ne_eqb, append_assoc, is_some, find}
use Rattle.anomaly_laws.proofs.Prelude.{list_any, option_map, option_map_or, cases_eq, cases_order, cases_Bool, false≢true, and_parts, and_from, and_cases, not-false, not_from_false, false_from_ne_true, Event, Read, Write, ReadAnomaly, Log}
use Rattle.anomaly_laws.proofs.Prelude.{last_write, external_read, IsFinal, ReadsAfter, WritesAfter, IsNumbered, IsClean, committed, wrote, writer_of, source, writes_as, is_unknown, is_aborted, is_intermediate, is_other_read}
use Rattle.anomaly_laws.proofs.Prelude.{external_anomaly, internal_anomaly, read_anomaly, updates, anomaly_of, Has, range-from_Has, any_found, any_from, external_read_split, external_read_some, wrote_is, wrote_from, SourceOf, source_is}
use Rattle.anomaly_laws.proofs.Prelude.{writer_within, one_final, is_some_from, some_cases, none_not_some}
use Rattle.serializability.specs.declared.anomaly.ReadAnomaly.TheVariants as read
use Rattle.anomaly_laws.proofs.Lists.{two_places}
use Rattle.anomaly_laws.proofs.Writes.{writes_split, writes_behind, none_earlier, other_split, other_at, final_writes, final_apart}
use Rattle.anomaly_laws.proofs.Tests.{written_nowhere, aborted_writes, intermediate_write}
use Rattle.anomaly_laws.proofs.Listed.{NoReadAnomaly, NoLostUpdate, none_reported, none_from_each_read}

-- ---- an external read that is no anomaly
pub record Passes (log : Log) (v : ℕ) (before : List Event) (x w : ℕ) (behind : List Event) : Type 0 where
  pub known : is_unknown log x w ≡ false
  pub committed : is_aborted log x w ≡ false
  pub past : writes_as x w behind ≡ false
  pub final : is_intermediate log v x w ≡ false
  pub one : list_any (is_other_read x w) before ≡ false

pub not_first : (b : Bool) (a : ReadAnomaly) (rest : Option ReadAnomaly) → cond b (Some a) rest ≡ None → (b ≡ false) × (rest ≡ None)
not_first true a rest e = cc
not_first false a rest e = (refl, e)

from_not_first : (b : Bool) (a : ReadAnomaly) (rest : Option ReadAnomaly) → b ≡ false → rest ≡ None → cond b (Some a) rest ≡ None
from_not_first true a rest e h = absurd (false≢true (sym e))
from_not_first false a rest e h = h

passes : (log : Log) (v : ℕ) (before : List Event) (x w : ℕ) (behind : List Event) → external_anomaly log v before x w behind ≡ None → Passes log v before x w behind
passes log v before x w behind e =
    let a = not_first (is_unknown log x w) read.Unknown _ e in
    let b = not_first (is_aborted log x w) read.Aborted _ a.1 in
    let c = not_first (writes_as x w behind) read.Future _ b.1 in
    let d = not_first (is_intermediate log v x w) read.Intermediate _ c.1 in
    let f = not_first (list_any (is_other_read x w) before) read.Split None d.1 in
    record { known = a.0; committed = b.0; past = c.0; final = d.0; one = f.0 }

from_passes : (log : Log) (v : ℕ) (before : List Event) (x w : ℕ) (behind : List Event) → Passes log v before x w behind → external_anomaly log v before x w behind ≡ None
from_passes log v before x w behind p =
    from_not_first (is_unknown log x w) read.Unknown _ p.known
    (from_not_first (is_aborted log x w) read.Aborted _ p.committed
    (from_not_first (writes_as x w behind) read.Future _ p.past
    (from_not_first (is_intermediate log v x w) read.Intermediate _ p.final
    (from_not_first (list_any (is_other_read x w) before) read.Split None p.one refl))))

external_passes : (log : Log) → NoReadAnomaly log → (v x w : ℕ) (before : List Event) → (reads : ReadsAfter log v before x w) → last_write x before ≡ None → Passes log v before x w reads.2.0
external_passes log none v x w before reads external =
    passes log v before x w reads.2.0
    (sym (ap (read_anomaly log v before x w reads.2.0) external) ∙ none.each v x w before reads.2.0 reads.0 reads.1 reads.2.1)

-- a node writes x as w
some_writes : (log : Log) (x w : ℕ) → w ≢ 0 → is_unknown log x w ≡ false → is_aborted log x w ≡ false → list_any (λ u. writes_as x w (log.ops u)) (committed log) ≡ true
some_writes log x w nz known committed' =
    let nodes = list_any (λ u. writes_as x w (log.ops u)) (committed log) in
    elim (and_cases (not (eqb w 0)) (not nodes && not (is_aborted log x w)) known) [
      | inl bad ↦ absurd (false≢true (sym (ne_eqb w 0 nz) ∙ not-false (eqb w 0) bad))
      | inr h ↦ elim (and_cases (not nodes) (not (is_aborted log x w)) h) [
        | inl t ↦ not-false nodes t
        | inr bad ↦ absurd (false≢true (sym committed' ∙ not-false (is_aborted log x w) bad))
      ]
    ]

final_of : (log : Log) (v u x w : ℕ) → is_intermediate log v x w ≡ false → u ≢ v → Has u (committed log) → writes_as x w (log.ops u) ≡ true → last_write x (log.ops u) ≡ Some w
final_of log v u x w none ne there writes =
    let ends = option_map_or (λ y. eqb y w) (last_write x (log.ops u)) false in
    elim (cases_Bool ends) [
      | inl t ↦ wrote_is (last_write x (log.ops u)) w t
      | inr f ↦
          let test = and_from (not (eqb u v)) (writes_as x w (log.ops u) && not ends) (not_from_false (eqb u v) (ne_eqb u v ne))
          (and_from (writes_as x w (log.ops u)) (not ends) writes (not_from_false ends f)) in
          absurd (false≢true (sym none ∙ any_from (λ k. not (eqb k v) && (writes_as x w (log.ops k) && not (option_map_or (λ y. eqb y w) (last_write x (log.ops k)) false))) (committed log) u test there))
    ]

external_final : (log : Log) → NoReadAnomaly log → (v x w : ℕ) (before : List Event) → ReadsAfter log v before x w → last_write x before ≡ None → (u : ℕ) × (u ≢ v) × IsFinal log u x w
external_final log none v x w before reads external =
    let p = external_passes log none v x w before reads external in
    elim (cases_eq w 0) [
      | inl z ↦ (0, λ e. omega (arith, e, reads.0), inl (refl, z))
      | inr nz ↦
          let f = any_found (λ u. writes_as x w (log.ops u)) (committed log) (some_writes log x w nz p.known p.committed) in
          let range = range-from_Has f.0 1 log.nodes f.1.1 in
          let ne : f.0 ≢ v = λ e.
          (let own : writes_as x w (log.ops v) ≡ true = subst (λ u. writes_as x w (log.ops u) ≡ true) e f.1.0 in
          false≢true (sym p.past ∙ writes_behind x w w (log.ops v) before reads.2.0 reads.2.1 external own)) in
          (f.0, ne, inr (omega (arith, range.0), omega (arith, range.1), final_of log v f.0 x w p.final ne f.1.1 f.1.0))
    ]

internal_own : (log : Log) → NoReadAnomaly log → (v x w own : ℕ) (before : List Event) → ReadsAfter log v before x w → last_write x before ≡ Some own → w ≡ own
internal_own log none v x w own before reads e =
    let at = sym (ap (read_anomaly log v before x w reads.2.0) e) ∙ none.each v x w before reads.2.0 reads.0 reads.1 reads.2.1 in
    elim (cases_Bool (eqb w own)) [
      | inl t ↦ eqb-true w own t
      | inr f ↦ (let bad : internal_anomaly own w ≡ Some read.OwnWriteMissed = ap (λ b. cond b None (Some read.OwnWriteMissed)) f in cc)
    ]

not_split : (log : Log) → NoReadAnomaly log → (v x w y : ℕ) (before mid after : List Event) → ReadsAfter log v after x y → last_write x after ≡ None → after ≡ before ++ Read x w ∷ mid → w ≡ y
not_split log none v x w y before mid after reads external stands =
    let p = external_passes log none v x y after reads external in
    elim (cases_eq w y) [
      | inl e ↦ e
      | inr ne ↦ absurd (false≢true (sym p.one ∙ other_at x y w after before mid stands ne))
    ]

same_read : (w y : ℕ) (x : ℕ) → Read x w ≡ Read x y → w ≡ y
same_read w y x e = cc

external_same : (log : Log) → NoReadAnomaly log → (v x w y : ℕ) (before after : List Event) → ReadsAfter log v before x w → last_write x before ≡ None → ReadsAfter log v after x y → last_write x after ≡ None → w ≡ y
external_same log none v x w y before after first e second f =
    elim (two_places before after (Read x w) (Read x y) first.2.0 second.2.0 (sym first.2.1 ∙ second.2.1)) [
      | inl s ↦ same_read w y x s.1
      | inr h ↦ elim h [
        | inl s ↦ not_split log none v x w y before s.0 after second f s.1
        | inr s ↦ sym (not_split log none v x y w after s.0 before first e s.1)
      ]
    ]

external_is : (log : Log) → NoReadAnomaly log → (v x w : ℕ) (before : List Event) → ReadsAfter log v before x w → last_write x before ≡ None → external_read x (log.ops v) ≡ Some w
external_is log none v x w before reads external =
    let some = external_read_some x w before reads.2.0 external in
    let e : external_read x (log.ops v) ≡ Some some.0 = ap (external_read x) reads.2.1 ∙ some.1 in
    let s = external_read_split x some.0 (log.ops v) e in
    e ∙ ap Some (external_same log none v x some.0 w s.before before (reads.0, reads.1, (s.behind, s.stands)) s.external reads external)

-- a node that reads x as w and writes it updates it from the writer of w
updates_from : (log : Log) → NoReadAnomaly log → (v x w p : ℕ) (before : List Event) → ReadsAfter log v before x w → last_write x before ≡ None → last_write x (log.ops v) ≡ Some p → updates log x (writer_of log x w) v ≡ true
updates_from log none v x w p before reads external writes =
    and_from _ (is_some (last_write x (log.ops v)))
    (wrote_from (source log v x) (writer_of log x w) (ap (option_map (writer_of log x)) (external_is log none v x w before reads external)))
    (is_some_from (last_write x (log.ops v)) p writes)

none_unlost : (log : Log) → IsNumbered log → NoReadAnomaly log → NoLostUpdate log → (a b x w p q : ℕ) (before after : List Event) → ReadsAfter log a before x w → last_write x before ≡ None → ReadsAfter log b after x w → last_write x after ≡ None → last_write x (log.ops a) ≡ Some p → last_write x (log.ops b) ≡ Some q → a ≡ b
none_unlost log numbered none lost a b x w p q before after ra ea rb eb pa qb =
    let ua = updates_from log none a x w p before ra ea pa in
    let ub = updates_from log none b x w q after rb eb qb in
    let key = numbered.keys a x w before ra in
    let within = writer_within log x w (find (wrote log x w) (committed log)) refl in
    elim (cases_order a b) [
      | inl e ↦ e
      | inr h ↦ elim h [
        | inl lt ↦ absurd (lost.each x (writer_of log x w) a b key within ra.0 lt rb.1 ua ub)
        | inr gt ↦ absurd (lost.each x (writer_of log x w) b a key within rb.0 gt ra.1 ub ua)
      ]
    ]

pub clean_from_none : (log : Log) → IsNumbered log → anomaly_of log ≡ None → IsClean log
clean_from_none log numbered e =
    let n = none_reported log e in
    record {
      internal = internal_own log n.0;
      external = external_final log n.0;
      same = external_same log n.0;
      unlost = none_unlost log numbered n.0 n.1;
      keys = numbered.keys;
      apart = final_apart log numbered;
      together = numbered.together;
    }

-- ---- from a clean log
-- a write of x as w is the final writer's
only_writer : (log : Log) → IsNumbered log → (u k x w : ℕ) (before : List Event) → IsFinal log u x w → WritesAfter log k before x w → (k ≡ u) × (last_write x (log.ops u) ≡ Some w)
only_writer log numbered u k x w before (inl z) writes = absurd (omega (arith, numbered.nonzero k x w before writes, z.1))
only_writer log numbered u k x w before (inr f) writes =
    let g = final_writes log u x w f.0 f.1 f.2 in
    ((numbered.distinct k u x x w before g.0 writes g.1).0, f.2)

known_final : (log : Log) (u x w : ℕ) → IsFinal log u x w → is_unknown log x w ≡ false
known_final log u x w final = false_from_ne_true (is_unknown log x w) (λ t.
    let none = written_nowhere log x w t in
    elim final [
      | inl z ↦ none.nonzero z.1
      | inr f ↦ let g = final_writes log u x w f.0 f.1 f.2 in none.committed u g.0 g.1
    ])

not_aborted : (log : Log) → IsNumbered log → (u x w : ℕ) → IsFinal log u x w → is_aborted log x w ≡ false
not_aborted log numbered u x w final = false_from_ne_true (is_aborted log x w) (λ t.
    let writes = aborted_writes log x w t in
    elim final [
      | inl z ↦ omega (arith, numbered.aborted_nonzero x w writes.0 writes.1 writes.2, z.1)
      | inr f ↦ let g = final_writes log u x w f.0 f.1 f.2 in numbered.aborted u x x w g.0 writes.0 g.1 writes.1 writes.2
    ])

not_future : (log : Log) → IsNumbered log → (v u x w : ℕ) (before behind : List Event) → 0 < v → v ≤ log.nodes → log.ops v ≡ before ++ Read x w ∷ behind → u ≢ v → IsFinal log u x w → writes_as x w behind ≡ false
not_future log numbered v u x w before behind lo hi stands other final = false_from_ne_true (writes_as x w behind) (λ t.
    let s = writes_split x w behind t in
    let e : log.ops v ≡ (before ++ Read x w ∷ s.before) ++ Write x w ∷ s.behind =
    stands ∙ ap (λ l. before ++ Read x w ∷ l) s.stands ∙ sym (append_assoc before (Read x w ∷ s.before) (Write x w ∷ s.behind)) in
    other (sym (only_writer log numbered u v x w (before ++ Read x w ∷ s.before) final (lo, hi, (s.behind, e))).0))

not_intermediate : (log : Log) → IsNumbered log → (v u x w : ℕ) → IsFinal log u x w → is_intermediate log v x w ≡ false
not_intermediate log numbered v u x w final = false_from_ne_true (is_intermediate log v x w) (λ t.
    let i = intermediate_write log v x w t in
    let only = only_writer log numbered u i.writer x w i.before final i.writes in
    let last : last_write x (log.ops i.writer) ≡ Some w = ap (λ k. last_write x (log.ops k)) only.0 ∙ only.1 in
    i.differs (let e = i.ends in cc))

not_other : (log : Log) → IsClean log → (v x w : ℕ) (before behind : List Event) → 0 < v → v ≤ log.nodes → log.ops v ≡ before ++ Read x w ∷ behind → last_write x before ≡ None → list_any (is_other_read x w) before ≡ false
not_other log clean v x w before behind lo hi stands external = false_from_ne_true (list_any (is_other_read x w) before) (λ t.
    let o = other_split x w before t in
    let none = none_earlier x before o.before (Read x o.other ∷ o.behind) external o.stands in
    let e : log.ops v ≡ o.before ++ Read x o.other ∷ (o.behind ++ Read x w ∷ behind) =
    stands ∙ ap (λ l. l ++ Read x w ∷ behind) o.stands ∙ append_assoc o.before (Read x o.other ∷ o.behind) (Read x w ∷ behind) in
    o.differs (clean.same v x o.other w o.before before (lo, hi, (o.behind ++ Read x w ∷ behind, e)) none (lo, hi, (behind, stands)) external))

clean_passes : (log : Log) → IsNumbered log → IsClean log → (v x w : ℕ) (before behind : List Event) → 0 < v → v ≤ log.nodes → log.ops v ≡ before ++ Read x w ∷ behind → last_write x before ≡ None → Passes log v before x w behind
clean_passes log numbered clean v x w before behind lo hi stands external =
    let f = clean.external v x w before (lo, hi, (behind, stands)) external in
    record {
      known = known_final log f.0 x w f.2;
      committed = not_aborted log numbered f.0 x w f.2;
      past = not_future log numbered v f.0 x w before behind lo hi stands f.1 f.2;
      final = not_intermediate log numbered v f.0 x w f.2;
      one = not_other log clean v x w before behind lo hi stands external;
    }

clean_reads : (log : Log) → IsNumbered log → IsClean log → NoReadAnomaly log
clean_reads log numbered clean = record {
  each = λ v x w before behind lo hi stands. elim (some_cases (last_write x before)) [
    | inl e ↦ ap (read_anomaly log v before x w behind) e
        ∙ from_passes log v before x w behind (clean_passes log numbered clean v x w before behind lo hi stands e)
    | inr own ↦
        let same = clean.internal v x w own.0 before (lo, hi, (behind, stands)) own.1 in
        ap (read_anomaly log v before x w behind) own.1 ∙ ap (λ b. cond b None (Some read.OwnWriteMissed)) (eq-eqb w own.0 same)
  ];
}

-- node r reads x from node u, and writes it
record Update (log : Log) (x u r : ℕ) : Type 0 where
  pub from : SourceOf log r x u
  pub written : ℕ
  pub writes : last_write x (log.ops r) ≡ Some written

update_is : (log : Log) → IsClean log → (x u r : ℕ) → 0 < r → r ≤ log.nodes → updates log x u r ≡ true → Update log x u r
update_is log clean x u r lo hi t =
    let p = and_parts (option_map_or (λ s. eqb s u) (source log r x) false) (is_some (last_write x (log.ops r))) t in
    elim (some_cases (last_write x (log.ops r))) [
      | inl e ↦ absurd (none_not_some (last_write x (log.ops r)) e p.1)
      | inr s ↦ record { from = source_is log clean r x u lo hi (wrote_is (source log r x) u p.0); written = s.0; writes = s.1 }
    ]

clean_updates : (log : Log) → IsClean log → NoLostUpdate log
clean_updates log clean = record {
  each = λ x u a b hx hu lo lt hi ta tb.
      (let f = update_is log clean x u a lo (omega arith) ta in
      let g = update_is log clean x u b (omega arith) hi tb in
      let same : g.from.w ≡ f.from.w = one_final log u x g.from.w f.from.w g.from.final f.from.final in
      let reads = subst (λ n. ReadsAfter log b g.from.before x n) same g.from.reads in
      let one = clean.unlost a b x f.from.w f.written g.written f.from.before g.from.before f.from.reads f.from.external reads g.from.external f.writes g.writes in
      omega (arith, one, lt));
}

pub none_from_clean : (log : Log) → IsNumbered log → IsClean log → anomaly_of log ≡ None
none_from_clean log numbered clean = none_from_each_read log (clean_reads log numbered clean) (clean_updates log clean)
