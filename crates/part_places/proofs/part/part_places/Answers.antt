use Rattle.part_places.proofs.Prelude.{◌≡◌, List, ◌+◌, ◌≤◌, Bool, length, drop, map, sym, ap, ◌∙◌, subst, arith, length-append, Vec, get_drop, item, ClientSession, view, session_lines, log_lines, first_line, thin, flag_of, flags_view}
use Rattle.part_places.proofs.Prelude.{picked, Table, Fits, view_place, AddsRows}
use Rattle.session_log.specs.declared.version.Version.{Version}
use Rattle.session_log.specs.declared.version.Version.TheVariants.{One, Two, Three}
use Rattle.log_lines.specs.declared.places.TxnPlace.{TxnPlace}
use Rattle.part_places.proofs.Added.{IsTable, table_more, table_past, whole_table}
use Rattle.part_places.proofs.Whole.{fits}
use Rattle.part_places.proofs.part.part_places.Goals.{then-at-flags+in_ok-add_session, else-at-flags}
use Rattle.part_places.proofs.part.part_places.Goals as goal

first_low : (v : Version) → first_line v ≤ 2
first_low One = omega arith
first_low Two = omega arith
first_low Three = omega arith

pub loop-at-preserved : goal.loop-at-preserved
loop-at-preserved c =
    let sessions = c.args.sessions.now in
    let flags = c.args.flags.now in
    let part = map view c.args.part.now in
    let first = first_line c.args.version in
    let i = c.loop-at.at in
    let s = c.index-sessions-at.result in
    let line = c.loop-at.line in
    let old = map (λ s. map view_place s.items) c.loop-at.table.items in
    let at = item sessions i s c.loop-at-test.true c.index-sessions-at.is in
    let next = line + length (session_lines (view s)) in
    let rest = drop (i + 1) sessions in
    let count : length (log_lines (map view (drop i sessions))) ≡ length (session_lines (view s)) + length (log_lines (map view rest)) =
    ap (λ l. length (log_lines (map view l))) (get_drop sessions i s at) ∙ length-append (session_lines (view s)) (log_lines (map view rest)) in
    let before = c.loop-at.invariant.room in
    let exact : c.line_count-line.result ≡ length (session_lines (view s)) =
    omega (arith, c.line_count-line.ensures, count, before, first_low c.args.version, c.requires) in
    record {
      rows = λ known same. (let m = c.loop-at.invariant.rows known same in subst (λ k. IsTable known flags sessions part first (map (λ s. map view_place s.items) c.if-at-flags.table.items) (line + k) (i + 1)) (sym exact)
          (elim c.if-at-flags.branch [
            | then-at-flags+in_ok-add_session w ↦
                let f = w.index-flags-at.result in
                let flag = item flags i f w.if-at-flags.true w.index-flags-at.is in
                let new = map (λ s. map view_place s.items) w.add_session.new.table.items in
                let adds = subst (λ (l : List Bool). AddsRows known (flag_of l) (view s) line part old new) w.deref.ensures.value (w.in_ok-add_session.ensures known) in
                subst (λ (v : Vec (Vec TxnPlace _) _). IsTable known flags sessions part first (map (λ s. map view_place s.items) v.items) next (i + 1)) (sym w.table-is)
                (table_more known flags sessions part first old new line i f s flag at adds m)
            | else-at-flags w ↦
                subst (λ (v : Vec (Vec TxnPlace _) _). IsTable known flags sessions part first (map (λ s. map view_place s.items) v.items) next (i + 1)) (sym w.table-is)
                (table_past known flags sessions part first old line next i w.if-at-flags.false m)
          ]));
      room = omega (arith, count, before, exact);
    }

pub returns-clause-fits : goal.returns-clause-fits
returns-clause-fits c = λ known same. (
    let sessions = c.args.sessions.now in
    let flags = c.args.flags.now in
    let part = map view c.args.part.now in
    let first = first_line c.args.version in
    let table = map (λ s. map view_place s.items) c.loop-at.table.items in
    let whole = whole_table known flags sessions part first table c.loop-at.line c.loop-at.at c.loop-at-test.false (c.loop-at.invariant.rows known same) in
    let all = fits known (flags_view flags) first (map view sessions) in
    subst (λ (ss : List ClientSession). Fits ss table) (sym same) (subst (λ (t : Table). Fits (thin known (picked (flags_view flags) (map view sessions))) t) (sym whole) all))
