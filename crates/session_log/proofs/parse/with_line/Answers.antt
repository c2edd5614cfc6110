use Rattle.session_log.proofs.Prelude.{None, refl, sym, ◌∙◌, arith, Commit, Abort, Unknown}
use Rattle.session_log.proofs.Adding.{begun, read_more, write_more, ended}
use Rattle.session_log.proofs.parse.with_line.Goals as goal
use Rattle.session_log.proofs.parse.with_line.Goals.{in-Between+in-Begin, in-Inside+in-Write+in_ok-add-in-Write, in-Inside+in-Read+in_ok-add-in-Read, in-Inside+in-Commit+else-is_earlier+in_ok-push-in-Commit, in-Inside+in-Abort+in_ok-push-in-Abort, in-Inside+in-Unknown+in_ok-push-in-Unknown}

pub returns-clause-taken : goal.returns-clause-taken
returns-clause-taken c = elim c.match-progress.branch [
  | in-Between+in-Begin w ↦ begun c.args.n c.args.reading c.args.form (record { txns = c.match-progress.txns; progress = c.match-progress.progress }) w.in-Begin.begun w.new.result w.in-Between.is w.in-Begin.is w.txns-is w.progress-is w.new.ensures.items
  | in-Inside+in-Write+in_ok-add-in-Write w ↦ write_more c.args.n c.args.reading c.args.form (record { txns = c.match-progress.txns; progress = c.match-progress.progress }) w.in-Inside.field-0 w.add.new.ops w.in-Write.key w.in-Write.wid w.in-Inside.is w.in-Write.is (omega (arith, w.in-Write.wid-test)) w.txns-is w.progress-is (w.in_ok-add-in-Write.ensures)
  | in-Inside+in-Read+in_ok-add-in-Read w ↦ read_more c.args.n c.args.reading c.args.form (record { txns = c.match-progress.txns; progress = c.match-progress.progress }) w.in-Inside.field-0 w.add-in-Read.new.ops w.in-Read.key w.in-Read.wid w.in-Inside.is w.in-Read.is w.txns-is w.progress-is (w.in_ok-add-in-Read.ensures)
  | in-Inside+in-Commit+else-is_earlier+in_ok-push-in-Commit w ↦ ended c.args.n c.args.reading c.args.form (record { txns = c.match-progress.txns; progress = c.match-progress.progress }) w.in-Inside.field-0 Commit w.in-Commit.ended tt (sym w.is_earlier.ensures ∙ w.if-is_earlier.false) w.in-Inside.is w.in-Commit.is w.progress-is (rw w.txns-is w.in_ok-push-in-Commit.ensures.items)
  | in-Inside+in-Abort+in_ok-push-in-Abort w ↦ ended c.args.n c.args.reading c.args.form (record { txns = c.match-progress.txns; progress = c.match-progress.progress }) w.in-Inside.field-0 Abort None refl refl w.in-Inside.is w.in-Abort.is w.progress-is (rw w.txns-is w.in_ok-push-in-Abort.ensures.items)
  | in-Inside+in-Unknown+in_ok-push-in-Unknown w ↦ ended c.args.n c.args.reading c.args.form (record { txns = c.match-progress.txns; progress = c.match-progress.progress }) w.in-Inside.field-0 Unknown None refl refl w.in-Inside.is w.in-Unknown.is w.progress-is (rw w.txns-is w.in_ok-push-in-Unknown.ensures.items)
]
