use Rattle.session_history.proofs.Prelude.{sym, ◌∙◌, refl}
use Rattle.session_history.proofs.KeyRows.{is_writer, is_reader, write_first, write_again, read_first, read_written, read_again}
use Rattle.session_history.proofs.rows.KeyRow.enter.Goals as goal
use Rattle.session_history.proofs.rows.KeyRow.enter.Goals.{else-not-is_last_writer-2-via-then-not-is_last_writer-2+else-not-is_last_reader, else-not-is_last_writer-2-via-else-not-is_last_writer-2}

pub returns-in_ok-push-in-Write : goal.returns-in_ok-push-in-Write
returns-in_ok-push-in-Write c = λ before front h e.
    let k = c.in-Write.key in
    let now = rw c.in-Write.is at e in
    let first = sym (is_writer c.args.self.now before k c.args.node front h now) ∙ (sym c.is_last_writer.ensures ∙ c.if-not-is_last_writer.true) in
    rw c.in-Write.is (write_first c.args.self.now before k c.args.node front h now (record { writers = c.push.new.self; readers = c.args.self.now.readers }) c.in-Write.wid first c.in_ok-push-in-Write.ensures.items refl)

pub returns-else-not-is_last_writer : goal.returns-else-not-is_last_writer
returns-else-not-is_last_writer c = λ before front h e.
    let k = c.in-Write.key in
    let now = rw c.in-Write.is at e in
    let again = sym (is_writer c.args.self.now before k c.args.node front h now) ∙ (sym c.is_last_writer.ensures ∙ c.if-not-is_last_writer.false) in
    rw c.in-Write.is (write_again c.args.self.now before k c.args.node front h now c.in-Write.wid again)

pub returns-in_ok-push-in-Read : goal.returns-in_ok-push-in-Read
returns-in_ok-push-in-Read c = λ before front h e.
    let k = c.in-Read.key in
    let now = rw c.in-Read.is at e in
    let unwritten = sym (is_writer c.args.self.now before k c.args.node front h now) ∙ (sym c.is_last_writer-in-Read.ensures ∙ c.if-not-is_last_writer-2.true) in
    let unread = sym (is_reader c.args.self.now before k c.args.node front h now) ∙ (sym c.is_last_reader.ensures ∙ c.if-not-is_last_reader.true) in
    rw c.in-Read.is (read_first c.args.self.now before k c.args.node front h now (record { writers = c.args.self.now.writers; readers = c.push-then-not-is_last_reader.new.self }) _ c.in-Read.wid unwritten unread c.in_ok-push-in-Read.ensures.items refl refl)

pub returns-else-not-is_last_writer-2 : goal.returns-else-not-is_last_writer-2
returns-else-not-is_last_writer-2 c = λ before front h e.
    let k = c.in-Read.key in
    let now = rw c.in-Read.is at e in
    elim c.else-not-is_last_writer-2.branch [
      | else-not-is_last_writer-2-via-then-not-is_last_writer-2+else-not-is_last_reader w ↦
          rw c.in-Read.is (read_again c.args.self.now before k c.args.node front h now c.in-Read.wid
          (sym (is_reader c.args.self.now before k c.args.node front h now) ∙ (sym w.is_last_reader.ensures ∙ w.if-not-is_last_reader.false)))
      | else-not-is_last_writer-2-via-else-not-is_last_writer-2 w ↦
          rw c.in-Read.is (read_written c.args.self.now before k c.args.node front h now c.in-Read.wid
          (sym (is_writer c.args.self.now before k c.args.node front h now) ∙ (sym c.is_last_writer-in-Read.ensures ∙ w.if-not-is_last_writer-2.false)))
    ]
