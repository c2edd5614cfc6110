use Rattle.session_log.proofs.Prelude.{◌∷◌, ◌+◌, take, drop, sym, ◌∙◌, append_assoc, [], take_rest}
use Rattle.session_log.proofs.Lines.{lines_at, split_at_lf, lines_unended}
use Rattle.session_log.proofs.words.next_line.Goals as goal

pub returns-in-Some-clause-line : goal.returns-in-Some-clause-line
returns-in-Some-clause-line c = rw take_rest (lines_at c.args.text.now c.in-Some.i c.in-Some.ensures)

pub returns-in-Some-clause-text : goal.returns-in-Some-clause-text
returns-in-Some-clause-text c = rw take_rest (split_at_lf c.args.text.now c.in-Some.i c.in-Some.ensures ∙ sym (append_assoc (take c.in-Some.i c.args.text.now) (10 ∷ []) (drop (c.in-Some.i + 1) c.args.text.now)))

pub returns-in-None-clause-line : goal.returns-in-None-clause-line
returns-in-None-clause-line c = lines_unended c.args.text.now c.requires c.in-None.ensures
