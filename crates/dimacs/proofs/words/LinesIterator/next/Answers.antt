use Rattle.dimacs.proofs.Prelude.{◌≡◌, [], length, ap, ◌∙◌, sym, eqb-true, nil_from_length, lines_of}
use Rattle.dimacs.proofs.Cuts.{lines_of_nothing}
use Rattle.dimacs.proofs.words.LinesIterator.next.Goals as goal

pub returns-then-is_empty-clause-steps : goal.returns-then-is_empty-clause-steps
returns-then-is_empty-clause-steps c =
    let text = c.args.self.now.0.now in
    let empty = nil_from_length text (eqb-true (length text) 0 (sym c.is_empty.ensures ∙ c.if-is_empty.true)) in
    let nothing : lines_of text ≡ [] = ap lines_of empty ∙ lines_of_nothing in
    (nothing, nothing)
