use Rattle.dimacs.proofs.Prelude.{◌≡◌, [], length, ap, ◌∙◌, sym, eqb-true, nil_from_length, words}
use Rattle.dimacs.proofs.Cuts.{words_of_nothing}
use Rattle.dimacs.proofs.words.WordsIterator.next.Goals as goal

pub returns-clause-steps : goal.returns-clause-steps
returns-clause-steps c =
    let rest = c.loop-word.self.0.now in
    let empty = nil_from_length rest (eqb-true (length rest) 0 (sym c.is_empty.ensures ∙ c.loop-word-test.false)) in
    let nothing : words rest ≡ [] = ap words empty ∙ words_of_nothing in
    (sym c.loop-word.invariant ∙ nothing, nothing)
