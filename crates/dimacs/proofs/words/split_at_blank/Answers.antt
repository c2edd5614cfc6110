use Rattle.dimacs.proofs.Prelude.{take_rest}
use Rattle.dimacs.proofs.Cuts.{words_some, words_none}
use Rattle.dimacs.proofs.words.split_at_blank.Goals as goal

pub returns-in-Some-clause-words : goal.returns-in-Some-clause-words
returns-in-Some-clause-words c = rw take_rest (words_some c.args.text.now c.in-Some.end c.in-Some.ensures)

pub returns-in-None-clause-words : goal.returns-in-None-clause-words
returns-in-None-clause-words c = words_none c.args.text.now c.in-None.ensures
