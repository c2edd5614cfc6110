use Rattle.dimacs.proofs.Texts.{variables_apart, clauses_apart}
use Rattle.dimacs.proofs.laws.text_belongs_to_one_formula.Goals as goal

pub returns-clause-variables : goal.returns-clause-variables
returns-clause-variables c = variables_apart

pub returns-clause-clauses : goal.returns-clause-clauses
returns-clause-clauses c = clauses_apart
