use Rattle.dimacs.proofs.Prelude.{◌≡◌, true, rules, arith, assignment}
use Rattle.std.proofs.lemmas.Grind.{common_steps}
use Rattle.dimacs.proofs.Items.{knows_vars}
use Rattle.dimacs.proofs.reading.Reading.into_answer.Goals as goal

pub returns-then-is_empty : goal.returns-then-is_empty
returns-then-is_empty c = λ vars items known.
    let values : c.args.self.trues.items ≡ assignment vars items = known.marked true in
    let count = knows_vars vars items _ known in
    first_of (search rules, grind (arith, common_steps))

pub returns-in-Some-Satisfiable : goal.returns-in-Some-Satisfiable
returns-in-Some-Satisfiable c = λ vars items known.
    let values : c.args.self.trues.items ≡ assignment vars items = known.marked true in
    let count = knows_vars vars items _ known in
    first_of (search rules, grind (arith, common_steps))
