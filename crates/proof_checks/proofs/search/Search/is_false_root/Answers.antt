use Rattle.proof_checks.proofs.Hints.{root_at}
use Rattle.proof_checks.proofs.search.Search.is_false_root.Goals as goal

pub returns-in-Some : goal.returns-in-Some
returns-in-Some c = λ t. root_at c.args.checker.now.clauses _ c.args.literal c.negated.result c.negated.ensures (c.is_unit.ensures t)
