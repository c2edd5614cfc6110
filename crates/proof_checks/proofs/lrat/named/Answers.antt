use Rattle.proof_checks.proofs.Prelude.{◌∙◌, ap, sym, Some, named_at, proof_of}
use Rattle.proof_checks.proofs.lrat.named.Goals as goal

pub returns-in-Some : goal.returns-in-Some
unfolding named_at
returns-in-Some c = c.standing.ensures ∙ ap (named_at (proof_of c.args.checker.now c.args.added.now)) (sym c.in-Some.is)

pub returns-in-None : goal.returns-in-None
unfolding named_at
returns-in-None c = ap Some c.len.ensures ∙ ap (named_at (proof_of c.args.checker.now c.args.added.now)) (sym c.in-None.is)
