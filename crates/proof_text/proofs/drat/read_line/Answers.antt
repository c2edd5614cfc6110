use Rattle.proof_text.proofs.Prelude.{◌∷◌, ap, ◌∙◌, drat_step, steps_by}
use Rattle.proof_text.proofs.drat.read_line.Goals as goal

pub returns-in-None : goal.returns-in-None
returns-in-None c =
    let none = rw c.in-None.is at c.in_ok-action.ensures in (
      steps_by (drat_step c.args.variables) c.next_line.new.self,
      ap (steps_by (drat_step c.args.variables)) c.in-Some.ensures ∙ ap (λ o. (c.in-Some.line, o) ∷ steps_by (drat_step c.args.variables) c.next_line.new.self) none,
    )
