use Rattle.audit_command.proofs.Prelude.{ap, ◌∙◌, subst, first_line, IsToldPart, IsPartTold, IsWeakest, unless_shown}
use Rattle.audit_command.proofs.Lowest.{lowest_some}
use Rattle.audit_command.proofs.lower.tell_lowest.Goals as goal

pub returns-in_ok-part-in-Some : goal.returns-in_ok-part-in-Some
returns-in_ok-part-in-Some g c =
    let o = c.args.options.now in
    let n = first_line c.args.version in
    let p = c.in_ok-part-in-Some.part in
    let k = c.in-Some.level in
    let told = c.in-Some.refuted in
    record {
      lowest = λ ss weakest same is. lowest_some o n ss c.args.answer.now c.args.shown.now c.unless_shown.result weakest k told p
          (subst (IsWeakest ss weakest) c.in-Some.is is)
          (subst (λ b. IsToldPart b.means.level ss told → IsPartTold b n ss p) c.asked_at-below.ensures.at (c.in_ok-part-in-Some.ensures.told ss same))
          (c.unless_shown.ensures.told ∙ ap (λ ps. unless_shown p ps c.args.shown.now) c.parts_of.ensures.parts);
    }
