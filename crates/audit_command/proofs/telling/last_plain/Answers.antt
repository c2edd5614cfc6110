use Rattle.audit_command.proofs.Prelude.{map, subst, AllByRecursion, view, IsToldPart, IsPartOf}
use Rattle.audit_command.proofs.Parts.{all_front}
use Rattle.audit_command.proofs.telling.last_plain.Goals as goal

pub parts-preserved : goal.parts-preserved
parts-preserved g c =
    let known = map view c.args._log.now.sessions.now in
    let level = c.args.options.now.means.level in
    record {
      told = λ ss all. (all_front (IsToldPart level ss) c.pop.new.self.items c.in-Some.part
          (subst (AllByRecursion (IsToldPart level ss)) c.in-Some.ensures.items (c.parts.invariant.told ss all))).0;
      parts = (all_front (IsPartOf known) c.pop.new.self.items c.in-Some.part
          (subst (AllByRecursion (IsPartOf known)) c.in-Some.ensures.items c.parts.invariant.parts)).0;
    }

pub returns-then-not-branch-clause-told : goal.returns-then-not-branch-clause-told
returns-then-not-branch-clause-told g c =
    let level = c.args.options.now.means.level in
    λ ss all. (all_front (IsToldPart level ss) c.pop.new.self.items c.in-Some.part
    (subst (AllByRecursion (IsToldPart level ss)) c.in-Some.ensures.items (c.parts.invariant.told ss all))).1
