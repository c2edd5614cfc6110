use Rattle.audit_command.proofs.Prelude.{◌∷◌, [], map, length, length-append, sym, ap, subst, arith, AllByRecursion, view, first_line, all_more, IsToldPart, IsPartTold, AreToldParts, IsPartOf}
use Rattle.audit_command.proofs.Parts.{all_front}
use Rattle.audit_command.proofs.telling.add_parts.Goals as goal

pub told_part-requires-clause-part : goal.told_part-requires-clause-part
told_part-requires-clause-part g c κs within =
    let known = map view c.args.log.now.sessions.now in
    (all_front (IsPartOf known) c.pop.new.self.items c.in-Some.part (subst (AllByRecursion (IsPartOf known)) c.in-Some.ensures.items c.parts.invariant.parts)).1

pub parts-preserved : goal.parts-preserved
parts-preserved g c =
    let n = first_line c.args.log.now.version in
    let o = c.args.options.now in
    let level = o.means.level in
    let told = c.parts.told.items in
    let new = c.in_ok-part.part in
    let known = map view c.args.log.now.sessions.now in
    let grown = c.in_ok-push.ensures.items in
    record {
      told = λ ss e all old. (
          let was = c.parts.invariant.told ss e all old in
          let split = all_front (IsToldPart level ss) c.pop.new.self.items c.in-Some.part (subst (AllByRecursion (IsToldPart level ss)) c.in-Some.ensures.items was.0) in
          (split.0, subst (AreToldParts o n ss) (sym grown) (all_more (IsPartTold o n ss) told new was.1 (c.in_ok-part.ensures.told ss e split.1))));
      parts = (all_front (IsPartOf known) c.pop.new.self.items c.in-Some.part (subst (AllByRecursion (IsPartOf known)) c.in-Some.ensures.items c.parts.invariant.parts)).0;
      at_most = omega (arith, c.parts.invariant.at_most, ap length grown, length-append told (new ∷ []), ap length c.in-Some.ensures.items, length-append c.pop.new.self.items (c.in-Some.part ∷ []));
      more = omega (arith, c.parts.invariant.more, ap length grown, length-append told (new ∷ []));
    }
