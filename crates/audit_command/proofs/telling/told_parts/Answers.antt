use Rattle.audit_command.proofs.Prelude.{◌∷◌, [], ◌++◌, map, sym, ap, ◌∙◌, subst, arith, length, view, first_line, AreToldParts}
use Rattle.audit_command.proofs.Resolved.{all_told_of}
use Rattle.audit_command.proofs.telling.told_parts.Goals as goal

pub add_parts-requires-clause-parts : goal.add_parts-requires-clause-parts
add_parts-requires-clause-parts g c κs within =
    let k = c.requires.known in
    all_told_of c.args.options.now.means.level (map view c.args.log.now.sessions.now) k c.in_ok-more.more.items (c.in_ok-more.ensures.told k.ss k.legal k.sound k.is)

pub returns : goal.returns
returns g c = record {
  told = λ ss legal sound e first.
      let n = first_line c.args.log.now.version in
      let o = c.args.options.now in
      let part = c.in_ok-first.first in
      let one = c.in_ok-push.ensures.items ∙ ap (λ l. l ++ part ∷ []) c.new-told.ensures.items in
      let told = subst (AreToldParts o n ss) (sym one) (c.in_ok-first.ensures.told ss e (c.in_ok-plain.ensures.told ss legal sound e first), tt) in
      let sorted = c.in_ok-put_least_first.ensures.told o n ss (c.in_ok-add_parts.ensures.told ss e (c.in_ok-more.ensures.told ss legal sound e) told) in
      let grown = c.in_ok-add_parts.ensures.more in
      let few = c.in_ok-add_parts.ensures.at_most in
      let as_many = c.in_ok-put_least_first.ensures.as_many in
      c.without_doubles.ensures.parts o n ss
      (omega (arith, ap length one, grown, as_many))
      (omega (arith, ap length one, few, as_many, c.in_ok-more.ensures.at_most, c.saturating_sub-count.ensures))
      c.in_ok-put_least_first.ensures.least_first
      sorted;
}
