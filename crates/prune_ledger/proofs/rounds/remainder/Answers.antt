use Rattle.prune_ledger.proofs.Prelude.{◌∙◌, sym, subst, refl, IsReduced, IsRemainder, unrefused}
use Rattle.prune_ledger.proofs.Finals.{poly_with, reduced_last, is_remainder}
use Rattle.prune_ledger.proofs.rounds.remainder.Goals as goal

pub new-requires-clause-reduced : goal.new-requires-clause-reduced
new-requires-clause-reduced c =
    let own = c.args.own in
    let is = c.new-poly.ensures ∙ poly_with c.into_parts-known.result.0 own c.in_ok-choices.choices.items (unrefused c.args.machine.marks c.args.machine.choices) c.into_parts-known.ensures.graph c.in_ok-choices.ensures.choices in
    subst IsReduced (sym is) (reduced_last c.args.polygraph.now c.args.entries.items c.args.machine own c.args.passed.now own.nodes c.requires.last)

pub returns : goal.returns
returns c =
    let own = c.args.own in
    let is = c.new-poly.ensures ∙ poly_with c.into_parts-known.result.0 own c.in_ok-choices.choices.items (unrefused c.args.machine.marks c.args.machine.choices) c.into_parts-known.ensures.graph c.in_ok-choices.ensures.choices in
    subst (IsRemainder c.args.polygraph.now) (sym c.new.ensures)
    (is_remainder c.args.polygraph.now c.args.machine own c.into_parts-known.result.1 c.args.passed.now c.new-poly.result _ c.requires.last c.into_parts-known.ensures.rows is tt refl)
