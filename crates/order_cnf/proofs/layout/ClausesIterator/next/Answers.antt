use Rattle.order_cnf.proofs.Prelude.{sym, ◌∙◌, refl, literals}
use Rattle.order_cnf.proofs.Parts.{unit_step, bipath_step, triple_step, all_sides, last_step, progress, some_progress}
use Rattle.order_cnf.proofs.layout.ClausesIterator.next.Goals as goal

pub returns-in-Some-clause-steps : goal.returns-in-Some-clause-steps
returns-in-Some-clause-steps c =
    let s = c.self.inside in
    sym c.self.view_is ∙ unit_step s.relation.now c.in-Some.literal.now s.units.now c.in-Some.rest.now s.bipaths.now s.triples s.sides c.in-Some.ensures.cases.0

pub returns-in-Some-split_first-clause-steps : goal.returns-in-Some-split_first-clause-steps
returns-in-Some-split_first-clause-steps c =
    let s = c.self.inside in
    sym c.self.view_is
    ∙ bipath_step s.relation.now (literals c.bipath_clause.result) s.units.now c.in-Some-split_first.bipath.now s.bipaths.now c.in-Some-split_first.rest.now s.triples s.sides
    c.in_default.ensures.cases c.in-Some-split_first.ensures.cases.0 c.bipath_clause.ensures.value

pub returns-in-Some-next-clause-steps : goal.returns-in-Some-next-clause-steps
returns-in-Some-next-clause-steps c =
    let s = c.self.inside in
    sym c.self.view_is
    ∙ triple_step s.relation.now (literals c.in-Some-next.clause) s.units.now s.bipaths.now s.triples c.next.new.self s.sides
    c.in_default.ensures.cases c.in_default-split_first.ensures.cases c.in-Some-next.ensures.step.parts

pub returns-clause-steps : goal.returns-clause-steps
returns-clause-steps c =
    let s = c.self.inside in
    last_step c.next-2.result c.args.self.now _ s.sides c.next-2.new.self
    (sym c.self.view_is ∙ all_sides s.relation.now s.units.now s.bipaths.now s.triples s.sides c.in_default.ensures.cases c.in_default-split_first.ensures.cases (c.in_default-next.ensures.step.parts ∙ c.in_default-next.ensures.step.last refl))
    (all_sides s.relation.now s.units.now s.bipaths.now c.next.new.self c.next-2.new.self c.in_default.ensures.cases c.in_default-split_first.ensures.cases (c.in_default-next.ensures.step.last refl))
    c.next-2.ensures.step

pub returns-in-Some-clause-goes : goal.returns-in-Some-clause-goes
returns-in-Some-clause-goes c = some_progress _ _ _ (returns-in-Some-clause-steps c)

pub returns-in-Some-split_first-clause-goes : goal.returns-in-Some-split_first-clause-goes
returns-in-Some-split_first-clause-goes c = some_progress _ _ _ (returns-in-Some-split_first-clause-steps c)

pub returns-in-Some-next-clause-goes : goal.returns-in-Some-next-clause-goes
returns-in-Some-next-clause-goes c = some_progress _ _ _ (returns-in-Some-next-clause-steps c)

pub returns-clause-goes : goal.returns-clause-goes
returns-clause-goes c = progress c.next-2.result _ _ (returns-clause-steps c)
