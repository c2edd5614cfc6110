use Rattle.desk.proofs.Prelude.{All, sym, ap, subst, ◌≡◌, ◌∙◌, part_of, HasSeatsTo, IsLeastMissing}
use Rattle.desk.proofs.desk.Desk.close.Goals as goal

pub returns-in-Some-clause-least : goal.returns-in-Some-clause-least
returns-in-Some-clause-least g c = subst (λ seats. IsLeastMissing seats c.in-Some.missing) c.deref.ensures.value c.in-Some.ensures.least

pub returns-clause-all : goal.returns-clause-all
returns-clause-all g c =
    subst (λ n. HasSeatsTo n c.args.lefts.items) c.self.invariant.0 (subst (HasSeatsTo c.self.inside.workers) c.deref.ensures.value c.in_default.ensures.none)

pub returns-clause-parts : goal.returns-clause-parts
returns-clause-parts g c =
    let same : c.into_parts-machine.result.1.items ≡ c.into_inner.result.history = c.into_parts-machine.ensures.same.1 ∙ ap (λ v. v.history) c.compare_all-guarded.ensures.same in
    subst (λ history. All (λ l. part_of l.number history ≡ l.calls) c.args.lefts.items) (sym same) c.compare_all-guarded.ensures.parts
