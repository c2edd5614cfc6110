use Rattle.std.proofs.Common.{length, refl, ◌∙◌, subst, List}
use Rattle.std.proofs.lemmas.Option.{slice_get_read}
use Rattle.serializability.specs.Polygraph.{Edge}
use Rattle.pruning_laws.specs.declared.side.Side.TheVariants.{One, Two}
use Rattle.side_edges.specs.Listed.{AddsSide}
use Rattle.side_edges.proofs.Listed.{sides_more}
use Rattle.side_edges.proofs.side_edges.Goals as goal

pub loop-number-preserved : goal.loop-number-preserved
loop-number-preserved c =
    let choices = c.choices-choices.result.now in
    let k = c.loop-number.number in
    let h = c.index-choices-number.result in
    let g = c.index-choices-number-in-loop-number.result in
    let first = c.add_side.new.lists in
    let next = c.add_side-in-loop-number.new.lists in
    let number = c.choice_of-choice.ensures.number in
    let at = slice_get_read choices (length choices) k h refl c.loop-number-test.true c.index-choices-number.is in
    let also = slice_get_read choices (length choices) k g refl c.loop-number-test.true c.index-choices-number-in-loop-number.is in
    let one : AddsSide k One h.one c.loop-number.table first =
    subst (λ (side : List Edge). AddsSide k One side c.loop-number.table first) c.one.ensures (subst (λ n. AddsSide n One c.one.result.now c.loop-number.table first) number c.in_ok-add_side.ensures.added) in
    let two : AddsSide k Two g.two first next =
    subst (λ (side : List Edge). AddsSide k Two side first next) c.two.ensures (subst (λ n. AddsSide n Two c.two.result.now first next) number c.in_ok-add_side-2.ensures.added) in
    record {
      len = c.add_side-in-loop-number.ensures.len ∙ c.add_side.ensures.len ∙ c.loop-number.invariant.len;
      sides = sides_more choices k h g c.loop-number.table first next c.loop-number-test.true at also c.loop-number.invariant.sides one two;
    }
