use Rattle.write_chains.proofs.Prelude.{◌<◌, ◌∙◌, ap, arith, rules, unless_empty, group_view}
use Rattle.std.proofs.lemmas.List.Sorted.{answers_always}
use Rattle.session_history.proofs.Searched.{item_found, item_absent}
use Rattle.write_chains.proofs.Holding.{list_found, list_absent}
use Rattle.write_chains.proofs.groups.readers_in.Goals as goal

pub returns-in-Ok : goal.returns-in-Ok
returns-in-Ok c =
    let position = c.in-Ok.ensures.position (λ y. y.source) (answers_always _ _ _ (λ f a r g called. search rules)) in
    record {
      readers = λ n f lt are.
          let found = item_found (λ v. unless_empty (f v)) n group_view c.args.groups.now are c.get.result c.in-Ok.place c.index-groups-place.result c.in-Ok.ensures.bound position in
          c.deref.ensures.value ∙ list_found f c.get.result _ found ∙ ap f c.get.ensures.value;
    }

pub returns-in-Err : goal.returns-in-Err
returns-in-Err c =
    let position = c.in-Err.ensures.position (λ y. y.source) (answers_always _ _ _ (λ f a r g called. search rules)) in
    record {
      readers = λ n f lt are.
          let below : c.get.result < n = omega (arith, lt, c.get.ensures.value) in
          list_absent f c.get.result (item_absent (λ v. unless_empty (f v)) n group_view c.args.groups.now are c.get.result c.in-Err.field-0 below position) ∙ ap f c.get.ensures.value;
    }
