use Rattle.write_chains.proofs.Prelude.{◌≡◌, ◌<◌, ◌++◌, ◌∷◌, [], ℕ, List, length, refl, sym, ap, ◌∙◌, arith, map, eqb-true, eqb-false, map-append, slice_get_read, group_view}
use Rattle.write_chains.proofs.Pushes.{list_at}
use Rattle.write_chains.proofs.Holding.{group_added, group_passed}
use Rattle.write_chains.proofs.groups.groups_of.Goals as goal
use Rattle.write_chains.proofs.groups.groups_of.Goals.{then-not-is_empty+in_ok-from_slice+in_ok-push, else-not-is_empty}

pub loop-number-preserved : goal.loop-number-preserved
loop-number-preserved c = λ n f h.
    (let lists = c.args.lists.now in
    let k = c.loop-number.number in
    let list = c.index-lists-number.result in
    let now = map group_view c.loop-number.groups.items in
    let lt : k < length lists = omega (arith, c.loop-number-test.true, c.requires.count) in
    let is : list.items ≡ f k = list_at n f lists k list h (omega (arith, lt, h.count)) (slice_get_read lists (length lists) k list refl lt c.index-lists-number.is) in
    let same = ap length is in
    elim c.if-not-is_empty.branch [
      | then-not-is_empty+in_ok-from_slice+in_ok-push w ↦
          let some = eqb-false list.len 0 (sym c.is_empty.ensures ∙ w.if-not-is_empty.true) in
          let copied = w.in_ok-from_slice.ensures.items ∙ w.deref.ensures.value ∙ is in
          let pair : ℕ → List ℕ → ℕ × List ℕ = λ v l. (v, l) in
          ap (λ g. map group_view g.items) w.groups-is ∙ ap (map group_view) w.in_ok-push.ensures.items ∙ map-append group_view c.loop-number.groups.items _
          ∙ ap (λ v. now ++ pair v w.in_ok-from_slice.field-0.items ∷ []) w.node.ensures.value ∙ ap (λ l. now ++ pair k l ∷ []) copied
          ∙ group_added f k now (omega (arith, some, same, list.ok.0)) (c.loop-number.invariant n f h)
      | else-not-is_empty w ↦
          let none = eqb-true list.len 0 (sym c.is_empty.ensures ∙ w.if-not-is_empty.false) in
          ap (λ g. map group_view g.items) w.groups-is ∙ group_passed f k now (omega (arith, none, same, list.ok.0)) (c.loop-number.invariant n f h)
    ])
