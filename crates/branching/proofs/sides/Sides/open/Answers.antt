use Rattle.branching.proofs.Prelude.{◌≡◌, None, replicate, ◌∙◌, rules, with_items_is}
use Rattle.branching.proofs.Opens.{held_open}
use Rattle.branching.proofs.sides.Sides.open.Goals as goal

pub invariant_of-result : goal.invariant_of-result
invariant_of-result c =
    let all : c.in_ok-vec.field-0.items ≡ replicate c.args.count None = search rules in
    let len = c.set_below.ensures.len ∙ c.as_mut_slice.ensures.len in
    let h = held_open c.args.count _ c.set_below.new.words c.in_ok-vec.field-0.items all c.requires.few (with_items_is c.in_ok-open.open c.set_below.new.words len)
    (len ∙ c.in_ok-open.ensures.len ∙ c.row_len.ensures.value) c.set_below.ensures.bits in
    record { bits = h.0; decided = h.1 }
