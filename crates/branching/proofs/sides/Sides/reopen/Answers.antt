use Rattle.branching.proofs.Prelude.{◌≡◌, List, Option, None, length, replicate, sym, ap, ◌∙◌, arith, rules, with_items_is, Side, row_len}
use Rattle.branching.proofs.Opens.{held_open}
use Rattle.branching.proofs.sides.Sides.reopen.Goals as goal

pub invariant_of-self : goal.invariant_of-self
invariant_of-self c =
    let n = c.len.result in
    let count : length c.self.inside.sides.items ≡ n = sym (ap (λ (l : List (Option Side)). length l) c.as_mut_slice-2.ensures.value) ∙ c.as_mut_slice-2.ensures.len ∙ sym c.len.ensures in
    let filled : c.fill.new.self ≡ replicate (length c.as_mut_slice-2.result.now) None = search rules in
    let all = with_items_is c.self.inside.sides c.fill.new.self (c.fill.ensures.len ∙ c.as_mut_slice-2.ensures.len) ∙ filled ∙ ap (λ k. replicate k None) (c.as_mut_slice-2.ensures.len ∙ sym c.len.ensures) in
    let b = c.self.invariant.bits in
    let few = b.few in
    let size = c.set_below.ensures.len ∙ c.as_mut_slice.ensures.len in
    let h = held_open n _ c.set_below.new.words _ all (omega (arith, few, count)) (with_items_is c.self.inside.open c.set_below.new.words size)
    (c.set_below.ensures.len ∙ ap (λ (l : List _). length l) c.as_mut_slice.ensures.value ∙ b.len ∙ ap row_len count) c.set_below.ensures.bits in
    record { bits = h.0; decided = h.1 }
