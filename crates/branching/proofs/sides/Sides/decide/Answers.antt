use Rattle.branching.proofs.Prelude.{◌≡◌, ℕ, ◌+◌, ◌/◌, ◌<◌, List, Some, not, eqb, ◌&&◌, length, set, sym, ap, ◌∙◌, subst, arith, with_items_is, bit_of, AreBits}
use Rattle.branching.proofs.Opens.{open_within, bits_within, still_open, few_decided, bits_decide, one_more_decided}
use Rattle.branching.proofs.sides.Sides.decide.Goals as goal

pub clear_bit-requires : goal.clear_bit-requires
clear_bit-requires c =
    let sides = c.self.inside.sides.items in
    let free = still_open sides c.args.self.now c.get-number.result c.args.choice c.self.view_is c.get-number.ensures.value c.requires.open in
    let b = bits_within sides c.self.inside.open.items c.get-number.result c.self.invariant.bits (open_within sides c.get-number.result free) in
    record { within = subst (λ (l : List ℕ). c.get-number.result / 64 < length l) (sym c.as_mut_slice.ensures.value) b }

pub index_mut-requires : goal.index_mut-requires
index_mut-requires c =
    let sides = c.self.inside.sides.items in
    let free = still_open sides c.args.self.now c.get-number.result c.args.choice c.self.view_is c.get-number.ensures.value c.requires.open in
    let within = open_within sides c.get-number.result free in
    let ok = c.self.inside.sides.ok.0 in
    omega (arith, within, ok)

pub overflow_add-self : goal.overflow_add-self
overflow_add-self c = let few = few_decided c.self.inside.sides.items c.self.inside.open.items c.self.inside.decided c.self.invariant.bits c.self.invariant.decided in omega (arith, few)

pub invariant_of-self : goal.invariant_of-self
invariant_of-self c =
    let sides = c.self.inside.sides.items in
    let words = c.self.inside.open.items in
    let number = c.get-number.result in
    let free = still_open sides c.args.self.now number c.args.choice c.self.view_is c.get-number.ensures.value c.requires.open in
    let new = c.clear_bit.new.words in
    let size = c.clear_bit.ensures.len ∙ c.as_mut_slice.ensures.len in
    let same = with_items_is c.self.inside.open new size in
    record {
      bits = subst (AreBits (set sides number (Some c.args.side))) (sym same)
          (bits_decide sides words new number c.args.side c.self.invariant.bits (open_within sides number free) (c.clear_bit.ensures.len ∙ ap (λ (l : List ℕ). length l) c.as_mut_slice.ensures.value)
          (subst (λ (l : List ℕ). (k : ℕ) → bit_of new k ≡ (not (eqb k number) && bit_of l k)) c.as_mut_slice.ensures.value c.clear_bit.ensures.bits));
      decided = ap (λ n. n + 1) c.self.invariant.decided ∙ sym (one_more_decided sides number c.args.side free);
    }
