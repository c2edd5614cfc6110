use Rattle.branching.proofs.Prelude.{List, ◌<◌, length, sym, subst}
use Rattle.branching.proofs.Opens.{few_words, none_made, next_made}
use Rattle.branching.proofs.sides.Sides.next_open.Goals as goal

pub next_set-requires : goal.next_set-requires
next_set-requires c = record { short = subst (λ (l : List _). length l < 4294967296) (sym c.deref.ensures.value) (few_words c.self.inside.sides.items c.self.inside.open.items c.self.invariant.bits) }

pub returns-in_err-next_set-clause-next : goal.returns-in_err-next_set-clause-next
returns-in_err-next_set-clause-next c = none_made c.self.inside.sides.items c.args.self.now c.self.inside.open.items c.deref.result.now c.args.from c.from_residual.result c.self.invariant.bits c.self.view_is c.deref.ensures.value c.in_err-next_set.ensures.none c.from_residual.ensures

pub returns-clause-next : goal.returns-clause-next
returns-clause-next c =
    let m = next_made c.self.inside.sides.items c.args.self.now c.self.inside.open.items c.deref.result.now c.args.from c.in_ok-next_set.field-0 c.new.result c.self.invariant.bits c.self.view_is c.deref.ensures.value c.in_ok-next_set.ensures.next c.new.ensures.some c.new.ensures.value in
    m.0

pub returns-clause-within : goal.returns-clause-within
returns-clause-within c =
    let m = next_made c.self.inside.sides.items c.args.self.now c.self.inside.open.items c.deref.result.now c.args.from c.in_ok-next_set.field-0 c.new.result c.self.invariant.bits c.self.view_is c.deref.ensures.value c.in_ok-next_set.ensures.next c.new.ensures.some c.new.ensures.value in
    m.1
