use Rattle.known_graph.proofs.Prelude.{◌||◌, eqb, length, ap, ◌∙◌, arith, length_push, bit_of}
use Rattle.known_graph.proofs.Grouped.{left_after}
use Rattle.known_graph.proofs.groups.Search.enter.Goals as goal

pub returns-clause-less : goal.returns-clause-less
returns-clause-less c =
    let old = c.args.self.now.seen in
    let fewer = left_after old c.set_bit.new.words c.args.v c.requires.fresh
    (λ k. c.set_bit.ensures.bits k ∙ ap (λ v. eqb k v || bit_of old k) c.get.ensures.value)
    (omega (arith, c.requires.node, c.requires.search.graph.few)) in
    let one = ap length c.in_ok-push.ensures.items ∙ length_push c.args.self.now.path.items c.of.result in
    omega (arith, fewer, one)
