use Rattle.reach_rows.proofs.Prelude.{◌≡◌, ◌≤◌, ◌+◌, ◌-◌, get_or, ap, subst, arith, mul-le, row_len, row_len_small, AreReachRows}
use Rattle.reach_rows.proofs.Parting.{starts_within}
use Rattle.reach_rows.proofs.parts.part_rows.Goals as goal

pub overflow_mul-last : goal.overflow_mul-last
overflow_mul-last g c =
    let graph = c.args.known.now in
    let starts = c.args.starts.now in
    let last = starts_within (graph.nodes + 1) starts c.requires.starts (c.args.worker + 1) (omega (arith, c.requires.worker.1)) in
    let few : get_or starts (c.args.worker + 1) 0 - get_or starts c.args.worker 0 ≤ 1001 = omega (arith, last, c.nodes.ensures.graph.few) in
    let small : c.row_len.result ≤ 16 = omega (arith, c.row_len.ensures.value, ap row_len c.nodes.ensures.count, row_len_small graph.nodes c.nodes.ensures.graph.few) in
    omega (arith, mul-le (get_or starts (c.args.worker + 1) 0 - get_or starts c.args.worker 0) c.row_len.result 1001 16 few small)

pub node-requires : goal.node-requires
node-requires g c =
    let last = starts_within (c.args.known.now.nodes + 1) c.args.starts.now c.requires.starts (c.args.worker + 1) (omega (arith, c.requires.worker.1)) in
    record { few = omega (arith, last, c.loop-source-test.true, c.nodes.ensures.graph.few) }

pub add_source-requires : goal.add_source-requires
add_source-requires g c =
    let last = starts_within (c.args.known.now.nodes + 1) c.args.starts.now c.requires.starts (c.args.worker + 1) (omega (arith, c.requires.worker.1)) in
    record { node = omega (arith, last, c.loop-source-test.true, c.node.ensures.value) }

pub returns : goal.returns
returns g c =
    let starts = c.args.starts.now in
    let forth = c.requires.starts.forth c.args.worker (omega (arith, c.requires.worker.1)) in
    let end : c.loop-source.source ≡ get_or starts (c.args.worker + 1) 0 = omega (arith, c.loop-source.auto.source-end forth, c.loop-source-test.false) in
    record { part = subst (λ b. AreReachRows c.args.known.now (get_or starts c.args.worker 0) b c.loop-source.words.items) end c.loop-source.invariant }
