use Rattle.prune_ledger.proofs.Prelude.{◌∙◌, ◌<◌, sym, ap, subst, arith, length, slice_get_read, Graph, edges_of, State, refuses, with_edges, the_view}
use Rattle.prune_ledger.proofs.Marks.{side_joins, kept_refused, state_refused}
use Rattle.prune_ledger.proofs.machine.PruneMachine.refuse.Goals as goal

pub add_all-requires : goal.add_all-requires
add_all-requires c =
    let hs = c.self.inside.choices in
    let w = subst (λ (s : State). c.args.choice < length s.choices) (sym c.self.view_is) c.requires.within in
    let h = slice_get_read hs.items hs.len c.args.choice c.index-sides.result.now hs.ok.0 (let o = hs.ok.0 in omega arith) c.index-sides.ensures in
    rw c.edges.ensures (side_joins c.self.inside.graph.nodes hs.items c.args.choice c.index-sides.result.now c.other_side-kept.result c.self.invariant.joined h)

pub invariant_of-self : goal.invariant_of-self
invariant_of-self c =
    rw c.with_refused.ensures
    (kept_refused c.self.inside.graph.nodes c.add_all.new.graph.nodes c.self.inside.choices.items c.self.inside.marks.items c.self.inside.cursor c.args.choice c.index-mark.result.now c.args.side c.self.invariant
    (ap (λ (g : Graph). g.nodes) c.add_all.ensures))

pub returns : goal.returns
returns c =
    let ms = c.self.inside.marks in let hs = c.self.inside.choices in
    let w = subst (λ (s : State). c.args.choice < length s.choices) (sym c.self.view_is) c.requires.within in
    let at = slice_get_read ms.items ms.len c.args.choice c.index-mark.result.now ms.ok.0 (let o = ms.ok.0 in let i = c.self.invariant.marked in omega arith) c.index-mark.ensures in
    let h = slice_get_read hs.items hs.len c.args.choice c.index-sides.result.now hs.ok.0 (let o = hs.ok.0 in omega arith) c.index-sides.ensures in
    rw (← c.self.view_is, c.with_refused.ensures)
    (state_refused (the_view c.self.inside) c.args.choice c.args.side c.index-sides.result.now c.index-mark.result.now c.add_all.new.graph c.is_refusing-self-inside.result h at
    (c.add_all.ensures ∙ ap (with_edges c.self.inside.graph) (c.edges.ensures ∙ ap (edges_of c.index-sides.result.now) c.other_side-kept.ensures))
    (c.is_refusing-self-inside.ensures ∙ ap (refuses c.index-mark.result.now) c.other_side-kept.ensures))
