use Rattle.prune_ledger.proofs.Prelude.{◌∷◌, ◌∙◌, sym, ap, subst, edges_of, Posted, kept_side, IsGraphOf}
use Rattle.prune_ledger.proofs.KeptUp.{graph_kept_at, graph_kept_none}
use Rattle.prune_ledger.proofs.rounds.keep.Goals as goal

pub returns-in-Some-clause-kept : goal.returns-in-Some-clause-kept
returns-in-Some-clause-kept c earlier is =
    let post : Posted = record { choice = c.post.inside.choice; side = c.post.inside.side; edge = c.post.inside.edge; walk = c.post.inside.walk.items } in
    subst (λ (q : Posted). IsGraphOf c.args.polygraph.now (kept_side q ∷ earlier) c.add_all.new.self) c.post.view_is
    (graph_kept_at c.args.polygraph.now earlier post c.in-Some.sides.now c.edges.result.now c.args.own.now c.add_all.new.self (sym c.in-Some.ensures)
    (c.edges.ensures ∙ ap (edges_of c.in-Some.sides.now) c.other_side.ensures) c.add_all.ensures.edges is)

pub returns-in_default-clause-kept : goal.returns-in_default-clause-kept
returns-in_default-clause-kept c earlier is =
    let post : Posted = record { choice = c.post.inside.choice; side = c.post.inside.side; edge = c.post.inside.edge; walk = c.post.inside.walk.items } in
    subst (λ (q : Posted). IsGraphOf c.args.polygraph.now (kept_side q ∷ earlier) c.args.own.now) c.post.view_is
    (graph_kept_none c.args.polygraph.now earlier post c.args.own.now (sym c.in_default.ensures) is)
