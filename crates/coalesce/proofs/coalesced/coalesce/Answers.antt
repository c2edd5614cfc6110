use Rattle.coalesce.proofs.Prelude.{◌≡◌, ◌++◌, ◌∙◌, ap, sym, subst, AllByRecursion, log_of, chain_choices, inner_edges, initial_first, JoinsBoth, IsWith}
use Rattle.serializability.specs.Polygraph as spec
use Rattle.coalesce.proofs.Joined.{choices_joined}
use Rattle.coalesce.proofs.Sets.{whole_known, same_orders}
use Rattle.coalesce.proofs.coalesced.coalesce.Goals as goal

pub new-requires-clause-joined : goal.new-requires-clause-joined
new-requires-clause-joined c =
    let log = log_of c.args.history.now in
    let choices = c.in_ok-choices.ensures.choices ∙ ap (λ s. chain_choices (log_of s)) c.requires.chains in
    let nodes = c.add_known_edges.ensures.nodes ∙ ap (λ g. g.nodes) c.requires.arcs in
    subst (AllByRecursion (JoinsBoth c.add_known_edges.new.known.nodes)) (sym choices)
    (subst (λ k. AllByRecursion (JoinsBoth k) (chain_choices log)) (sym nodes) (choices_joined log))

pub returns-clause-known : goal.returns-clause-known
returns-clause-known c =
    let log = log_of c.args.history.now in
    let old = c.args.known.edges in
    let new = c.add_known_edges.new.known.edges in
    let arcs' : old ≡ spec.arcs log = ap (λ g. g.edges) c.requires.arcs in
    let with' = subst (λ s. IsWith old (inner_edges (log_of s) ++ initial_first (log_of s)) new) c.requires.chains c.add_known_edges.ensures.edges in
    whole_known log old new c.new.result.known arcs' with' (ap (λ (p : spec.Polygraph). p.known) c.new.ensures)

pub returns-clause-same_orders : goal.returns-clause-same_orders
returns-clause-same_orders c =
    let log = log_of c.args.history.now in
    let nodes : c.new.result.nodes ≡ log.nodes =
    ap (λ (p : spec.Polygraph). p.nodes) c.new.ensures ∙ c.add_known_edges.ensures.nodes ∙ ap (λ g. g.nodes) c.requires.arcs in
    let choices : c.new.result.choices ≡ chain_choices log =
    ap (λ (p : spec.Polygraph). p.choices) c.new.ensures ∙ c.in_ok-choices.ensures.choices ∙ ap (λ s. chain_choices (log_of s)) c.requires.chains in
    same_orders log c.requires.clean c.new.result nodes (returns-clause-known c) choices
