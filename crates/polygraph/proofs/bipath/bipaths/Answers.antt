use Rattle.polygraph.proofs.Prelude.{ap, ◌∙◌, log_of}
use Rattle.polygraph.proofs.Readers.{bipaths_joined}
use Rattle.polygraph.proofs.bipath.bipaths.Goals as goal

pub new-requires-clause-joined : goal.new-requires-clause-joined
new-requires-clause-joined c =
    let same = c.in_ok-bipath_graph.ensures.polygraph in
    let nodes = ap (λ g. g.nodes) c.into_parts-known.ensures.known ∙ ap (λ p. p.nodes) same in
    let choices = c.in_ok-choices.ensures.same ∙ c.deref.ensures.value ∙ c.into_parts-known.ensures.choices ∙ ap (λ p. p.choices) same in
    rw (nodes, choices) (bipaths_joined (log_of c.args.history.now) c.requires.clean)
