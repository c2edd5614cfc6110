use Rattle.known_graph.proofs.Prelude.{◌+◌, ◌*◌, ◌/◌, ◌<◌, ap, sym, subst, row_len, bit_place}
use Rattle.known_graph.proofs.Edges.{place_within}
use Rattle.known_graph.proofs.bit_table.bit_place.Goals as goal

pub returns-clause-place : goal.returns-clause-place
unfolding bit_place
returns-clause-place c = ap (λ l. c.args.u * (l * 64) + c.args.v) c.row_len.ensures.value

pub returns-clause-within : goal.returns-clause-within
returns-clause-within c =
    subst (λ p. p / 64 < (c.args.nodes + 1) * row_len c.args.nodes) (sym (returns-clause-place c)) (place_within c.args.nodes c.args.u c.args.v c.requires.nodes.0 c.requires.nodes.1)
