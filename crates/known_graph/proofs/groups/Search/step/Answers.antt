use Rattle.known_graph.proofs.Prelude.{arith}
use Rattle.known_graph.proofs.Grouped.{search_closed}
use Rattle.known_graph.proofs.groups.Search.step.Goals as goal

pub node-requires : goal.node-requires
node-requires c = record { few = omega (arith, c.requires.group.ends c.in-Some.number c.in-Some.ensures.found.0, c.requires.search.graph.few) }

pub returns-then-is_within-clause-search : goal.returns-then-is_within-clause-search
returns-then-is_within-clause-search c =
    search_closed c.args.known.now c.args.self.now c.args.group c.join_words.new.words c.requires.search c.requires.group (c.is_within.ensures.within c.if-is_within.true) c.join_words.ensures.bits
