use Rattle.known_graph.proofs.Prelude.{[], sym, ◌∙◌, false≢true, All-nil, All-same, IsGroup}
use Rattle.known_graph.proofs.Words.{bit_of-zeros}
use Rattle.known_graph.proofs.groups.Search.through.Goals as goal

pub enter-requires-clause-search : goal.enter-requires-clause-search
enter-requires-clause-search c =
    let g = c.args.known.now in
    record {
      graph = c.nodes.ensures.graph;
      groups = All-same (IsGroup g) c.in_ok-with_capacity.field-0.items [] c.in_ok-with_capacity.ensures.items (All-nil (IsGroup g));
      closed = λ v w t k. absurd (false≢true (sym (bit_of-zeros 16 v) ∙ t));
      round = λ v t r. absurd (false≢true (sym (bit_of-zeros 16 v) ∙ t));
    }

pub enter-requires-clause-fresh : goal.enter-requires-clause-fresh
enter-requires-clause-fresh c = bit_of-zeros 16 0
