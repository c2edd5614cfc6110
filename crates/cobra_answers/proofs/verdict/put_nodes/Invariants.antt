use Rattle.std.proofs.Common.{◌≡◌, ◌++◌, take}
use Rattle.cobra_answers.specs.Verdicts.{nodes_text}
use Rattle.cobra_answers.proofs.verdict.put_nodes.Given as goal

abbrev pub invariant-loop-node : goal.invariant-loop-node
invariant-loop-node l = l.out.items ≡ l.initial.out.items ++ nodes_text l.history (take l.node-index l.nodes)
