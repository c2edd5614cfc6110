use Rattle.known_graph.proofs.Prelude.{◌<◌, get_or, arith, from_at}
use Rattle.known_graph.proofs.Trees.{node_read, from_read, behind_step}
use Rattle.known_graph.proofs.reached.line_to.Goals as goal

pub loop-at-preserved : goal.loop-at-preserved
loop-at-preserved c =
    let found = c.args.found.now in
    let k = c.loop-at.at in
    let within = c.loop-at.invariant.within in
    let from = from_read found k c.index-found-at-in-loop-at.result within in
    let less : from_at found k < k = c.requires.earlier k (omega arith) within in
    record {
      within = omega (arith, from, less, within);
      line = λ edges tree edge. behind_step edges found k c.args.end c.loop-at.line.items c.push.new.self.items (get_or found k c.index-found-at.result).node (get_or found k c.index-found-at-in-loop-at.result).from
          tree (omega arith) within (node_read found k c.index-found-at.result within) from c.in_ok-push.ensures.items (c.loop-at.invariant.line edges tree edge);
    }
