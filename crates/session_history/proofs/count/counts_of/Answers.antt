use Rattle.session_history.proofs.Prelude.{ap, sym, arith, map, length, length-map, count_by-le-length, view, is_committed, is_unknown, txns_in, is_aborted}
use Rattle.session_history.proofs.Totals.{committed_nodes, txns_below_lines}
use Rattle.session_history.proofs.Tabled.{keys_held, count_held, committed_held}
use Rattle.session_history.proofs.count.counts_of.Goals as goal

pub overflow_sub-result : goal.overflow_sub-result
overflow_sub-result c =
    let ss = map view c.args.sessions.now in
    omega (arith, committed_nodes ss, committed_held ss c.args.all.now c.requires.holds, c.of-tally.ensures.committed, c.len.ensures, c.args.all.now.nodes.ok.0)

pub returns : goal.returns
returns c =
    let ss = map view c.args.sessions.now in
    let few = txns_below_lines ss in
    let least = committed_nodes ss in
    let nodes = committed_held ss c.args.all.now c.requires.holds in
    let count = count_held ss c.args.all.now c.requires.holds in
    let keys = ap length (keys_held ss c.args.all.now c.requires.holds) in
    record {
      sessions = sym (length-map c.args.sessions.now view);
      committed = omega (arith, few, count_by-le-length is_committed (txns_in ss), c.of-tally.ensures.committed, c.requires.room);
      aborted = omega (arith, few, count_by-le-length is_aborted (txns_in ss), c.of-tally.ensures.aborted, c.requires.room);
      unknown = omega (arith, few, count_by-le-length is_unknown (txns_in ss), c.of-tally.ensures.unknown, c.requires.room);
      nodes = omega (arith, least, nodes, count, c.of-tally.ensures.committed, c.len.ensures, c.args.all.now.nodes.ok.0);
      keys = omega (arith, keys, c.len-2.ensures);
      operations = omega (arith, c.of-tally.ensures.operations, c.requires.few);
    }
