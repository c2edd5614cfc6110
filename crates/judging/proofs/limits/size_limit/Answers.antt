use Rattle.judging.proofs.Prelude.{map, arith, view, least_version, txns_in}
use Rattle.judging.proofs.Sizing.{bytes_of_lines, many_nodes}
use Rattle.judging.proofs.limits.size_limit.Goals as goal

pub returns-then-saturating_add-gt-MAX_NODES : goal.returns-then-saturating_add-gt-MAX_NODES
returns-then-saturating_add-gt-MAX_NODES c =
    many_nodes (txns_in (map view c.args.sessions.now)) c.of-tally.result c.saturating_add.result c.of-tally.ensures (omega (arith, c.saturating_add.ensures)) c.if-saturating_add-gt-MAX_NODES.true

pub returns-then-line_count-gt-MAX_LOG_BYTES : goal.returns-then-line_count-gt-MAX_LOG_BYTES
returns-then-line_count-gt-MAX_LOG_BYTES c =
    let ss = map view c.args.sessions.now in
    let bytes = bytes_of_lines (least_version ss) ss in
    omega (arith, bytes, c.line_count.ensures, c.if-line_count-gt-MAX_LOG_BYTES.true)
