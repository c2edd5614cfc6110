use Rattle.session_log.proofs.Prelude.{◌≡◌, ◌+◌, ◌<◌, ◌^◌, map, drop, length, flat_map, view, view_txn, txn_lines, session_lines, capped}
use Rattle.session_log.proofs.session.Session.line_count.Given as goal

abbrev pub invariant-loop-txn : goal.invariant-loop-txn
invariant-loop-txn l = record {
  low : l.count < 2 ^ 64;
  lines : capped (l.count + length (flat_map txn_lines (map view_txn (drop l.txn-index l.self.txns.items)))) ≡ capped (length (session_lines (view l.self)));
}
