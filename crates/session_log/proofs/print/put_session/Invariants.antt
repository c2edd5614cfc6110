use Rattle.session_log.proofs.Prelude.{◌≡◌, ◌++◌, ◌∷◌, map, take, flat_map, view_txn, text_of_lines, txn_lines}
use Rattle.session_log.specs.declared.line.Line.TheVariants as line
use Rattle.session_log.proofs.print.put_session.Given as goal

abbrev pub invariant-loop-txn : goal.invariant-loop-txn
invariant-loop-txn l = l.out.items ≡ l.fn.out.items ++ text_of_lines (line.Session l.session.number ∷ flat_map txn_lines (map view_txn (take l.txn-index l.session.txns.items)))
