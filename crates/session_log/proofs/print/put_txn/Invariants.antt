use Rattle.session_log.proofs.Prelude.{◌≡◌, ◌++◌, ◌∷◌, map, take, op_line, text_of_lines}
use Rattle.session_log.specs.declared.line.Line.TheVariants as line
use Rattle.session_log.proofs.print.put_txn.Given as goal

abbrev pub invariant-loop-op : goal.invariant-loop-op
invariant-loop-op l = l.out.items ≡ l.fn.out.items ++ text_of_lines (line.Begin l.fn.txn.begun ∷ map op_line (take l.op-index l.txn.ops.items))
