use Rattle.dimacs.proofs.Prelude.{◌≡◌, ◌+◌, ◌*◌, ◌≤◌, length, flat_map, cnf_of, IsUnderWay, clause_text, text_of}
use Rattle.dimacs.proofs.write.write_formula.Given as goal

abbrev pub invariant-loop-clause : goal.invariant-loop-clause
invariant-loop-clause g l = record {
  way : IsUnderWay (g.W.Sink.bytes l.fn.sink) (g.W.Sink.bytes l.sink) l.written l.piece
      (flat_map clause_text l.clause-iterator) (text_of (cnf_of l.formula));
  bound : l.written + length l.piece + 64 * length l.clause-iterator ≤ 100 + 64 * length l.formula.clauses;
  sound : g.W.Sink.failures l.sink ≡ g.W.Sink.failures l.fn.sink;
}
