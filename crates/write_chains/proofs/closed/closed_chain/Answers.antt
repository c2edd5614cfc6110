use Rattle.write_chains.proofs.Prelude.{sym, subst, inl, inr, arith, cases_eq, cases_lt, log_of, NoneCloses, closed_key}
use Rattle.write_chains.proofs.closed.closed_chain.Goals as goal

pub loop-key-preserved : goal.loop-key-preserved
loop-key-preserved c = λ x lt. (let here = c.in_ok-line.ensures.closed in
    elim (cases_eq x c.loop-key.key) [
      | inl e ↦ subst (NoneCloses (log_of c.args.history.now)) (sym e) (rw c.in_default.is at c.in_ok-line.ensures.closed)
      | inr ne ↦ c.loop-key.invariant x (omega (arith, ne, lt))
    ])

pub returns : goal.returns
returns c = record {
  closed = λ x. elim (cases_lt x c.loop-key.key) [
    | inl lt ↦ c.loop-key.invariant x lt
    | inr le ↦ record { none = λ line closed. (let lt = closed_key (log_of c.args.history.now) c.requires.clean x line closed in absurd (omega (arith, lt, le, c.loop-key-test.false, c.keys-key-end.ensures.count))) }
  ];
}
