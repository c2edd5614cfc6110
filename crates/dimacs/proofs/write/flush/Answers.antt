use Rattle.dimacs.proofs.Prelude.{err_from_is_err_and}
use Rattle.dimacs.proofs.Sendings.{flushed, cut_off}
use Rattle.dimacs.proofs.write.flush.Goals as goal

pub returns-in_err-out-clause-went : goal.returns-in_err-out-clause-went
returns-in_err-out-clause-went g c = λ start rest whole way.
    let went = rw c.as_slice.ensures.value at c.in_err-out.ensures.went in
    let p = err_from_is_err_and c.from_residual.result c.from_residual.ensures.1 in
    rw (p.1, p.2) (cut_off _ _ _ _ _ rest whole _ way went)

pub returns-clause-went : goal.returns-clause-went
returns-clause-went g c = λ start rest whole way.
    let went = rw c.as_slice.ensures.value at c.in_ok-out.ensures.went in
    rw c.clear.ensures (flushed _ _ _ _ _ rest whole _ way went)
