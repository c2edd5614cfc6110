use Rattle.branching.proofs.Prelude.{length, ap, arith}
use Rattle.branching.proofs.Opens.{length-open_from}
use Rattle.branching.proofs.sides.Sides.decided.Goals as goal

pub returns-clause-within : goal.returns-clause-within
returns-clause-within c =
    let e = c.self.invariant.decided in
    let v = ap length c.self.view_is in
    omega (arith, e, v, length-open_from c.self.inside.sides.items 0)
