use Rattle.cube_machine.proofs.Prelude.{[], ◌∷◌, ap, sym, length, subst, arith, length_push, root, AreNoted}
use Rattle.cube_machine.proofs.Noted.{noted_none, noted_pushed}
use Rattle.cube_machine.proofs.machine.decided_of_seats.Goals as goal

pub loop-preserved : goal.loop-preserved
loop-preserved c =
    let d = c.in_ok-none.field-0 in let count = c.args.count in let table = c.loop.table.items in
    let p = c.in_ok-push.ensures.items in let s = c.loop.invariant.seats in let l = length_push table d in let n = ap length p in
    record {
      seats = omega (arith, n, l, s);
      noted = subst (AreNoted (root ∷ []) count) (sym p) (noted_pushed (root ∷ []) count table d c.loop.invariant.noted (noted_none count d c.in_ok-none.ensures.node c.in_ok-none.ensures.flags) c.in_ok-none.ensures.count);
    }
