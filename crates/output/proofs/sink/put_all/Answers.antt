use Rattle.std.proofs.Common.{◌≡◌, ◌≤◌, length, arith, length-drop, ap, ◌∙◌, ◌-◌}
use Rattle.output.proofs.Pieces.{left_more, went_more, not_refused}
use Rattle.output.proofs.sink.put_all.Goals as goal

pub loop-rest-preserved : goal.loop-rest-preserved
loop-rest-preserved g c =
    let k = c.loop-rest.invariant in
    let bound : c.in-Ok.taken ≤ length c.loop-rest.rest.now = c.in-Ok.ensures.bound in
    record {
      from = omega arith;
      within = (let e : length c.loop-rest.rest.now ≡ length c.args.piece.now - (c.loop-rest.out - c.args.written) = ap length k.left ∙ length-drop (c.loop-rest.out - c.args.written) c.args.piece.now in
          omega (arith, e, bound, k.within, k.from));
      left = left_more c.loop-rest.rest.now c.args.piece.now c.loop-rest.out c.args.written c.in-Ok.taken k.left k.from bound;
      went = went_more _ _ _ c.loop-rest.rest.now c.args.piece.now c.loop-rest.out c.args.written c.in-Ok.taken k.left k.from k.went c.in-Ok.ensures.bytes;
      sound = not_refused c.in-Ok.taken c.loop-rest.rest.now _ _ _ c.in-Ok.taken-test.1 c.in-Ok.ensures.count ∙ k.sound;
    }
