use Rattle.desk.proofs.Prelude.{◌≡◌, ◌+◌, length, arith}
use Rattle.desk.proofs.Seating.{seated_push}
use Rattle.desk.proofs.opened.add_seat.Goals as goal

pub returns-clause-seated : goal.returns-clause-seated
returns-clause-seated g c =
    let p = c.pair-account.ensures in let o = c.args.rows.now.ok in let n = c.requires.number in
    let number : c.args.number ≡ length c.args.rows.now.items + 1 = omega arith in
    seated_push c.args.rows.now.items c.push.new.self.items c.args.seats.now.items c.push-2.new.self.items _ _ c.requires.seated
    c.in_ok-push.ensures.items c.in_ok-push-2.ensures.items p.account.1 number p.name p.receipt.0 p.receipt.1
