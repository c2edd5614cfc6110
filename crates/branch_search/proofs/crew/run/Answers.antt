use Rattle.branch_search.proofs.Prelude.{length, ap, arith, closes, numbered_as}
use Rattle.branch_search.proofs.crew.run.Goals as goal

pub unwrap-closed-requires : goal.unwrap-closed-requires
unwrap-closed-requires g c =
    let left = c.in_ok-lefts.ensures in let made = c.in_ok-jobs.ensures in let seats = c.in_ok-desk.ensures.count in let names = ap length c.requires.names in
    closes g.J.Naming.names c.in_ok-lefts.lefts.items (λ e. e.missing) c.close.result
    (numbered_as (λ job. job.seat.number) (λ l. l.number) c.in_ok-jobs.jobs.items c.in_ok-lefts.lefts.items made.numbers left.count left.seats)
    (let a = left.count in let b = made.count in omega arith)
    c.close.ensures.missing c.close.ensures.least
