use Rattle.prune_ledger.proofs.Prelude.{◌∙◌, length, sym, ap, arith, false≢true, IfOk, AllByRecursion, IsOpenIn}
use Rattle.prune_ledger.proofs.Flags.{all_from_index}
use Rattle.prune_ledger.proofs.Seats.{has_all}
use Rattle.prune_ledger.proofs.crew.round_of.Goals as goal

pub returns-clause-open : goal.returns-clause-open
returns-clause-open g c =
    c.in_ok-lefts.ensures.open c.args.start.now.edges c.args.polygraph.now.choices
    (all_from_index (λ d. IfOk d.1 (λ passed. AllByRecursion (IsOpenIn c.args.start.now.edges c.args.polygraph.now.choices) passed.items)) c.in_ok-done.done.items (length c.in_ok-desk.seats.items) c.in_ok-done.ensures.len c.in_ok-done.ensures.each)

pub unreachable-requires : goal.unreachable-requires
unreachable-requires g c =
    let m = c.in-Err.field-0.missing in
    let n = ap length c.requires.names in let k = c.in_ok-desk.ensures.count in let hi = c.in-Err.ensures.missing.1 in
    false≢true (sym c.in-Err.ensures.least.0
    ∙ has_all c.in_ok-done.done.items c.in_ok-lefts.lefts.items (length c.in_ok-desk.seats.items) m c.in_ok-lefts.ensures.lefts c.in_ok-done.ensures.len c.in_ok-done.ensures.numbers c.in-Err.ensures.missing.0 (omega (arith, n, k, hi)))
