use Rattle.std.proofs.Common.{◌≡◌, ◌+◌, ◌-◌, List, length, get_or, cond, ap, sym, subst, ◌∙◌, arith}
use Rattle.session_log.specs.declared.session.Txn.{Txn}
use Rattle.known_outcomes.proofs.Counted.{last_counted}
use Rattle.known_outcomes.proofs.count.ends_unknown.Goals as goal

pub returns-in-Some : goal.returns-in-Some
returns-in-Some c =
    let xs = c.args.session.now.txns.items in
    let t = c.in-Some.txn.now in
    let same = c.deref.ensures.value in
    let item = c.in-Some.ensures.item in
    let P : List Txn → Type 0 = λ ys. t ≡ get_or ys (length ys - 1) t in
    let at : P xs = subst P same item.1 in
    let e : (length xs - 1) + 1 ≡ length xs = omega (arith, item.3.0, ap length same) in
    last_counted xs (length xs - 1) t e at c.requires ∙ ap (λ b. cond b 1 0) (sym c.is_unknown.ensures)
