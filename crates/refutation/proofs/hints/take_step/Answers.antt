use Rattle.refutation.proofs.Prelude.{◌≡◌, ◌+◌, ◌∷◌, ◌∙◌, sym, ap, get_or, drop, add-one, drop-cons, hinted}
use Rattle.refutation.proofs.Units.{hinted_nothing}
use Rattle.refutation.proofs.hints.take_step.Goals as goal

pub returns-in-Nothing-clause-exactly : goal.returns-in-Nothing-clause-exactly
returns-in-Nothing-clause-exactly c =
    let hint = get_or c.args.hints.now c.loop-hint.hint-index 0 in
    let rest = drop (c.loop-hint.hint-index + 1) c.args.hints.now in
    let next : drop c.loop-hint.hint-index c.args.hints.now ≡ hint ∷ rest = rw add-one (drop-cons c.args.hints.now c.loop-hint.hint-index 0 c.loop-hint-test.true) in
    let shown = rw c.in-Nothing.is at c.in_ok-show.ensures.shown in
    sym (hinted_nothing hint rest c.loop-hint.checker.clauses c.loop-hint.checker.known shown.left)
    ∙ (ap (λ hs. hinted hs c.loop-hint.checker.clauses c.loop-hint.checker.known) (sym next) ∙ c.loop-hint.invariant.rest)
