use Rattle.session_log.proofs.Prelude.{◌+◌, ◌*◌, arith, sym, ap, ◌∙◌}
use Rattle.session_log.proofs.Digits.{value_more, value_over}
use Rattle.session_log.proofs.words.value_of.Goals as goal

pub returns-then-n-digit : goal.returns-then-n-digit
returns-then-n-digit c =
    value_over c.args.word.now c.loop-d.d-index c.loop-d.n c.from-digit.result c.requires c.loop-d-test.true c.from-digit.ensures c.loop-d.invariant (omega arith)

pub loop-d-preserved : goal.loop-d-preserved
loop-d-preserved c =
    sym (value_more c.args.word.now c.loop-d.d-index c.from-digit.result c.requires c.loop-d-test.true c.from-digit.ensures ∙ ap (λ n. n * 10 + c.from-digit.result) (sym c.loop-d.invariant))
