use Rattle.session_log.proofs.Prelude.{◌≡◌, take, digits_value}
use Rattle.session_log.proofs.words.value_of.Given as goal

abbrev pub invariant-loop-d : goal.invariant-loop-d
invariant-loop-d l = l.n ≡ digits_value 10 (take l.d-index l.word)
