use Rattle.tell_reasons.proofs.Prelude.{◌≡◌, ◌++◌, drop, words_text}
use Rattle.tell_reasons.proofs.words.put_words.Given as goal

abbrev pub invariant-loop-word : goal.invariant-loop-word
invariant-loop-word l = l.out.items ++ words_text l.log (drop l.word-index l.words) ≡ l.initial.out.items ++ words_text l.log l.words
