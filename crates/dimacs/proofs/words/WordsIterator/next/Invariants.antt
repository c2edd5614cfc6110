use Rattle.dimacs.proofs.Prelude.{◌≡◌, length, words}
use Rattle.dimacs.proofs.words.WordsIterator.next.Given as goal

abbrev pub invariant-loop-word : goal.invariant-loop-word
invariant-loop-word l = words l.self.0.now ≡ words l.fn.self.0.now

abbrev pub decreases-loop-word : goal.decreases-loop-word
decreases-loop-word l = length l.self.0.now
