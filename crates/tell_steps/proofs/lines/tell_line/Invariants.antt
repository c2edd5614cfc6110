use Rattle.tell_steps.proofs.Prelude.{◌<◌, length, drop, reverse, IsLineTold}
use Rattle.tell_steps.proofs.lines.tell_line.Given as goal

abbrev pub invariant-loop-place : goal.invariant-loop-place
invariant-loop-place l = record {
  within : l.place < length l.line;
  told : IsLineTold l.chains l.steps l.decided (drop l.place l.line) (reverse l.items.items);
}

abbrev pub decreases-loop-place : goal.decreases-loop-place
decreases-loop-place l = l.place
