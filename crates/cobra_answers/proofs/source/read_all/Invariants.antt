use Rattle.std.proofs.Common.{◌≡◌, ◌+◌, ◌-◌, ◌<◌, ◌≤◌, vec_len}
use Rattle.cobra_answers.specs.Sources.{Takes}
use Rattle.cobra_answers.proofs.source.read_all.Given as goal

abbrev pub decreases-loop-text : goal.decreases-loop-text
decreases-loop-text g l = l.limit + 1 - vec_len l.text

abbrev pub invariant-loop-text : goal.invariant-loop-text
invariant-loop-text g l = record {
  taken : Takes (g.S.Source.rest l.initial.source) (g.S.Source.rest l.source) l.text.items;
  most : vec_len l.text ≤ l.limit + 1;
  count : g.S.Source.failures l.source ≡ g.S.Source.failures l.initial.source;
  room : 0 < vec_len l.piece;
}
