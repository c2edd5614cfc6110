use Rattle.census.proofs.Prelude.{◌≡◌, ◌++◌, take, flat_map}
use Rattle.census.specs.Text.{key_line}
use Rattle.census.proofs.text.put_keys.Given as goal

abbrev pub invariant-loop-line : goal.invariant-loop-line
invariant-loop-line l = l.out.items ≡ l.initial.out.items ++ flat_map key_line (take l.line-index l.lines)
