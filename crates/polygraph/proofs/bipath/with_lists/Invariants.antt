use Rattle.polygraph.proofs.Prelude.{◌≡◌, take}
use Rattle.polygraph.proofs.bipath.with_lists.Given as goal

abbrev pub invariant-loop-bipath : goal.invariant-loop-bipath
invariant-loop-bipath l = l.listed.items ≡ take l.bipath-index l.bipaths
