use Rattle.census.proofs.Prelude.{length, has_version}
use Rattle.census.specs.Versions.{place_in}
use Rattle.census.proofs.Sets.{none_in}
use Rattle.census.proofs.versions.Versions.new.Goals as goal

pub returns : goal.returns
unfolding has_version
returns c = λ k w. none_in c.loop.sets.items c.loop.invariant (place_in (length c.loop.sets.items) w) k w
