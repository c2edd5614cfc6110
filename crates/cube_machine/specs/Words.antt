-- The word that stands for an origin.
use Rattle.std.specs.Prelude.{ℕ, ◌+◌, ◌*◌, ◌<◌}
use Rattle.pruning_laws.specs.declared.side.Side.{Side}
use Rattle.pruning_laws.specs.declared.side.Side.TheVariants.{One, Two}
use Rattle.cube_machine.specs.declared.origin.Origin.{Origin}
use Rattle.polygraph.specs.declared.index.TheConstants.{MAX_CHOICES}

abbrev pub side_bit : Side → ℕ
side_bit One = 0
side_bit Two = 1

-- the side in bit 0, the choice from bit 1 and the parent from bit 18 on, with bit 39 set
abbrev pub word_of : Origin → ℕ
word_of o = 549755813888 + o.parent * 262144 + o.choice * 2 + side_bit o.side

-- there is a word for it
pub record Fits (o : Origin) : Type 0 where
  pub parent : o.parent < 2097152
  pub choice : o.choice < MAX_CHOICES
