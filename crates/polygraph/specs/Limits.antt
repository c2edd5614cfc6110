-- When there is no polygraph.
use Rattle.std.specs.Prelude.{◌<◌, List, length}
use Rattle.serializability.specs.Polygraph.{Choice}
use Rattle.polygraph.specs.declared.fault.PolyFault.{PolyFault}
use Rattle.polygraph.specs.declared.fault.PolyFault.TheVariants.{TooManyChoices, Memory}
use Rattle.polygraph.specs.declared.index.TheConstants.{MAX_CHOICES}

-- a call that is to give these choices fails where there are more than 100,000, or for want of
-- memory
abbrev pub IsPolyFault : List Choice → PolyFault → Type 0
IsPolyFault choices TooManyChoices = MAX_CHOICES < length choices
IsPolyFault choices Memory = Unit {0}
