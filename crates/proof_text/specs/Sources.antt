-- The lines that are left, in either form.
use Rattle.std.specs.Prelude.{ℕ, List, Option}
use Rattle.proof_text.specs.Binary.{binary_step}
use Rattle.proof_text.specs.Steps.{DratStep, drat_step, steps_by}
use Rattle.proof_text.specs.declared.drat.Source.{Source}
use Rattle.proof_text.specs.declared.drat.Source.TheVariants.{Text, Binary}

-- their steps
abbrev pub steps_left : ℕ → Source → List (ℕ × Option DratStep)
steps_left v (Text lines) = steps_by (drat_step v) lines
steps_left v (Binary lines) = steps_by (binary_step v) lines
