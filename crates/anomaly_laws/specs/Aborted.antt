-- Writes of aborted transactions.
use Rattle.std.specs.Prelude.{ℕ, List}
use Rattle.std.specs.List.{Contains}
use Rattle.serializability.specs.declared.event.Event.{Event}
use Rattle.serializability.specs.declared.event.Event.TheVariants.{Write}
use Rattle.serializability.specs.Log.{Log}

-- an aborted transaction writes x as w
abbrev pub WritesAborted : Log → ℕ → ℕ → Type 0
WritesAborted log x w = (ops : List Event) × Contains log.aborted ops × Contains ops (Write x w)
