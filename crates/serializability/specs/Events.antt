-- What an operation names: its key's number, and an identity.
use Rattle.std.specs.Prelude.{ℕ}
use Rattle.serializability.specs.declared.event.Event.{Event}
use Rattle.serializability.specs.declared.event.Event.TheVariants.{Read, Write}

abbrev pub event_key : Event → ℕ
event_key (Read k w) = k
event_key (Write k w) = k

abbrev pub event_wid : Event → ℕ
event_wid (Read k w) = w
event_wid (Write k w) = w
