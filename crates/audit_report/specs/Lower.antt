-- The weakest of the levels below snapshot isolation that was not kept.
use Rattle.std.specs.Prelude.{Option, None, Some}
use Rattle.isolation.specs.declared.level.Isolation.{Isolation}
use Rattle.isolation.specs.declared.level.Isolation.TheVariants as isolation
use Rattle.audit_report.specs.declared.told.Word.{Word}
use Rattle.audit_report.specs.declared.told.Word.TheVariants as word
use Rattle.audit_report.specs.declared.told.Lower.{Lower}

-- this one, or else the weakest one above it
abbrev pub or_above : Isolation → Option Word → Option Isolation → Option Isolation
or_above l (Some word.NotSerializable) above = Some l
or_above l _ above = above

abbrev pub weakest_of : Lower → Option Isolation
weakest_of w = or_above isolation.ReadCommitted w.read_committed
    (or_above isolation.MonotonicAtomicView w.monotonic_atomic_view
    (or_above isolation.ReadAtomic w.read_atomic
    (or_above isolation.Causal w.causal (or_above isolation.Prefix w.prefix None))))
