-- A fault that is not want of memory.
use Rattle.part_reasons.proofs.Prelude.{◌≡◌, refl, ◌≢◌, Option, Some}
use Rattle.session_log.specs.Faults.{IsFault}
use Rattle.session_log.specs.declared.fault.LogFault.{LogFault}
use Rattle.session_log.specs.declared.fault.LogFault.TheVariants as fault

pub some_fault : (f : LogFault) (whole : Option LogFault) → IsFault f whole → f ≢ fault.Memory → whole ≡ Some f
some_fault (fault.BadLine line) whole h e = h
some_fault (fault.SessionTwice line) whole h e = h
some_fault (fault.OutsideTransaction line) whole h e = h
some_fault (fault.OpenTransaction line) whole h e = h
some_fault (fault.WriteZero line) whole h e = h
some_fault (fault.WriteTwice line) whole h e = h
some_fault (fault.UnknownNotLast line) whole h e = h
some_fault (fault.EndsBeforeBegin line) whole h e = h
some_fault (fault.OverLimit which) whole h e = h
some_fault fault.Memory whole h e = absurd (e refl)
