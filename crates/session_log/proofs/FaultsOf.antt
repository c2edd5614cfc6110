-- What a fault says of a log.
use Rattle.session_log.proofs.Prelude.{◌≡◌, Option, Some, arith, sym, subst, IsFault, LogFault}
use Rattle.session_log.specs.declared.fault.LogFault.TheVariants as faults

pub this_fault : (f : LogFault) (o : Option LogFault) → o ≡ Some f → IsFault f o
this_fault v0 o h = grind arith

pub either_fault : (P : Type 0) (f : LogFault) (o : Option LogFault) → (f ≡ faults.Memory → P) → (o ≡ Some f → P) → IsFault f o → P
either_fault v0 v1 o m h k = grind arith

pub fault_as : (f : LogFault) (o whole : Option LogFault) → (o ≡ Some f → whole ≡ Some f) → IsFault f o → IsFault f whole
fault_as f o whole to h = either_fault (IsFault f whole) f o (λ m. subst (λ g. IsFault g whole) (sym m) tt) (λ e. this_fault f whole (to e)) h
