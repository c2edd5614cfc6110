-- How many calls of the output failed, by how a call ends.
use Rattle.cobra_calls.proofs.Prelude.{◌≡◌, ℕ, List, Err, refl, ap, Ending, Stop, Proof, Told, ending_of, failures_by, IsToldSo}
use Rattle.refute_command.specs.Refuted.{failures_of}
use Rattle.refute_command.specs.declared.refusal.Refusal.{Refusal}
use Rattle.refute_command.specs.declared.refusal.Refusal.TheVariants as refusal

pub by_refusal : (before : ℕ) (r : Refusal) → failures_of before (Err r) ≡ failures_by before (ending_of r)
by_refusal before (refusal.Command f) = refl
by_refusal before (refusal.Proof e) = refl

-- a line that is told is no failure of the output
pub by_line : (Says : List ℕ → Type 0) (status before : ℕ) (e : Ending) → IsToldSo Says status e → failures_by before e ≡ before
by_line Says status before (Stop s) h = ap (λ t. failures_by before (Stop t)) h
by_line Says status before (Proof e) h = absurd h
by_line Says status before (Told line told) h = refl
