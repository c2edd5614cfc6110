-- A command, from what it says of a log's sessions.
use Rattle.std.proofs.Common.{◌≡◌, ℕ, List, Option, None, Some, Result, Ok, Err, refl, sym, subst}
use Rattle.std.specs.Prelude.{IfOk, IfErr, OnOk}
use Rattle.std.specs.Io.KnownBytes.{Appends, Keeps}
use Rattle.session_log.specs.Text.{ClientSession}
use Rattle.log_definitions.specs.WellFormed.{IsWellFormed}
use Rattle.cobra_answers.specs.declared.status.Status.{Status}
use Rattle.cobra_answers.specs.declared.fault.Fault.{Fault}
use Rattle.cobra_answers.specs.declared.fault.Fault.TheVariants as fault
use Rattle.cobra_answers.specs.Answers.{IsTold, IsCutAt, IsRefused, by_device}

pub told_all : (Says : List ClientSession → Status → List ℕ → Type 0) (log : List ℕ) (ss : List ClientSession) (old new : Option (List ℕ)) (status : Status) (text : List ℕ) (r : Result Status Fault) → IsWellFormed log ss → Says ss status text → IfOk r (λ s. s ≡ status) → OnOk r (Appends old new text) → IfOk r (IsTold Says log old new)
told_all Says log ss old new status text (Ok s) w says e told = record {
  sessions = ss;
  well_formed = w;
  text = text;
  says = subst (λ t. Says ss t text) (sym e) says;
  told = told;
}
told_all Says log ss old new status text (Err f) w says e told = tt

cut_at : (Says : List ClientSession → Status → List ℕ → Type 0) (Refuses : Fault → List ClientSession → Type 0) (log : List ℕ) (ss : List ClientSession) (old new : Option (List ℕ)) (status : Status) (text : List ℕ) (f : Fault) → IsWellFormed log ss → Says ss status text → IsCutAt old new text f → IsRefused Says Refuses log old new f
cut_at Says Refuses log ss old new status text (fault.Log f) w says cut = absurd cut
cut_at Says Refuses log ss old new status text (fault.Formula f) w says cut = absurd cut
cut_at Says Refuses log ss old new status text (fault.Answer f) w says cut = absurd cut
cut_at Says Refuses log ss old new status text (fault.NotAModel k) w says cut = absurd cut
cut_at Says Refuses log ss old new status text (fault.Order f) w says cut = absurd cut
cut_at Says Refuses log ss old new status text fault.NotAPermutation w says cut = absurd cut
cut_at Says Refuses log ss old new status text (fault.SessionOrder s p) w says cut = absurd cut
cut_at Says Refuses log ss old new status text (fault.MomentOrder s p) w says cut = absurd cut
cut_at Says Refuses log ss old new status text (fault.ReadMismatch s p o) w says cut = absurd cut
cut_at Says Refuses log ss old new status text (fault.Device written) w says cut =
    by_device written (record { sessions = ss; well_formed = w; status = status; text = text; says = says; cut = cut })
cut_at Says Refuses log ss old new status text fault.Memory w says cut = absurd cut

pub cut_all : (Says : List ClientSession → Status → List ℕ → Type 0) (Refuses : Fault → List ClientSession → Type 0) (log : List ℕ) (ss : List ClientSession) (old new : Option (List ℕ)) (status : Status) (text : List ℕ) (r : Result Status Fault) → IsWellFormed log ss → Says ss status text → IfErr r (IsCutAt old new text) → IfErr r (IsRefused Says Refuses log old new)
cut_all Says Refuses log ss old new status text (Ok s) w says cut = tt
cut_all Says Refuses log ss old new status text (Err f) w says cut = cut_at Says Refuses log ss old new status text f w says cut

pub keeps : (b : Option (List ℕ)) → Keeps b b
keeps None = tt
keeps (Some xs) = refl
