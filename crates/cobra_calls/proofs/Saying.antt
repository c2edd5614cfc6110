-- Why a log is refused, said behind what a command left in the output.
use Rattle.cobra_calls.proofs.Prelude.{◌≡◌, ℕ, Bool, true, false, if◌then◌else◌, List, Option, None, Some, inl, inr, refl, ap, subst, ◌∙◌, Keeps, Appends, version_of, Fault, IsRefused, by_log, by_command, IsUndecided, IsExplanation, Ending}
use Rattle.cobra_calls.proofs.Prelude.{Stop, IsSaid, IsUnsaid, said_fault, IsExplainEnding}
use Rattle.session_log.specs.declared.fault.LogFault.{LogFault}
use Rattle.log_definitions.specs.WellFormed.{IsLogFault}
use Rattle.call_options.specs.declared.format.Format.{Format}
use Rattle.call_options.specs.declared.format.Format.TheVariants as form
use Rattle.cobra_answers.specs.Refusals.{is_memory}
use Rattle.cobra_answers.specs.declared.fault.Fault.TheVariants as fault
use Rattle.cobra_answers.specs.declared.stop.Stop.TheVariants as stop
use Rattle.cobra_calls.specs.Explains as explains

kept_appends : (a b c : Option (List ℕ)) (text : List ℕ) → Keeps a b → Appends b c text → Appends a c text
kept_appends None b c text k h = tt
kept_appends (Some xs) None c text k h = absurd k
kept_appends (Some xs) (Some ys) None text k h = absurd h
kept_appends (Some xs) (Some ys) (Some zs) text k h = subst (λ (l : List ℕ). Appends (Some l) (Some zs) text) k h

kept_twice : (a b c : Option (List ℕ)) → Keeps a b → Keeps b c → Keeps a c
kept_twice None b c k h = tt
kept_twice (Some xs) None c k h = absurd k
kept_twice (Some xs) (Some ys) None k h = absurd h
kept_twice (Some xs) (Some ys) (Some zs) k h = h ∙ k

pub log_refused : (budget : ℕ) (log : List ℕ) (format : Format) (old mid : Option (List ℕ)) (f : LogFault) → IsRefused (IsExplanation budget (version_of log) format) IsUndecided log old mid (fault.Log f) → IsLogFault log f × Keeps old mid
log_refused budget log format old mid f (by_log _ h k) = (h, k)
log_refused budget log format old mid f (by_command _ ss w u k) = absurd u

told_is : (b : Bool) (f g : LogFault) → (if b then None else Some f) ≡ Some g → f ≡ g
told_is true f g e = cc
told_is false f g e = cc

-- the fault that is said is the log's
pub said_is : (format : Format) (refused : Fault) (f : LogFault) → said_fault format refused ≡ Some f → refused ≡ fault.Log f
said_is form.Dot refused f e = cc
said_is form.Text (fault.Log g) f e = ap fault.Log (told_is (is_memory g) g f e)
said_is form.Text _ f e = cc

pub said_behind : (name log : List ℕ) (budget : ℕ) (format : Format) (old mid new : Option (List ℕ)) (f : LogFault) → said_fault format (fault.Log f) ≡ Some f → IsRefused (IsExplanation budget (version_of log) format) IsUndecided log old mid (fault.Log f) → IsSaid name f mid new → IsExplainEnding name log budget format old new (Stop (stop.Refused (fault.Log f)))
said_behind name log budget format old mid new f is r s =
    let l = log_refused budget log format old mid f r in
    explains.by_log f is l.0 (record {
      line = s.line;
      says = s.says;
      told = record { between = s.told.between; told = kept_appends old mid s.told.between _ l.1 s.told.told; handed = s.told.handed };
    }) refl

pub unsaid_behind : (name log : List ℕ) (budget : ℕ) (format : Format) (old mid new : Option (List ℕ)) (f : LogFault) (e : Ending) → said_fault format (fault.Log f) ≡ Some f → IsRefused (IsExplanation budget (version_of log) format) IsUndecided log old mid (fault.Log f) → IsUnsaid name f mid new e → IsExplainEnding name log budget format old new e
unsaid_behind name log budget format old mid new f e is r (inl m) =
    let l = log_refused budget log format old mid f r in
    explains.unsaid f is l.0 (inl (m.0, kept_twice old mid new l.1 m.1))
unsaid_behind name log budget format old mid new f e is r (inr d) =
    let l = log_refused budget log format old mid f r in
    explains.unsaid f is l.0 (inr (d.0, record { line = d.1.line; says = d.1.says; cut = (d.1.cut.0, kept_appends old mid new _ l.1 d.1.cut.1) }))
