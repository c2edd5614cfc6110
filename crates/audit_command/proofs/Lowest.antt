-- What holds of levels below snapshot isolation, from verdicts.
use Rattle.audit_command.proofs.Prelude.{◌≡◌, ℕ, List, Option, None, Some, refl, sym, subst, IfSome, ClientSession, resolved, IsVerdict, IsMade, IsToldPart, JudgeMeans, RefutedPart, Verdict, IsPartOf, IsPartOfVerdict, IsPartTold}
use Rattle.audit_command.proofs.Prelude.{verdict_word, refuted_of, IsRefutedWhere, IsWeakest, asked_at, unless_shown, IsLowest, AuditOptions, Answer, ToldPart, Word}
use Rattle.isolation.specs.declared.level.Isolation.{Isolation}
use Rattle.judging.specs.declared.judged.Verdict.TheVariants as verdict
use Rattle.audit_command.specs.Levels.{judged_of}
use Rattle.audit_report.specs.Lower.{or_above}
use Rattle.audit_report.specs.Objects.{parts_of}
use Rattle.audit_report.specs.declared.told.Word.TheVariants as word

-- ---- a verdict
pub refuted_where : (m : JudgeMeans) (ss : List ClientSession) (v : Verdict) → IsVerdict m ss v → IsMade (resolved ss) v → IsRefutedWhere m.level ss (Some (verdict_word v)) (refuted_of v)
refuted_where m ss (verdict.Serializable order) h made = refl
refuted_where m ss (verdict.NotSerializable told) h made = record { none = h.0; part = h.1; made = made }
refuted_where m ss (verdict.Undecided why tried) h made = refl

pub part_where : (known : List ClientSession) (v : Verdict) → IsPartOfVerdict known v → IfSome (refuted_of v) (IsPartOf known)
part_where known (verdict.Serializable order) h = tt
part_where known (verdict.NotSerializable told) h = h
part_where known (verdict.Undecided why tried) h = tt

-- ---- the weakest level
pub this_one : (l : Isolation) (ss : List ClientSession) (w : Option Word) (told : RefutedPart) (weakest : Option Isolation) → IsRefutedWhere (judged_of l) ss w (Some told) → IsWeakest ss (or_above l w weakest) (Some (l, told))
this_one l ss (Some word.NotSerializable) told weakest h = (refl, h)
this_one l ss (Some word.Serializable) told weakest h = cc
this_one l ss (Some word.Unknown) told weakest h = cc
this_one l ss None told weakest h = cc

pub one_above : (l : Isolation) (ss : List ClientSession) (w : Option Word) (weakest : Option Isolation) (above : Option (Isolation × RefutedPart)) → IsWeakest ss weakest above → IsRefutedWhere (judged_of l) ss w None → IsWeakest ss (or_above l w weakest) above
one_above l ss (Some word.NotSerializable) weakest above is h = absurd h
one_above l ss (Some word.Serializable) weakest above is h = is
one_above l ss (Some word.Unknown) weakest above is h = is
one_above l ss None weakest above is h = is

-- ---- what is told of it
pub lowest_none : (o : AuditOptions) (n : ℕ) (ss : List ClientSession) (a : Answer) (shown : Option ToldPart) (weakest : Option Isolation) → IsWeakest ss weakest None → IsLowest o n ss a shown weakest None
lowest_none o n ss a shown None h = refl
lowest_none o n ss a shown (Some l) h = absurd h

pub lowest_some : (o : AuditOptions) (n : ℕ) (ss : List ClientSession) (a : Answer) (shown lowest : Option ToldPart) (weakest : Option Isolation) (k : Isolation) (told : RefutedPart) (p : ToldPart)
    → IsWeakest ss weakest (Some (k, told)) → (IsToldPart (judged_of k) ss told → IsPartTold (asked_at k o) n ss p) → lowest ≡ unless_shown p (parts_of a) shown → IsLowest o n ss a shown weakest lowest
lowest_some o n ss a shown lowest None k told p h f e = cc
lowest_some o n ss a shown lowest (Some l) k told p h f e =
    let is = f (subst (λ i. IsToldPart (judged_of i) ss told) (sym h.0) h.1) in
    record { part = p; told = subst (λ i. IsPartTold (asked_at i o) n ss p) h.0 is; where_other = e }
