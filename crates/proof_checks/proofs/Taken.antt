-- What a step of an LRAT proof does to its first fault.
use Rattle.proof_checks.proofs.Prelude.{◌≡◌, ℕ, ◌<◌, Bool, true, false, not, ◌&&◌, ◌==◌, if◌then◌else◌, List, [], ◌∷◌, ◌++◌, length, Option, Some, None, Result, Ok, Err, IfOk, IfErr, sym, ap, subst, ◌∙◌, unwrap_or, arith, list_any}
use Rattle.proof_checks.proofs.Prelude.{option_or, list_any-append, or-true, not-true, not-false, Literal, fault_of_step, IsRead, LratStep, StepFault, ProofFault, BadLine, NotImplied, NoEmptyClause, LratAction, distinct, is_nil}
use Rattle.proof_checks.proofs.Prelude.{is_empty_clause, end_fault, IsFault, Proof, numbers_at, is_next, follows_by, without, addition_fault, action_fault, fault_by, step_fault, after_action, after_step, adds_empty, lrat_fault, AreNumbers}
use Rattle.proof_checks.proofs.Prelude.{IsAdded}
use Rattle.proof_text.specs.declared.fault.StepFault.TheVariants as step
use Rattle.proof_text.specs.declared.lrat.LratAction.TheVariants.{Add, Delete}
use Rattle.proof_checks.specs.Lrat.{adds}
use Rattle.proof_checks.specs.Kept.{IsTaken, GoesOn}
use Rattle.proof_checks.proofs.Once.{nil_kept}

pub same_proof : (p q : Proof) → p.clauses ≡ q.clauses → p.added ≡ q.added → p ≡ q
same_proof p q e f = λ i. record { clauses = e i; added = f i }

-- the three outcomes of an added clause
pub not_next : (n line : ℕ) (p : Proof) (id : ℕ) (c : List Literal) (hints : List ℕ) → is_next p id ≡ false → addition_fault n line p id c hints ≡ Some (BadLine line)
unfolding addition_fault
not_next n line p id c hints e = ap (λ b. if b then (if follows_by n p c hints then None else Some (NotImplied line)) else Some (BadLine line)) e

pub not_implied : (n line : ℕ) (p : Proof) (id : ℕ) (c : List Literal) (hints : List ℕ) → is_next p id ≡ true → follows_by n p c hints ≡ false → addition_fault n line p id c hints ≡ Some (NotImplied line)
unfolding addition_fault
not_implied n line p id c hints e f =
    ap (λ b. if b then (if follows_by n p c hints then None else Some (NotImplied line)) else Some (BadLine line)) e
    ∙ ap (λ b. if b then None else Some (NotImplied line)) f

pub implied : (n line : ℕ) (p : Proof) (id : ℕ) (c : List Literal) (hints : List ℕ) → is_next p id ≡ true → follows_by n p c hints ≡ true → addition_fault n line p id c hints ≡ None
unfolding addition_fault
implied n line p id c hints e f =
    ap (λ b. if b then (if follows_by n p c hints then None else Some (NotImplied line)) else Some (BadLine line)) e
    ∙ ap (λ b. if b then None else Some (NotImplied line)) f

pub added_so : (n line : ℕ) (old new : Proof) (id : ℕ) (literals c : List Literal) (numbers hints : List ℕ) (empty : Bool) → c ≡ distinct literals → hints ≡ numbers → addition_fault n line old id c hints ≡ None
    → new.clauses ≡ old.clauses ++ Some c ∷ [] → new.added ≡ old.added ++ id ∷ [] → empty ≡ (length c == 0) → IsAdded n line old new id literals numbers (not empty)
added_so n line old new id literals c numbers hints empty e h fault clauses added is = record {
  faultless = ap (λ (d : List Literal). addition_fault n line old id d numbers) (sym e) ∙ (ap (addition_fault n line old id c) (sym h) ∙ fault);
  stands = same_proof new (after_action old (Add id) (distinct literals) numbers) (clauses ∙ ap (λ (d : List Literal). old.clauses ++ Some d ∷ []) e) added;
  goes_on = ap not (is ∙ nil_kept c literals e);
}

-- the IDs of a step, where not all stand, and where all do
pub not_all_stand : (n line : ℕ) (p q : Proof) (s : LratStep) (ids : List (Option ℕ)) (ns : List ℕ) (b : Bool) → AreNumbers q ids ns b → q ≡ p → ids ≡ s.ids → b ≡ false → step_fault n line p s ≡ Some (BadLine line)
unfolding step_fault
not_all_stand n line p q s ids ns true h e f w = cc
not_all_stand n line p q s ids ns false h e f w =
    ap (fault_by n line p s) (ap (numbers_at p) (sym f) ∙ (ap (λ (r : Proof). numbers_at r ids) (sym e) ∙ h))

pub all_stand : (p q : Proof) (ids is : List (Option ℕ)) (ns : List ℕ) (b : Bool) → AreNumbers q ids ns b → q ≡ p → ids ≡ is → b ≡ true → numbers_at p is ≡ Some ns
all_stand p q ids is ns false h e f w = cc
all_stand p q ids is ns true h e f w = ap (numbers_at p) (sym f) ∙ (ap (λ (r : Proof). numbers_at r ids) (sym e) ∙ h)

fault_is : (n line : ℕ) (p : Proof) (s : LratStep) (a : LratAction) (ns : List ℕ) → numbers_at p s.ids ≡ Some ns → s.action ≡ a → step_fault n line p s ≡ action_fault n line p a (distinct s.literals) ns
unfolding step_fault
fault_is n line p s a ns e f = ap (fault_by n line p s) e ∙ ap (λ (b : LratAction). action_fault n line p b (distinct s.literals) ns) f

after_is : (p : Proof) (s : LratStep) (a : LratAction) (ns : List ℕ) → numbers_at p s.ids ≡ Some ns → s.action ≡ a → after_step p s ≡ after_action p a (distinct s.literals) ns
unfolding after_step
after_is p s a ns e f = ap (λ (o : Option (List ℕ)). after_action p s.action (distinct s.literals) (unwrap_or o [])) e ∙ ap (λ (b : LratAction). after_action p b (distinct s.literals) ns) f

pub taken_deletion : (n line : ℕ) (p new : Proof) (s : LratStep) (ns ks : List ℕ) → numbers_at p s.ids ≡ Some ns → s.action ≡ Delete → ks ≡ ns → new.clauses ≡ without ks p.clauses → new.added ≡ p.added → IsTaken n line p new s true
taken_deletion n line p new s ns ks e f k clauses added = record {
  faultless = fault_is n line p s Delete ns e f;
  stands = same_proof new (after_action p Delete (distinct s.literals) ns) (clauses ∙ ap (λ (ms : List ℕ). without ms p.clauses) k) added ∙ sym (after_is p s Delete ns e f);
  goes_on = sym (ap (λ (a : LratAction). not (adds_empty (record s { action = a }))) f);
}

taken_one : (n line : ℕ) (p new : Proof) (s : LratStep) (ns : List ℕ) (id : ℕ) (on : Bool) → numbers_at p s.ids ≡ Some ns → s.action ≡ Add id → IsAdded n line p new id s.literals ns on → IsTaken n line p new s on
taken_one n line p new s ns id on e f a = record {
  faultless = fault_is n line p s (Add id) ns e f ∙ a.faultless;
  stands = a.stands ∙ sym (after_is p s (Add id) ns e f);
  goes_on = a.goes_on ∙ sym (ap (λ (b : LratAction). not (adds_empty (record s { action = b }))) f);
}

pub taken_addition : (n line : ℕ) (p new : Proof) (s : LratStep) (ns : List ℕ) (id : ℕ) (r : Result Bool StepFault) → numbers_at p s.ids ≡ Some ns → s.action ≡ Add id → IfOk r (IsAdded n line p new id s.literals ns) → IfOk r (IsTaken n line p new s)
taken_addition n line p new s ns id (Ok on) e f a = taken_one n line p new s ns id on e f a
taken_addition n line p new s ns id (Err g) e f a = tt

pub fault_of_addition : (n line : ℕ) (p : Proof) (s : LratStep) (ns : List ℕ) (id : ℕ) (r : Result Bool StepFault) → numbers_at p s.ids ≡ Some ns → s.action ≡ Add id → IfErr r (λ f. IsFault (fault_of_step f) (addition_fault n line p id (distinct s.literals) ns)) → IfErr r (λ f. IsFault (fault_of_step f) (step_fault n line p s))
fault_of_addition n line p s ns id r e f h = subst (λ (o : Option ProofFault). IfErr r (λ f. IsFault (fault_of_step f) o)) (sym (fault_is n line p s (Add id) ns e f)) h

-- what was read, and the fault of all steps
pub read_fault : (n : ℕ) (p : Proof) (all left : List (ℕ × Option LratStep)) (made : LratAction → LratStep) (f : StepFault) → IsRead all left made (Err f) → IsFault (fault_of_step f) (lrat_fault n all p)
unfolding lrat_fault
read_fault n p all left made (step.BadLine line) h = ap (λ (ss : List (ℕ × Option LratStep)). lrat_fault n ss p) h.1
read_fault n p all left made (step.NotImplied line) h = absurd h
read_fault n p all left made step.Memory h = tt

pub read_end : (n : ℕ) (p : Proof) (all : List (ℕ × Option LratStep)) → all ≡ [] → lrat_fault n all p ≡ end_fault p.clauses
unfolding lrat_fault
read_end n p all e = ap (λ (ss : List (ℕ × Option LratStep)). lrat_fault n ss p) e

pub read_step : {A S : Type 0} (all left : List (ℕ × Option S)) (made : A → S) (o : Option (ℕ × A)) (line : ℕ) (a : A) → IsRead all left made (Ok o) → o ≡ Some (line, a) → all ≡ (line, Some (made a)) ∷ left
read_step {A} all left made o line a h e = subst (λ (q : Option (ℕ × A)). IsRead all left made (Ok q)) e h

fault_behind : (n line : ℕ) (p new : Proof) (all left : List (ℕ × Option LratStep)) (s : LratStep) (empty : Bool) → all ≡ (line, Some s) ∷ left → step_fault n line p s ≡ None → new ≡ after_step p s → adds_empty s ≡ empty → lrat_fault n all p ≡ (if empty then None else lrat_fault n left new)
unfolding lrat_fault
fault_behind n line p new all left s empty e none stands adds =
    ap (λ (ss : List (ℕ × Option LratStep)). lrat_fault n ss p) e
    ∙ (ap (λ (o : Option ProofFault). option_or o (if adds_empty s then None else lrat_fault n left (after_step p s))) none
    ∙ (ap (λ b. if b then None else lrat_fault n left (after_step p s)) adds ∙ ap (λ (q : Proof). if empty then None else lrat_fault n left q) (sym stands)))

-- the empty clause stands behind the step that adds it
empty_stands : (p : Proof) (s : LratStep) → adds_empty s ≡ true → list_any is_empty_clause (after_step p s).clauses ≡ true
unfolding after_step distinct
empty_stands p s e = by_step s.action s.literals e
  where
    by_step : (a : LratAction) (ls : List Literal) → (adds a && is_nil ls) ≡ true → list_any is_empty_clause (after_action p a (distinct ls) (unwrap_or (numbers_at p s.ids) [])).clauses ≡ true
    by_step Delete ls h = cc
    by_step (Add id) (l ∷ ls) h = cc
    by_step (Add id) [] h = list_any-append is_empty_clause p.clauses (Some [] ∷ []) ∙ or-true (list_any is_empty_clause p.clauses)

goes_one : (n line : ℕ) (p new : Proof) (all left : List (ℕ × Option LratStep)) (s : LratStep) (on : Bool) → all ≡ (line, Some s) ∷ left → IsTaken n line p new s on → GoesOn n all left p new on
goes_one n line p new all left s true e t = (
  fault_behind n line p new all left s false e t.faultless t.stands (not-true (adds_empty s) (sym t.goes_on)),
  (let long = ap length e in omega (arith, long)),
)
goes_one n line p new all left s false e t =
    let adds = not-false (adds_empty s) (sym t.goes_on) in
    fault_behind n line p new all left s true e t.faultless t.stands adds
    ∙ sym (ap (λ (q : Proof). end_fault q.clauses) t.stands ∙ ap (λ b. if b then None else Some NoEmptyClause) (empty_stands p s adds))

pub goes_on : (n line : ℕ) (p new : Proof) (all left : List (ℕ × Option LratStep)) (s : LratStep) (r : Result Bool StepFault) → all ≡ (line, Some s) ∷ left → IfOk r (IsTaken n line p new s) → IfOk r (GoesOn n all left p new)
goes_on n line p new all left s (Ok on) e t = goes_one n line p new all left s on e t
goes_on n line p new all left s (Err f) e t = tt

first_fault : (n line : ℕ) (p : Proof) (all left : List (ℕ × Option LratStep)) (s : LratStep) (f : ProofFault) → all ≡ (line, Some s) ∷ left → step_fault n line p s ≡ Some f → lrat_fault n all p ≡ Some f
unfolding lrat_fault
first_fault n line p all left s f e h =
    ap (λ (ss : List (ℕ × Option LratStep)). lrat_fault n ss p) e
    ∙ ap (λ (o : Option ProofFault). option_or o (if adds_empty s then None else lrat_fault n left (after_step p s))) h

pub stops : (n line : ℕ) (p : Proof) (all left : List (ℕ × Option LratStep)) (s : LratStep) (r : Result Bool StepFault) → all ≡ (line, Some s) ∷ left → IfErr r (λ f. IsFault (fault_of_step f) (step_fault n line p s)) → IfErr r (λ f. IsFault (fault_of_step f) (lrat_fault n all p))
stops n line p all left s (Ok on) e h = tt
stops n line p all left s (Err (step.BadLine k)) e h = first_fault n line p all left s (BadLine k) e h
stops n line p all left s (Err (step.NotImplied k)) e h = first_fault n line p all left s (NotImplied k) e h
stops n line p all left s (Err step.Memory) e h = tt

-- the loop over all steps
pub loop_on : (n m : ℕ) (whole : Option ProofFault) (p new : Proof) (all left : List (ℕ × Option LratStep)) (on : Bool) → whole ≡ lrat_fault n all p → GoesOn n all left p new on → m ≡ n → on ≡ true → whole ≡ lrat_fault m left new
loop_on n m whole p new all left false e g k t = cc
loop_on n m whole p new all left true e g k t = e ∙ (g.0 ∙ ap (λ j. lrat_fault j left new) (sym k))

pub loop_less : (n : ℕ) (p new : Proof) (all left : List (ℕ × Option LratStep)) (on : Bool) → GoesOn n all left p new on → on ≡ true → length left < length all
loop_less n p new all left false g t = cc
loop_less n p new all left true g t = g.1

pub loop_end : (n : ℕ) (whole : Option ProofFault) (p new : Proof) (all left : List (ℕ × Option LratStep)) (on : Bool) → whole ≡ lrat_fault n all p → GoesOn n all left p new on → on ≡ false → whole ≡ end_fault new.clauses
loop_end n whole p new all left true e g t = cc
loop_end n whole p new all left false e g t = e ∙ g
