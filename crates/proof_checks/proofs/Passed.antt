-- What the steps of a DRAT proof do to its first fault, and which clauses stand at its end.
use Rattle.proof_checks.proofs.Prelude.{◌≡◌, ℕ, suc, ◌<◌, Bool, true, false, not, ◌||◌, ◌==◌, if◌then◌else◌, ◌↔◌, IsTrue, List, [], ◌∷◌, ◌++◌, length, Contains, Option, Some, None, Result, Ok, Err, IfOk, IfErr, refl, sym, ap, subst, ◌∙◌}
use Rattle.proof_checks.proofs.Prelude.{inl, inr, arith, list_any, eqb-true, Contains-append_right, list_any_at, Literal, fault_of_step, IsRead, DratStep, StepFault, DratAction, ProofFault, BadLine, NotImplied, NoEmptyClause, TooLong}
use Rattle.proof_checks.proofs.Prelude.{Memory, is_tautology, is_empty_clause, end_fault, Holds, IsAddition, IsTaken, GoesOn, IsPassed, IsStepStop, IsNext, IsImplied}
use Rattle.proof_text.specs.declared.fault.StepFault.TheVariants as step
use Rattle.proof_text.specs.declared.drat.DratAction.TheVariants.{Add, Delete}
use Rattle.proof_checks.specs.Drat.{adds, is_idle, IsDratFault, ended, bad_line, idle, not_implied, added, refuted, IsDratStop}
use Rattle.proof_checks.proofs.Once.{tautology_distinct, nil_kept}

-- whether the empty clause stands, by a test and by a list
stands_in : (cs : List (Option (List Literal))) → list_any is_empty_clause cs ≡ true → Contains cs (Some [])
stands_in [] h = cc
stands_in (Some [] ∷ cs) h = (0, (omega arith), refl)
stands_in (Some (l ∷ c) ∷ cs) h = let rest = stands_in cs h in (suc rest.0, (let lt = rest.1 in omega (arith, lt)), rest.2)
stands_in (None ∷ cs) h = let rest = stands_in cs h in (suc rest.0, (let lt = rest.1 in omega (arith, lt)), rest.2)

pub empty_stands : (b : Bool) (cs : List (Option (List Literal))) → (IsTrue b ↔ Contains cs (Some [])) → b ≡ list_any is_empty_clause cs
empty_stands true cs h = let at = h.0 refl in sym (list_any_at is_empty_clause cs at.0 (Some []) at.1 (ap is_empty_clause at.2))
empty_stands false cs h = by_test (list_any is_empty_clause cs) refl
  where
    by_test : (t : Bool) → list_any is_empty_clause cs ≡ t → false ≡ list_any is_empty_clause cs
    by_test true e = h.1 (stands_in cs e) ∙ sym e
    by_test false e = sym e

-- the end of a proof is the same for the clauses that the checker has
same_empty : (cs held : List (Option (List Literal))) → Holds cs held → list_any is_empty_clause cs ≡ list_any is_empty_clause held
same_empty cs held hs = by_test (list_any is_empty_clause cs) (list_any is_empty_clause held) refl refl
  where
    there : list_any is_empty_clause cs ≡ true → list_any is_empty_clause held ≡ true
    there e = let at = hs.all [] (stands_in cs e) in list_any_at is_empty_clause held at.0 (Some []) at.1 (ap is_empty_clause at.2)

    back : list_any is_empty_clause held ≡ true → list_any is_empty_clause cs ≡ true
    back e = elim (hs.only [] (stands_in held e)) [
      | inl at ↦ list_any_at is_empty_clause cs at.0 (Some []) at.1 (ap is_empty_clause at.2)
      | inr root ↦ let none = root.unit in cc
    ]

    by_test : (a b : Bool) → list_any is_empty_clause cs ≡ a → list_any is_empty_clause held ≡ b → list_any is_empty_clause cs ≡ list_any is_empty_clause held
    by_test true b e f = e ∙ sym (there e)
    by_test false true e f = back f ∙ sym f
    by_test false false e f = e ∙ sym f

-- a step that is passed over
idle_when : (s : DratStep) (a : DratAction) (t : Bool) → s.action ≡ a → is_tautology s.literals ≡ t → is_idle s ≡ (not (adds a) || t)
idle_when s a t e f = ap (λ (b : DratAction). not (adds b) || is_tautology s.literals) e ∙ ap (λ b. not (adds a) || b) f

passed_over : (line : ℕ) (s : DratStep) (cs held new : List (Option (List Literal))) → Holds cs held → new ≡ held → is_idle s ≡ true → IsPassed line s cs new true
passed_over line s cs held new hs e i = λ left. record { new = cs; holds = subst (Holds cs) (sym e) hs; same = λ fault h. idle line s left cs fault i h }

pub passed_deletion : (line : ℕ) (s : DratStep) (cs held new : List (Option (List Literal))) → s.action ≡ Delete → Holds cs held → new ≡ held → IsPassed line s cs new true
passed_deletion line s cs held new a hs e = passed_over line s cs held new hs e (idle_when s Delete (is_tautology s.literals) a refl)

tautology_of : (s : DratStep) (c : List Literal) (t : Bool) → IsAddition s c → is_tautology c ≡ t → is_idle s ≡ t
tautology_of s c t a e = idle_when s Add t a.adds (sym (tautology_distinct s.literals) ∙ (sym (ap is_tautology a.literals) ∙ e))

pub passed_tautology : (line : ℕ) (s : DratStep) (c : List Literal) (cs held new : List (Option (List Literal))) → IsAddition s c → is_tautology c ≡ true → Holds cs held → new ≡ held → IsPassed line s cs new true
passed_tautology line s c cs held new a t hs e = passed_over line s cs held new hs e (tautology_of s c true a t)

-- a step that adds a clause
pub passed_addition : (line : ℕ) (s : DratStep) (c : List Literal) (cs held : List (Option (List Literal))) → IsAddition s c → is_tautology c ≡ false → IsImplied cs c → (empty : Bool) → empty ≡ (length c == 0) → empty ≡ false → Holds (cs ++ Some c ∷ []) held → IsPassed line s cs held true
passed_addition line s c cs held a t i empty n f hs = λ left. record {
  new = cs ++ Some c ∷ [];
  holds = hs;
  same = λ fault h. added line s left cs fault (tautology_of s c false a t) (subst (IsImplied cs) a.literals i) (sym (nil_kept c s.literals a.literals) ∙ (sym n ∙ f)) (subst (λ (d : List Literal). IsDratFault left (cs ++ Some d ∷ []) fault) a.literals h);
}

pub passed_refutation : (line : ℕ) (s : DratStep) (c : List Literal) (cs held : List (Option (List Literal))) → IsAddition s c → is_tautology c ≡ false → IsImplied cs c → (empty : Bool) → empty ≡ (length c == 0) → empty ≡ true → Holds (cs ++ Some c ∷ []) held → IsPassed line s cs held false
passed_refutation line s c cs held a t i empty n f hs = λ left. subst (IsDratFault ((line, Some s) ∷ left) cs) none (refuted line s left cs (tautology_of s c false a t) (subst (IsImplied cs) a.literals i) (sym (nil_kept c s.literals a.literals) ∙ (sym n ∙ f)))
  where
    nil_is : (d : List Literal) → (length d == 0) ≡ true → d ≡ []
    nil_is [] e = refl
    nil_is (l ∷ d) e = let none = eqb-true (length (l ∷ d)) 0 e in absurd (omega (arith, none))

    last : Contains (cs ++ Some c ∷ []) (Some [])
    last = subst (λ (d : List Literal). Contains (cs ++ Some c ∷ []) (Some d)) (nil_is c (sym n ∙ f)) (Contains-append_right cs (Some c ∷ []) (Some c) (0, (omega arith), refl))

    none : None ≡ end_fault held
    none = let at = hs.all [] last in sym (ap (λ b. if b then None else Some NoEmptyClause) (list_any_at is_empty_clause held at.0 (Some []) at.1 (ap is_empty_clause at.2)))

pub stopped : (line : ℕ) (s : DratStep) (c : List Literal) (cs : List (Option (List Literal))) → IsAddition s c → is_tautology c ≡ false → (IsImplied cs c → ⊥) → IsStepStop line s cs (NotImplied line)
stopped line s c cs a t n = λ left. not_implied line s left cs (tautology_of s c false a t) (λ i. n (subst (IsImplied cs) (sym a.literals) i))

-- the next step
pub next_none : (all left : List (ℕ × Option DratStep)) (cs held : List (Option (List Literal))) → all ≡ [] → Holds cs held → IsNext all left cs held false
next_none all left cs held e hs =
    subst (λ (steps : List (ℕ × Option DratStep)). IsDratFault steps cs (end_fault held)) (sym e)
    (subst (IsDratFault [] cs) (ap (λ b. if b then None else Some NoEmptyClause) (same_empty cs held hs)) (ended cs))

next_step : (all left : List (ℕ × Option DratStep)) (line : ℕ) (s : DratStep) (cs held : List (Option (List Literal))) (on : Bool) → all ≡ (line, Some s) ∷ left → IsPassed line s cs held on → IsNext all left cs held on
next_step all left line s cs held true e p = (subst (λ (steps : List (ℕ × Option DratStep)). GoesOn steps left cs held) (sym e) (p left), let long = ap length e in omega (arith, long))
next_step all left line s cs held false e p = subst (λ (steps : List (ℕ × Option DratStep)). IsDratFault steps cs (end_fault held)) (sym e) (p left)

next_stop : (all left : List (ℕ × Option DratStep)) (line : ℕ) (s : DratStep) (cs : List (Option (List Literal))) (f : ProofFault) → all ≡ (line, Some s) ∷ left → IsStepStop line s cs f → IsDratStop all cs f
next_stop all left line s cs f e p = subst (λ (steps : List (ℕ × Option DratStep)). IsDratStop steps cs f) (sym e) (p left)

pub read_stop : (all left : List (ℕ × Option DratStep)) (made : DratAction → DratStep) (cs : List (Option (List Literal))) (f : StepFault) → IsRead all left made (Err f) → IsDratStop all cs (fault_of_step f)
read_stop all left made cs (step.BadLine line) h = subst (λ (steps : List (ℕ × Option DratStep)). IsDratFault steps cs (Some (BadLine line))) (sym h.1) (bad_line line h.0 cs)
read_stop all left made cs (step.NotImplied line) h = absurd h
read_stop all left made cs step.Memory h = tt

pub next_on : (all left : List (ℕ × Option DratStep)) (line : ℕ) (s : DratStep) (cs held : List (Option (List Literal))) (r : Result Bool StepFault) → all ≡ (line, Some s) ∷ left → IfOk r (IsPassed line s cs held) → IfOk r (IsNext all left cs held)
next_on all left line s cs held (Ok on) e p = next_step all left line s cs held on e p
next_on all left line s cs held (Err f) e p = tt

pub next_fault : (all left : List (ℕ × Option DratStep)) (line : ℕ) (s : DratStep) (cs : List (Option (List Literal))) (r : Result Bool StepFault) → all ≡ (line, Some s) ∷ left → IfErr r (λ f. IsStepStop line s cs (fault_of_step f)) → IfErr r (λ f. IsDratStop all cs (fault_of_step f))
next_fault all left line s cs (Ok on) e p = tt
next_fault all left line s cs (Err f) e p = next_stop all left line s cs (fault_of_step f) e p

-- from step to step
pub goes_first : (all steps : List (ℕ × Option DratStep)) (cs held : List (Option (List Literal))) → steps ≡ all → Holds cs held → GoesOn all steps cs held
goes_first all steps cs held e hs = record { new = cs; holds = hs; same = λ fault h. subst (λ (ss : List (ℕ × Option DratStep)). IsDratFault ss cs fault) e h }

pub goes_more : (all now left : List (ℕ × Option DratStep)) (old held new : List (Option (List Literal))) (on : Bool) (g : GoesOn all now old held) → IsNext now left g.new new on → on ≡ true → GoesOn all left old new
goes_more all now left old held new true g n e = record { new = n.0.new; holds = n.0.holds; same = λ fault h. g.same fault (n.0.same fault h) }
goes_more all now left old held new false g n e = cc

pub goes_less : (now left : List (ℕ × Option DratStep)) (old new : List (Option (List Literal))) (on : Bool) → IsNext now left old new on → on ≡ true → length left < length now
goes_less now left old new true n e = n.1
goes_less now left old new false n e = cc

pub goes_ended : (all now left : List (ℕ × Option DratStep)) (old held new : List (Option (List Literal))) (on : Bool) (g : GoesOn all now old held) → IsNext now left g.new new on → on ≡ false → IsDratFault all old (end_fault new)
goes_ended all now left old held new true g n e = cc
goes_ended all now left old held new false g n e = g.same (end_fault new) n

pub goes_stopped : (all now : List (ℕ × Option DratStep)) (old held : List (Option (List Literal))) (f : ProofFault) (g : GoesOn all now old held) → IsDratStop now g.new f → IsDratStop all old f
goes_stopped all now old held (BadLine k) g h = g.same (Some (BadLine k)) h
goes_stopped all now old held (NotImplied k) g h = g.same (Some (NotImplied k)) h
goes_stopped all now old held NoEmptyClause g h = g.same (Some NoEmptyClause) h
goes_stopped all now old held TooLong g h = g.same (Some TooLong) h
goes_stopped all now old held Memory g h = tt

-- what taking a clause says
pub taken_so : (cs held : List (Option (List Literal))) (c d : List Literal) (b : Bool) → d ≡ c → IsTaken cs held d b → b ≡ true → IsTaken cs held c true
taken_so cs held c d false e t b = cc
taken_so cs held c d true e t b = subst (λ (ls : List Literal). IsTaken cs held ls true) e t

pub taken_not : (cs held : List (Option (List Literal))) (c d : List Literal) (b : Bool) → d ≡ c → IsTaken cs held d b → b ≡ false → IsImplied cs c → ⊥
taken_not cs held c d true e t b = cc
taken_not cs held c d false e t b = subst (λ (ls : List Literal). IsTaken cs held ls false) e t
