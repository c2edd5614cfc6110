use Rattle.proof_checks.proofs.Prelude.{◌≡◌, ℕ, true, false, List, length, sym, ap, ◌∙◌, is_next, proof_of}
use Rattle.proof_checks.proofs.Places.{goes_up, last_below}
use Rattle.proof_checks.proofs.Taken.{not_next, not_implied, implied}
use Rattle.proof_checks.proofs.lrat.add_clause.Goals as goal

pub returns-then-not-is_next-clause-fault : goal.returns-then-not-is_next-clause-fault
returns-then-not-is_next-clause-fault c =
    let next : is_next (proof_of c.args.checker.now c.args.added.now.items) c.args.id ≡ false = ap (λ (xs : List ℕ). is_next (proof_of c.args.checker.now xs) c.args.id) (sym c.deref.ensures.value) ∙ (sym c.is_next.ensures ∙ c.if-not-is_next.true) in
    not_next (length c.args.checker.now.known) c.args.line (proof_of c.args.checker.now c.args.added.now.items) c.args.id c.args.literals.now c.args.hints.now next

pub returns-then-not-branch-clause-fault : goal.returns-then-not-branch-clause-fault
returns-then-not-branch-clause-fault c =
    let next : is_next (proof_of c.args.checker.now c.args.added.now.items) c.args.id ≡ true = ap (λ (xs : List ℕ). is_next (proof_of c.args.checker.now xs) c.args.id) (sym c.deref.ensures.value) ∙ (sym c.is_next.ensures ∙ c.if-not-is_next.false) in
    not_implied (length c.args.checker.now.known) c.args.line (proof_of c.args.checker.now c.args.added.now.items) c.args.id c.args.literals.now c.args.hints.now next (sym c.in_ok-take_step.ensures.exactly ∙ c.if-not-branch.true)

pub returns-clause-ascends : goal.returns-clause-ascends
returns-clause-ascends c =
    let next : is_next (proof_of c.args.checker.now c.args.added.now.items) c.args.id ≡ true = ap (λ (xs : List ℕ). is_next (proof_of c.args.checker.now xs) c.args.id) (sym c.deref.ensures.value) ∙ (sym c.is_next.ensures ∙ c.if-not-is_next.false) in
    rw c.in_ok-push_id.ensures (goes_up c.args.added.now.items c.args.id c.requires (last_below (proof_of c.args.checker.now c.args.added.now.items) c.args.id next))

pub returns-clause-taken : goal.returns-clause-taken
returns-clause-taken c =
    let next : is_next (proof_of c.args.checker.now c.args.added.now.items) c.args.id ≡ true = ap (λ (xs : List ℕ). is_next (proof_of c.args.checker.now xs) c.args.id) (sym c.deref.ensures.value) ∙ (sym c.is_next.ensures ∙ c.if-not-is_next.false) in
    implied (length c.args.checker.now.known) c.args.line (proof_of c.args.checker.now c.args.added.now.items) c.args.id c.args.literals.now c.args.hints.now next (sym c.in_ok-take_step.ensures.exactly ∙ c.if-not-branch.false)
