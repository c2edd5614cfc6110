use Rattle.proof_checks.proofs.Prelude.{◌≡◌, ℕ, ◌+◌, ◌-◌, ◌∙◌, Some, None, ap, length, arith, proof_of}
use Rattle.proof_checks.proofs.Places.{number_given, number_added}
use Rattle.proof_checks.proofs.lrat.number_of.Goals as goal
use Rattle.proof_checks.proofs.lrat.number_of.Goals.{else-id-gt0-via-then-id-gt0+else-id-given, else-id-gt0-via-else-id-gt0}

pub returns-then-id-given : goal.returns-then-id-given
returns-then-id-given c = number_given (proof_of c.args.checker.now c.args.added.now) c.args.id c.if-id-gt0.true (omega (arith, c.if-id-given.true, c.saturating_sub-given.ensures, c.len.ensures))

pub returns-in_err-place : goal.returns-in_err-place
returns-in_err-place c = c.from_residual.ensures ∙ number_added (proof_of c.args.checker.now c.args.added.now) c.args.id None
    (λ low high. elim c.else-id-gt0.branch [
      | else-id-gt0-via-then-id-gt0+else-id-given w ↦ omega (arith, high, w.if-id-given.false, c.saturating_sub-given.ensures, c.len.ensures)
      | else-id-gt0-via-else-id-gt0 w ↦ omega (arith, low, w.if-id-gt0.false)
    ])
    c.in_err-place.ensures

pub returns : goal.returns
returns c =
    let given : c.saturating_sub-given.result ≡ length c.args.checker.now.clauses - length c.args.added.now = c.saturating_sub-given.ensures ∙ ap (λ (n : ℕ). n - length c.args.added.now) c.len.ensures in
    ap (λ (n : ℕ). Some (n + c.in_ok-place.place)) given ∙ number_added (proof_of c.args.checker.now c.args.added.now) c.args.id (Some c.in_ok-place.place)
    (λ low high. elim c.else-id-gt0.branch [
      | else-id-gt0-via-then-id-gt0+else-id-given w ↦ omega (arith, high, w.if-id-given.false, c.saturating_sub-given.ensures, c.len.ensures)
      | else-id-gt0-via-else-id-gt0 w ↦ omega (arith, low, w.if-id-gt0.false)
    ])
    c.in_ok-place.ensures
