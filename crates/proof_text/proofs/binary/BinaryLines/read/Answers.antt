use Rattle.proof_text.proofs.Prelude.{◌+◌, ◌^◌, ◌<◌, length, None, arith, sym, ap, ◌∙◌, eqb-false, binary_words, behind_line, binary_step, steps_by}
use Rattle.proof_text.proofs.Packing.{steps_at, steps_first, behind_within}
use Rattle.proof_text.proofs.binary.BinaryLines.read.Goals as goal

pub invariant_of-self : goal.invariant_of-self
invariant_of-self c =
    let some : 0 < length c.self.inside.rest.now = omega (arith, eqb-false (length c.self.inside.rest.now) 0 (sym c.is_empty.ensures ∙ c.if-is_empty.false)) in
    let behind = rw c.in-Some.is at c.in_ok-action.ensures.rest in
    behind_within c.self.inside.rest.now c.of-words.result (binary_words c.bytes-self-inside.result.now) c.self.inside.number (2 ^ 63) some c.of-words.ensures
    (c.bytes-self-inside.ensures ∙ behind) c.self.invariant

pub returns-in-None : goal.returns-in-None
returns-in-None c =
    let some : 0 < length c.self.inside.rest.now = omega (arith, eqb-false (length c.self.inside.rest.now) 0 (sym c.is_empty.ensures ∙ c.if-is_empty.false)) in
    let step = rw c.in-None.is at c.in_ok-action.ensures.step in (
      steps_at c.args.variables (c.self.inside.number + 1) (behind_line c.of-words.result),
      ap (steps_by (binary_step c.args.variables)) (sym c.self.view_is) ∙ steps_first c.args.variables c.self.inside.number c.self.inside.rest.now c.of-words.result None some c.of-words.ensures step,
    )
