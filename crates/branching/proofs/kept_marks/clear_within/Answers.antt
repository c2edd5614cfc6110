use Rattle.branching.proofs.Prelude.{◌≤◌, ◌/◌, length, false, not, ◌&&◌, sym, ap, ◌∙◌, arith, subst, inl, inr, cases_eq, ne_eqb, eq-eqb, bit_of, bit_of-past}
use Rattle.branching.proofs.kept_marks.clear_within.Goals as goal

pub returns-else-number-words-clause-bits : goal.returns-else-number-words-clause-bits
returns-else-number-words-clause-bits c = λ k.
    let words = c.args.words.now in
    elim (cases_eq k c.args.number) [
      | inl same ↦
          (let past : length words ≤ k / 64 = subst (λ n. length words ≤ n / 64) (sym same) (omega (arith, c.if-number-words.false)) in
          bit_of-past words k past ∙ sym (ap (λ b. not b && bit_of words k) (eq-eqb k c.args.number same)))
      | inr ne ↦ sym (ap (λ b. not b && bit_of words k) (ne_eqb k c.args.number ne))
    ]
