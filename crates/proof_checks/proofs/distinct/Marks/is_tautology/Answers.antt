use Rattle.proof_checks.proofs.Prelude.{◌≡◌, ◌∙◌, true, false, sym, subst, list_any_at, Literal, is_among, negated}
use Rattle.proof_checks.proofs.Once.{none_more, none_in_all}
use Rattle.proof_checks.proofs.distinct.Marks.is_tautology.Goals as goal

pub returns-then-has : goal.returns-then-has
returns-then-has c =
    let ls = c.args.literals.now in
    let there : is_among ls c.negated.result ≡ true = sym (c.has.ensures ls c.requires) ∙ c.if-has.true in
    sym (list_any_at (λ m. is_among ls (negated m)) ls c.loop-literal.literal-index _ c.loop-literal-test.true (subst (λ (m : Literal). is_among ls m ≡ true) c.negated.ensures there))

pub loop-literal-preserved : goal.loop-literal-preserved
loop-literal-preserved c =
    let ls = c.args.literals.now in
    let there : is_among ls c.negated.result ≡ false = sym (c.has.ensures ls c.requires) ∙ c.if-has.false in
    none_more (λ m. is_among ls (negated m)) ls c.loop-literal.literal-index _ c.loop-literal-test.true c.loop-literal.invariant (subst (λ (m : Literal). is_among ls m ≡ false) c.negated.ensures there)

pub returns : goal.returns
returns c = sym (none_in_all (λ m. is_among c.args.literals.now (negated m)) c.args.literals.now c.loop-literal.literal-index c.loop-literal-test.false c.loop-literal.invariant)
