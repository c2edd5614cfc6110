use Rattle.reasons.proofs.Prelude.{◌+◌, take, subst, inl, inr, Contains, take_all, Contains-push_cases, front_more, log_of, NoSquareOf}
use Rattle.reasons.proofs.Squares.{square_from, none_with}
use Rattle.reasons.proofs.crossed.square_at.Goals as goal

pub returns-in-Some-clause-square : goal.returns-in-Some-clause-square
returns-in-Some-clause-square c =
    let found = rw c.in-Some.is at c.in_ok-square.ensures.square in
    let log = log_of c.args.history.now in
    square_from log c.args.key (log.nodes + 1) 0 c.as_slice-pairs.result.now c.in-Some.square (rw c.as_slice-pairs.ensures.value c.in_ok-all.ensures.pairs) found.0 found.1

pub returns-in-Some-2-clause-square : goal.returns-in-Some-2-clause-square
returns-in-Some-2-clause-square c =
    let found = rw c.in-Some-2.is at c.in_ok-square-2.ensures.square in
    let log = log_of c.args.history.now in
    square_from log c.args.key (log.nodes + 1) c.get.result c.as_slice-pairs.result.now c.in-Some-2.square (rw c.as_slice-pairs.ensures.value c.in_ok-all.ensures.pairs) found.0 found.1

pub loop-version-preserved : goal.loop-version-preserved
loop-version-preserved c =
    let writers = c.writers_of-writers.result.now in
    let i = c.loop-version.version-index in
    let v = c.version-item.result in
    let none = subst (NoSquareOf c.as_slice-pairs.result.now) c.get.ensures.value (rw c.in_default-2.is at c.in_ok-square-2.ensures.none) in
    λ u has. elim (Contains-push_cases (take i writers) v u (subst (λ l. Contains l u) (front_more writers i v c.loop-version-test.true c.version-item.is) has)) [
      | inl before ↦ c.loop-version.invariant u before
      | inr same ↦ subst (NoSquareOf c.as_slice-pairs.result.now) same none
    ]

pub returns-clause-none : goal.returns-clause-none
returns-clause-none c =
    let all = take_all c.loop-version.version-index c.writers_of-writers.result.now c.loop-version-test.false in
    none_with (log_of c.args.history.now) c.requires.clean c.args.key c.as_slice-pairs.result.now (rw c.as_slice-pairs.ensures.value c.in_ok-all.ensures.pairs) (rw c.in_default.is at c.in_ok-square.ensures.none)
    (λ u has. c.loop-version.invariant u (rw (all, c.writers_of-writers.ensures.writers) has))
