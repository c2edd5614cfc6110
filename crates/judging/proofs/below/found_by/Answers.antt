use Rattle.judging.proofs.Prelude.{map, sym, ◌∙◌, subst, view, IsRefutedLog, Level, Overlooked}
use Rattle.judging.proofs.Levels.{refuted_below}
use Rattle.judging.proofs.below.found_by.Goals as goal

pub returns-then-refutes : goal.returns-then-refutes
returns-then-refutes c =
    let ss = map view c.args.log.now in
    let evidence = c.in-Evidence.evidence in
    let log = c.requires.log in
    let right = sym c.refutes.ensures.exact ∙ c.if-refutes.true in
    let none = c.refutes.ensures.none c.if-refutes.true log.sound log.learnt in
    record { found = subst (λ (level : Level). IsRefutedLog level ss Overlooked) (sym c.requires.level) (refuted_below c.args.below ss evidence log right none) }
