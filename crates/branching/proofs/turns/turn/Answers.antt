use Rattle.branching.proofs.Prelude.{List, length, sym, ap, ◌∙◌, false≢true, Choice, Polygraph, graph_in}
use Rattle.branching.proofs.Turned.{split_answered, all_decided, depth_of_closed}
use Rattle.branching.proofs.turns.turn.Goals as goal

pub refutation-requires : goal.refutation-requires
refutation-requires g c = record { cyclic = (c.has_cycle.ensures.cycle (graph_in c.args.view.now) c.rows.ensures.rows).0 c.if-has_cycle.true }

pub solution-requires-clause-acyclic : goal.solution-requires-clause-acyclic
solution-requires-clause-acyclic g c = λ k. false≢true (sym c.if-has_cycle.false ∙ (c.has_cycle.ensures.cycle (graph_in c.args.view.now) c.rows.ensures.rows).1 k)

pub solution-requires-clause-decided : goal.solution-requires-clause-decided
solution-requires-clause-decided g c =
    let same = c.choices.ensures.choices ∙ ap (λ (p : Polygraph). p.choices) (c.poly.ensures.poly ∙ sym c.requires.polygraph) in
    all_decided c.args.view.now c.depth.result (length c.choices.result.now) c.rows.ensures.view c.depth.ensures.depth (ap (λ (l : List Choice). length l) same) c.if-depth-choices.true

pub unreachable-requires : goal.unreachable-requires
unreachable-requires g c =
    let same = c.choices.ensures.choices ∙ ap (λ (p : Polygraph). p.choices) (c.poly.ensures.poly ∙ sym c.requires.polygraph) in
    let laws = g.met.S.Strategy g.world.𝓛 g.world.𝓜 g.world.𝓡 ((λ s x. x), (λ x. x), (λ x. x), λ x. x) in
    let closed = laws.picks_some c.args.strategy.now c.args.view.now (sym c.pick.ensures.pick ∙ c.in-None.is) in
    c.if-depth-choices.false (depth_of_closed c.args.view.now c.depth.result (length c.choices.result.now) c.rows.ensures.view c.depth.ensures.depth (ap (λ (l : List Choice). length l) same) closed)

pub returns-clause-answered : goal.returns-clause-answered
returns-clause-answered g c =
    let v = c.args.view.now in
    let laws = g.met.S.Strategy g.world.𝓛 g.world.𝓜 g.world.𝓡 ((λ s x. x), (λ x. x), (λ x. x), λ x. x) in
    split_answered v c.in-Some.choice c.rows.ensures.view (laws.picks_open c.args.strategy.now v c.in-Some.choice (sym c.pick.ensures.pick ∙ c.in-Some.is))

pub returns-clause-decision : goal.returns-clause-decision
returns-clause-decision g c = ((λ k. false≢true (sym c.if-has_cycle.false ∙ (c.has_cycle.ensures.cycle (graph_in c.args.view.now) c.rows.ensures.rows).1 k)), sym c.pick.ensures.pick ∙ c.in-Some.is)

pub returns-then-has_cycle-clause-decision : goal.returns-then-has_cycle-clause-decision
returns-then-has_cycle-clause-decision g c = c.refutation.ensures.decision (g.S.Strategy.picks c.args.strategy.now c.args.view.now)

pub returns-then-depth-choices-clause-decision : goal.returns-then-depth-choices-clause-decision
returns-then-depth-choices-clause-decision g c = c.solution.ensures.decision (g.S.Strategy.picks c.args.strategy.now c.args.view.now)
