use Rattle.branching.proofs.Prelude.{ap, ◌∙◌, Polygraph, One, Two, graph_in, view_of}
use Rattle.branching.proofs.Views.{rows_of_view}
use Rattle.branching.proofs.Refuting.{verdict_is}
use Rattle.branching.proofs.view.CubeView.verdict.Goals as goal

pub returns-clause-one : goal.returns-clause-one
returns-clause-one c =
    let k = view_of c.self.inside in
    verdict_is k c.args.self.now c.get.result c.args.choice One c.choices.result.now c.index-choices-get.result c.judge.result.one c.self.view_is c.self.invariant.view
    (c.choices.ensures.choices ∙ ap (λ (p : Polygraph). p.choices) c.poly.ensures.poly) c.get.ensures.value c.requires.choice c.index-choices-get.is
    (c.judge.ensures.one (graph_in k) (rows_of_view k c.self.inside.rows c.self.inside.graph c.self.invariant.graph c.self.invariant.rows))

pub returns-clause-two : goal.returns-clause-two
returns-clause-two c =
    let k = view_of c.self.inside in
    verdict_is k c.args.self.now c.get.result c.args.choice Two c.choices.result.now c.index-choices-get.result c.judge.result.two c.self.view_is c.self.invariant.view
    (c.choices.ensures.choices ∙ ap (λ (p : Polygraph). p.choices) c.poly.ensures.poly) c.get.ensures.value c.requires.choice c.index-choices-get.is
    (c.judge.ensures.two (graph_in k) (rows_of_view k c.self.inside.rows c.self.inside.graph c.self.invariant.graph c.self.invariant.rows))
