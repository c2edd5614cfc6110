use Rattle.session_history.proofs.Prelude.{◌∙◌, ap, arith, node_kept}
use Rattle.session_history.proofs.Kept.{node_got, none_at_zero}
use Rattle.session_history.proofs.log.History.node.Goals as goal

pub returns-in-Some : goal.returns-in-Some
returns-in-Some c =
    let got = c.get-in-Some.ensures.lookup in
    node_got c.self.inside c.self.invariant c.deref.result.now c.args.node c.get.result c.in-Some.i c.get-in-Some.result
    c.deref.ensures.value c.get.ensures.value c.in-Some.ensures.0 c.in-Some.ensures.1 got.0 got.1
    ∙ ap (λ ss. node_kept ss c.args.node) c.self.view_is

pub returns-in-None : goal.returns-in-None
returns-in-None c = none_at_zero c.args.self.now c.args.node (let none = c.in-None.ensures in omega (arith, none, c.get.ensures.value))
