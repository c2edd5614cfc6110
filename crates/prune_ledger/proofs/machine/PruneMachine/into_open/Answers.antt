use Rattle.prune_ledger.proofs.Prelude.{◌∙◌, length, sym, subst, ap, arith, AllByRecursion, JoinsBoth, State, unrefused}
use Rattle.prune_ledger.proofs.Flags.{unrefused_each, unrefused_few}
use Rattle.prune_ledger.proofs.machine.PruneMachine.into_open.Goals as goal

pub returns-clause-few : goal.returns-clause-few
returns-clause-few c =
    let hs = c.self.inside.choices.items in let ms = c.self.inside.marks.items in
    let is = c.in_ok-open.ensures ∙ ap (λ l. unrefused l hs) c.deref.ensures.value in
    let n = ap length is in let f = c.self.invariant.few in let u = unrefused_few ms hs in omega (arith, n, f, u)

pub returns-clause-joined : goal.returns-clause-joined
returns-clause-joined c =
    let hs = c.self.inside.choices.items in let ms = c.self.inside.marks.items in
    let is = c.in_ok-open.ensures ∙ ap (λ l. unrefused l hs) c.deref.ensures.value in
    subst (λ (s : State). AllByRecursion (JoinsBoth s.graph.nodes) c.in_ok-open.open.items) c.self.view_is
    (subst (AllByRecursion (JoinsBoth c.self.inside.graph.nodes)) (sym is) (unrefused_each (JoinsBoth c.self.inside.graph.nodes) ms hs c.self.invariant.joined))
