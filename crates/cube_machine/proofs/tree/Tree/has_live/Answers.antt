use Rattle.cube_machine.proofs.Prelude.{◌≡◌, ◌∙◌, ap, sym, not, eqb, ◌||◌, length, is_some, list_any}
use Rattle.cube_machine.proofs.Seats.{live_is}
use Rattle.cube_machine.proofs.tree.Tree.has_live.Goals as goal

pub returns-then-not-is_empty : goal.returns-then-not-is_empty
returns-then-not-is_empty c =
    let i = c.self.inside in
    let e : c.is_empty.result ≡ eqb (length i.open_nodes.items) 0 = c.is_empty.ensures ∙ ap (λ n. eqb n 0) i.open_nodes.ok.0 in
    let f = sym e ∙ c.if-not-is_empty.true in
    record { live = rw (← c.self.view_is) (ap not c.if-not-is_empty.true ∙ ap (λ b. not b || list_any is_some i.held) (sym f) ∙ live_is i.nodes.items i.open_nodes.items i.held i.solved c.self.invariant.0) }

pub returns-else-not-is_empty : goal.returns-else-not-is_empty
returns-else-not-is_empty c =
    let i = c.self.inside in
    let e : c.is_empty.result ≡ eqb (length i.open_nodes.items) 0 = c.is_empty.ensures ∙ ap (λ n. eqb n 0) i.open_nodes.ok.0 in
    let f = sym e ∙ c.if-not-is_empty.false in
    record { live = rw (← c.self.view_is) (c.has_some.ensures ∙ ap (λ b. not b || list_any is_some i.held) (sym f) ∙ live_is i.nodes.items i.open_nodes.items i.held i.solved c.self.invariant.0) }
