use Rattle.reach_rows.proofs.Prelude.{ℕ, sym, ◌∙◌, arith, below_more, refl, Contains, false≢true}
use Rattle.reach_rows.proofs.bit_rows.Rows.has_cycle.Goals as goal

pub loop-number-init : goal.loop-number-init
loop-number-init c = λ v h e. omega arith

pub returns-then-has : goal.returns-then-has
returns-then-has c =
    let edge = rw c.self.view_is at (c.has.ensures.edge.0 c.if-has.true) in
    record {
      edge = (λ t. (c.loop-number.number, edge), λ e. refl);
      cycle = λ graph h. (λ t. (c.loop-number.number, (h.reach c.loop-number.number c.loop-number.number).0 edge), λ r. refl);
    }

pub loop-number-preserved : goal.loop-number-preserved
loop-number-preserved c =
    let P : ℕ → Type 0 = λ v. Contains c.args.self.now.edges (v, v) → ⊥ in
    let edge = rw c.self.view_is at c.has.ensures.edge in
    below_more P c.loop-number.number c.loop-number.invariant (λ e. false≢true (sym c.if-has.false ∙ edge.1 e))

-- no node is left
none_left : (c : goal.After-loop-number) (v : ℕ) → Contains c.args.self.now.edges (v, v) → ⊥
none_left c v k =
    let graph = rw c.self.view_is at c.nodes-number-end.ensures.graph in
    let count = rw c.self.view_is at c.nodes-number-end.ensures.count in
    c.loop-number.invariant v (omega (arith, (graph.joined (v, v) k).0, c.loop-number-test.false, count)) k

pub returns : goal.returns
returns c = record {
  edge = (λ t. absurd (false≢true t), λ e. absurd (none_left c e.0 e.1));
  cycle = λ graph h. (λ t. absurd (false≢true t), λ e. absurd (none_left c e.0 ((h.reach e.0 e.0).1 e.1)));
}
