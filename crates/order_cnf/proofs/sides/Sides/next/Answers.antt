use Rattle.order_cnf.proofs.Prelude.{◌-◌, ◌++◌, ap, sym, ◌∙◌, arith, length, nil_from_length, sides_left, rank_of}
use Rattle.order_cnf.proofs.Parts.{nothing_left, no_sides, edge_step, side_step, no_step, some_step, kept_step, turned_rank}
use Rattle.order_cnf.proofs.sides.Sides.next.Goals as goal

pub invariant_of-self : goal.invariant_of-self
invariant_of-self c = (c.loop-self.invariant.unturned, c.loop-self.invariant.few)

pub returns-in_err-edge : goal.returns-in_err-edge
returns-in_err-edge c =
    let s = c.loop-self.self-inside in
    record {
      step = no_step c.args.self.now _ c.from_residual.result c.from_residual.ensures (sym c.self.view_is ∙ sym c.loop-self.invariant.same)
          (nothing_left s.relation.now s.literal s.count s.edges.now s.counts.now (nil_from_length _ c.in_err-edge.ensures.cases));
    }

pub edge_clause-clause-requires : goal.edge_clause-clause-requires
edge_clause-clause-requires c = record { open_to = (rw c.in_ok-edge.ensures.cases.0 at c.loop-self.invariant.unturned).0 }

pub invariant_of-self-then-is_some : goal.invariant_of-self-then-is_some
invariant_of-self-then-is_some c = ((rw c.in_ok-edge.ensures.cases.0 at c.loop-self.invariant.unturned).1, c.loop-self.invariant.few)

pub returns-then-is_some : goal.returns-then-is_some
returns-then-is_some c =
    let s = c.loop-self.self-inside in
    record {
      step = some_step c.args.self.now _ c.edge_clause-clause.result (sym c.is_some.ensures ∙ c.if-is_some.true)
          (sym c.self.view_is ∙ sym c.loop-self.invariant.same
          ∙ edge_step s.relation.now s.literal s.count c.in_ok-edge.edge.now s.edges.now c.in_ok-edge.rest.now s.counts.now c.if-self-gt0.true c.in_ok-edge.ensures.cases.0
          ∙ ap (λ l. l ++ sides_left s.relation.now s.literal (s.count - 1) c.in_ok-edge.rest.now s.counts.now) (sym c.edge_clause-clause.ensures.value));
    }

pub loop-self-preserved-else-is_some : goal.loop-self-preserved-else-is_some
loop-self-preserved-else-is_some c =
    let s = c.loop-self.self-inside in
    record {
      same = sym (edge_step s.relation.now s.literal s.count c.in_ok-edge.edge.now s.edges.now c.in_ok-edge.rest.now s.counts.now c.if-self-gt0.true c.in_ok-edge.ensures.cases.0
          ∙ kept_step _ c.edge_clause-clause.result _ (sym c.is_some.ensures ∙ c.if-is_some.false) c.edge_clause-clause.ensures.value) ∙ c.loop-self.invariant.same;
      unturned = (rw c.in_ok-edge.ensures.cases.0 at c.loop-self.invariant.unturned).1;
      few = c.loop-self.invariant.few;
    }

pub invariant_of-self-in_err-count : goal.invariant_of-self-in_err-count
invariant_of-self-in_err-count c = (c.loop-self.invariant.unturned, c.loop-self.invariant.few)

pub returns-in_err-count : goal.returns-in_err-count
returns-in_err-count c =
    let s = c.loop-self.self-inside in
    record {
      step = no_step c.args.self.now _ c.from_residual-in_err-count.result c.from_residual-in_err-count.ensures (sym c.self.view_is ∙ sym c.loop-self.invariant.same)
          (no_sides s.relation.now s.literal s.count s.edges.now s.counts.now (omega (arith, c.if-self-gt0.false)) (nil_from_length _ c.in_err-count.ensures.cases));
    }

pub turned-self-inside-requires : goal.turned-self-inside-requires
turned-self-inside-requires c = record { few = omega (arith, c.loop-self.invariant.few, ap length c.in_ok-count.ensures.cases.0) }

pub loop-self-preserved : goal.loop-self-preserved
loop-self-preserved c =
    let s = c.loop-self.self-inside in
    record {
      same = ap (λ l. sides_left s.relation.now l c.in_ok-count.count.now s.edges.now c.in_ok-count.rest.now) c.turned-self-inside.ensures.value
          ∙ sym (side_step s.relation.now s.literal s.count c.in_ok-count.count.now s.edges.now s.counts.now c.in_ok-count.rest.now (omega (arith, c.if-self-gt0.false)) c.in_ok-count.ensures.cases.0)
          ∙ c.loop-self.invariant.same;
      unturned = c.loop-self.invariant.unturned;
      few = omega (arith, c.loop-self.invariant.few, ap length c.in_ok-count.ensures.cases.0, turned_rank s.literal, ap (λ l. rank_of l) c.turned-self-inside.ensures.value);
    }
