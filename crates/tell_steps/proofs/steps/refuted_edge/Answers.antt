use Rattle.tell_steps.proofs.Prelude.{◌≡◌, ℕ, sym, subst, Contains, not_from_false, same_Some, log_of, ChainOrder, HasEnds, IsOrder, Follows, turned, edges_in}
use Rattle.tell_steps.proofs.Chosen.{turned_order}
use Rattle.tell_steps.proofs.steps.refuted_edge.Goals as goal

pub returns-in_default-clause-none : goal.returns-in_default-clause-none
returns-in_default-clause-none c = λ earlier s. absurd (let e = c.in_default.ensures.all s.edge.1 s.edge.0 (subst (HasEnds s.edge.1 s.edge.0) (sym c.deref.ensures.value) s.ends) in cc)

pub returns-then-not-follows-clause-none : goal.returns-then-not-follows-clause-none
returns-then-not-follows-clause-none c = λ earlier s.
    let log = log_of c.args.chains.now in
    let o = c.args.step.now.order in
    let e = c.in-Some.ends in
    let same : e ≡ (s.edge.1, s.edge.0) = same_Some e (s.edge.1, s.edge.0) (c.in-Some.ensures.all s.edge.1 s.edge.0 (subst (HasEnds s.edge.1 s.edge.0) (sym c.deref.ensures.value) s.ends)) in
    let has : Contains (edges_in log (turned o)) (e.1, e.0) = subst (λ (d : ℕ × ℕ). Contains (edges_in log (turned o)) (d.1, d.0)) (sym same) s.refuted in
    c.follows.ensures.no (not_from_false c.follows.result c.if-not-follows.true) (subst (IsOrder log) (sym c.turned.ensures.order) (turned_order log o s.two_chains)) (subst (λ (z : ChainOrder). Contains (edges_in log z) (e.1, e.0)) (sym c.turned.ensures.order) has)

pub returns-clause-some : goal.returns-clause-some
returns-clause-some c = record {
  two_chains = c.is_order.ensures.yes c.if-not-is_order.false;
  refuted = subst (λ (z : ChainOrder). Follows (log_of c.args.chains.now) z (c.in-Some.ends.1, c.in-Some.ends.0)) c.turned.ensures.order (c.follows.ensures.yes c.if-not-follows.false);
  ends = subst (HasEnds c.in-Some.ends.0 c.in-Some.ends.1) c.deref.ensures.value c.in-Some.ensures.some;
}
