use Rattle.tell_steps.proofs.Prelude.{◌≡◌, ℕ, sym, subst, arith, Contains, Edge, log_of, edges_in}
use Rattle.tell_steps.proofs.ChainSides.{chain_edges, order_target}
use Rattle.tell_steps.proofs.decided.has_edge.Goals as goal

pub returns-in-Some : goal.returns-in-Some
returns-in-Some c =
    let log = log_of c.args.chains.now in
    let o = c.args.order in
    let edges = chain_edges log o c.in-Some.chain.now c.in-Some.ensures.chain.2 in
    let same : o.second ≡ c.args.b = omega arith in
    let e : Edge = (c.args.a, o.second) in
    let P : ℕ → Type 0 = λ b. Contains (edges_in log o) (c.args.a, b) in
    record {
      yes = λ t. subst P same (subst (λ l. Contains l e) edges (c.leads_from.ensures.yes t o.second));
      no = λ t two has. c.leads_from.ensures.no t o.second (subst (λ l. Contains l e) (sym edges) (subst P (sym same) has));
    }

pub returns-then-get-clause-no : goal.returns-then-get-clause-no
returns-then-get-clause-no c = λ t two has.
    let target : c.args.b ≡ c.args.order.second = order_target (log_of c.args.chains.now) c.args.order (c.args.a, c.args.b) has in
    c.if-get.true (omega (arith, target, c.get.ensures.value, c.get-2.ensures.value))
