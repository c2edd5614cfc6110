-- The reduced formula of what the steps before the search leave.
use Rattle.cobra_formulas.proofs.Prelude.{◌≡◌, ℕ, List, length, Option, None, Some, Result, Ok, Err, IfOk, refl, sym, ap, ◌∙◌, subst, inl, inr, nat_lt, ClientSession, Choice, Polygraph, Cnf, before, IsDecoded, Graph, Sides, edges_with}
use Rattle.cobra_formulas.proofs.Prelude.{open_from, pruned, log_of, formula_where, plain_answer, IsWellFormedList, IsKnownGraph, IsPolygraph, is_listed, cnf_of, formula_of_rest, Basis, IsReducedWithin, IsReducedFault, IsReducedFormula}
use Rattle.cobra_formulas.proofs.Prelude.{by_anomaly, by_cycle, by_pruning, by_choices, IsFaithful}
use Rattle.std.proofs.lemmas.Option.{cond_some}
use Rattle.serializability.specs.declared.anomaly.Anomaly.{Anomaly}
use Rattle.serializability.specs.Pairs.{Known}
use Rattle.serializability.specs.Plain.{plain, contradiction}
use Rattle.serializability.specs.Anomalies.{anomaly_of, anomaly_number}
use Rattle.serializability.proofs.PlainLaws.{contradicted}
use Rattle.chain_laws.specs.Chains.{chain_polygraph, chain_choices}
use Rattle.pruning_laws.specs.Ledger.{sides_in}
use Rattle.log_definitions.proofs.OnlyTaken.{serial_where_some}
use Rattle.known_graph.proofs.Tested.{edge_in, has_contained}
use Rattle.reach_rows.specs.ReachRows.{AreRowsOf}
use Rattle.prune_ledger.specs.declared.ledger.Ledger.{Ledger}
use Rattle.prune_ledger.specs.Pruned.{Remainder, IsReduced, kept_by}
use Rattle.reduction.specs.Chained.{HasItsOrders, HasNoSerialOrder}
use Rattle.reduction.specs.Outcome.{IsCyclicHistory, IsDeadHistory, IsCountedHistory}
use Rattle.order_laws.specs.Reduced.{reduced, IsReach}
use Rattle.order_laws.specs.Proper.{IsProper}
use Rattle.order_laws.proofs.Assigned.{fitting_satisfies}
use Rattle.order_laws.proofs.Satisfied.{decoded_fits, formula_decodes}
use Rattle.order_laws.proofs.Left.{same_reach, same_reduced}
use Rattle.order_cnf.specs.declared.fault.CnfFault.{CnfFault}
use Rattle.order_cnf.specs.declared.fault.CnfFault.TheVariants as cnf
use Rattle.order_cnf.specs.Limits.{size_fault, IsFault}
use Rattle.cobra_formulas.specs.declared.basis.Basis.TheVariants.{Anomalous, Chains}
use Rattle.cobra_formulas.specs.declared.formula.Belonging.{Belonging}
use Rattle.cobra_formulas.proofs.SameEdges.{Among, cycle_among, with_among, forced_among, dead_among}

-- the pairs of rows are what reaches what
pub listed_reach : (rows graph : Graph) → AreRowsOf rows graph → IsReach graph.edges (is_listed rows.edges)
listed_reach rows graph r = record {
  each = λ u v. (
    λ t. (r.reach u v).0 (edge_in rows.edges (u, v) t),
    λ way. has_contained rows.edges (u, v) ((r.reach u v).1 way),
  );
}

-- ---- what the formula is made from
pub made_from_choices : (ss : List ClientSession) (choices : ℕ) (r : Remainder) → IsCountedHistory ss choices r → IsReducedFormula ss (Chains choices (length r.poly.choices)) (formula_of_rest r)
made_from_choices ss choices r h =
    let p = h.left.poly in
    let q = chain_polygraph (log_of ss) in
    let chained = h.left.unpruned.chained in
    let left = h.left.left in
    let forced : Sides = sides_in (kept_by r.ledger.entries.items) in
    let known : Known = is_listed r.rows.edges in
    let there : Among p.known q.known = λ e. (chained.known e).0 in
    let back : Among q.known p.known = λ e. (chained.known e).1 in
    let same : p.choices ≡ q.choices = chained.choices in
    let out : Among r.poly.known (edges_with q forced) = λ e c. with_among p q there same forced e ((left.known e).0 c) in
    let in_ : Among (edges_with q forced) r.poly.known = λ e c. (left.known e).1 (with_among q p back (sym same) forced e c) in
    let choices_same : r.poly.choices ≡ open_from forced 0 (chain_choices (log_of ss)) = left.choices ∙ ap (λ (hs : List Choice). open_from forced 0 hs) same in
    let whole : IsReducedFormula ss (Chains (length (chain_choices (log_of ss))) (length (open_from forced 0 (chain_choices (log_of ss))))) (reduced known (pruned q forced)) =
    by_choices h.left.unpruned.coalesced forced (forced_among p q there back same forced left.forced)
    (λ c. left.reduced.acyclic (cycle_among (edges_with q forced) r.poly.known in_ c))
    known (same_reach r.poly.known (edges_with q forced) known (λ e. (out e, in_ e)) (listed_reach r.rows (record { nodes = r.poly.nodes; edges = r.poly.known }) left.rows)) in
    subst (λ (f : Cnf). IsReducedFormula ss (Chains choices (length r.poly.choices)) f)
    (sym (same_reduced r.poly (pruned q forced) known (left.nodes ∙ chained.nodes) choices_same))
    (subst (λ (k : ℕ). IsReducedFormula ss (Chains choices k) (reduced known (pruned q forced))) (sym (ap length choices_same))
    (subst (λ (k : ℕ). IsReducedFormula ss (Chains k (length (open_from forced 0 (chain_choices (log_of ss))))) (reduced known (pruned q forced))) (sym h.counted) whole))

pub made_from_dead : (ss : List ClientSession) (ledger : Ledger) → IsDeadHistory ss ledger → IsReducedFormula ss (Anomalous 9) contradiction
made_from_dead ss ledger h =
    let p = h.poly in
    let q = chain_polygraph (log_of ss) in
    let chained = h.unpruned.chained in
    by_pruning h.unpruned.coalesced
    (λ c. h.unpruned.acyclic (cycle_among q.known p.known (λ e. (chained.known e).1) c))
    (dead_among p q (λ e. (chained.known e).0) chained.choices h.dead.dead)

pub made_from_cycle : (ss : List ClientSession) → anomaly_of (log_of ss) ≡ None → (line : List ℕ) → IsCyclicHistory ss line → IsReducedFormula ss (Anomalous 8) contradiction
made_from_cycle ss none line h = by_cycle none line h.cycle

pub made_as : (ss : List ClientSession) (b basis : Basis) (f formula : Cnf) → b ≡ basis → f ≡ formula → IsReducedFormula ss basis formula → IsReducedFormula ss b f
made_as ss b basis f formula e d h = subst (λ (x : Basis). IsReducedFormula ss x f) (sym e) (subst (λ (g : Cnf). IsReducedFormula ss basis g) (sym d) h)

-- ---- what the formula says
pub faithful_as : (ss : List ClientSession) (f g : Cnf) → f ≡ g → IsFaithful ss g → IsFaithful ss f
faithful_as ss f g e h = subst (λ (x : Cnf). IsFaithful ss x) (sym e) h

pub faithful_contradiction : (ss : List ClientSession) → IsWellFormedList ss → HasNoSerialOrder ss → IsFaithful ss contradiction
faithful_contradiction ss well h = record {
  headline = record {
    satisfied_where_some = λ order s. (let d = serial_where_some ss well (order, s) in absurd (h.none d.0 d.1));
    serial_where_satisfied = λ values s. absurd (contradicted values s);
  };
  orders = λ values s. absurd (contradicted values s);
}

pub proper_polygraph : (p : Polygraph) → IsPolygraph p → IsKnownGraph (record { nodes = p.nodes; edges = p.known }) → IsReduced p → IsProper p
proper_polygraph p h k r = record { initial = k.initial; joined = k.joined; sides = h.joined; acyclic = r.acyclic; unrefuted = r.unrefuted }

reduced_nodes : (known : Known) (p : Polygraph) → (reduced known p).nodes ≡ p.nodes
unfolding reduced
reduced_nodes known p = refl

pub faithful_reduced : (ss : List ClientSession) → IsWellFormedList ss → (known : Known) (p : Polygraph) → IsProper p → IsReach p.known known → HasItsOrders ss p → IsFaithful ss (reduced known p)
faithful_reduced ss well known p proper reach its = record {
  headline = record {
    satisfied_where_some = λ order s. (let d = serial_where_some ss well (order, s) in fitting_satisfies p proper known reach d.0 ((its.each d.0).0 d.1));
    serial_where_satisfied = λ values s.
        (let d = formula_decodes p proper known reach values s in (d.0, (its.each d.0).1 (decoded_fits p proper known reach values s d.0 d.1)));
  };
  orders = λ values s order d. (its.each order).1
      (decoded_fits p proper known reach values s order (subst (λ (n : ℕ). IsDecoded n (before (reduced known p) values) order) (reduced_nodes known p) d));
}

-- ---- the ends of the steps
pub contradicted_faithful : (ss : List ClientSession) (r : Result Belonging CnfFault) → IsWellFormedList ss → HasNoSerialOrder ss → IfOk r (λ b. cnf_of b.formula ≡ contradiction) → IfOk r (λ b. IsFaithful ss (cnf_of b.formula))
contradicted_faithful ss (Ok b) well none e = faithful_as ss (cnf_of b.formula) contradiction e (faithful_contradiction ss well none)
contradicted_faithful ss (Err f) well none e = tt

pub contradicted_made : (ss : List ClientSession) (number : ℕ) (r : Result Belonging CnfFault) → IsReducedFormula ss (Anomalous number) contradiction → IfOk r (λ b. cnf_of b.formula ≡ contradiction) → IfOk r (λ b. b.basis ≡ Anomalous number) → IfOk r (λ b. IsReducedWithin ss b.basis (cnf_of b.formula))
contradicted_made ss number (Ok b) h e same = record {
  within = subst (λ (f : Cnf). size_fault f ≡ None) (sym e) refl;
  formula = made_as ss b.basis (Anomalous number) (cnf_of b.formula) contradiction same e h;
}
contradicted_made ss number (Err f) h e same = tt

pub made_from_anomaly : (ss : List ClientSession) (a : Anomaly) (number : ℕ) → anomaly_of (log_of ss) ≡ Some a → number ≡ anomaly_number a → IsReducedFormula ss (Anomalous number) contradiction
made_from_anomaly ss a number e same = subst (λ (k : ℕ). IsReducedFormula ss (Anomalous k) contradiction) (sym same) (by_anomaly a e)

pub left_made : (ss : List ClientSession) (choices left : ℕ) (r : Remainder) (f : Cnf) → IsCountedHistory ss choices r → left ≡ length r.poly.choices → f ≡ formula_of_rest r → size_fault (formula_of_rest r) ≡ None → IsReducedWithin ss (Chains choices left) f
left_made ss choices left r f h count e fits = record {
  within = subst (λ (g : Cnf). size_fault g ≡ None) (sym e) fits;
  formula = made_as ss (Chains choices left) (Chains choices (length r.poly.choices)) f (formula_of_rest r) (ap (λ (k : ℕ). Chains choices k) count) e (made_from_choices ss choices r h);
}

large : (ss : List ClientSession) (basis : Basis) (f : Cnf) (e : CnfFault) → IsReducedFormula ss basis f → size_fault f ≡ Some e → IsReducedFault ss e
large ss basis f e h same =
    let is : e ≡ cnf.FormulaTooLarge = sym (cond_some (nat_lt 20000000 (length f.clauses)) cnf.FormulaTooLarge e same).1 in
    subst (λ (x : CnfFault). IsReducedFault ss x) (sym is) (record { basis = basis; formula = f; reduced = h; large = same ∙ ap (λ (x : CnfFault). Some x) is })

pub left_fault : (ss : List ClientSession) (choices : ℕ) (r : Remainder) (e : CnfFault) → IsCountedHistory ss choices r → IsFault e (size_fault (formula_of_rest r)) → IsReducedFault ss e
left_fault ss choices r e h (inl memory) = subst (λ (x : CnfFault). IsReducedFault ss x) (sym memory) tt
left_fault ss choices r e h (inr over) = large ss (Chains choices (length r.poly.choices)) (formula_of_rest r) e (made_from_choices ss choices r h) over

pub plain_is_answer : (ss : List ClientSession) → anomaly_of (log_of ss) ≡ None → plain (log_of ss) ≡ plain_answer ss
unfolding plain_answer
plain_is_answer ss none = sym (ap (λ (o : Option Anomaly). formula_where o (log_of ss)) none)
