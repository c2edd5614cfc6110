use Rattle.order_cnf.proofs.Prelude.{◌≡◌, ℕ, [], None, sym, ap, ◌∙◌, subst, inr, arith, length, IfOk, AllByRecursion, IfOk-weaker, IfErr-weaker, IsFormula, plain_of, cnf_of, size_fault, IsFault, Relation, IsFreeBipath, cnf_with}
use Rattle.order_cnf.proofs.Wholes.{plain_is, free_bipaths, no_edges}
use Rattle.order_cnf.proofs.plain.formula_of.Goals as goal

pub new-layout-requires : goal.new-layout-requires
new-layout-requires c = record {
  layout = record {
    start = omega arith;
    bipaths = subst (λ bs. AllByRecursion (IsFreeBipath c.in_ok-relation.relation) bs) (sym c.into_parts-known.ensures.choices)
        (free_bipaths c.in_ok-relation.relation c.args.polygraph.nodes c.args.polygraph.choices (ap (λ r. r.nodes) c.in_ok-relation.ensures.relation ∙ c.nodes.ensures.count ∙ ap (λ g. g.nodes) c.into_parts-known.ensures.known) (ap (λ r. r.known) c.in_ok-relation.ensures.relation) c.requires.plain.bipaths);
    edges = no_edges c.in_ok-relation.relation c.new.result.items c.new.ensures.items;
    few = omega (arith, ap length c.new-2.ensures.items);
  };
}

pub of-requires-clause-sound : goal.of-requires-clause-sound
of-requires-clause-sound c =
    let of_nodes : ℕ → Relation = λ n. record { nodes = n; known = [] } in
    let r = c.in_ok-relation.ensures.relation ∙ ap of_nodes (c.nodes.ensures.count ∙ ap (λ g. g.nodes) c.into_parts-known.ensures.known) in
    let whole = plain_is c.new-layout.result c.args.polygraph c.in_ok-relation.relation c.variables-variables.result _ _ _ _ _ r c.variables-variables.ensures.count c.in_ok-units.ensures.literals
    (c.deref.ensures.value ∙ c.in_ok-edges.ensures.edges ∙ ap (λ g. g.edges) c.into_parts-known.ensures.known) c.into_parts-known.ensures.choices c.new.ensures.items c.new-2.ensures.items c.new-layout.ensures.value in
    λ few. subst IsFormula (sym whole) (c.requires.plain.sound (omega (arith, few, ap (λ f. length f.clauses) whole)))

-- the clauses of the layout are those of the plain formula
whole : (c : goal.After-drop-known-inside-2) → cnf_with c.new-layout.result c.variables-variables.result ≡ plain_of c.args.polygraph
whole c =
    let of_nodes : ℕ → Relation = λ n. record { nodes = n; known = [] } in
    let r = c.in_ok-relation.ensures.relation ∙ ap of_nodes (c.nodes.ensures.count ∙ ap (λ g. g.nodes) c.into_parts-known.ensures.known) in
    plain_is c.new-layout.result c.args.polygraph c.in_ok-relation.relation c.variables-variables.result _ _ _ _ _ r c.variables-variables.ensures.count c.in_ok-units.ensures.literals
    (c.deref.ensures.value ∙ c.in_ok-edges.ensures.edges ∙ ap (λ g. g.edges) c.into_parts-known.ensures.known) c.into_parts-known.ensures.choices c.new.ensures.items c.new-2.ensures.items c.new-layout.ensures.value

pub returns-clause-formula : goal.returns-clause-formula
returns-clause-formula c = IfOk-weaker c.of.result _ (λ f. cnf_of f ≡ plain_of c.args.polygraph) (λ f e. ap cnf_of e ∙ whole c) c.of.ensures.formula

pub returns-clause-fits : goal.returns-clause-fits
returns-clause-fits c = subst (λ g. IfOk c.of.result (λ _. size_fault g ≡ None)) (whole c) c.of.ensures.fits

pub returns-clause-fault : goal.returns-clause-fault
returns-clause-fault c =
    IfErr-weaker c.of.result _ (λ e. IsFault e (size_fault (plain_of c.args.polygraph))) (λ e h. inr (sym (ap size_fault (whole c)) ∙ h)) c.of.ensures.fault
