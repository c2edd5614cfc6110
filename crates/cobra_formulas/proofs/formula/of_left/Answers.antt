use Rattle.cobra_formulas.proofs.Prelude.{length, ap, ◌∙◌, subst, err_from_is_err_and, Polygraph, IsKnownGraph, IsPolygraph, cnf_of, is_listed, formula_of_rest}
use Rattle.cobra_formulas.proofs.Reduced.{listed_reach, proper_polygraph, faithful_reduced, faithful_as, left_made, left_fault}
use Rattle.cobra_formulas.proofs.formula.of_left.Goals as goal

pub returns-in_err-reduced_formula-clause-fault : goal.returns-in_err-reduced_formula-clause-fault
returns-in_err-reduced_formula-clause-fault c =
    let p = err_from_is_err_and c.from_residual.result c.from_residual.ensures.1 in
    rw (p.1, p.2) (left_fault c.args._history.now c.args.choices c.args.reduced c.in_err-reduced_formula.field-0.0 c.requires.left c.in_err-reduced_formula.ensures.fault)

pub returns-clause-made : goal.returns-clause-made
returns-clause-made c =
    left_made c.args._history.now c.args.choices (length c.choices-left.result.now) c.args.reduced (cnf_of c.in_ok-reduced_formula.field-0) c.requires.left
    (ap length (c.choices-left.ensures.choices ∙ ap (λ (p : Polygraph). p.choices) c.poly-2.ensures.poly))
    c.in_ok-reduced_formula.ensures.formula c.in_ok-reduced_formula.ensures.fits

pub returns-clause-faithful : goal.returns-clause-faithful
returns-clause-faithful c =
    let ss = c.args._history.now in
    let r = c.args.reduced in
    let known = is_listed r.rows.edges in
    let left = c.requires.left.left.left in
    let polygraph = subst (λ (p : Polygraph). IsPolygraph p) c.poly.ensures.poly c.nodes-invariant.ensures.polygraph in
    let graph = subst (λ (p : Polygraph). IsKnownGraph (record { nodes = p.nodes; edges = p.known })) c.poly.ensures.poly c.nodes-invariant.ensures.known in
    let proper = proper_polygraph r.poly polygraph graph left.reduced in
    let reach = listed_reach r.rows (record { nodes = r.poly.nodes; edges = r.poly.known }) left.rows in
    faithful_as ss (cnf_of c.in_ok-reduced_formula.field-0) (formula_of_rest r) c.in_ok-reduced_formula.ensures.formula
    (faithful_reduced ss c.requires.well_formed known r.poly proper reach c.requires.left.left.orders)
