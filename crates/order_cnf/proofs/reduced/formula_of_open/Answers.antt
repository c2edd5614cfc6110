use Rattle.order_cnf.proofs.Prelude.{◌≡◌, None, sym, ap, ◌∙◌, subst, inr, arith, length, IfOk, AllByRecursion, IfOk-weaker, IfErr-weaker, IsFormula, cnf_of, is_listed, formula_of_rest, size_fault, IsFault, IsUnturned, IsFreeBipath}
use Rattle.order_cnf.proofs.Prelude.{IsStrict}
use Rattle.order_laws.proofs.Clauses.{is_formula}
use Rattle.order_cnf.proofs.Wholes.{edges_in, counts_in}
use Rattle.order_cnf.proofs.Rests.{is_reach, is_proper, is_strict, all_unturned, two_each, rest_is}
use Rattle.order_cnf.proofs.reduced.formula_of_open.Goals as goal

pub of-requires-clause-strict : goal.of-requires-clause-strict
of-requires-clause-strict c =
    let p = c.args.reduced.poly in
    let rows = c.args.reduced.rows in
    let rest = c.left_is_proper.ensures.rest in
    let rows_same = c.into_parts-polygraph.ensures.rows in
    subst (λ g. IsStrict (is_listed g.edges)) (sym rows_same) (is_strict p rows rest)

pub new-layout-requires : goal.new-layout-requires
new-layout-requires c =
    let same = c.into_parts-polygraph.ensures.poly in
    let p = c.args.reduced.poly in
    let rows = c.args.reduced.rows in
    let rest = c.left_is_proper.ensures.rest in
    let rows_same = c.into_parts-polygraph.ensures.rows in
    let nodes = ap (λ r. r.nodes) c.in_ok-relation.ensures.relation ∙ c.nodes.ensures.count ∙ ap (λ q. q.nodes) same in
    let known = ap (λ r. r.known) c.in_ok-relation.ensures.relation ∙ ap (λ g. g.edges) rows_same in
    let choices = c.choices-choices.ensures.choices ∙ ap (λ q. q.choices) same in
    record {
      layout = record {
        start = omega arith;
        bipaths = subst (λ bs. AllByRecursion (IsFreeBipath c.in_ok-relation.relation) bs) (sym c.new-2.ensures.items) tt;
        edges = subst (AllByRecursion (IsUnturned c.in_ok-relation.relation)) (sym (c.in_ok-edges.ensures.edges ∙ ap edges_in choices)) (all_unturned p rows c.in_ok-relation.relation rest nodes known);
        few = omega (arith, ap length (c.in_ok-edges.ensures.counts ∙ ap counts_in choices), two_each p.choices, rest.polygraph.few);
      };
    }

pub of-requires-2-clause-sound : goal.of-requires-2-clause-sound
of-requires-2-clause-sound c =
    let same = c.into_parts-polygraph.ensures.poly in
    let p = c.args.reduced.poly in
    let rows = c.args.reduced.rows in
    let rest = c.left_is_proper.ensures.rest in
    let rows_same = c.into_parts-polygraph.ensures.rows in
    let nodes = ap (λ r. r.nodes) c.in_ok-relation.ensures.relation ∙ c.nodes.ensures.count ∙ ap (λ q. q.nodes) same in
    let known = ap (λ r. r.known) c.in_ok-relation.ensures.relation ∙ ap (λ g. g.edges) rows_same in
    let choices = c.choices-choices.ensures.choices ∙ ap (λ q. q.choices) same in
    let whole = rest_is c.new-layout.result p rows c.in_ok-relation.relation c.variables.result c.choices-choices.result.now _ _ _ _ rest nodes known c.variables.ensures.count choices
    c.new.ensures.items c.new-2.ensures.items c.in_ok-edges.ensures.edges c.in_ok-edges.ensures.counts c.new-layout.ensures.value in
    λ few. subst IsFormula (sym whole) (is_formula p (is_proper p rows rest) (is_listed rows.edges) (is_reach p rows rest) (omega (arith, c.nodes.ensures.few, c.nodes.ensures.count, ap (λ q. q.nodes) same)) (omega (arith, few, ap (λ f. length f.clauses) whole)))

pub returns : goal.returns
returns c =
    let same = c.into_parts-polygraph.ensures.poly in
    let p = c.args.reduced.poly in
    let rows = c.args.reduced.rows in
    let rest = c.left_is_proper.ensures.rest in
    let rows_same = c.into_parts-polygraph.ensures.rows in
    let nodes = ap (λ r. r.nodes) c.in_ok-relation.ensures.relation ∙ c.nodes.ensures.count ∙ ap (λ q. q.nodes) same in
    let known = ap (λ r. r.known) c.in_ok-relation.ensures.relation ∙ ap (λ g. g.edges) rows_same in
    let choices = c.choices-choices.ensures.choices ∙ ap (λ q. q.choices) same in
    let whole = rest_is c.new-layout.result p rows c.in_ok-relation.relation c.variables.result c.choices-choices.result.now _ _ _ _ rest nodes known c.variables.ensures.count choices
    c.new.ensures.items c.new-2.ensures.items c.in_ok-edges.ensures.edges c.in_ok-edges.ensures.counts c.new-layout.ensures.value in
    record {
      formula = IfOk-weaker c.of-2.result _ (λ f. cnf_of f ≡ formula_of_rest c.args.reduced) (λ f e. ap cnf_of e ∙ whole) c.of-2.ensures.formula;
      choices = IfOk-weaker c.of-2.result _ (λ f. f.choices ≡ length c.args.reduced.poly.choices) (λ f e. ap (λ d. d.choices) e ∙ ap length choices) c.of-2.ensures.formula;
      proper = c.left_is_proper.ensures.proper;
      fits = subst (λ g. IfOk c.of-2.result (λ _. size_fault g ≡ None)) whole c.of-2.ensures.fits;
      fault = IfErr-weaker c.of-2.result _ (λ e. IsFault e (size_fault (formula_of_rest c.args.reduced))) (λ e h. inr (sym (ap size_fault whole) ∙ h)) c.of-2.ensures.fault;
    }
