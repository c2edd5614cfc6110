use Rattle.dimacs.proofs.Prelude.{◌∙◌, ap, length, arith, refl, err_from_is_err_and, cnf_of}
use Rattle.dimacs.proofs.Sendings.{begun, one_clause, no_clause, all_out}
use Rattle.dimacs.proofs.write.write_formula.Goals as goal

pub loop-clause-init : goal.loop-clause-init
loop-clause-init g c =
    let items = c.into_iter-clause-iterator.ensures.into_iter_gives ∙ c.clauses-clause-items.ensures.items in
    let header = ap length c.new-piece.ensures in
    record {
      way = begun _ (cnf_of c.args.formula.now) _ _ _ _ _ c.push_header.ensures.text c.new-piece.ensures c.vars.ensures.count c.count.ensures.count items;
      bound = omega (arith, c.push_header.ensures.short, header, ap length items);
      sound = refl;
    }

pub returns-in_err-written-clause-err : goal.returns-in_err-written-clause-err
returns-in_err-written-clause-err g c =
    let p = err_from_is_err_and c.from_residual.result c.from_residual.ensures.1 in
    let cut = c.in_err-written.ensures.went _ _ _ c.loop-clause.invariant.way in
    rw (p.1, p.2) (cut.within, cut.out)

pub loop-clause-preserved : goal.loop-clause-preserved
loop-clause-preserved g c =
    let roomy = c.in_ok-written.ensures.went _ _ _ c.loop-clause.invariant.way in
    record {
      way = one_clause _ _ _ _ _ _ _ _ _ c.in-Some.ensures.steps c.push_clause.ensures.text roomy;
      bound = omega (arith, ap length c.in-Some.ensures.steps, c.push_clause.ensures.short, c.in_ok-written.ensures.kept, c.loop-clause.invariant.bound);
      sound = rw c.in_ok-written.ensures.count c.loop-clause.invariant.sound;
    }

pub returns-in_err-flush-clause-err : goal.returns-in_err-flush-clause-err
returns-in_err-flush-clause-err g c =
    let p = err_from_is_err_and c.from_residual-in_err-flush.result c.from_residual-in_err-flush.ensures.1 in
    let cut = c.in_err-flush.ensures.went _ _ _ c.loop-clause.invariant.way in
    rw (p.1, p.2) (cut.within, cut.out)

pub returns-clause-ok : goal.returns-clause-ok
returns-clause-ok g c =
    let way = no_clause _ _ _ _ _ _ c.in-None.ensures.steps.0 c.loop-clause.invariant.way in
    all_out _ _ _ _ _ c.in_ok-flush.ensures.empty (c.in_ok-flush.ensures.went _ _ _ way)
