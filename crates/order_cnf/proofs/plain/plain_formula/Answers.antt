use Rattle.order_cnf.proofs.Prelude.{◌≡◌, None, subst, arith, IfOk, IfErr, cnf_of, IsFault}
use Rattle.log_definitions.specs.Numbers.{log_of}
use Rattle.order_cnf.proofs.PlainFormula.{made_plain, plain_same, size_is}
use Rattle.order_cnf.proofs.plain.plain_formula.Goals as goal

pub formula_of-requires : goal.formula_of-requires
formula_of-requires c =
    let log = log_of c.args.history.now in
    record {
      plain = made_plain log c.in_ok-polygraph.polygraph c.requires.clean (omega (arith, c.if-committed-gt-MAX_PLAIN_NODES.false, c.committed.ensures.count)) c.in_ok-polygraph.ensures.polygraph;
    }

pub returns-clause-formula : goal.returns-clause-formula
returns-clause-formula c =
    let same = plain_same (log_of c.args.history.now) c.in_ok-polygraph.polygraph c.in_ok-polygraph.ensures.polygraph in
    subst (λ g. IfOk c.formula_of.result (λ f. cnf_of f ≡ g)) same c.formula_of.ensures.formula

pub returns-clause-fits : goal.returns-clause-fits
returns-clause-fits c =
    let log = log_of c.args.history.now in
    let fault = size_is log c.in_ok-polygraph.polygraph c.in_ok-polygraph.ensures.polygraph (omega (arith, c.if-committed-gt-MAX_PLAIN_NODES.false, c.committed.ensures.count)) c.in_ok-polygraph.ensures.few in
    subst (λ o. IfOk c.formula_of.result (λ _. o ≡ None)) fault c.formula_of.ensures.fits

pub returns-clause-fault : goal.returns-clause-fault
returns-clause-fault c =
    let log = log_of c.args.history.now in
    let fault = size_is log c.in_ok-polygraph.polygraph c.in_ok-polygraph.ensures.polygraph (omega (arith, c.if-committed-gt-MAX_PLAIN_NODES.false, c.committed.ensures.count)) c.in_ok-polygraph.ensures.few in
    subst (λ o. IfErr c.formula_of.result (λ e. IsFault e o)) fault c.formula_of.ensures.fault
