use Rattle.cobra_cli.proofs.Prelude.{subst, IsAnswer, cnf_of, belongs_so, Unknown, unsatisfiable, unknown, unchecked_text, unknown_text}
use Rattle.dimacs.specs.declared.answer.SolverAnswer.{SolverAnswer}
use Rattle.dimacs.specs.declared.status.Status.TheVariants as claim
use Rattle.cobra_cli.proofs.Answering.{answer_to, decoding_is}
use Rattle.cobra_cli.proofs.decoding.decode_answer.Goals as goal

pub returns-in-Unsatisfiable-clause-decoded : goal.returns-in-Unsatisfiable-clause-decoded
returns-in-Unsatisfiable-clause-decoded g c =
    let says = subst (λ (s : SolverAnswer). IsAnswer c.vars.result c.args.answer.now s) c.in-Unsatisfiable.is c.in_ok-values.ensures.answer in
    decoding_is c.args.options.now.plain c.args.answer.now c.args.history.now _ Unknown _ unchecked_text c.in_ok-fixed-in-Unsatisfiable.ensures.status c.in_ok-fixed-in-Unsatisfiable.ensures.text
    (unsatisfiable (cnf_of c.in_ok-belonging.belonging.formula)
    (answer_to c.args.options.now.plain c.args.answer.now c.args.history.now (cnf_of c.in_ok-belonging.belonging.formula) c.vars.result claim.Unsatisfiable c.vars.ensures.count
    (belongs_so c.args.options.now.plain c.args.history.now c.in_ok-belonging.belonging.basis (cnf_of c.in_ok-belonging.belonging.formula) c.in_ok-belonging.ensures.made) c.in_ok-values.ensures.accepted says))

pub returns-clause-decoded : goal.returns-clause-decoded
returns-clause-decoded g c =
    let says = subst (λ (s : SolverAnswer). IsAnswer c.vars.result c.args.answer.now s) c.in-Unknown.is c.in_ok-values.ensures.answer in
    decoding_is c.args.options.now.plain c.args.answer.now c.args.history.now _ Unknown _ unknown_text c.in_ok-fixed-in-Unknown.ensures.status c.in_ok-fixed-in-Unknown.ensures.text
    (unknown (cnf_of c.in_ok-belonging.belonging.formula)
    (answer_to c.args.options.now.plain c.args.answer.now c.args.history.now (cnf_of c.in_ok-belonging.belonging.formula) c.vars.result claim.Unknown c.vars.ensures.count
    (belongs_so c.args.options.now.plain c.args.history.now c.in_ok-belonging.belonging.basis (cnf_of c.in_ok-belonging.belonging.formula) c.in_ok-belonging.ensures.made) c.in_ok-values.ensures.accepted says))
