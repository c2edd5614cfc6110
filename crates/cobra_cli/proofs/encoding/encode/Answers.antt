use Rattle.cobra_cli.proofs.Prelude.{err_from_is_err_and, text_of, cnf_of, Done, by_log, by_command, IsEncoding, HasNoFormula, told_all, cut_all, keeps}
use Rattle.cobra_answers.specs.declared.fault.Fault.TheVariants as fault
use Rattle.cobra_cli.proofs.Answering.{encoding_of}
use Rattle.cobra_cli.proofs.encoding.encode.Goals as goal

pub returns-in_err-history-clause-refused : goal.returns-in_err-history-clause-refused
returns-in_err-history-clause-refused g c =
    let p = err_from_is_err_and c.from_residual.result c.from_residual.ensures.1 in
    rw (p.1, p.2) (by_log c.in_err-history.field-0.0 c.in_err-history.ensures.refused (keeps _))

pub returns-in_err-belonging-clause-refused : goal.returns-in_err-belonging-clause-refused
returns-in_err-belonging-clause-refused g c =
    let p = err_from_is_err_and c.from_residual-in_err-belonging.result c.from_residual-in_err-belonging.ensures.1 in
    rw (p.1, p.2) (by_command (fault.Formula c.in_err-belonging.field-0.0) c.in_ok-history.history c.in_ok-history.ensures.accepted c.in_err-belonging.ensures.fault (keeps _))

pub returns-clause-told : goal.returns-clause-told
returns-clause-told g c =
    told_all (IsEncoding c.args.options.now.plain) c.args.log.now c.in_ok-history.history _ _ Done (text_of (cnf_of c.in_ok-belonging.belonging.formula)) c.tell_formula.result
    c.in_ok-history.ensures.accepted
    (encoding_of c.args.options.now.plain c.in_ok-history.history c.in_ok-belonging.belonging.basis (cnf_of c.in_ok-belonging.belonging.formula) c.in_ok-belonging.ensures.made c.in_ok-belonging.ensures.faithful)
    c.tell_formula.ensures.status c.tell_formula.ensures.told

pub returns-clause-refused : goal.returns-clause-refused
returns-clause-refused g c =
    cut_all (IsEncoding c.args.options.now.plain) (HasNoFormula c.args.options.now.plain) c.args.log.now c.in_ok-history.history _ _ Done (text_of (cnf_of c.in_ok-belonging.belonging.formula)) c.tell_formula.result
    c.in_ok-history.ensures.accepted
    (encoding_of c.args.options.now.plain c.in_ok-history.history c.in_ok-belonging.belonging.basis (cnf_of c.in_ok-belonging.belonging.formula) c.in_ok-belonging.ensures.made c.in_ok-belonging.ensures.faithful)
    c.tell_formula.ensures.cut
