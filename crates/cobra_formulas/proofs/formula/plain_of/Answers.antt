use Rattle.cobra_formulas.proofs.Prelude.{sym, ◌∙◌, clean_log, none_serial, cnf_of}
use Rattle.cobra_formulas.proofs.Plain.{faithful_plain}
use Rattle.cobra_formulas.proofs.Reduced.{contradicted_faithful, plain_is_answer}
use Rattle.cobra_formulas.proofs.formula.plain_of.Goals as goal

pub plain_formula-requires : goal.plain_formula-requires
plain_formula-requires c = record { clean = clean_log c.args.history.now c.committed.ensures.well_formed (sym c.in_ok-anomaly.ensures.anomaly ∙ c.in-None.is) }

pub returns-in-Some-clause-faithful : goal.returns-in-Some-clause-faithful
returns-in-Some-clause-faithful c =
    contradicted_faithful c.args.history.now c.contradicted.result c.committed.ensures.well_formed
    (record { none = none_serial c.args.history.now c.committed.ensures.well_formed c.in-Some.anomaly (sym c.in_ok-anomaly.ensures.anomaly ∙ c.in-Some.is) })
    c.contradicted.ensures.formula

pub returns-in_ok-formula-in-None-clause-faithful : goal.returns-in_ok-formula-in-None-clause-faithful
returns-in_ok-formula-in-None-clause-faithful c =
    faithful_plain c.args.history.now c.committed.ensures.well_formed (cnf_of c.in_ok-formula-in-None.formula)
    (c.in_ok-formula-in-None.ensures.formula ∙ plain_is_answer c.args.history.now (sym c.in_ok-anomaly.ensures.anomaly ∙ c.in-None.is))
