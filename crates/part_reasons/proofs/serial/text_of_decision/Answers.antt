use Rattle.part_reasons.proofs.Prelude.{sym, ◌∙◌, IfOk-weaker, of_told, of_searched}
use Rattle.part_reasons.proofs.serial.text_of_decision.Goals as goal

pub returns-then-is_told : goal.returns-then-is_told
returns-then-is_told c = record {
  told = IfOk-weaker c.text_of_told.result _ _ (λ text told. of_told c.args.decision.now c.requires.decided (sym c.is_told.ensures ∙ c.if-is_told.true) told) c.text_of_told.ensures.told;
}

pub returns-else-is_told : goal.returns-else-is_told
returns-else-is_told c = record {
  told = IfOk-weaker c.text_of_search.result _ _ (λ text e. of_searched c.args.decision.now c.requires.decided (sym c.is_told.ensures ∙ c.if-is_told.false) e) c.text_of_search.ensures.told;
}
