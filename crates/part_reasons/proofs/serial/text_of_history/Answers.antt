use Rattle.part_reasons.proofs.serial.text_of_history.Goals as goal

pub text_of_decision-requires-clause-decided : goal.text_of_decision-requires-clause-decided
text_of_decision-requires-clause-decided g c = c.in-Ok.ensures.decides
