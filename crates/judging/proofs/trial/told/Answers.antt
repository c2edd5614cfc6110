use Rattle.judging.proofs.Prelude.{map, Some, sym, subst, view, IsPart, flags_view, HasOrderAt, IsUndecidedBy, IsFound}
use Rattle.judging.proofs.Parts.{chosen_part}
use Rattle.judging.proofs.Verdicts.{told_by_part}
use Rattle.judging.proofs.trial.told.Goals as goal

pub returns-in-Refuted : goal.returns-in-Refuted
returns-in-Refuted c m ss log made found =
    let flags = flags_view c.args.flags.items in
    told_by_part m.level ss (record { part = c.args.part; flags = Some c.args.flags; finding = c.in-Refuted.finding }) log (subst (IsPart ss) (sym made) (chosen_part ss flags log)) made
    (subst (IsFound m (map view c.args.part.items)) c.in-Refuted.is found)

pub returns-in-Serial : goal.returns-in-Serial
returns-in-Serial c m ss log made found =
    let order = subst (IsFound m (map view c.args.part.items)) c.in-Serial.is found in
    subst (HasOrderAt m.level) made order.has

pub returns-in-Undecided : goal.returns-in-Undecided
returns-in-Undecided c m ss log made found =
    subst (λ l. IsUndecidedBy m l c.in-Undecided.why) made (subst (IsFound m (map view c.args.part.items)) c.in-Undecided.is found)
