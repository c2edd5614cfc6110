use Rattle.cobra_calls.proofs.Prelude.{refl, subst, sym, IsRefusedBy, by_device}
use Rattle.census_command.specs.Told.{IsUntold}
use Rattle.cobra_calls.specs.Censuses.{by_log}
use Rattle.cobra_calls.proofs.Failures.{by_line}
use Rattle.cobra_calls.proofs.censuses.ending_of.Goals as goal

pub returns-in-Log-clause-ending : goal.returns-in-Log-clause-ending
returns-in-Log-clause-ending c bytes old new u = let h = subst (IsUntold bytes old new) c.in-Log.is u in by_log c.in-Log.fault h.0 c.refused.ensures.refused h.1

pub returns-in-Log-clause-count : goal.returns-in-Log-clause-count
returns-in-Log-clause-count c before = rw c.in-Log.is (sym (by_line (IsRefusedBy c.args.name.now c.in-Log.fault) 2 before c.refused.result c.refused.ensures.refused))

pub returns-in-Output-clause-ending : goal.returns-in-Output-clause-ending
returns-in-Output-clause-ending c bytes old new u = let h = subst (IsUntold bytes old new) c.in-Output.is u in by_device c.in-Output.written h refl

pub returns-in-Output-clause-count : goal.returns-in-Output-clause-count
returns-in-Output-clause-count c before = rw c.in-Output.is refl
