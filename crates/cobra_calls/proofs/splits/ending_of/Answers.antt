use Rattle.cobra_calls.proofs.Prelude.{◌≡◌, refl, subst, sym, IsRefusedBy, no_room_line, by_locks}
use Rattle.split_command.specs.Told.{IsUntold}
use Rattle.cobra_calls.specs.Splits.{by_log, by_device}
use Rattle.cobra_calls.proofs.Failures.{by_line}
use Rattle.cobra_calls.proofs.Usage.{usage_of}
use Rattle.cobra_calls.proofs.splits.ending_of.Goals as goal

pub returns-in-Log-clause-ending : goal.returns-in-Log-clause-ending
returns-in-Log-clause-ending c bytes old new u = let h = subst (IsUntold bytes old new) c.in-Log.is u in by_log c.in-Log.fault h.0 c.refused.ensures.refused h.1

pub returns-in-Log-clause-count : goal.returns-in-Log-clause-count
returns-in-Log-clause-count c before = rw c.in-Log.is (sym (by_line (IsRefusedBy c.args.name.now c.in-Log.fault) 2 before c.refused.result c.refused.ensures.refused))

pub returns-in-Locks-clause-ending : goal.returns-in-Locks-clause-ending
returns-in-Locks-clause-ending c bytes old new u =
    let h = subst (IsUntold bytes old new) c.in-Locks.is u in
    by_locks c.in-Locks.why h.0 (usage_of c.no_room_line.result (no_room_line c.args.name.now c.in-Locks.why) c.usage.result c.no_room_line.ensures.line c.usage.ensures.told) h.1

pub returns-in-Locks-clause-count : goal.returns-in-Locks-clause-count
returns-in-Locks-clause-count c before =
    let line = no_room_line c.args.name.now c.in-Locks.why in
    rw c.in-Locks.is (sym (by_line (λ l. l ≡ line) 2 before c.usage.result (usage_of c.no_room_line.result line c.usage.result c.no_room_line.ensures.line c.usage.ensures.told)))

pub returns-in-Output-clause-ending : goal.returns-in-Output-clause-ending
returns-in-Output-clause-ending c bytes old new u = let h = subst (IsUntold bytes old new) c.in-Output.is u in by_device c.in-Output.written h refl

pub returns-in-Output-clause-count : goal.returns-in-Output-clause-count
returns-in-Output-clause-count c before = rw c.in-Output.is refl
