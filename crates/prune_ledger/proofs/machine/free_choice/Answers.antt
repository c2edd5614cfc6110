use Rattle.prune_ledger.proofs.Marks.{free_past}
use Rattle.prune_ledger.proofs.machine.free_choice.Goals as goal

pub loop-k-init : goal.loop-k-init
loop-k-init c = free_past c.args.cursor c.args.marks.now c.requires.past
