use Rattle.splitting.proofs.Steps.{comes_first, lists}
use Rattle.splitting.proofs.halves.Halves.empty.Goals as goal

pub returns : goal.returns
returns c names last ops =
    comes_first (record { written = c.new.result; reads = c.new-2.result; takes = c.new-3.result; finds = c.new-4.result; rest = c.new-5.result }) c.new.ensures.empty (lists c.new-2.ensures.items c.new-3.ensures.items c.new-4.ensures.items c.new-5.ensures.items) names last ops
