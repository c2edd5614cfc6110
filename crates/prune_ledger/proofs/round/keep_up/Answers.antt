use Rattle.prune_ledger.proofs.KeptUp.{extends_more}
use Rattle.prune_ledger.proofs.round.keep_up.Goals as goal

pub returns-then-is_entered-clause-more : goal.returns-then-is_entered-clause-more
returns-then-is_entered-clause-more c = extends_more c.args.own.now c.add_all.new.self c.edges.result.now c.add_all.ensures.edges
