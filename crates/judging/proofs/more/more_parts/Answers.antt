use Rattle.judging.proofs.Prelude.{map, view}
use Rattle.judging.proofs.Verdicts.{each_if_ok}
use Rattle.judging.proofs.more.more_parts.Goals as goal

pub returns : goal.returns
returns g c = record {
  told = each_if_ok c.args.means.now.level (map view c.args.sessions.now) c.more_of_known.result c.more_of_known.ensures.told;
  at_most = c.more_of_known.ensures.at_most;
}
