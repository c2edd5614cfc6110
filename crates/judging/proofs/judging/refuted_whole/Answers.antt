use Rattle.judging.proofs.Prelude.{map, None, view}
use Rattle.judging.proofs.Verdicts.{told_whole}
use Rattle.judging.proofs.judging.refuted_whole.Goals as goal

pub smaller-requires-clause-told : goal.smaller-requires-clause-told
smaller-requires-clause-told g c κs within =
    told_whole c.args.means.now.level (map view c.args.sessions.now) (record { part = c.in_ok-part.part; flags = None; finding = c.args.finding }) c.requires.log c.in_ok-part.ensures c.in_ok-part.ensures c.requires.refuted
