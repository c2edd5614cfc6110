use Rattle.judging.proofs.Prelude.{map, view}
use Rattle.judging.proofs.Verdicts.{of_each, made_if_ok}
use Rattle.judging.proofs.whole.judge_known_log.Goals as goal

pub returns : goal.returns
returns g c =
    let ss = map view c.args.sessions.now in
    record {
      verdict = of_each c.args.means.now ss c.judge_anew.result c.judge_anew.ensures;
      made = made_if_ok c.args.means.now ss c.judge_anew.result c.requires.log c.judge_anew.ensures;
    }
