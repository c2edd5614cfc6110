use Rattle.judging.proofs.Prelude.{map, view}
use Rattle.judging.proofs.Verdicts.{of_each, made_if_ok}
use Rattle.judging.proofs.judging.judge.Goals as goal

pub returns : goal.returns
returns g c =
    let ss = map view c.args.sessions.now in
    record {
      verdict = of_each c.args.means.now ss c.judge_known.result c.judge_known.ensures;
      made = made_if_ok c.args.means.now ss c.judge_known.result c.requires.log c.judge_known.ensures;
    }
