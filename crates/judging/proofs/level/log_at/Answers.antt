use Rattle.judging.proofs.Prelude.{◌∷◌, map, view, Apart-from_IsDistinct, IsDistinct-from_Apart, ops_in, written}
use Rattle.judging.proofs.level.log_at.Goals as goal

pub split-requires : goal.split-requires
split-requires c =
    let ops = written (ops_in (map view c.args.sessions.now)) in
    let all = Apart-from_IsDistinct (0 ∷ ops) c.requires.log.sound.writes in
    IsDistinct-from_Apart ops all.1
