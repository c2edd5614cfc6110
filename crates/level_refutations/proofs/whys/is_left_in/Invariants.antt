use Rattle.level_refutations.proofs.Prelude.{◌≡◌, map, drop, list_any, enumerate_from, view, is_left_by, is_left_in}
use Rattle.level_refutations.proofs.whys.is_left_in.Given as goal

abbrev pub invariant-loop-i : goal.invariant-loop-i
invariant-loop-i l = list_any (is_left_by l.own l.key l.wid) (enumerate_from l.i (map view (drop l.i l.sessions))) ≡ is_left_in l.own l.key l.wid (map view l.sessions)
