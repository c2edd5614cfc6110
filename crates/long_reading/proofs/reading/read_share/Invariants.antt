use Rattle.long_reading.proofs.Prelude.{map, take, view, AreRead}
use Rattle.long_reading.proofs.reading.read_share.Given as goal

abbrev pub invariant-loop-block : goal.invariant-loop-block
invariant-loop-block l = AreRead l.log (take l.block-index l.blocks) (map view l.sessions.items)
