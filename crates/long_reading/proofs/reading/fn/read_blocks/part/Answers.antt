use Rattle.long_reading.proofs.Prelude.{List, map, MatchResult, subst, view, IsFault, blocks_of, Block, AreRead, fault_of_blocks}
use Rattle.long_reading.proofs.Read.{part_is, part_within}
use Rattle.long_reading.proofs.reading.fn.read_blocks.part.Goals as goal

pub read_share-requires : goal.read_share-requires
read_share-requires c = part_within (blocks_of c.captures.log.now) c.captures.parts.now c.args.worker _ c.requires.0 c.requires.1

pub returns : goal.returns
returns c = λ blocks at.
    let P : List Block → Type 0 = λ bs. MatchResult c.read_share.result (λ ss. AreRead c.captures.log.now bs (map view ss.items)) (λ f. IsFault f (fault_of_blocks c.captures.log.now bs)) in
    subst P (part_is c.captures.parts.now c.args.worker _ blocks at) c.read_share.ensures
