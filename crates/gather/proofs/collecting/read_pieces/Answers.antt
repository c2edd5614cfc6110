use Rattle.std.proofs.lemmas.Result.{IfOk-weaker}
use Rattle.gather.specs.Steps.{opening_state}
use Rattle.gather.specs.Kept.{AreKept, ArePieces}
use Rattle.gather.proofs.Legal.{kept_pieces}
use Rattle.gather.proofs.collecting.read_pieces.Goals as goal

pub returns-clause-pieces : goal.returns-clause-pieces
returns-clause-pieces g c =
    let history = c.in_ok-history.history.items in
    IfOk-weaker c.by_block.result
    (λ found. AreKept history found.items)
    (λ found. ArePieces c.args.log.now found.items)
    (λ found kept k p at. kept_pieces (opening_state c.args.log.now) history c.in_ok-history.ensures k p (kept k p at))
    c.by_block.ensures.kept
