use Rattle.long_reading.proofs.Prelude.{get_or, map, subst, Contains, err_from_is_err_and, view, IsHeldBy, blocks_of, Block, block_version}
use Rattle.list_lemmas.proofs.Each.{each_at_index}
use Rattle.session_log.specs.declared.version.Version.TheVariants.{One}
use Rattle.long_reading.proofs.Read.{one_read, one_refused}
use Rattle.long_reading.proofs.reading.read_share.Goals as goal

pub parse_block-requires : goal.parse_block-requires
parse_block-requires c = each_at_index (Contains (blocks_of c.args.log.now)) c.args.blocks.now c.loop-block.block-index _ c.requires c.loop-block-test.true

pub returns-in_err-parse_block : goal.returns-in_err-parse_block
returns-in_err-parse_block c =
    let e = err_from_is_err_and c.from_residual-in_err-parse_block.result c.from_residual-in_err-parse_block.ensures.1 in
    rw (e.1, e.2) (one_refused c.args.log.now c.args.blocks.now c.loop-block.block-index _ (map view c.loop-block.sessions.items) c.in_err-parse_block.field-0.0 c.loop-block-test.true c.loop-block.invariant c.in_err-parse_block.ensures.fault)

pub loop-block-preserved : goal.loop-block-preserved
loop-block-preserved c =
    let log = c.args.log.now in
    let blocks = c.args.blocks.now in
    let i = c.loop-block.block-index in
    let s = c.in_ok-parse_block.field-0 in
    let none : Block = record { version = One; start = 0; stop = 0; line = 0 } in
    let member = each_at_index (Contains (blocks_of log)) blocks i none c.requires c.loop-block-test.true in
    one_read log blocks i none c.loop-block.sessions.items c.push.new.self.items s c.loop-block-test.true c.loop-block.invariant c.in_ok-push.ensures.items c.in_ok-parse_block.ensures.accepted c.in_ok-parse_block.ensures.legal
    (subst (λ v. IsHeldBy v (view s)) (block_version log (get_or blocks i none) member) c.in_ok-parse_block.ensures.held) c.in_ok-parse_block.ensures.text
