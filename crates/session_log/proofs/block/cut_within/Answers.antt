use Rattle.session_log.proofs.Prelude.{length, sym, ◌∙◌, eqb-true}
use Rattle.session_log.proofs.Versions.{header_fits, body_behind}
use Rattle.session_log.proofs.Cutting.{no_blocks, empty_fits}
use Rattle.session_log.proofs.block.cut_within.Goals as goal

pub split_at-requires : goal.split_at-requires
split_at-requires c = header_fits c.args.log.now c.header.result.now c.of-version.result c.of-version.ensures c.header.ensures

pub cut_lines-requires-clause-body : goal.cut_lines-requires-clause-body
cut_lines-requires-clause-body c = c.split_at.ensures.back ∙ body_behind c.args.log.now c.header.result.now c.of-version.result c.of-version.ensures c.header.ensures

pub returns-then-is_empty-clause-accepted : goal.returns-then-is_empty-clause-accepted
returns-then-is_empty-clause-accepted c =
    empty_fits c.args.bytes c.args.sessions c.args.log.now c.split_at.result.1.now c.if-log-bytes.false (sym (eqb-true (length c.split_at.result.1.now) 0 (sym c.is_empty.ensures ∙ c.if-is_empty.true))) (c.split_at.ensures.back ∙ body_behind c.args.log.now c.header.result.now c.of-version.result c.of-version.ensures c.header.ensures)

pub returns-then-is_empty-clause-blocks : goal.returns-then-is_empty-clause-blocks
returns-then-is_empty-clause-blocks c =
    c.new.ensures.items ∙ no_blocks c.args.log.now c.split_at.result.1.now (sym (eqb-true (length c.split_at.result.1.now) 0 (sym c.is_empty.ensures ∙ c.if-is_empty.true))) (c.split_at.ensures.back ∙ body_behind c.args.log.now c.header.result.now c.of-version.result c.of-version.ensures c.header.ensures)
