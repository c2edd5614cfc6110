use Rattle.session_log.proofs.Prelude.{◌+◌, arith, sym, refl, length, ◌∙◌, eqb-true, lines, Start, Between}
use Rattle.session_log.proofs.Steps.{block_some, block_others, fault_on, step_header, legal_header}
use Rattle.session_log.proofs.Blocks.{start_text, start_legal, end_fault, end_accepted, end_known, end_held, end_text, closed_where}
use Rattle.session_log.specs.declared.parse.LineState.TheVariants as progress
use Rattle.session_log.proofs.parse.parse_lines.Goals as goal

pub next_line-ended-requires : goal.next_line-ended-requires
next_line-ended-requires c = block_some c.args.text.now c.requires.block

pub loop-rest-init : goal.loop-rest-init
loop-rest-init c =
    let body = c.next_line-ended.result.0.now in
    let ended = c.next_line-ended.result.1 in
    let rest = c.next_line-ended.result.2.now in
    let k = c.in_ok-number.number in
    let header = legal_header c.args.version body ended k c.in_ok-number.ensures.number in
    record {
      fault = fault_on c.args.version c.args.first_line Start Between (body, ended) (lines rest) (lines c.args.text.now) c.next_line-ended.ensures.line (step_header c.args.version c.args.first_line (body, ended) k c.in_ok-number.ensures.number);
      text = start_text k (record { txns = c.new.result; progress = progress.Between }) c.args.text.now _ rest c.new.ensures.items refl c.next_line-ended.ensures.text header.0;
      legal = start_legal c.args.version (record { txns = c.new.result; progress = progress.Between }) c.new.ensures.items refl;
      others = block_others (body, ended) (lines rest) (lines c.args.text.now) c.next_line-ended.ensures.line c.requires.block;
      room = omega (arith, c.next_line-ended.ensures.shorter);
    }

pub returns-in-Inside-clause-fault : goal.returns-in-Inside-clause-fault
returns-in-Inside-clause-fault c = end_fault c.args.version (c.loop-rest.n + 1) c.loop-rest.reading c.in-Inside.txn c.loop-rest.rest.now _ c.loop-rest.invariant.fault (sym (eqb-true (length c.loop-rest.rest.now) 0 (sym c.is_empty.ensures ∙ c.loop-rest-test.false))) c.in-Inside.is

pub returns-in-Between : goal.returns-in-Between
returns-in-Between c =
    let k = c.in_ok-number.number in
    let r = c.loop-rest.reading in
    let header = legal_header c.args.version c.next_line-ended.result.0.now c.next_line-ended.result.1 k c.in_ok-number.ensures.number in
    let end = sym (eqb-true (length c.loop-rest.rest.now) 0 (sym c.is_empty.ensures ∙ c.loop-rest-test.false)) in
    let closed = closed_where r.progress c.in-Between.is in
    record {
      accepted = end_accepted c.args.version (c.loop-rest.n + 1) r c.loop-rest.rest.now _ c.loop-rest.invariant.fault end closed;
      legal = record { low = header.1; high = header.2; txns = c.loop-rest.invariant.legal.txns; known = end_known c.args.version r closed c.loop-rest.invariant.legal };
      held = end_held c.args.version r k closed c.loop-rest.invariant.legal;
      text = end_text k r c.args.text.now c.loop-rest.rest.now c.loop-rest.invariant.text end closed;
      fault = tt;
      kind = tt;
    }
