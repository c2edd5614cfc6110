use Rattle.write_chains.proofs.Prelude.{ℕ, length, length-append, sym, ap, ◌∙◌, subst, arith, eqb-true, AllByRecursion, eqb-false, All-from_recursion, log_of, IsOpen}
use Rattle.session_history.proofs.Kept.{no_ops_at_zero}
use Rattle.write_chains.proofs.Backwards.{alone, none_at_zero, stepped, came_back, line_short, all_open, writer_open}
use Rattle.write_chains.proofs.closed.walk_back.Goals as goal

pub loop-source-init : goal.loop-source-init
loop-source-init c =
    let w = c.requires.writer in
    alone (log_of c.args.history.now) c.args.key c.args.writer c.in_ok-line.line.items (record { low = w.0; high = w.1; writer = w.2 }) c.in_ok-line.ensures.items

pub returns-then-eq-clause-closed : goal.returns-then-eq-clause-closed
returns-then-eq-clause-closed c =
    let log = log_of c.args.history.now in
    let x = c.args.key in
    came_back log x c.args.writer c.loop-source.first c.in-Some.source c.loop-source.line.items c.push.new.self.items c.reverse.new.self.items (none_at_zero log x (no_ops_at_zero c.args.history.now))
    c.loop-source.invariant c.in-Some.ensures.source (eqb-true c.in-Some.source c.args.writer (sym c.eq.ensures ∙ c.if-eq.true)) c.in_ok-push.ensures.items c.reverse.ensures.items

pub loop-source-smaller : goal.loop-source-smaller
loop-source-smaller c =
    let short = line_short (log_of c.args.history.now) c.args.key c.args.writer c.loop-source.first c.loop-source.line.items c.loop-source.invariant in
    let more = ap length c.in_ok-push.ensures.items in
    omega (arith, short, more, length-append {A = ℕ})

pub loop-source-preserved : goal.loop-source-preserved
loop-source-preserved c =
    let log = log_of c.args.history.now in
    let x = c.args.key in
    stepped log c.requires.clean x c.args.writer c.loop-source.first c.in-Some.source c.loop-source.line.items c.push.new.self.items (none_at_zero log x (no_ops_at_zero c.args.history.now))
    c.loop-source.invariant c.in-Some.ensures.source (eqb-false c.in-Some.source c.args.writer (sym c.eq.ensures ∙ c.if-eq.false)) c.in_ok-push.ensures.items

pub returns-clause-marks : goal.returns-clause-marks
returns-clause-marks c =
    let log = log_of c.args.history.now in
    let x = c.args.key in
    let first : IsOpen log x c.loop-source.first = c.in_default.ensures.source in
    let each = all_open log x c.args.writer c.loop-source.first c.loop-source.line.items c.loop-source.invariant first in
    c.mark.ensures.marks log x c.requires.marks (All-from_recursion (IsOpen log x) c.deref.result.now (subst (AllByRecursion (IsOpen log x)) (sym c.deref.ensures.value) each))

pub returns-clause-is_open : goal.returns-clause-is_open
returns-clause-is_open c =
    let log = log_of c.args.history.now in
    let x = c.args.key in
    writer_open log x c.args.writer c.loop-source.first c.loop-source.line.items c.loop-source.invariant c.in_default.ensures.source
