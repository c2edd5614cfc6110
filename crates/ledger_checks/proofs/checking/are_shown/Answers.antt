use Rattle.ledger_checks.proofs.Prelude.{◌∙◌, ◌+◌, ◌&&◌, take, drop, refl, sym, ap, are_shown_by, edges_kept}
use Rattle.ledger_checks.proofs.Held.{shown_step}
use Rattle.ledger_checks.proofs.KeptBits.{kept_more}
use Rattle.ledger_checks.proofs.checking.are_shown.Goals as goal

pub loop-entry-init : goal.loop-entry-init
unfolding edges_kept
loop-entry-init c = record { shown = refl; kept = c.requires.empty }

pub loop-entry-preserved : goal.loop-entry-preserved
loop-entry-preserved c =
    let p = c.args.polygraph.now in let entries = c.args.entries.now in let k = c.loop-entry.entry-index in let x = c.entry-item.result in
    let rest = are_shown_by p (take (k + 1) entries) (drop (k + 1) entries) in
    let here = c.is_shown.ensures (take k entries) c.loop-entry.invariant.kept in
    record {
      shown = sym (shown_step p entries k x c.loop-entry-test.true c.entry-item.is ∙ ap (λ b. b && rest) (sym here ∙ c.if-not-is_shown.false)) ∙ c.loop-entry.invariant.shown;
      kept = kept_more p c.loop-entry.kept c.add_kept.new.kept entries k x c.loop-entry-test.true c.entry-item.is c.loop-entry.invariant.kept c.add_kept.ensures;
    }
