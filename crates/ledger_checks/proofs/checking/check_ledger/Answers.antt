use Rattle.ledger_checks.proofs.Prelude.{◌∙◌, [], sym, ap, refl, subst, false≢true, are_shown_by, is_cycle_by, edges_kept, HasEdges}
use Rattle.ledger_checks.proofs.Held.{ledger_shown, shown_ledger, cycle_of, of_cycle}
use Rattle.ledger_checks.proofs.checking.check_ledger.Goals as goal

pub returns-then-not-are_shown : goal.returns-then-not-are_shown
returns-then-not-are_shown c =
    let p = c.args.polygraph.now in
    let is = c.are_shown.ensures.shown ∙ ap (are_shown_by p []) c.deref.ensures.value in
    ((λ t. absurd (false≢true t)), (λ v. sym c.if-not-are_shown.true ∙ is ∙ shown_ledger p c.args.ledger.now.entries.items v.shown))

pub returns-in-Some : goal.returns-in-Some
returns-in-Some c =
    let p = c.args.polygraph.now in let entries = c.args.ledger.now.entries.items in
    let is = c.are_shown.ensures.shown ∙ ap (are_shown_by p []) c.deref.ensures.value in
    let kept = subst (λ l. HasEdges c.are_shown.new.kept (edges_kept p l)) c.deref.ensures.value (c.are_shown.ensures.kept c.if-not-are_shown.false) in
    let cycle = c.is_cycle.ensures entries kept ∙ ap (is_cycle_by p entries) c.deref-in-Some.ensures.value in (
      (λ t. (record {
        shown = ledger_shown p entries (sym is ∙ c.if-not-are_shown.false);
        cycle = rw c.in-Some.is (cycle_of p entries c.in-Some.line.items (sym cycle ∙ t));
      })),
      (λ v. cycle ∙ of_cycle p entries c.in-Some.line.items (rw c.in-Some.is at v.cycle)),
    )

pub returns-in-None : goal.returns-in-None
returns-in-None c =
    let p = c.args.polygraph.now in
    let is = c.are_shown.ensures.shown ∙ ap (are_shown_by p []) c.deref.ensures.value in (
      (λ t. (record {
        shown = ledger_shown p c.args.ledger.now.entries.items (sym is ∙ c.if-not-are_shown.false);
        cycle = rw c.in-None.is tt;
      })),
      (λ v. refl),
    )
