use Rattle.desk.proofs.Prelude.{length, sym, ap, ◌∙◌, subst, AreNamed}
use Rattle.desk.proofs.Seating.{length-names_of}
use Rattle.desk.proofs.desk.Desk.open.Goals as goal

pub named_seats-requires : goal.named_seats-requires
named_seats-requires g c =
    subst (λ names. AreNamed names c.opened.inside.seats.items) (ap (λ v. v.names) c.opened.view_is ∙ sym c.requires.names) c.opened.invariant.3.2

pub invariant_of-desk : goal.invariant_of-desk
invariant_of-desk g c =
    let o = c.opened.inside.rows.ok in let n = length-names_of c.opened.inside.rows.items in let s = c.opened.invariant.4 in
    let same = ap (λ v. length v.names) c.opened.view_is in let named = ap length c.requires.names in (s ∙ o.0 ∙ sym n ∙ same ∙ sym named, c.opened.invariant.5 ∙ ap (λ v. v.desk) c.opened.view_is ∙ sym c.requires.desk)

pub returns-clause-count : goal.returns-clause-count
returns-clause-count g c = c.in_ok-seats.ensures.1 ∙ c.opened.invariant.3.0 ∙ sym (length-names_of c.opened.inside.rows.items) ∙ ap (λ v. length v.names) c.opened.view_is
