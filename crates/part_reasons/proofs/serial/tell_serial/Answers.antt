use Rattle.part_reasons.proofs.Prelude.{map, inl, inr, subst, MatchOption, Option, Vec, ℕ, IfOk-weaker, Global, view, first_line, table_of, Tells, IsTooLarge}
use Rattle.part_reasons.proofs.serial.tell_serial.Goals as goal

pub returns-in-Some : goal.returns-in-Some
returns-in-Some g c =
    let known = map view c.args.sessions.now in
    let part = map view c.args.refuted.now.part.items in
    let table = table_of (first_line c.args.version) known c.args.refuted.now.flags in
    let P : Option (Vec ℕ Global) → Type 0 = λ o. MatchOption o (IsTooLarge known part) (λ text. Tells c.args.format c.args.means.now.budget part table text.items) in
    record { told = inr (subst P c.in-Some.is c.in_ok-text.ensures.told) }

pub returns-in-None : goal.returns-in-None
returns-in-None g c =
    let known = map view c.args.sessions.now in
    let part = map view c.args.refuted.now.part.items in
    let table = table_of (first_line c.args.version) known c.args.refuted.now.flags in
    let P : Option (Vec ℕ Global) → Type 0 = λ o. MatchOption o (IsTooLarge known part) (λ text. Tells c.args.format c.args.means.now.budget part table text.items) in
    record { told = IfOk-weaker c.untold.result _ _ (λ text e. inl (e, subst P c.in-None.is c.in_ok-text.ensures.told)) c.untold.ensures.told }
