use Rattle.session_history.proofs.Prelude.{sym, ap, ◌∙◌, refl, is_some, nat_eq, ◌++◌, ◌∷◌}
use Rattle.session_history.proofs.Writing.{seen_twice, seen_again, seen_new, taking_new, none_from}
use Rattle.session_history.proofs.writes.Writes.enter.Goals as goal

pub returns-then-is_some-clause-seen : goal.returns-then-is_some-clause-seen
returns-then-is_some-clause-seen c = λ lines h. seen_twice lines _ c.args.self.now (sym c.if-is_some.ensures) h

pub returns-then-is_some-2-clause-seen : goal.returns-then-is_some-2-clause-seen
returns-then-is_some-2-clause-seen c = λ lines h. rw c.in-Write.is
    (seen_again lines c.args.self.now _ c.in-Write.wid (none_from _ _ c.is_some.ensures c.if-is_some.false)
    (ap is_some (sym c.in_ok-old.ensures.old) ∙ sym c.if-is_some-2.ensures) refl h)

pub returns-else-is_some-2-clause-seen : goal.returns-else-is_some-2-clause-seen
returns-else-is_some-2-clause-seen c = λ lines h. rw c.in-Write.is
    (let none = none_from _ _ c.is_some.ensures c.if-is_some.false in
    seen_new lines c.args.self.now _ c.in-Write.wid c.args.self.now.line _ none none
    (ap is_some (sym c.in_ok-old.ensures.old) ∙ sym c.if-is_some-2.ensures) c.in_ok-old.ensures.updates.0 h)

pub returns-else-is_some-2-clause-taken : goal.returns-else-is_some-2-clause-taken
returns-else-is_some-2-clause-taken c = λ txns all front back split h. rw c.in-Write.is
    (taking_new txns c.args.node all front back c.in-Write.key c.in-Write.wid c.args.self.now _ (nat_eq c.last_of.result c.in-Write.wid)
    (split ∙ ap (λ e. front ++ e ∷ back) c.in-Write.is) (none_from _ _ c.is_some.ensures c.if-is_some.false)
    (sym c.in_ok-old.ensures.old ∙ none_from _ _ c.is_some-2.ensures c.if-is_some-2.false) (ap (λ y. nat_eq y c.in-Write.wid) c.last_of.ensures) refl
    c.in_ok-old.ensures.updates.0 h)
