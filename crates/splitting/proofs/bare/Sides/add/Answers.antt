use Rattle.splitting.proofs.Prelude.{◌∷◌, ◌++◌, [], sym, ap, ◌∙◌, refl, subst, AreSides}
use Rattle.splitting.proofs.Keys.{has_more}
use Rattle.splitting.proofs.Sides.{own_read, other_read, one_write}
use Rattle.splitting.proofs.bare.Sides.add.Goals as goal

pub returns-in_ok-push-in-Read : goal.returns-in_ok-push-in-Read
returns-in_ok-push-in-Read c ops behind h =
    let s = c.args.self.now in
    let is = c.in_ok-copy.ensures ∙ c.in-Read.is in
    own_read ops behind s (record s { rest = c.push.new.self }) c.in-Read.key c.in-Read.wid (sym c.contains.ensures ∙ c.if-contains.true) refl refl (c.in_ok-push-in-Read.ensures.items ∙ ap (λ o. s.rest.items ++ o ∷ []) is) (subst (λ o. AreSides ops s (o ∷ behind)) c.in-Read.is h)

pub returns-in_ok-push-in-Read-2 : goal.returns-in_ok-push-in-Read-2
returns-in_ok-push-in-Read-2 c ops behind h =
    let s = c.args.self.now in
    let is = c.in_ok-copy.ensures ∙ c.in-Read.is in
    other_read ops behind s (record s { reads = c.push-else-contains.new.self }) c.in-Read.key c.in-Read.wid (sym c.contains.ensures ∙ c.if-contains.false) refl (c.in_ok-push-in-Read-2.ensures.items ∙ ap (λ o. s.reads.items ++ o ∷ []) is) refl (subst (λ o. AreSides ops s (o ∷ behind)) c.in-Read.is h)

pub returns-in_ok-insert-in-Write : goal.returns-in_ok-insert-in-Write
returns-in_ok-insert-in-Write c ops behind h =
    let s = c.args.self.now in
    let is = c.in_ok-copy.ensures ∙ c.in-Write.is in
    one_write ops behind s (record s { written = c.insert.new.self; rest = c.push-in-Write.new.self }) c.in-Write.key c.in-Write.wid (has_more s.written c.insert.new.self c.in-Write.key c.in_ok-insert-in-Write.ensures.updates) refl (c.in_ok-push-in-Write.ensures.items ∙ ap (λ o. s.rest.items ++ o ∷ []) is) (subst (λ o. AreSides ops s (o ∷ behind)) c.in-Write.is h)
