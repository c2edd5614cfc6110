use Rattle.splitting.proofs.Prelude.{◌∷◌, ◌++◌, [], ap, ◌∙◌, Read, Write, lock_by, lists_in, has}
use Rattle.splitting.proofs.Keys.{has_more, was_in, was_not_in}
use Rattle.splitting.proofs.Steps.{write_behind, write_first}
use Rattle.splitting.proofs.halves.Halves.add_write.Goals as goal

pub returns-in_ok-add_lock : goal.returns-in_ok-add_lock
returns-in_ok-add_lock c last ops behind given h =
    let h0 = c.args.self.now in
    let own = c.in_ok-push.ensures.items ∙ ap (λ k. h0.rest.items ++ Write k c.args.wid ∷ []) c.in_ok-to_owned_key.ensures.same in
    let lock = lock_by c.args.names.now c.args.key.now in
    let is = c.in_ok-add_lock.ensures.lists ∙ ap (λ l. record (lists_in h0) { takes = h0.takes.items ++ Write lock c.args.taken_as ∷ []; finds = h0.finds.items ++ Read lock c.args.taken_as ∷ []; rest = l }) own in
    write_first c.args.names.now last ops behind h0 c.add_lock.new.self c.args.key.now c.args.wid c.args.taken_as (was_not_in c.in_ok-insert.field-0 (has h0.written c.args.key.now) c.in_ok-insert.ensures.added c.if-branch.true)
    (λ k. ap (λ w. has w k) c.add_lock.ensures.written ∙ has_more h0.written c.insert.new.self c.args.key.now c.in_ok-insert.ensures.updates k) is given h

pub returns-else-branch : goal.returns-else-branch
returns-else-branch c last ops behind given h =
    let h0 = c.args.self.now in
    let own = c.in_ok-push.ensures.items ∙ ap (λ k. h0.rest.items ++ Write k c.args.wid ∷ []) c.in_ok-to_owned_key.ensures.same in
    write_behind c.args.names.now last ops behind h0 (record h0 { written = c.insert.new.self; rest = c.push.new.self }) c.args.key.now c.args.wid (was_in c.in_ok-insert.field-0 (has h0.written c.args.key.now) c.in_ok-insert.ensures.added c.if-branch.false)
    (has_more h0.written c.insert.new.self c.args.key.now c.in_ok-insert.ensures.updates) (ap (λ l. record (lists_in h0) { rest = l }) own) h
