use Rattle.splitting.proofs.Prelude.{◌∷◌, ◌++◌, [], sym, ap, ◌∙◌, refl, Read, lists_in}
use Rattle.splitting.proofs.Steps.{read_behind, read_before}
use Rattle.splitting.proofs.halves.Halves.add_read.Goals as goal

pub returns-in_ok-push : goal.returns-in_ok-push
returns-in_ok-push c names last ops behind h =
    let h0 = c.args.self.now in
    let own = c.in_ok-push.ensures.items ∙ ap (λ k. h0.rest.items ++ Read k c.args.wid ∷ []) c.in_ok-to_owned_key.ensures.same in
    read_behind names last ops behind h0 (record h0 { rest = c.push.new.self }) c.args.key.now c.args.wid (sym c.contains.ensures ∙ c.if-contains.true) refl (ap (λ l. record (lists_in h0) { rest = l }) own) h

pub returns-in_ok-push-2 : goal.returns-in_ok-push-2
returns-in_ok-push-2 c names last ops behind h =
    let h0 = c.args.self.now in
    let own = c.in_ok-push-2.ensures.items ∙ ap (λ k. h0.reads.items ++ Read k c.args.wid ∷ []) c.in_ok-to_owned_key.ensures.same in
    read_before names last ops behind h0 (record h0 { reads = c.push-else-contains.new.self }) c.args.key.now c.args.wid (sym c.contains.ensures ∙ c.if-contains.false) refl (ap (λ l. record (lists_in h0) { reads = l }) own) h
