use Rattle.splitting.proofs.Prelude.{◌≡◌, ◌++◌, ap, ◌∙◌, replicate, lock_key}
use Rattle.splitting.proofs.Fresh.{lock_is_key, never_none}
use Rattle.splitting.proofs.names.lock_key.Goals as goal

pub unreachable-requires : goal.unreachable-requires
unreachable-requires c =
    let marks : c.in_ok-bytes.bytes.items ≡ replicate c.args.marks 95 = c.in_ok-bytes.ensures.items_if_clones_equal (λ y e. e) in
    let text = c.deref.ensures.value ∙ c.in_ok-extend_from_slice.ensures.items ∙ ap (λ l. l ++ c.args.name.now) marks in
    never_none c.deref.result.now (lock_key c.args.marks c.args.name.now) c.in_ok-lock.field-0 text (lock_is_key c.args.marks c.args.name.now c.requires.name c.requires.room) c.in_ok-lock.ensures.key c.in-None.is
