use Rattle.judging.proofs.Prelude.{◌+◌, ◌++◌, ◌∷◌, [], List, Vec, Bool, sym, ap, ◌∙◌, drop, Global, drop_all, map-append, append_assoc, flags_view}
use Rattle.list_lemmas.proofs.Lists.{append_none}
use Rattle.list_lemmas.proofs.Elements.{get_drop, item}
use Rattle.judging.proofs.flags.copy_flags.Goals as goal

pub loop-list-preserved : goal.loop-list-preserved
loop-list-preserved c =
    let flags = c.args.flags.now in
    let i = c.loop-list.list-index in
    let list = c.list-item.result in
    let copy = c.loop-list.copy.items in
    let own = c.in_ok-copy_list.field-0 in
    let rest = flags_view (drop (i + 1) flags) in
    let at = item flags i list c.loop-list-test.true c.list-item.is in
    ap (λ (l : List (Vec Bool Global)). flags_view l ++ rest) c.in_ok-push.ensures.items
    ∙ ap (λ l. l ++ rest) (map-append (λ (f : Vec Bool Global). f.items) copy (own ∷ []))
    ∙ append_assoc (flags_view copy) (own.items ∷ []) rest
    ∙ ap (λ l. flags_view copy ++ l ∷ rest) (c.in_ok-copy_list.ensures ∙ c.deref.ensures.value)
    ∙ ap (λ (l : List (Vec Bool Global)). flags_view copy ++ flags_view l) (sym (get_drop flags i list at))
    ∙ c.loop-list.invariant

pub returns : goal.returns
returns c =
    let copy = c.loop-list.copy.items in
    append_none (flags_view copy)
    ∙ ap (λ (l : List (Vec Bool Global)). flags_view copy ++ flags_view l) (sym (drop_all c.loop-list.list-index c.args.flags.now c.loop-list-test.false))
    ∙ c.loop-list.invariant
