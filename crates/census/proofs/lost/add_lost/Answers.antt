use Rattle.census.proofs.Prelude.{◌++◌, List, true, false, map, refl, sym, ap, ◌∙◌, subst, list_any, map-append, append_none, view_txn, Op, is_committed, is_lost, view_ref, loses_among, AreBehind}
use Rattle.census.proofs.Knowing.{loses_same}
use Rattle.census.proofs.Totals.{kept_one}
use Rattle.census.proofs.lost.add_lost.Goals as goal

pub returns-then-not-is_committed : goal.returns-then-not-is_committed
returns-then-not-is_committed c = λ committed known.
    let t = view_txn c.args.txn.now in
    let old = map view_ref c.args.lost.now.items in
    append_none old
    ∙ ap (λ l. old ++ l) (kept_one (is_lost committed) is_committed t false (is_lost committed t) (sym c.if-not-is_committed.true ∙ c.is_committed.ensures) refl)

pub returns-then-not-is_any_lost : goal.returns-then-not-is_any_lost
returns-then-not-is_any_lost c = λ committed known.
    let t = view_txn c.args.txn.now in
    let old = map view_ref c.args.lost.now.items in
    let states = c.in_ok-states.states in
    let behind = subst (λ (l : List Op). AreBehind l states) c.as_slice-ops.ensures.value c.in_ok-states.ensures in
    let is = c.is_any_lost.ensures ∙ ap (λ (l : List Op). list_any (loses_among c.args.updates.now states) l) c.as_slice-ops.ensures.value ∙ loses_same committed t c.args.updates.now states known behind in
    append_none old
    ∙ ap (λ l. old ++ l) (kept_one (is_lost committed) is_committed t true false (sym c.if-not-is_committed.false ∙ c.is_committed.ensures) (sym c.if-not-is_any_lost.true ∙ is))

pub returns : goal.returns
returns c = λ committed known.
    let t = view_txn c.args.txn.now in
    let old = map view_ref c.args.lost.now.items in
    let states = c.in_ok-states.states in
    let behind = subst (λ (l : List Op). AreBehind l states) c.as_slice-ops.ensures.value c.in_ok-states.ensures in
    let is = c.is_any_lost.ensures ∙ ap (λ (l : List Op). list_any (loses_among c.args.updates.now states) l) c.as_slice-ops.ensures.value ∙ loses_same committed t c.args.updates.now states known behind in
    ap (map view_ref) c.in_ok-push.ensures.items
    ∙ map-append view_ref c.args.lost.now.items _
    ∙ ap (λ l. old ++ l) (kept_one (is_lost committed) is_committed t true true (sym c.if-not-is_committed.false ∙ c.is_committed.ensures) (sym c.if-not-is_any_lost.false ∙ is))
