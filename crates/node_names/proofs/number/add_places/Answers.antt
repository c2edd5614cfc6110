use Rattle.node_names.proofs.Prelude.{◌≤◌, ◌+◌, ◌++◌, List, map, length, sym, ap, ◌∙◌, arith, Vec, append_none, item, get_map, view_txn, Committed, nodes_from}
use Rattle.serializability.proofs.Places.{length_mapped}
use Rattle.node_names.proofs.Names.{append_once}
use Rattle.node_names.proofs.Nodes.{node_here, none_here, none_behind}
use Rattle.node_names.proofs.number.add_places.Goals.{then-is_committed+in_ok-push, else-is_committed}
use Rattle.node_names.proofs.number.add_places.Goals as goal

pub loop-i-preserved : goal.loop-i-preserved
loop-i-preserved c number =
    let txns = c.args.txns.now in
    let ts = map view_txn txns in
    let i = c.loop-i.i in
    let places = c.loop-i.places.items in
    let txn = c.index-txns-i.result in
    let at = get_map view_txn txns i txn (item txns i txn c.loop-i-test.true c.index-txns-i.is) in
    let rest = map (λ (m : Committed). (c.args.of, m.place)) (nodes_from number (i + 1) ts) in
    elim c.if-is_committed.branch [
      | then-is_committed+in_ok-push w ↦
          ap (λ (v : Vec _ _). v.items ++ rest) w.places-is
          ∙ ap (λ l. l ++ rest) w.in_ok-push.ensures.items
          ∙ sym (append_once places (c.args.of, i + 1) rest)
          ∙ ap (λ (l : List Committed). places ++ map (λ (m : Committed). (c.args.of, m.place)) l) (sym (node_here number i ts (view_txn txn) at (sym c.is_committed.ensures ∙ w.if-is_committed.true)))
          ∙ c.loop-i.invariant number
      | else-is_committed w ↦
          ap (λ (v : Vec _ _). v.items ++ rest) w.places-is
          ∙ ap (λ (l : List Committed). places ++ map (λ (m : Committed). (c.args.of, m.place)) l) (sym (none_here number i ts (view_txn txn) at (sym c.is_committed.ensures ∙ w.if-is_committed.false)))
          ∙ c.loop-i.invariant number
    ]

pub returns : goal.returns
returns c number =
    let ts = map view_txn c.args.txns.now in
    let i = c.loop-i.i in
    let le : length ts ≤ i = omega (arith, length_mapped view_txn c.args.txns.now, c.loop-i-test.false) in
    append_none c.loop-i.places.items
    ∙ ap (λ (l : List Committed). c.loop-i.places.items ++ map (λ (m : Committed). (c.args.of, m.place)) l) (sym (none_behind number i ts le))
    ∙ c.loop-i.invariant number
