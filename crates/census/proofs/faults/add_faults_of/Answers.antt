use Rattle.census.proofs.Prelude.{◌++◌, ◌∷◌, [], List, cond, map, sym, ap, ◌∙◌, append_none, view_txn, Op, faults_behind, faults_of_txns, view_fault}
use Rattle.census.proofs.faults.add_faults_of.Goals as goal

pub returns-then-not-is_committed : goal.returns-then-not-is_committed
returns-then-not-is_committed c = λ ss known.
    let old = map view_fault c.args.faults.now.items in
    append_none old ∙ ap (λ b. old ++ faults_of_txns ss (cond b (view_txn c.args.txn.now ∷ []) [])) (sym (sym c.is_committed.ensures ∙ c.if-not-is_committed.true))

pub returns : goal.returns
returns c = λ ss known.
    let old = map view_fault c.args.faults.now.items in
    c.in_ok-add_faults.ensures ss known
    ∙ ap (λ (l : List Op). old ++ faults_behind ss [] l) c.as_slice.ensures.value
    ∙ ap (λ l. old ++ l) (append_none (faults_behind ss [] c.args.txn.now.ops.items))
    ∙ ap (λ b. old ++ faults_of_txns ss (cond b (view_txn c.args.txn.now ∷ []) [])) (sym (sym c.is_committed.ensures ∙ c.if-not-is_committed.false))
