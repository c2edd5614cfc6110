use Rattle.census.proofs.Prelude.{List, map, ap, ◌∙◌, filter, take_all, Transaction, is_committed, faults_in, faults_of_txns, view_ref}
use Rattle.census.proofs.Missing.{Faults}
use Rattle.census.proofs.faults.faults_of.Goals as goal

pub returns : goal.returns
unfolding faults_in
returns c = λ ss same known.
    let told : List Transaction → Faults = λ ts. faults_of_txns ss (filter is_committed ts) in
    c.loop-txn.invariant ss known
    ∙ ap (λ l. told (map view_ref l)) (take_all c.loop-txn.txn-index c.args.txns.now c.loop-txn-test.false)
    ∙ ap told same
