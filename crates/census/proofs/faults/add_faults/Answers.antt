use Rattle.census.proofs.Prelude.{◌≡◌, ◌++◌, ℕ, List, [], ◌∷◌, map, take, sym, ap, ◌∙◌, Option, ◌||◌, ◌+◌, drop, drop_all, append_none, key_of, Op, ReadAnomaly, faults_behind, with_key, writes_as, state_of, has_version, view_fault}
use Rattle.census.proofs.Along.{one_more}
use Rattle.census.proofs.Reading.{fault_same}
use Rattle.census.proofs.Missing.{told_more, cut_at}
use Rattle.census.proofs.faults.add_faults.Goals as goal

pub loop-op-preserved : goal.loop-op-preserved
loop-op-preserved c =
    let ops = c.args.ops.now in
    let i = c.loop-op.op-index in
    let op = c.op-item.result in
    let writes = c.args.writes.now in
    let own = c.add_writes.new.versions in
    let states = c.loop-op.states in
    let cut = cut_at ops i op c.loop-op-test.true c.op-item.is in
    let owns : (k : List ℕ) (w : ℕ) → has_version own k w ≡ writes_as k w (take i ops ++ op ∷ drop (i + 1) ops) = λ k w.
    c.in_ok-add_writes.ensures k w ∙ ap (λ b. b || writes_as k w ops) (c.in_ok-own.ensures k w) ∙ ap (writes_as k w) cut in
    record {
      told = λ ss known.
          told_more ss ops i op (map view_fault c.args.faults.now.items ++ faults_behind ss [] ops) (map view_fault c.loop-op.faults.items) (map view_fault c.add_fault.new.faults.items)
          c.loop-op-test.true c.op-item.is (c.loop-op.invariant.told ss known)
          (c.in_ok-add_fault.ensures ∙ ap (λ (o : Option ReadAnomaly). map view_fault c.loop-op.faults.items ++ with_key o (key_of op)) (fault_same ss writes own states (take i ops) op (drop (i + 1) ops) known owns c.loop-op.invariant.states));
      states = λ k.
          one_more k ops i op (state_of states k) (state_of c.take.new.self k) c.loop-op-test.true c.op-item.is (c.loop-op.invariant.states k) (c.in_ok-take.ensures k);
    }

pub returns : goal.returns
returns c = λ ss known.
    let ops = c.args.ops.now in
    let i = c.loop-op.op-index in
    let told = map view_fault c.loop-op.faults.items in
    append_none told
    ∙ ap (λ (l : List Op). told ++ faults_behind ss (take i ops) l) (sym (drop_all i ops c.loop-op-test.false))
    ∙ c.loop-op.invariant.told ss known
