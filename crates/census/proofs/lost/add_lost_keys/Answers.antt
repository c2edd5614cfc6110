use Rattle.census.proofs.Prelude.{◌≡◌, ◌+◌, ◌∷◌, [], List, cond, ap, sym, subst, ◌∙◌, arith, IsStrictlySortedBy, keys_of, deref_pair, rest_all, rest_more, sorted_tail, view_txn, Op, count_in, AreBehind, loses_at}
use Rattle.census.proofs.Held.{ref_cmp}
use Rattle.census.proofs.Counted.{lost_at, lost_is, lost_more, Done}
use Rattle.census.proofs.lost.add_lost_keys.Goals as goal

pub loop-key-preserved : goal.loop-key-preserved
loop-key-preserved c =
    let known = c.args.updates.now in
    let rest = c.next.new.self in
    let key = c.in-Some.key.now in
    let state = c.in-Some.state.now in
    let step : c.loop-key.key-iterator ≡ (key, state) ∷ rest = rest_more deref_pair c.loop-key.key-iterator rest c.next.result (c.in-Some.key, c.in-Some.state) c.in-Some.is c.next.ensures.steps in
    let sorted = subst (λ (l : Done). IsStrictlySortedBy ref_cmp (keys_of l)) step c.loop-key.invariant.sorted in
    record {
      sorted = sorted_tail ref_cmp key (keys_of rest) sorted;
      counted = λ k.
          let n = count_in c.loop-key.counts.table k in
          let all = count_in c.args.counts.now.table k + lost_at known k c.into_iter-key-iterator.result in
          lost_more known k key state rest n (count_in c.add_lost_key.new.counts.table k) all sorted (c.in_ok-add_lost_key.ensures k)
          (sym (ap (λ (l : Done). n + lost_at known k l) step) ∙ c.loop-key.invariant.counted k);
    }

pub returns : goal.returns
returns c = λ ts knows k.
    let known = c.args.updates.now in
    let states = c.in_ok-states.states in
    let t = view_txn c.args.txn.now in
    let n = count_in c.loop-key.counts.table k in
    let old = count_in c.args.counts.now.table k in
    let behind = subst (λ (l : List Op). AreBehind l states) c.as_slice.ensures.value c.in_ok-states.ensures in
    let none : c.loop-key.key-iterator ≡ [] = rest_all deref_pair c.loop-key.key-iterator c.next.new.self c.next.result c.in-None.is c.next.ensures.steps in
    let done : n + 0 ≡ old + lost_at known k c.into_iter-key-iterator.result = sym (ap (λ (l : Done). n + lost_at known k l) none) ∙ c.loop-key.invariant.counted k in
    let all : lost_at known k c.into_iter-key-iterator.result ≡ cond (loses_at ts k t) 1 0 =
    ap (lost_at known k) c.into_iter-key-iterator.ensures.into_iter_gives.0 ∙ lost_is ts t known states knows behind k in
    omega (arith, done, all)
