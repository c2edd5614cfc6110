use Rattle.branching.proofs.Prelude.{◌≡◌, ◌∙◌, ap, map, rules, IsNonDecreasingBy-from_sort_by_key, All-permutation, Ranked, unreached}
use Rattle.std.proofs.lemmas.Result.{IfOk-weaker}
use Rattle.branching.proofs.Ordered.{ordered}
use Rattle.branching.proofs.order.order_by_reach.Goals as goal

pub returns : goal.returns
returns c =
    let rows = c.args.rows.now in
    let all = c.in_ok-all.all.items in
    let xs = c.sort_by_key.new.self.items in
    let moved = c.in_ok-sort_by_key.ensures.permutation in
    let up = IsNonDecreasingBy-from_sort_by_key (λ (x : Ranked). x.unreached) xs c.in_ok-sort_by_key.ensures.sorted (λ a r q k. search rules) in
    let P : Ranked → Type 0 = λ x. x.unreached ≡ unreached rows x.node in
    record {
      order = IfOk-weaker c.nodes_of.result _ _ (λ order e. ordered rows all xs order.items c.in_ok-all.ensures.nodes moved up (All-permutation P all xs moved c.in_ok-all.ensures.counts) (e ∙ ap (map (λ (x : Ranked). x.node)) c.deref.ensures.value)) c.nodes_of.ensures.nodes;
    }
