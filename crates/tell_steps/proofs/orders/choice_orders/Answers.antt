use Rattle.tell_steps.proofs.Prelude.{◌≡◌, ◌++◌, ◌∙◌, ap, sym, subst, arith, map, All, log_of, chain_view, choice_of, orders_among, orders_in, IsOrder, so_far, so_far_more}
use Rattle.tell_steps.proofs.Chosen.{of_key, orders_are, choices_are, all_orders}
use Rattle.tell_steps.proofs.orders.choice_orders.Goals as goal

pub loop-key-preserved : goal.loop-key-preserved
loop-key-preserved c =
    let log = log_of c.args.chains.now in
    let x = c.loop-key.key in
    let views = map chain_view c.chains_of.result.now in
    c.in_ok-add_orders_among.ensures.orders
    ∙ ap (λ l. l ++ orders_among x views) c.loop-key.invariant
    ∙ ap (λ l. so_far (of_key log) x ++ orders_among x l) c.chains_of.ensures.chains
    ∙ sym (so_far_more (of_key log) x)

pub returns : goal.returns
returns c =
    let log = log_of c.args.chains.now in
    let count : c.keys-key-end.result ≡ log.keys = c.keys-key-end.ensures.count ∙ ap (λ s. (log_of s).keys) c.history.ensures.history in
    let all : c.loop-key.key ≡ log.keys = omega (arith, c.loop-key-test.false, c.loop-key.auto.key-end, count) in
    let list : c.loop-key.orders.items ≡ orders_in log = c.loop-key.invariant ∙ orders_are log c.loop-key.key all in
    record {
      choices = ap (map (choice_of log)) list ∙ choices_are log;
      orders = subst (All (IsOrder log)) (sym list) (all_orders log);
      list = list;
    }
