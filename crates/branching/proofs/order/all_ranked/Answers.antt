use Rattle.branching.proofs.Prelude.{◌≡◌, sym, subst, All, Ranked, unreached}
use Rattle.std.proofs.lemmas.List.Elements.{All-push}
use Rattle.branching.proofs.Ordered.{listed_more}
use Rattle.branching.proofs.order.all_ranked.Goals as goal

pub loop-number-preserved : goal.loop-number-preserved
loop-number-preserved c =
    let rows = c.args.rows.now in
    let x : Ranked = record { unreached = c.unreached-unreached.result; node = c.node-node.result } in
    let P : Ranked → Type 0 = λ y. y.unreached ≡ unreached rows y.node in
    let pushed = c.in_ok-push.ensures.items in
    record {
      nodes = listed_more c.loop-number.all.items c.push.new.self.items x c.loop-number.number c.loop-number.auto.number pushed c.node-node.ensures.value c.loop-number.invariant.nodes;
      counts = subst (All P) (sym pushed) (All-push P c.loop-number.all.items x c.loop-number.invariant.counts c.unreached-unreached.ensures.count);
    }
