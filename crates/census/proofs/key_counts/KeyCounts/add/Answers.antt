use Rattle.census.proofs.Prelude.{◌+◌, ap, ◌∙◌, arith}
use Rattle.census.proofs.Counted.{counted_at, positive_after}
use Rattle.census.proofs.key_counts.KeyCounts.add.Goals as goal

pub invariant_of-self : goal.invariant_of-self
invariant_of-self c =
    let is = c.in-Some.ensures.1 in
    record {
      positive = positive_after c.insert.result c.args.self.now.table c.insert.new.self c.args.key.now c.in-Some.count (omega (arith, is)) c.insert.ensures.updates c.insert.ensures.err c.args.self.now.positive;
    }

pub returns : goal.returns
returns c = λ k.
    counted_at c.args.self.now.table c.insert.new.self c.args.key.now c.in-Some.count (c.in-Some.ensures.1 ∙ ap (λ n. n + 1) c.of.ensures) c.in_ok-insert.ensures.updates k
