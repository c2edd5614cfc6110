use Rattle.coalesce.proofs.Prelude.{◌≡◌, ◌+◌, ◌<◌, length, ap, arith, map, length-map, log_of, chain_view, so_far}
use Rattle.coalesce.proofs.Steps.{so_far_length, so_far_le}
use Rattle.coalesce.proofs.Between.{of_key, key_number, triangle, triangle_more, triangle_le}
use Rattle.coalesce.proofs.choices.choice_count.Goals as goal

pub returns-then-count-gt-MAX_CHOICES-clause-fault : goal.returns-then-count-gt-MAX_CHOICES-clause-fault
returns-then-count-gt-MAX_CHOICES-clause-fault c =
    let log = log_of c.args.chains.now in
    let x = c.loop-key.key in
    let before = c.loop-before.before in
    let chains = c.chains_of-before-end.result.now in
    let views = map chain_view chains in
    let number = key_number log x views c.chains_of-before-end.ensures.chains in
    let long : length views ≡ length chains = length-map chains chain_view in
    let up = triangle_le (before + 1) (length views) (omega (arith, c.loop-before-test.true, long)) in
    let whole = so_far_le (of_key log) (x + 1) log.keys (omega (arith, c.loop-key-test.true, c.requires.keys)) in
    let many : 100000 < length (so_far (of_key log) log.keys) =
    omega (arith, c.if-count-gt-MAX_CHOICES.true, c.loop-before.invariant.count, up, triangle_more before, number, so_far_length (of_key log) x, whole) in
    many

pub loop-key-preserved : goal.loop-key-preserved
loop-key-preserved c =
    let log = log_of c.args.chains.now in
    let x = c.loop-key.key in
    let chains = c.chains_of-before-end.result.now in
    let views = map chain_view chains in
    let number = key_number log x views c.chains_of-before-end.ensures.chains in
    let long : length views ≡ length chains = length-map chains chain_view in
    let last : c.loop-before.before ≡ length views = omega (arith, c.loop-before-test.false, c.loop-before.auto.before-end, long) in
    record {
      few = c.loop-before.invariant.few;
      count = omega (arith, c.loop-before.invariant.count, ap triangle last, number, so_far_length (of_key log) x);
    }
