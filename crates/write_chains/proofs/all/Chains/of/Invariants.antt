use Rattle.write_chains.proofs.Prelude.{◌≡◌, map, flat_map, range_with_len, log_of, key_view, key_in}
use Rattle.write_chains.proofs.Inside.{inner_of}
use Rattle.write_chains.proofs.all.Chains.of.Given as goal

abbrev pub invariant-loop-key : goal.invariant-loop-key
invariant-loop-key l = record {
  keys : map key_view l.keys.items ≡ map (key_in (log_of l.history)) (range_with_len 0 l.key);
  inner : l.inner.items ≡ flat_map (inner_of (log_of l.history)) (range_with_len 0 l.key);
}
