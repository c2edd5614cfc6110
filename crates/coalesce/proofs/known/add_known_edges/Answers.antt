use Rattle.coalesce.proofs.Prelude.{◌+◌, ◌++◌, ◌∙◌, ap, sym, subst, append_assoc, map, flat_map, AllByRecursion, log_of, inner_edges, chain_view, Joins, before, so_far, so_far_more}
use Rattle.coalesce.proofs.Joined.{inner_joined}
use Rattle.coalesce.proofs.Between.{first_of_key, first_key, first_key_joined}
use Rattle.coalesce.proofs.Sets.{with_piece}
use Rattle.coalesce.proofs.known.add_known_edges.Goals as goal

pub add_edges-requires : goal.add_edges-requires
add_edges-requires c =
    let log = log_of c.args.chains.now in
    let n = c.args.known.now.nodes in
    record {
      joined = subst (AllByRecursion (Joins n)) (sym c.inner_edges.ensures.edges) (subst (λ k. AllByRecursion (Joins k) (inner_edges log)) (sym c.requires.nodes) (inner_joined log));
    }

pub add_first-requires : goal.add_first-requires
add_first-requires c =
    let log = log_of c.args.chains.now in
    record {
      joined = first_key_joined log c.loop-key.key c.loop-key.known.nodes (chain_view c.initial_chain.result.now) (map chain_view c.chains_of.result.now) c.loop-key.invariant.nodes c.initial_chain.ensures.chain c.chains_of.ensures.chains;
    }

pub loop-key-preserved : goal.loop-key-preserved
loop-key-preserved c =
    let log = log_of c.args.chains.now in
    let x = c.loop-key.key in
    let initial = chain_view c.initial_chain.result.now in
    let views = map chain_view c.chains_of.result.now in
    let piece = flat_map (before initial) views in
    let done = inner_edges log ++ so_far (first_of_key log) x in
    let more = ap (λ l. inner_edges log ++ l) (so_far_more (first_of_key log) x)
    ∙ sym (append_assoc (inner_edges log) (so_far (first_of_key log) x) (first_of_key log x))
    ∙ ap (λ l. done ++ l) (sym (first_key log x initial views c.initial_chain.ensures.chain c.chains_of.ensures.chains)) in
    record {
      edges = with_piece c.args.known.now.edges c.loop-key.known.edges c.add_first.new.known.edges done piece (inner_edges log ++ so_far (first_of_key log) (x + 1))
          c.loop-key.invariant.edges c.add_first.ensures.edges more;
      nodes = c.add_first.ensures.nodes ∙ c.loop-key.invariant.nodes;
    }
