-- What the proofs of this crate name of other modules.
pub use Rattle.chain_laws.proofs.Coalesced.{head_parts, none_some, each_from_readers, chains_fit, bipaths_fit}
pub use Rattle.chain_laws.specs.Chains.{heads, is_head, chain_first, edges_to, chain_choice, next, tail_from, tail, readers, chain_choices, inner_at, inner_edges, initial_first, chain_polygraph}
pub use Rattle.coalesce.specs.Added.{IsWith}
pub use Rattle.coalesce.specs.Between.{before, between, among}
pub use Rattle.log_definitions.specs.Numbers.{log_of}
pub use Rattle.polygraph.proofs.Each.{each_item}
pub use Rattle.polygraph.specs.Polygraphs.{Joins, JoinsBoth}
pub use Rattle.serializability.proofs.Places.{each_from_range, each_from_filter, each_from_map, each_from_flat_map}
pub use Rattle.serializability.proofs.SoFar.{so_far, so_far_more}
pub use Rattle.serializability.specs.Log.{Log}
pub use Rattle.serializability.specs.Pairs.{pairs_of}
pub use Rattle.serializability.specs.Polygraph.{Edge, Choice, committed, source, all_keys, all_nodes, Polygraph, Fits, arcs, bipath_polygraph}
pub use Rattle.std.proofs.Common.{◌≡◌, ℕ, zero, suc, ◌+◌, ◌-◌, ◌≤◌, List, [], ◌∷◌, ◌++◌, length, refl, sym, ap, ◌∙◌, subst, arith, length-append, true, ◌≢◌, ◌⊎◌, ◌<◌, eqb, Option, None, Some, inl, inr, eq-eqb, ◌↔◌, get_or, append_assoc, take}
pub use Rattle.std.proofs.Common.{drop, rules, tests}
pub use Rattle.std.proofs.lemmas.List.{map-append, length-map, append-nil, take_more, take_all}
pub use Rattle.std.specs.List.{flat_map, AllByRecursion, filter, Contains}
pub use Rattle.std.specs.Prelude.{map, not}
pub use Rattle.write_chains.specs.Views.{ChainView, chain_from, chains_in, chain_view}
