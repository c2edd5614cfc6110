-- What the proofs of this crate name of other modules.
pub use Rattle.chain_laws.specs.Chains.{IsLinked, last, IsClosedChain, writes, reads_key, readers, next, tail_from, tail, is_head, heads, inner_at, inner_edges, edges_to, chain_first, initial_first, chain_choice, chain_choices}
pub use Rattle.chain_laws.specs.Chains.{chain_polygraph, IsWriter, IsChain, NoneCloses}
pub use Rattle.list_lemmas.proofs.Options.{none_of, some_of}
pub use Rattle.reach_laws.proofs.Walks.{each_from_contained, each_contained}
pub use Rattle.serializability.proofs.Once.{at, places_apart, place_within}
pub use Rattle.serializability.proofs.Places.{each_of_range, each_from_range, each_of_append, each_from_append, each_of_flat_map, each_from_flat_map, each_of_map, each_from_map, each_of_filter, each_from_filter, Has, Has-from_Contains}
pub use Rattle.serializability.proofs.Places.{Contains-from_Has}
pub use Rattle.serializability.proofs.Serial.{each_of_arcs, arc_from_read, source_within, KeepsBipaths, arcs_kept, bipaths_kept, keeps_bipaths, rival_from, rival_is, some_cases, none_not_some, zero_first, KeepsArcs}
pub use Rattle.serializability.proofs.Sources.{source_is, reads_from_source, wrote_is, wrote_from, find_some, find_none, Has-from_range, range-from_Has, one_final}
pub use Rattle.serializability.specs.Log.{Log}
pub use Rattle.serializability.specs.Polygraph.{arcs, source, Edge, Keeps, KeepsOne, Fits, bipath_polygraph, all_nodes, committed, all_keys}
pub use Rattle.serializability.specs.Reads.{IsClean, last_write, ReadsAfter}
pub use Rattle.serializability.specs.Replay.{Before, ListsOnce}
pub use Rattle.std.proofs.Common.{◌≡◌, ℕ, ◌<◌, ◌≤◌, List, [], ◌∷◌, ◌++◌, length, Some, refl, sym, ap, ◌∙◌, subst, arith, length-append, ◌≢◌, ◌⊎◌, zero, suc, ◌+◌, true, eqb, not, Option, None, inl, inr, ne_eqb, false, eqb-true, ◌&&◌}
pub use Rattle.std.proofs.lemmas.Bool.{cases_eq, cases_order, and_parts, not-true, not_from_false, eqb-false, false≢true, or_cases, and_from, cases_lt}
pub use Rattle.std.proofs.lemmas.Map.Steps.{length-le_from_distinct_below}
pub use Rattle.std.specs.List.{Contains, filter, flat_map, AllByRecursion, list_any}
unfoldable pub use Rattle.std.specs.List.{IsDistinct}
pub use Rattle.std.specs.Option.{option_map_or}
pub use Rattle.std.specs.Prelude.{is_some, map, nat_eq}
