-- What the proofs of this crate name of other modules.
pub use Rattle.chain_laws.proofs.Closed.{last_push, linked_push, closed_is_cycle, closed_key}
pub use Rattle.chain_laws.proofs.Walks.{IsNext, next_from, some_one, next_is}
pub use Rattle.chain_laws.specs.Chains.{next, IsLinked, last, IsClosedChain, NoneCloses, readers, reads_key, writes, tail_from, heads, inner_at}
pub use Rattle.log_definitions.specs.Numbers.{log_of}
pub use Rattle.reach_laws.proofs.Walks.{each_contained, each_from_contained}
pub use Rattle.serializability.proofs.Places.{Has, Apart, Apart-from_IsDistinct, Has-from_Contains, Has-append_cases, each_of_filter, each_from_filter, each_of_range, each_from_range, each_of_map}
pub use Rattle.serializability.proofs.SoFar.{range_last}
pub use Rattle.serializability.proofs.Sources.{source_is, source_within}
pub use Rattle.serializability.specs.Log.{Log}
pub use Rattle.serializability.specs.Polygraph.{source, writer_of, committed}
pub use Rattle.serializability.specs.Reads.{IsClean, external_read}
pub use Rattle.session_history.specs.Tables.{writers_in, sources_of, pair_at, pairs}
pub use Rattle.session_history.specs.declared.reads.ReadFrom.{ReadFrom}
pub use Rattle.std.proofs.Common.{◌≡◌, ◌≢◌, ◌⊎◌, ℕ, zero, suc, ◌+◌, ◌<◌, ◌≤◌, List, [], ◌∷◌, ◌++◌, length, reverse, None, Some, refl, sym, ap, subst, ◌∙◌, inl, inr, arith, length-append, nat_eq, ◌-◌, false, cond, eqb, Option, Bool, true}
pub use Rattle.std.proofs.Common.{not, get_or, append_assoc, set, slice_get, Vec, Global, take, All, rules}
pub use Rattle.std.proofs.lemmas.Bool.{cases_eq, eq-eqb, ne_eqb, cases_lt, eqb-true, eqb-false}
pub use Rattle.std.proofs.lemmas.List.{reverse-append, length-reverse, append-nil, map-append, length-map, get_or-map, length-set, get_or-set_same, get_or-set_other, get_or_past, take_more, take_all, get_or_default, get_or_read}
pub use Rattle.std.proofs.lemmas.List.Elements.{filter_map-append, filter-append, All-from_recursion}
pub use Rattle.std.proofs.lemmas.Option.{slice_get_read, slice_get-get_or}
pub use Rattle.std.specs.List.{AllByRecursion, filter, filter_map, cons_option, range_with_len, flat_map, Contains}
unfoldable pub use Rattle.std.specs.List.{IsDistinct}
pub use Rattle.std.specs.Option.{option_map, option_map_or}
pub use Rattle.std.specs.Prelude.{is_some, map}
pub use Rattle.write_chains.specs.Held.{key_view, key_in, sessions_of, AreChains, KeyView}
pub use Rattle.write_chains.specs.Lists.{unless_empty, IsTable, AreLists}
pub use Rattle.write_chains.specs.Readings.{readings_among, readings_in, readings_by, readers_among}
pub use Rattle.write_chains.specs.Views.{ChainView, chain_from, edges_before, AreLinks, FitTogether, chain_view, chains_in, group_view}
pub use Rattle.write_chains.specs.Walks.{IsOpenIn, IsOpen, end_by, AreOpen}
pub use Rattle.write_chains.specs.declared.readings.Reading.{Reading}
