-- What the proofs of this crate name of other modules.
pub use Rattle.known_graph.proofs.ReadSources.{each_at, reads_key}
pub use Rattle.known_graph.proofs.Rests.{up_to, up_to_first, Split, split_length, piece_begun, piece_more, before}
pub use Rattle.log_definitions.specs.Numbers.{log_of}
pub use Rattle.polygraph.specs.Places.{ArePlaces, AreKept, keeps, keeps_one}
pub use Rattle.polygraph.specs.Polygraphs.{Joins, JoinsBoth, IsPolygraph}
pub use Rattle.polygraph.specs.Rivals.{is_other}
pub use Rattle.serializability.proofs.Listed.{Has-from_any, any-from_Has, once_apart, once_from, once_length, not_once_outside}
pub use Rattle.serializability.proofs.Places.{each_of_map, Has, Apart, Has-append_front, Has-append_back, Has-append_cases, Apart-not_both, Has-from_Contains, place_of-here, place_of-further, place_of-back, each_from_range}
pub use Rattle.serializability.proofs.Serial.{behind_zero, each_from_bipaths, rival_is, source_within}
pub use Rattle.serializability.specs.Polygraph.{Edge, Choice, Polygraph, Keeps, KeepsOne, Fits, source, rival_choice, bipaths, bipaths_at, all_keys, committed}
pub use Rattle.serializability.specs.Replay.{Before, ListsOnce, place_of}
pub use Rattle.session_history.specs.Tables.{sources_of, writers_in}
pub use Rattle.std.proofs.Common.{◌≡◌, ℕ, ◌<◌, List, length, get_or, sym, subst, Bool, true, false, [], ◌∷◌, refl, ◌∙◌, inl, inr, arith, zero, suc, ◌+◌, ◌≤◌, ◌++◌, take, drop, replicate, ap, ◌-◌, Option, None, Some, rules, tests}
pub use Rattle.std.proofs.Common.{below_more}
pub use Rattle.std.proofs.lemmas.Bool.{false≢true, and_from, and_parts, or_cases, or_left, or_right, ltb-true, lt-ltb, cases_eq, cases_Bool}
pub use Rattle.std.proofs.lemmas.List.{get_or-set_same, get_or-set_other, length-set, length-take-le, take_all, get_or-map, length-map, drop_more}
pub use Rattle.std.specs.List.{AllByRecursion, list_all, Contains, list_any, filter, filter_map, cons_option, flat_map, range_with_len, count_by}
pub use Rattle.std.specs.Prelude.{map, nat_lt, slice_index, slice_set, nat_eq, is_some}
