-- What the proofs of this crate name of other modules.
pub use Rattle.serializability.specs.Decoded.{IsOrder, IsDecoded, is_before, before}
pub use Rattle.serializability.specs.Formula.{value_of, clause_true, Satisfies, literal_true}
pub use Rattle.serializability.specs.Log.{Log, precedes}
pub use Rattle.serializability.specs.Pairs.{pairs_of, Known, is_free, free_pairs, pair_place, edge_literal, edge_clause, triple_clauses, triples_of, order_clauses}
pub use Rattle.serializability.specs.Polygraph.{Edge, Choice, KeepsOne, Fits, arcs, is_arc, bipaths, bipath_polygraph, rival_choice, bipaths_at, is_rival, all_nodes, all_keys, committed, source, reads_from, wrote, writer_of}
pub use Rattle.serializability.specs.Reads.{IsClean, later, last_write, IsFinal, ReadsAfter, external_read}
pub use Rattle.serializability.specs.Replay.{ListsOnce, Before, place_of, IsSerial, Store, write, after, Meets, empty}
pub use Rattle.serializability.specs.declared.event.Event.{Event}
pub use Rattle.serializability.specs.declared.event.Event.TheVariants.{Read, Write}
pub use Rattle.serializability.specs.declared.literal.Literal.{Literal}
pub use Rattle.std.proofs.Common.{◌≡◌, ℕ, ◌+◌, ◌<◌, ◌≤◌, Bool, true, false, get_or, take, ap, ◌∙◌, arith, cond, ◌∷◌, zero, suc, refl, sym, subst, inl, inr, List, [], ◌++◌, length, drop, eqb, eqb-true, eq-eqb, ne_eqb, ◌≢◌, ◌⊎◌, ◌-◌, ltb}
pub use Rattle.std.proofs.Common.{not, ◌&&◌, ◌||◌, length-append, Option, None, Some, unwrap_or, append_assoc}
pub use Rattle.std.proofs.lemmas.Bool.{false≢true, cases_eq, cases_lt, cases_Bool, cases_order, cond-true, cond-false, or_parts, and_parts, and_from, not_from_false, lt-ltb, le-ltb, or_left, or_right, or_cases, true≢false, not-true}
pub use Rattle.std.proofs.lemmas.Bool.{eqb-false, not_from_true, and_left}
pub use Rattle.std.proofs.lemmas.List.{take_all, take_more, take-append-drop, at_drop_more, get_or_default, append-nil}
pub use Rattle.std.proofs.lemmas.List.Concat.{flat_map-append}
pub use Rattle.std.proofs.lemmas.List.FromFn.{length-range_with_len, get_or-range_with_len, length-map-range_with_len, get_or-map-range_with_len}
pub use Rattle.std.proofs.lemmas.List.Sums.{count_by_more_yes, count_by_more_no, sum_by-cons, count_by-le-length}
pub use Rattle.std.proofs.lemmas.Map.Steps.{length-le_from_distinct_below}
pub use Rattle.std.specs.List.{count_by, range_with_len, AllByRecursion, filter, list_any, Contains, flat_map, All, find}
unfoldable pub use Rattle.std.specs.List.{IsDistinct}
pub use Rattle.std.specs.Prelude.{map, nat_eq, is_some}
