-- What the proofs of this crate name of other modules.
pub use Rattle.order_laws.specs.Proper.{IsProper}
pub use Rattle.order_laws.specs.Reduced.{side_clauses, choice_clauses, order_nodes, IsReach}
unfoldable pub use Rattle.order_laws.specs.Reduced.{reduced}
pub use Rattle.polygraph.specs.Polygraphs.{Joins, JoinsBoth}
pub use Rattle.pruning_laws.proofs.Pruned.{tested_keeps, keeps_tested, keeps_test, numbered_and}
pub use Rattle.pruning_laws.specs.Forced.{edges_of, IsRefuted, Sides, EachNumbered, kept_from, edges_with, IsForced, open_from, pruned}
pub use Rattle.pruning_laws.specs.declared.side.Side.{Side}
pub use Rattle.pruning_laws.specs.declared.side.Side.TheVariants.{One, Two}
pub use Rattle.reach_laws.proofs.Walks.{reach_kept, each_contained, each_from_contained, reach_in, reach_joined}
pub use Rattle.serializability.proofs.Made.{in_order, made, Agrees, lit_made, order_clauses_made, HasPair, pair_free, each_triple_from, clause_from}
pub use Rattle.serializability.proofs.Places.{each_from_append, length_mapped, each_from_flat_map, each_from_map, each_from_filter, each_from_range, each_of_append}
pub use Rattle.serializability.proofs.PlainLaws.{True, unit_true}
pub use Rattle.serializability.proofs.Tournament.{lit, IsKnown, known_other, before_known, before_lit, turns_kept, is_order}
pub use Rattle.serializability.specs.Decoded.{IsFormula, is_before, before, IsOrder, IsDecoded}
pub use Rattle.serializability.specs.Formula.{value_of, literal_true, Satisfies, IsInRange, HasShortClauses, Cnf}
pub use Rattle.serializability.specs.Pairs.{Known, free_pairs, edge_literal, order_clauses, is_free, pair_place, edge_clause, triple_clauses, triples_of, pairs_of}
pub use Rattle.serializability.specs.Polygraph.{Edge, Choice, Polygraph, Keeps, KeepsOne, Fits}
pub use Rattle.serializability.specs.Replay.{Before}
pub use Rattle.serializability.specs.declared.literal.Literal.{Literal}
pub use Rattle.std.proofs.Common.{◌≡◌, ◌⊎◌, ℕ, suc, ◌+◌, ◌-◌, Bool, true, false, cond, not, List, [], ◌∷◌, ◌++◌, length, get_or, refl, sym, ap, ◌∙◌, inl, inr, arith, length-append, ◌≢◌, ◌<◌, ◌≤◌, eqb, ltb, ◌&&◌, eq-eqb, ◌↔◌, subst, ◌||◌}
pub use Rattle.std.proofs.lemmas.Bool.{cases_Bool, false≢true, or_left, or_right, cases_order, cond-true, cond-false, and_from, or_parts, not_from_false, not-true, not-false, lt-ltb, le-ltb, cases_lt, and_left, not_from_true, or_cases}
pub use Rattle.std.specs.List.{AllByRecursion, filter, list_any, range_with_len, Contains}
pub use Rattle.std.specs.Prelude.{map}
