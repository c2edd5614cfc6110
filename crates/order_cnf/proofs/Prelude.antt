-- What the proofs of this crate name of other modules.
pub use Rattle.known_graph.proofs.Edges.{nodes_within_row, pair_same}
pub use Rattle.known_graph.proofs.Tested.{edge_in, has_contained, known_is}
pub use Rattle.known_graph.specs.Bits.{bit_of}
unfoldable pub use Rattle.known_graph.specs.Bits.{row_len}
pub use Rattle.order_cnf.specs.Bipaths.{IsSingle, IsBipath, HasPlain}
pub use Rattle.order_cnf.specs.Clauses.{literals, IsWithin}
pub use Rattle.order_cnf.specs.Cursors.{IsCursor, steps_left}
unfoldable pub use Rattle.order_cnf.specs.Cursors.{cursor_left}
pub use Rattle.order_cnf.specs.Cycles.{IsWord, IsPairTable}
unfoldable pub use Rattle.order_cnf.specs.Cycles.{is_open_cycle, is_open_from}
pub use Rattle.order_cnf.specs.Data.{IsFirstFalse, is_listed, cnf_of}
unfoldable pub use Rattle.order_cnf.specs.Layouts.{clauses_in}
pub use Rattle.order_cnf.specs.Left.{IsRest, IsProperRest, formula_of_rest}
pub use Rattle.order_cnf.specs.Limits.{choices_fault, size_fault, plain_fault, IsFault}
pub use Rattle.order_cnf.specs.Shapes.{Shape, cnf_with}
pub use Rattle.order_cnf.specs.Streams.{clauses_at, up_to, sides_left, turned, rank_of, last_variable, IsStep, IsUnturned, IsFreeBipath}
unfoldable pub use Rattle.order_cnf.specs.Streams.{of_one, bipaths_of, units_of, sides_after, rest_of, of_three, of_two}
pub use Rattle.order_cnf.specs.Tables.{Relation, known_in, pairs_in, variable_of, given, IsStrict, term_of, is_true, literals_in, rows_known}
unfoldable pub use Rattle.order_cnf.specs.Tables.{clause_of}
pub use Rattle.order_cnf.specs.declared.clause.Clause.{Clause}
pub use Rattle.order_laws.specs.Reduced.{side_clauses, IsReach, order_nodes, choice_clauses}
unfoldable pub use Rattle.order_laws.specs.Reduced.{reduced}
pub use Rattle.polygraph.specs.Polygraphs.{Joins, JoinsBoth, IsPolygraph}
pub use Rattle.reach_laws.specs.Reach.{Graph}
pub use Rattle.serializability.proofs.Made.{HasPair, pair_free, each_triple_from}
pub use Rattle.serializability.proofs.Places.{each_from_append, each_of_append, each_from_map, each_from_flat_map}
pub use Rattle.serializability.proofs.PlainLaws.{True, plain_is_order, contradicted}
pub use Rattle.serializability.specs.Decoded.{IsFormula}
pub use Rattle.serializability.specs.Formula.{clause_true, IsInRange, HasShortClauses, Cnf}
pub use Rattle.serializability.specs.Log.{Log}
pub use Rattle.serializability.specs.Pairs.{is_free, pairs_of, pair_place, Known, edge_literal, triples_of, triple_clauses, order_clauses, free_pairs, edge_clause}
pub use Rattle.serializability.specs.Plain.{nothing_known, plain_pairs, plain_nodes, literals_of, plain_of, contradiction}
unfoldable pub use Rattle.serializability.specs.Plain.{plain}
pub use Rattle.serializability.specs.Polygraph.{bipaths, Edge, Choice, Polygraph, arcs, bipath_polygraph}
pub use Rattle.serializability.specs.declared.literal.Literal.{Literal}
pub use Rattle.std.proofs.Common.{◌≡◌, refl, sym, ap, ◌∙◌, ℕ, zero, suc, ◌+◌, ◌*◌, ◌/◌, ◌%◌, ◌^◌, ◌<◌, ◌≤◌, Bool, true, false, cond, eqb, arith, count_ones, List, [], ◌∷◌, length, ◌↔◌, ◌-◌, not, ◌&&◌, ◌||◌, ◌++◌, get_or, None, ◌⊎◌, inl, inr}
pub use Rattle.std.proofs.Common.{eq-eqb, eqb-true, Option, Some, take, drop, subst, ◌≢◌, ltb, append-nil, min}
pub use Rattle.std.proofs.Math.Seq.{take-append_seam, drop-append_seam}
pub use Rattle.std.proofs.lemmas.Bool.{le-leb, lt-leb, and_right, false≢true, le-ltb, cases_eq, and_from, cases_Bool, cases_lt, cases_order, and_parts, cond-true, cond-false, lt-ltb, or_cases, or_parts, or_from, leb-true, not-true, not-false}
pub use Rattle.std.proofs.lemmas.List.{length-append, length-map, append_assoc, get_or-set_other, get_or-replicate, get_or_past, length-replicate, length-set, map-append, nil_from_length}
pub use Rattle.std.proofs.lemmas.Nat.{ones_cat, div-add-mod', mod_below, mul-le, ones-le, same_from_place, mul-add-lt, or_lt}
pub use Rattle.std.proofs.lemmas.Nat.Bits.{bit_at_lowest, bit_at-suc, bit_at_and, bit_at_or, bit_at-lt, bit_at-trailing_zeros, bit_at-zero, bit_at_ones, bit_at_mask_inside, bit_at_mask_below, ones_shl}
pub use Rattle.std.proofs.lemmas.Result.{IfOk-weaker, IfErr-weaker}
pub use Rattle.std.specs.Int.{bit_at, w64, trailing_zeros}
pub use Rattle.std.specs.List.{filter, range_with_len, Contains, AllByRecursion, list_any, flat_map}
pub use Rattle.std.specs.Prelude.{map, nat_le, bit_and, slice_set, replicate, is_some, MatchOption, bit_or, IfOk, IfErr}
