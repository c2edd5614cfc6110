-- What the proofs of this crate name of other modules.
pub use Rattle.known_graph.proofs.Edges.{nodes_within_row, node_word, mark_is, edge_of_Contains, Contains-of_edge, pair_same}
pub use Rattle.known_graph.proofs.Grouped.{row_len_small}
pub use Rattle.known_graph.proofs.Words.{bit_of-past, bit_of-zeros}
pub use Rattle.known_graph.specs.Bits.{row_len}
unfoldable pub use Rattle.known_graph.specs.Bits.{bit_of}
pub use Rattle.known_graph.specs.Graphs.{IsKnownGraph, IsBitGraph}
pub use Rattle.known_graph.specs.Held.{IsMarked}
unfoldable pub use Rattle.known_graph.specs.Held.{is_marked, marked_graph, bit_place}
pub use Rattle.reach_laws.proofs.Walks.{reach_joined}
pub use Rattle.reach_laws.specs.Reach.{Graph, Walk, Reaches}
pub use Rattle.reach_rows.specs.Parts.{ArePartStarts, IsPart}
pub use Rattle.reach_rows.specs.ReachRows.{AreRowsOf, AddsEdge}
pub use Rattle.reach_rows.specs.Sources.{IsReachRow, AreReachRows, IsGrown, Spreads}
pub use Rattle.serializability.specs.Polygraph.{Edge}
pub use Rattle.std.proofs.Common.{◌≡◌, ◌↔◌, ℕ, ◌+◌, ◌-◌, ◌*◌, ◌<◌, ◌≤◌, Bool, true, List, [], ◌∷◌, ◌++◌, length, take, refl, sym, ap, ◌∙◌, inl, inr, arith, length-append, ◌≢◌, ◌⊎◌, subst, get_or, zero, suc, false, eqb, ◌||◌, eqb-true}
pub use Rattle.std.proofs.Common.{below_more, IfOk, replicate, eq-eqb}
pub use Rattle.std.proofs.lemmas.Bool.{cases_lt, cases_Bool, false≢true, cases_eq, or_cases, or_left, or_right}
pub use Rattle.std.proofs.lemmas.List.{get_or_append_left, get_or-append-add, get_or-take, length-take-le, length_push}
pub use Rattle.std.proofs.lemmas.Nat.{div_below, mul-add-lt, mul-le}
pub use Rattle.std.specs.List.{Contains, filter}
