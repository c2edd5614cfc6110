-- What the proofs of this crate name of other modules.
pub use Rattle.known_graph.specs.Tests.{has_edge, leads, is_line}
pub use Rattle.ledger_checks.specs.KeptEdges.{HasEdges}
unfoldable pub use Rattle.ledger_checks.specs.KeptEdges.{edge_place, edges_kept}
pub use Rattle.ledger_checks.specs.Tested.{is_of, is_held, leads_by, is_line_by, is_shown_by, are_shown_by, is_cycle_by}
pub use Rattle.list_lemmas.proofs.Bools.{same_bool}
pub use Rattle.prune_ledger.specs.Ledger.{side_of, kept_side, kept_after, edges_after, IsShown, AreShown}
pub use Rattle.prune_ledger.specs.declared.ledger.LedgerEntry.{LedgerEntry}
pub use Rattle.pruning_laws.specs.Forced.{other}
pub use Rattle.reach_laws.specs.Reach.{IsCycle, Graph}
pub use Rattle.serializability.specs.Polygraph.{Edge, Polygraph}
pub use Rattle.std.proofs.Common.{◌≡◌, ◌⊎◌, ℕ, ◌+◌, ◌<◌, Bool, true, ◌&&◌, List, [], ◌∷◌, ◌++◌, length, get_or, take, drop, refl, sym, ap, ◌∙◌, subst, inl, inr, ◌*◌, ◌≤◌, false, eqb, ◌||◌, replicate, append_assoc, append-nil, arith, eq-eqb}
pub use Rattle.std.proofs.Common.{eqb-true}
pub use Rattle.std.proofs.lemmas.Bool.{false≢true, and_parts, and_from, or_cases, or_left, or_right}
pub use Rattle.std.proofs.lemmas.List.{drop_more, take_more}
pub use Rattle.std.specs.List.{list_any}
