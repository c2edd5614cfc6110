-- What the proofs of this crate name of other modules.
pub use Rattle.list_lemmas.proofs.Elements.{behind, get_drop, item, get_map}
pub use Rattle.list_lemmas.proofs.Lists.{append_none}
pub use Rattle.log_definitions.specs.Serial.{Committed}
pub use Rattle.node_names.specs.Names.{nodes_from, names_of, node_at, nodes_of}
pub use Rattle.session_log.specs.Text.{Transaction, view_txn, view}
pub use Rattle.std.proofs.Common.{◌≡◌, ℕ, List, [], ◌∷◌, ◌++◌, map, refl, sym, ap, ◌∙◌, arith, ◌+◌, ◌≤◌, true, false, length, Some, Vec}
pub use Rattle.std.proofs.lemmas.List.{drop_all, map-append, append_assoc}
pub use Rattle.std.specs.List.{Contains}
pub use Rattle.std.specs.Prelude.{drop, slice_get}
