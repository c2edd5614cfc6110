-- What the proofs of this crate name of other modules.
pub use Rattle.list_lemmas.proofs.Elements.{get_drop, item}
pub use Rattle.log_definitions.specs.Unknown.{txns_in, ops_in}
pub use Rattle.log_parts.specs.Picked.{flag_of, flags_view, ops_by, with_txns, picked, is_named, has_named, has_read, wrote, known_in, is_kept}
pub use Rattle.part_laws.proofs.Chosen.{of_flagged, thinned_is_part}
pub use Rattle.part_laws.specs.Chosen.{flagged, stays, thin, thin_txn, is_source}
pub use Rattle.part_laws.specs.Parts.{IsThinned, IsTxnPart, IsSessionPart, done, left, kept, IsPart}
pub use Rattle.session_log.specs.Text.{ClientSession, Transaction, view, view_txn}
pub use Rattle.session_log.specs.declared.session.Op.{Op}
pub use Rattle.session_log.specs.declared.session.Session.{Session}
pub use Rattle.session_log.specs.declared.session.Txn.{Txn}
pub use Rattle.std.proofs.Common.{◌≡◌, ◌⊎◌, ℕ, zero, ◌+◌, ◌-◌, ◌≤◌, Bool, true, false, not, cond, ◌||◌, ◌&&◌, IsTrue, List, [], ◌∷◌, ◌++◌, length, map, refl, sym, ap, ◌∙◌, inl, inr, Some, arith, Vec, nat_cmp, take, subst}
pub use Rattle.std.proofs.Math.Bool.{or_assoc, or-false}
pub use Rattle.std.specs.BTreeSet.{BTreeSet, contains}
pub use Rattle.std.specs.List.{list_any, filter, Contains, AllByRecursion}
pub use Rattle.std.specs.Prelude.{drop, slice_get, slice_index_or, nat_eq}
