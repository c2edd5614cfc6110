-- What the proofs of this crate name of other modules.
pub use Rattle.census.specs.Reads.{faults_behind, faults_of_txns, is_aborted, is_intermediate, is_other_read, is_unknown, last_write, passes_over, read_fault, with_key, writes_as, reads_with}
unfoldable pub use Rattle.census.specs.Reads.{faults_in}
pub use Rattle.census.specs.Updates.{is_lost, first_read, loses_by, updates}
unfoldable pub use Rattle.census.specs.Updates.{lost_in}
pub use Rattle.list_lemmas.proofs.Comparisons.{bytes_flip}
pub use Rattle.log_definitions.proofs.Identities.{once_resolved, one_writer, WriteOnce, WriteOnce-filter}
pub use Rattle.log_definitions.proofs.Nodes.{kept_in, committed_count, node_ops}
pub use Rattle.log_definitions.proofs.Scanning.{written-append}
pub use Rattle.log_definitions.specs.Serial.{ops_of, set, IsSerialOrder, Map, Replays, committed_in, initial}
pub use Rattle.log_definitions.specs.Unknown.{is_committed, ops_in, resolved, txns_in}
pub use Rattle.log_definitions.specs.WellFormed.{written}
pub use Rattle.log_laws.specs.Logs.{IsSoundLog, HasOrder}
pub use Rattle.serializability.proofs.Places.{Has, Has-append_back, Apart-from_IsDistinct, Contains-from_Has, Has-from_Contains, Has-append_front, Apart, Apart-not_both, Has-append_cases}
pub use Rattle.serializability.specs.Reads.{later}
pub use Rattle.serializability.specs.declared.anomaly.ReadAnomaly.{ReadAnomaly}
pub use Rattle.session_log.specs.Text.{ClientSession, Transaction}
pub use Rattle.session_log.specs.declared.session.Op.{Op}
pub use Rattle.session_log.specs.declared.session.Op.TheVariants.{Read, Write}
pub use Rattle.std.proofs.Common.{◌≡◌, ◌⊎◌, ℕ, zero, suc, Bool, true, false, cond, ◌&&◌, ◌||◌, eqb, List, [], ◌∷◌, ◌++◌, append_assoc, Option, None, Some, refl, sym, ap, subst, ◌∙◌, inl, inr, unwrap_or, eq-eqb, ◌<◌, ◌≤◌, length, get_or, arith}
pub use Rattle.std.proofs.Common.{◌+◌}
pub use Rattle.std.proofs.lemmas.Bool.{false≢true, and_parts, cases_Bool, eqb-true}
pub use Rattle.std.proofs.lemmas.List.Concat.{flat_map-append}
pub use Rattle.std.proofs.lemmas.Slice.Eq.{bytes_eq-Decides}
pub use Rattle.std.specs.List.{flat_map, list_any, filter}
pub use Rattle.std.specs.Option.{option_map_or}
pub use Rattle.std.specs.Prelude.{not, slice_get, nat_lt, count_by, ◌==◌, is_some}
pub use Rattle.std.specs.Str.{bytes_eq}
