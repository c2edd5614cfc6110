-- What the proofs of this crate name of other modules.
pub use Rattle.anomaly_laws.specs.Meaning.{ReadAt, IsExternal, IsUnknownRead, IsAbortedRead, IsIntermediateRead, IsOwnWriteMissed, IsFutureRead, IsSplitRead, IsNoAnomaly, IsUpdate, IsWrittenNowhere, IsIntermediateWrite}
pub use Rattle.serializability.proofs.Places.{Has, each_of_range, each_from_range, each_of_flat_map, each_from_flat_map, each_of_map, each_from_map, Apart, Has-from_Contains, Apart-from_IsDistinct, Has-append_front, Has-append_back}
pub use Rattle.serializability.proofs.Places.{Has-append_cases, Apart-not_both, Has-split}
pub use Rattle.serializability.proofs.Replays.{after_is, last_write-append, Meets_read, Meets_node, last_writer}
pub use Rattle.serializability.proofs.Serial.{is_some_from, some_cases, none_not_some, node_of}
pub use Rattle.serializability.proofs.Sources.{range-from_Has, any_found, any_from, external_read_split, external_read_some, wrote_is, wrote_from, SourceOf, source_is, writer_within, one_final, Has-from_range, is_write-self}
pub use Rattle.serializability.proofs.Sources.{later_none_parts, is_write}
pub use Rattle.serializability.specs.Anomalies.{writes_as, is_unknown, is_aborted, is_intermediate, is_other_read, external_anomaly, internal_anomaly, read_anomaly, updates, Place, places_from, first_some, places, anomaly_at, lost_update}
pub use Rattle.serializability.specs.Anomalies.{lost_updates, is_write_of}
unfoldable pub use Rattle.serializability.specs.Anomalies.{anomaly_of}
pub use Rattle.serializability.specs.Log.{Log}
pub use Rattle.serializability.specs.Polygraph.{committed, wrote, writer_of, source, all_nodes, all_keys}
pub use Rattle.serializability.specs.Reads.{last_write, external_read, IsFinal, ReadsAfter, WritesAfter, IsNumbered, IsClean, later}
pub use Rattle.serializability.specs.declared.anomaly.Anomaly.{Anomaly}
pub use Rattle.serializability.specs.declared.anomaly.ReadAnomaly.{ReadAnomaly}
pub use Rattle.serializability.specs.declared.anomaly.ReadAnomaly.TheVariants.{Unknown, Aborted, Intermediate, OwnWriteMissed, Future, Split}
pub use Rattle.serializability.specs.declared.event.Event.{Event}
pub use Rattle.serializability.specs.declared.event.Event.TheVariants.{Read, Write}
pub use Rattle.std.proofs.Common.{◌≡◌, ◌≢◌, ℕ, ◌<◌, ◌≤◌, Bool, true, false, eqb, not, ◌&&◌, cond, List, ◌∷◌, ◌++◌, Option, None, Some, refl, sym, ap, ◌∙◌, subst, inl, inr, arith, eqb-true, eq-eqb, ne_eqb, append_assoc, ◌⊎◌, zero, suc, ◌+◌}
pub use Rattle.std.proofs.Common.{[], length, unwrap_or}
pub use Rattle.std.proofs.lemmas.Bool.{cases_eq, cases_order, cases_Bool, false≢true, and_parts, and_from, and_cases, not-false, not_from_false, false_from_ne_true, or_cases, or_left, or_right, eqb-false, not-true, and_left, or_from}
pub use Rattle.std.proofs.lemmas.List.{append-nil}
pub use Rattle.std.proofs.lemmas.List.Folds.{list_any-from_Any, list_any-append}
pub use Rattle.std.specs.List.{find, list_any, AllByRecursion, flat_map, range_with_len, filter, Contains}
pub use Rattle.std.specs.Option.{option_map, option_map_or, option_or}
pub use Rattle.std.specs.Prelude.{is_some, map}
