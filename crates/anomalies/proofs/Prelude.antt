-- What the proofs of this crate name of other modules.
pub use Rattle.anomalies.specs.Updates.{lost_updates_of, lost_by, readers_from, first_of, first_two, updater_of, AreOfKeysBelow, AreFirst, clash_from, clash_with, lesser, IsLeastClash}
pub use Rattle.anomalies.specs.Usage.{IsUsage, used_by, used_after, AreBelow, AreMarked, StandsAt, split_anomaly, own_write, names_other}
pub use Rattle.anomalies.specs.declared.reads.LastUse.{LastUse}
pub use Rattle.anomalies.specs.declared.reads.Usage.{Usage}
pub use Rattle.anomalies.specs.declared.updates.Clash.{Clash}
pub use Rattle.anomaly_laws.proofs.First.{first-append}
pub use Rattle.log_definitions.specs.Numbers.{events_of, IsWellFormedList}
unfoldable pub use Rattle.log_definitions.specs.Numbers.{log_of}
pub use Rattle.serializability.proofs.Sources.{source_within, Has-from_range, range-from_Has, any_found, any_from, wrote_is}
pub use Rattle.serializability.specs.Anomalies.{first_some, updates, lost_update, event_anomaly, writes_as, is_unknown, is_aborted, is_intermediate, external_anomaly, Place, places_from, anomaly_at, is_other_read, read_anomaly}
pub use Rattle.serializability.specs.Events.{event_key}
pub use Rattle.serializability.specs.Log.{Log}
pub use Rattle.serializability.specs.Polygraph.{committed, source}
pub use Rattle.serializability.specs.Reads.{last_write, WritesAfter, IsNumbered}
pub use Rattle.serializability.specs.declared.anomaly.Anomaly.{Anomaly}
pub use Rattle.serializability.specs.declared.anomaly.ReadAnomaly.{ReadAnomaly}
pub use Rattle.serializability.specs.declared.anomaly.ReadAnomaly.TheVariants.{Unknown, Aborted, Future, Intermediate, Split}
pub use Rattle.serializability.specs.declared.event.Event.{Event}
pub use Rattle.serializability.specs.declared.event.Event.TheVariants.{Read, Write}
pub use Rattle.std.proofs.Common.{◌≡◌, ℕ, zero, suc, ◌+◌, ◌<◌, ◌≤◌, Bool, true, false, eqb, cond, ◌&&◌, List, [], ◌∷◌, ◌++◌, length, get_or, Option, None, Some, refl, sym, ap, ◌∙◌, subst, inl, inr, arith, eq-eqb, ne_eqb, set, ◌≢◌, not}
pub use Rattle.std.proofs.Common.{append_assoc, ◌-◌, take, drop, ◌||◌}
pub use Rattle.std.proofs.lemmas.Bool.{cases_eq, cases_lt, cond-true, cond-false, lt-ltb, le-ltb, false≢true, false_from_ne_true, and_left, and_right, and_from, not_from_true, not_from_false, not-false, eqb-true, eqb-false}
pub use Rattle.std.proofs.lemmas.List.{append-nil, get_or_default, get_or-set_same, get_or-set_other, length-set, at_drop_more, at_drop_all, take_more, append_cancel_left, take-append-drop, drop_more, length-take-le, with_items_is, take_all}
pub use Rattle.std.specs.List.{filter, flat_map, range_with_len, list_any, AllByRecursion, Contains}
pub use Rattle.std.specs.Option.{option_map, option_map_or, option_or, IfSome}
pub use Rattle.std.specs.Prelude.{map, option_and_then, slice_get}
