-- What the proofs of this crate name of other modules.
pub use Rattle.list_lemmas.proofs.Elements.{some_at, get_drop, looked_up}
pub use Rattle.numbered_log.specs.View.{between, begun_in, texts_of, event_of, ended_in, ops_in}
unfoldable pub use Rattle.numbered_log.specs.View.{by_numbers}
pub use Rattle.numbered_log.specs.declared.log.Node.{Node}
pub use Rattle.numbered_log.specs.declared.log.NumberedLog.{NumberedLog}
pub use Rattle.serial_checks.specs.Rest.{InSessions, InMoments, MayFollow, is_over, held_in}
pub use Rattle.serializability.proofs.Listed.{once_apart, once_length, once_from}
pub use Rattle.serializability.proofs.Places.{Has, Apart, Apart-from_IsDistinct}
pub use Rattle.serializability.proofs.Serial.{node_of}
pub use Rattle.serializability.proofs.Sources.{any_found, any_from}
pub use Rattle.serializability.specs.Log.{Log}
pub use Rattle.serializability.specs.Replay.{Store, write, empty, Meets, IsSerial, ListsOnce, Before}
pub use Rattle.serializability.specs.declared.event.Event.{Event}
pub use Rattle.session_log.specs.Moments.{is_earlier}
pub use Rattle.std.proofs.Common.{◌≡◌, ◌≢◌, ℕ, zero, suc, ◌<◌, ◌≤◌, true, false, eqb, not, ◌&&◌, List, [], ◌∷◌, ◌++◌, length, map, Some, refl, sym, ap, ◌∙◌, subst, inl, inr, arith, eq-eqb, ne_eqb, Bool, ◌||◌, Option, eqb-true}
pub use Rattle.std.proofs.Common.{◌+◌, ◌-◌, add-one, vec_len}
pub use Rattle.std.proofs.lemmas.Bool.{cases_eq, and_parts, and_from, not-true, not_from_false, eqb-false, false_from_ne_true, false≢true, cases_Bool, cases_order, or_parts}
pub use Rattle.std.proofs.lemmas.Option.{same_Some, slice_get_within, slice_get-get_or}
pub use Rattle.std.specs.List.{flat_map, IsDistinct, list_any, AllByRecursion}
pub use Rattle.std.specs.Option.{option_map_or}
pub use Rattle.std.specs.Prelude.{◌↔◌, nat_eq, slice_get, option_and_then, IsTrue, drop, slice_index}
