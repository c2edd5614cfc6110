-- What the proofs of this crate name of other modules.
pub use Rattle.decode_order.specs.Replaying.{lists_once, first_early, first_before_ended, PlacedOp, placed_from, in_replay, held, meets, first_mismatch, session_fault, moment_fault, read_fault}
unfoldable pub use Rattle.decode_order.specs.Replaying.{replay_fault}
pub use Rattle.log_definitions.specs.Numbers.{events_of}
unfoldable pub use Rattle.log_definitions.specs.Numbers.{log_of}
pub use Rattle.log_definitions.specs.Serial.{ops_of, begun_of, ended_of}
pub use Rattle.order_cnf.specs.Data.{cnf_of}
pub use Rattle.serializability.proofs.Fronts.{front_more, around, Apart-push, rest_from}
pub use Rattle.serializability.proofs.Listed.{Has_get, Has-from_any, any-from_Has, IsDistinct-from_Apart, once_apart, once_length, once_from, not_once_outside}
pub use Rattle.serializability.proofs.Places.{Has, Apart, Has-from_Contains, Contains-from_Has, Has-append_front, Has-append_back, Has-append_cases, Apart-not_both}
pub use Rattle.serializability.proofs.Ranks.{rank, rank-apart, rank-pos, rank-zero, rank-le, rank-onto}
pub use Rattle.serializability.proofs.Serial.{node_of}
pub use Rattle.serializability.proofs.Sources.{Has-from_range, range-from_Has, any_found, any_from}
pub use Rattle.serializability.specs.Decoded.{IsOrder, IsDecoded, before}
pub use Rattle.serializability.specs.Events.{event_key}
pub use Rattle.serializability.specs.Log.{Log}
pub use Rattle.serializability.specs.Replay.{ListsOnce, Store, empty, after, Meets, IsSerial}
pub use Rattle.serializability.specs.declared.event.Event.{Event}
pub use Rattle.session_log.specs.Moments.{is_earlier}
pub use Rattle.session_log.specs.Text.{ClientSession}
pub use Rattle.std.proofs.Common.{◌≡◌, ℕ, ◌+◌, ◌<◌, ◌≤◌, Bool, true, eqb, cond, List, [], ◌∷◌, get_or, refl, sym, ◌∙◌, subst, inl, inr, arith, eqb-true, eq-eqb, ne_eqb, Some, ap, length, ◌++◌, Option, None, append_assoc, ◌||◌, false, take}
pub use Rattle.std.proofs.Common.{drop, ◌≢◌, ◌-◌, zero, suc, rules}
pub use Rattle.std.proofs.lemmas.Bool.{cases_Bool, cond-true, cond-false, false≢true, and_from, and_parts, ltb-true, leb-true, lt-ltb, le-leb, cases_eq, true≢false, cases_lt, false_from_ne_true}
pub use Rattle.std.proofs.lemmas.Bool.{true_from_ne_false}
pub use Rattle.std.proofs.lemmas.List.{append-nil, get_or-set_same, get_or-set_other, length-set, at_drop_more, map-append, take_more, get_or_default, ext_get_or, get_or_read, take_all}
pub use Rattle.std.specs.List.{list_any, list_all, count_by, range_with_len, AllByRecursion, flat_map}
pub use Rattle.std.specs.Option.{option_or, option_map}
pub use Rattle.std.specs.Prelude.{nat_eq, nat_lt, nat_le, ◌&&◌, slice_set, map}
