-- What the proofs of this crate name of other modules.
pub use Rattle.key_tables.specs.Table.{mark_of, held_in, mark_behind}
pub use Rattle.list_lemmas.proofs.Elements.{behind, looked_up, item, get_map}
pub use Rattle.list_lemmas.proofs.Lists.{front_more, mapped_front, append_none}
pub use Rattle.log_definitions.proofs.Settled.{IsLearnt}
pub use Rattle.log_definitions.specs.Serial.{Committed, committed_of}
unfoldable pub use Rattle.log_definitions.specs.Serial.{committed_in}
pub use Rattle.log_definitions.specs.Unknown.{ops_in, settle, settled_as, is_committed, txns_in, taken}
unfoldable pub use Rattle.log_definitions.specs.Unknown.{settled, resolved}
pub use Rattle.log_definitions.specs.WellFormed.{first_seen}
unfoldable pub use Rattle.log_definitions.specs.WellFormed.{keys_in}
pub use Rattle.log_laws.proofs.Sessions.{nodes_from}
pub use Rattle.numbered_log.specs.Finding.{Grows, Finds, IsTable, held, AreFirst}
pub use Rattle.numbered_log.specs.Making.{Extends, AddsOps, AddsMoments, keys_of, ids_of, writers_of, noted, all_noted, IsMade, node_at, session_as, FindsAll}
unfoldable pub use Rattle.numbered_log.specs.Making.{node_of}
pub use Rattle.numbered_log.specs.Numbering.{StandsFor, EachStands, IsOnce, IsNumbering, IsNode, AreWriters, AreNodes}
pub use Rattle.numbered_log.specs.View.{between, moments_in, begun_in, ended_in, texts_of, identified}
unfoldable pub use Rattle.numbered_log.specs.View.{by_numbers}
pub use Rattle.numbered_log.specs.declared.log.Moments.{Moments}
pub use Rattle.numbered_log.specs.declared.log.Node.{Node}
pub use Rattle.numbered_log.specs.declared.log.NumberedLog.{NumberedLog}
pub use Rattle.numbered_log.specs.declared.making.Making.{Making}
pub use Rattle.serializability.proofs.Places.{length_mapped}
pub use Rattle.serializability.specs.Replay.{Store, write}
pub use Rattle.serializability.specs.declared.event.Event.{Event}
pub use Rattle.serializability.specs.declared.event.Event.TheVariants.{Read, Write}
pub use Rattle.session_log.specs.Text.{key_of, ClientSession, Transaction, view, view_txn}
pub use Rattle.session_log.specs.declared.session.Op.{Op}
pub use Rattle.std.proofs.Common.{◌≡◌, ℕ, zero, suc, ◌+◌, ◌-◌, ◌<◌, ◌≤◌, List, [], ◌∷◌, ◌++◌, length, get_or, take, drop, map, Option, Some, None, refl, sym, ap, ◌∙◌, subst, arith, append_assoc, true, false, inl, inr, ◌≢◌, ◌⊎◌, Bool, eqb}
pub use Rattle.std.proofs.Common.{eq-eqb, ne_eqb, cond, nat_cmp, vec_len, Vec}
pub use Rattle.std.proofs.lemmas.Bool.{cases_Bool, cases_eq, cond-true, cond-false, false≢true, or_left, or_right, lt-ltb}
pub use Rattle.std.proofs.lemmas.List.{take-append-le, take_all, length-append, map-append, get_or-set_same, get_or-set_other, length-set}
pub use Rattle.std.proofs.lemmas.Option.{same_Some, get_or_from_slice_get, slice_get_cases, slice_get_past, slice_get_within}
pub use Rattle.std.proofs.lemmas.Slice.Eq.{bytes_eq-Decides}
pub use Rattle.std.specs.BTreeMap.{get, is_at}
pub use Rattle.std.specs.BTreeSet.{contains}
pub use Rattle.std.specs.List.{flat_map, AllByRecursion, Contains, list_any}
pub use Rattle.std.specs.Prelude.{slice_get, option_and_then, slice_index, OnOk, Result, Ok, Err, ◌↔◌, IsTrue, nat_lt, slice_set, ◌%◌}
pub use Rattle.std.specs.Str.{bytes_eq}
