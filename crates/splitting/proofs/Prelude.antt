-- What the proofs of this crate name of other modules.
pub use Rattle.point_laws.specs.Prefix.{no_locks}
pub use Rattle.point_laws.specs.Snapshot.{HasSnapshotOrder, HasPrefixOrder, is_in, snapshot_reads_behind, rest_behind}
pub use Rattle.point_laws.specs.Split.{Locks, HasKey, split_writers, first_writes_behind, take_lock, find_lock}
pub use Rattle.list_lemmas.proofs.Bools.{and_first, cond_or}
pub use Rattle.list_lemmas.proofs.Comparisons.{bytes_flip}
pub use Rattle.list_lemmas.proofs.Lists.{front_more, mapped_left}
pub use Rattle.log_definitions.proofs.Members.{member, each_member}
pub use Rattle.log_definitions.proofs.Scanning.{written-append}
pub use Rattle.log_definitions.specs.Numbers.{number_in}
pub use Rattle.log_definitions.specs.Unknown.{ops_in, txns_in, resolved}
pub use Rattle.log_definitions.specs.WellFormed.{written, first_seen}
unfoldable pub use Rattle.log_definitions.specs.WellFormed.{keys_in}
pub use Rattle.log_laws.proofs.Lists.{of_mapped, of_flat, test_le, first_or_behind}
pub use Rattle.log_laws.proofs.Sessions.{le_true}
pub use Rattle.serializability.proofs.Places.{Has, Has-from_Contains, place_within, each_of_append, Apart, Apart-from_IsDistinct, Apart-not_both, place_of-back, place_of-here}
pub use Rattle.serializability.specs.Replay.{place_of}
pub use Rattle.session_log.specs.Key.{IsKey, is_key}
unfoldable pub use Rattle.session_log.specs.Key.{is_key_byte}
pub use Rattle.session_log.specs.Text.{ClientSession, IsLegal, IsLegalOp, IsLegalTxn, key_of, view, view_txn, Transaction}
pub use Rattle.session_log.specs.declared.session.Op.{Op}
pub use Rattle.session_log.specs.declared.session.Op.TheVariants.{Read, Write}
pub use Rattle.splitting.specs.Halves.{has, Lists, with_behind, lists_in, ComesTo, ops_by, parts}
pub use Rattle.splitting.specs.Locks.{leading, most_leading, longest, largest, lock_key, marks, is_long, name_in, widest, refusal, HasRoom, greatest, wid_of, most_marks}
unfoldable pub use Rattle.splitting.specs.Locks.{locks_of, no_room}
pub use Rattle.splitting.specs.Names.{AreNumbers, Adds, number_by, name_by, lock_by, NumbersWhere}
pub use Rattle.splitting.specs.Room.{Finds, Fit, GiveBehind, AreNamed}
pub use Rattle.splitting.specs.Sides.{AreSides}
pub use Rattle.splitting.specs.declared.names.Names.{Names}
pub use Rattle.splitting.specs.declared.numbers.KeyNumbers.{KeyNumbers}
pub use Rattle.splitting.specs.declared.survey.Survey.{Survey}
pub use Rattle.std.proofs.Common.{◌≡◌, ℕ, zero, suc, ◌+◌, ◌/◌, ◌%◌, ◌≤◌, ◌<◌, ◌^◌, ◌||◌, ◌&&◌, Bool, true, false, List, [], ◌∷◌, length, refl, sym, ap, ◌∙◌, inl, inr, arith, map, ◌⊎◌, subst, Option, Some, None, cond, max, ◌++◌, not, get_or}
pub use Rattle.std.proofs.Common.{drop, append_assoc, take}
pub use Rattle.std.proofs.lemmas.Bool.{cases_Bool, and_from, false≢true, cond-true, cond-false, or_left, or_right}
pub use Rattle.std.proofs.lemmas.List.{length-append, map-append, drop_more, append-nil, take_all}
pub use Rattle.std.proofs.lemmas.Slice.Eq.{bytes_eq-Decides}
pub use Rattle.std.specs.Cmp.Lexicographic.{slice_cmp}
pub use Rattle.std.specs.List.{list_all, AllByRecursion, Contains, list_any, flat_map, IsDistinct}
pub use Rattle.std.specs.Option.{is_some, unwrap_or, option_map_or}
pub use Rattle.std.specs.Ordering.{nat_cmp, is_eq}
pub use Rattle.std.specs.Prelude.{nat_le, ◌==◌, decimal, replicate, nat_lt, ◌↔◌, nat_eq}
pub use Rattle.std.specs.Str.{bytes_eq}
