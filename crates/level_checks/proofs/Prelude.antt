-- What the proofs of this crate name of other modules.
pub use Rattle.level_checks.specs.Chains.{Reaches, here, there, RootAt, IsChain, FoundIn, IsBehind, LeftAt, IsClear, Chains, Holds, pushed, IsOwn, Extends, IsFound, IsExternal, HeadBelow, Unseen, IsLook, links_of}
pub use Rattle.level_checks.specs.Nodes.{Brief, briefs, briefs_in, brief_of}
pub use Rattle.level_checks.specs.Seen.{NoneSeen, IsWithin, Includes, IsRow, SeenBy, AreClear, Keeps, IsJudged, IsClearLook, AreMarked, SeenIn}
pub use Rattle.level_checks.specs.Spots.{Spot, spot_cmp, AreNoted, AreKept}
pub use Rattle.level_checks.specs.Traces.{with_ops, with_op, AreLooks, IsTraced, IsLookOf, IsTracedOp}
pub use Rattle.level_checks.specs.Walk.{AreFound, brief_at, IsFollowed, number_at, ops_on, index_on, past, IsPast, IsKept, IsLast, Walked, session_at, ops_at, IsWalk}
pub use Rattle.level_checks.specs.declared.order.Last.{Last}
pub use Rattle.level_checks.specs.declared.seen.Row.{Row}
pub use Rattle.level_checks.specs.declared.trace.Look.{Look}
pub use Rattle.level_checks.specs.declared.trail.Passed.{Passed}
pub use Rattle.list_lemmas.proofs.Each.{member, each_member}
pub use Rattle.list_lemmas.proofs.Elements.{same_item, behind, get_put, looked_up, item, get_map, get_drop}
pub use Rattle.list_lemmas.proofs.Lists.{append_none, front_more}
pub use Rattle.log_definitions.proofs.Members.{each_weaker}
pub use Rattle.level_laws.specs.Seen.{last_write, ReadsBehind, WritesKey, IsEarlier, ReadsFrom, Direct, Past, Sees, IsLastSeen, FindsLast, IsLevelOrder}
pub use Rattle.level_laws.specs.declared.level.Level.{Level}
pub use Rattle.level_laws.specs.declared.level.Level.TheVariants.{ReadCommitted, MonotonicAtomicView, ReadAtomic, Causal}
pub use Rattle.serializability.proofs.Places.{each_from_append, Has, Apart, Apart-from_IsDistinct, Contains-from_Has, place_of-here, place_of-further, length_mapped}
pub use Rattle.session_log.specs.Text.{ClientSession, Transaction, view_txn, view}
pub use Rattle.session_log.specs.declared.session.Op.{Op}
pub use Rattle.session_log.specs.declared.session.Op.TheVariants.{Read, Write}
pub use Rattle.std.proofs.Common.{◌≡◌, ◌≢◌, ℕ, zero, suc, ◌-◌, ◌<◌, ◌≤◌, Bool, true, false, List, [], ◌∷◌, ◌++◌, length, unwrap_or, Option, Some, refl, sym, ap, ◌∙◌, subst, inl, inr, arith, ◌⊎◌, None, ◌+◌, map, get_or, cond, get_or-set_same}
pub use Rattle.std.proofs.Common.{get_or-set_other, rules}
pub use Rattle.std.proofs.lemmas.Bool.{cases_Bool, cases_order, false≢true}
pub use Rattle.std.proofs.lemmas.List.{append_assoc, length-append, map-append, drop_all}
pub use Rattle.std.proofs.lemmas.Option.{same_Some, slice_get-get_or, get_or_from_slice_get}
pub use Rattle.std.proofs.lemmas.Slice.Eq.{bytes_eq-Decides}
pub use Rattle.std.specs.BTreeSet.{BTreeSet, contains}
pub use Rattle.std.specs.List.{AllByRecursion, Contains, filter, enumerate_from}
pub use Rattle.std.specs.Option.{option_map_or}
pub use Rattle.std.specs.Prelude.{slice_get, if◌then◌else◌, slice_set, slice_index, take, drop, IfOk, IsTrue}
pub use Rattle.std.specs.Str.{bytes_eq}
