-- What the proofs of this crate name of other modules.
pub use Rattle.chain_laws.proofs.Walks.{some_one}
pub use Rattle.list_lemmas.proofs.Each.{member, each_member}
pub use Rattle.list_lemmas.proofs.Elements.{contains_at, get_map, mapped}
pub use Rattle.list_lemmas.proofs.Lists.{front_more}
pub use Rattle.list_lemmas.proofs.Options.{none_of, some_of}
pub use Rattle.log_definitions.proofs.Members.{each_weaker}
pub use Rattle.log_definitions.specs.Numbers.{number_in, log_of, IsWellFormedList, event_of}
pub use Rattle.log_definitions.specs.Serial.{ops_of, session_of}
pub use Rattle.log_definitions.specs.WellFormed.{keys_in}
pub use Rattle.reason_laws.proofs.Numbers.{within, before_at, reads_after, none_before, reads_in, reads_key, source_of_read, node_from, final_at, ops_is, listed_at, key_within, wrote}
pub use Rattle.reason_laws.specs.Reasons.{IsNode, IsOpAt, IsNoWriteOf, ReadsAt, IsReadBy, Link, AreLinked, left_by, IsOfInitialBefore, IsOverwrittenBy, AreOfSession}
pub use Rattle.reason_laws.specs.declared.crossing.Crossing.{Crossing}
pub use Rattle.reasons.specs.Crossed.{looks_at, ReadsBoth, pair, pairs_by, ArePairs, IsSquare, NoSquare, IsSquareOf, AmongPairs, NoSquareOf, pair_cmp, triple_cmp, by_versions, AreReaders, shared_by, HasEntered}
pub use Rattle.reasons.specs.Firsts.{is_read_of, names, IsFirstRead, NoneBefore, IsPairOf}
pub use Rattle.reasons.specs.Given.{IsLeastRead, NoneRead, IsLeastInitial, NoneInitial, IsLeastOverwrite, NoneOverwritten}
pub use Rattle.reasons.specs.Initials.{IsBackIn, FollowsInitial, IsBegun, IsBeginning, BeginsAt, ArePlain}
pub use Rattle.reasons.specs.Overwrites.{IsBelow, IsLess, IsAlikeWrite, IsUpTo, IsLeastWrite, ReadsAlike}
pub use Rattle.reasons.specs.Runs.{is_behind, goes_on, is_between, without_runs}
unfoldable pub use Rattle.reasons.specs.Runs.{told_behind}
pub use Rattle.reasons.specs.declared.crossed.Pair.{Pair}
pub use Rattle.reasons.specs.declared.operations.KeyWrite.{KeyWrite}
pub use Rattle.serializability.proofs.Places.{each_from_range, each_of_range, each_from_map, each_of_map}
pub use Rattle.serializability.proofs.Sources.{source_is, one_final, is_write, is_write-self, source_within}
pub use Rattle.serializability.specs.Events.{event_key}
pub use Rattle.serializability.specs.Log.{Log}
pub use Rattle.serializability.specs.Polygraph.{source, all_keys}
pub use Rattle.serializability.specs.Reads.{IsFinal, IsClean, WritesAfter, IsNumbered}
pub use Rattle.serializability.specs.declared.event.Event.{Event}
pub use Rattle.session_history.specs.Tables.{sources_of, writers_in, pair_at}
pub use Rattle.session_log.specs.Text.{ClientSession, key_of}
pub use Rattle.session_log.specs.declared.session.Op.TheVariants.{Read, Write}
pub use Rattle.std.proofs.Common.{◌≡◌, ℕ, ◌≤◌, true, List, None, Some, sym, ap, ◌∙◌, subst, eqb-true, eq-eqb, position, ◌≢◌, ◌<◌, Option, inl, inr, get_or, slice_get, is_some, Contains, zero, suc, ◌+◌, false, [], ◌∷◌, length, refl, arith}
pub use Rattle.std.proofs.Common.{nat_eq, option_map, ◌-◌, ◌*◌, ◌++◌, map, Bool, not, take, eqb, nat_lt, ◌⊎◌, cond, nat_cmp, ◌^◌, min, rules, take_all}
pub use Rattle.std.proofs.lemmas.Bool.{false≢true, ne_eqb, cases_lt, cases_eq, true_from_ne_false, and_parts, cond_both, ltb-true, eqb-false, not-true}
pub use Rattle.std.proofs.lemmas.List.Elements.{Contains-append_left, Contains-append_right, Contains-append_cases, Contains-push_cases}
pub use Rattle.std.proofs.lemmas.List.Sums.{sum_by_push, prefix_len_passes}
pub use Rattle.std.proofs.lemmas.Option.{get_or_from_slice_get, slice_get_within, slice_get-get_or, slice_get-map}
pub use Rattle.std.specs.BTreeMap.{BTreeMap, get, is_at, Updates, IsFromIterResult}
pub use Rattle.std.specs.List.{AllByRecursion, cons_option, filter_map, sum_by, range_with_len}
unfoldable pub use Rattle.std.specs.List.{IsDistinct}
pub use Rattle.write_chains.proofs.Gathered.{pair_of}
