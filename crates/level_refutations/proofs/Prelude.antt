-- What the proofs of this crate name of other modules.
pub use Rattle.point_laws.proofs.Nodes.{op_in_log, one_node, is_node, nodes_are}
pub use Rattle.level_refutations.specs.Edges.{overlooks, is_initial, is_edge, edge_from, edge_to, is_line, is_circle, op_of, is_step, is_hop, is_path, overlooks_by, is_session_step, is_read_step, may_see, is_read_before, begins_before}
pub use Rattle.level_refutations.specs.Edges.{is_forced}
pub use Rattle.level_refutations.specs.Laws.{ForcedIsKept, InitialIsNotOverlooked, Stands, Overlooks, Stood, NoOrderWhereRefuted, EdgesAreKept, HasItsReads, OrderIsOfEdges, IsForced, ShowsForced, EachIsShown, ReadsWhereNoFault, EdgesStand}
pub use Rattle.level_refutations.specs.Laws.{EdgesHaveNodes, Follows, once, then, OrderWhereNoCircle}
pub use Rattle.level_refutations.specs.Places.{txn_at, op_at, is_same, is_of_initial, names_initial, any_at, both, is_named, is_of_key, is_read_where, has_key, is_first, is_external, kept_at}
pub use Rattle.level_refutations.specs.Whys.{is_some_wid, leaves, is_left_at, is_left_by, is_left_in, misses_last, misses, is_fault_in, is_fault, is_why, writes_in, is_unwritten, is_left, is_last_in, is_last, place}
pub use Rattle.level_refutations.specs.Words.{StepInWords, HopInWords, Leads, SightInWords, EdgeInWords, RightIsInWords, IsLastFor, WhyInWords, IsReadOf, IsNamed, IsWriteFor}
pub use Rattle.level_refutations.specs.declared.evidence.Edge.{Edge}
pub use Rattle.level_refutations.specs.declared.evidence.Evidence.TheVariants.{Fault, Circle, Initial}
pub use Rattle.level_refutations.specs.declared.evidence.Hop.{Hop}
pub use Rattle.level_refutations.specs.declared.evidence.OpAt.{OpAt}
pub use Rattle.level_refutations.specs.declared.evidence.Overlooked.{Overlooked}
pub use Rattle.level_refutations.specs.declared.evidence.Step.{Step}
pub use Rattle.level_refutations.specs.declared.evidence.TxnAt.{TxnAt}
pub use Rattle.list_lemmas.proofs.Elements.{contains_at, get_drop, same_item, mapped, some_at, get_map}
pub use Rattle.log_definitions.specs.Serial.{ops_of, committed_in, Committed, committed_of, session_of}
unfoldable pub use Rattle.log_definitions.specs.Serial.{node_of}
pub use Rattle.log_definitions.specs.Unknown.{ops_in, is_committed, reads_write}
pub use Rattle.log_laws.specs.Logs.{IsSoundLog, IsLearntLog}
pub use Rattle.node_names.specs.Names.{node_at}
pub use Rattle.level_laws.specs.Seen.{last_write, ReadsBehind, IsLevelOrder, FindsLast, IsEarlier, Direct, Past, step, path, Sees, IsReadBehind, ReadsFrom}
pub use Rattle.level_laws.specs.declared.level.Level.{Level}
pub use Rattle.level_laws.specs.declared.level.Level.TheVariants.{ReadCommitted, MonotonicAtomicView, ReadAtomic, Causal}
pub use Rattle.serializability.proofs.Places.{Apart-from_IsDistinct, Apart, Has-from_Contains}
pub use Rattle.serializability.specs.Replay.{Before}
pub use Rattle.session_log.specs.Text.{ClientSession, Transaction, view, view_txn}
pub use Rattle.session_log.specs.declared.session.Op.{Op}
pub use Rattle.session_log.specs.declared.session.Op.TheVariants.{Write, Read}
pub use Rattle.std.proofs.Common.{◌≡◌, ℕ, List, ◌∷◌, ◌∙◌, subst, inl, inr, ◌≢◌, true, false, not, ◌&&◌, [], eqb, eqb-true, Option, Some, None, refl, sym, ap, arith, take, eq-eqb, ltb, length, ◌<◌, Bool, ◌++◌, ◌+◌, drop, ◌⊎◌, zero, suc, ◌*◌}
pub use Rattle.std.proofs.Common.{◌≤◌, ◌||◌, map}
pub use Rattle.std.proofs.lemmas.Bool.{cases_eq, and_parts, and_from, false≢true, not-true, eqb-false, ltb-true, cases_Bool, lt-ltb, ne_eqb, cases_lt, cases_order, cond-true, false_from_ne_true}
pub use Rattle.std.proofs.lemmas.List.{get_or_append_left, length-append, take-append-drop, get_or-take, length-take}
pub use Rattle.std.proofs.lemmas.Option.{same_Some, slice_get-get_or, slice_get_within, get_or_from_slice_get, cond_some}
pub use Rattle.std.proofs.lemmas.Slice.Eq.{bytes_eq-Decides}
pub use Rattle.std.specs.List.{Contains, enumerate_from, AllByRecursion, list_any, filter}
pub use Rattle.std.specs.Option.{option_map_or}
pub use Rattle.std.specs.Prelude.{slice_get, is_some, option_and_then}
pub use Rattle.std.specs.Str.{bytes_eq}
