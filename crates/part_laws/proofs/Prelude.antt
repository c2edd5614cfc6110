-- What the proofs of this crate name of other modules.
pub use Rattle.list_lemmas.proofs.Elements.{behind}
pub use Rattle.log_definitions.proofs.Chosen.{Has-written}
pub use Rattle.log_definitions.proofs.Members.{member, each_member}
pub use Rattle.log_definitions.proofs.Settled.{numbers_settled, ops_settled, each_from_settled, outcome_learnt, IsLearnt}
pub use Rattle.log_definitions.specs.Serial.{Committed, committed_of, initial, Map, set, Replays}
pub use Rattle.log_definitions.specs.Unknown.{ops_in, is_committed, committed_ops, txns_in, settled_as, settle}
unfoldable pub use Rattle.log_definitions.specs.Unknown.{settled}
pub use Rattle.log_definitions.specs.WellFormed.{written}
pub use Rattle.log_laws.proofs.Identities.{ops_by, ops_in-cons, IsOrdered, ops_of_nodes, once_front, once_back, one_writer, not_both}
pub use Rattle.log_laws.proofs.Lines.{MayPrecede, EachPair, ops_along}
pub use Rattle.log_laws.proofs.Lists.{first_or_behind, of_kept, ops_within}
pub use Rattle.log_laws.proofs.Orders.{InOrder, put_behind, put_cases, put_pairs, put, same_node}
pub use Rattle.log_laws.proofs.Sessions.{node_at, nodes_from, nodes_of, in_order}
pub use Rattle.log_laws.proofs.Txns.{numbers_of, AreLearnt, split}
pub use Rattle.log_laws.specs.Logs.{has_txns, IsSoundLog, HasOrder}
pub use Rattle.part_laws.specs.Parts.{kept, IsThinned, done, left, IsTxnPart, IsSessionPart, IsPart, PartHasOwnOrder, PartIsLog, PartOfPart, PartHasOrder, NoOrderOfPart}
pub use Rattle.serializability.proofs.Listed.{Has-from_any, any-from_Has, IsDistinct-from_Apart}
pub use Rattle.serializability.proofs.Places.{Has, Apart, Apart-from_IsDistinct, Has-append_cases, Apart-append}
pub use Rattle.session_log.specs.Moments.{is_earlier, IsMoment}
pub use Rattle.session_log.specs.Text.{ClientSession, Transaction, IsLegal, IsLegalOp, IsLegalTxn, MayEndAt, IsKnownBeforeLast, is_unknown, is_commit}
pub use Rattle.session_log.specs.declared.session.Op.{Op}
pub use Rattle.session_log.specs.declared.session.Op.TheVariants.{Read, Write}
pub use Rattle.std.proofs.Common.{◌≡◌, ℕ, ◌+◌, Bool, List, [], ◌∷◌, ◌++◌, map, refl, sym, ap, ◌∙◌, subst, inl, inr, arith, ◌<◌, true, eqb, cond, Option, Some, None, eq-eqb, eqb-true, ◌⊎◌}
pub use Rattle.std.proofs.lemmas.Bool.{cases_Bool, and_parts, and_from}
pub use Rattle.std.proofs.lemmas.List.Elements.{filter-append, Contains-append_left, Contains-append_right, Contains-append_cases}
pub use Rattle.std.specs.List.{filter, Contains, AllByRecursion, flat_map}
