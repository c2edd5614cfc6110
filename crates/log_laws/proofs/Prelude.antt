-- What the proofs of this crate name of other modules.
pub use Rattle.list_lemmas.proofs.Elements.{behind, mapped, contains_at}
pub use Rattle.log_definitions.proofs.Members.{member, themselves, each_weaker, each_member}
pub use Rattle.log_definitions.proofs.Nodes.{ops_of_each, each_kept, each_at}
pub use Rattle.log_definitions.proofs.Renumbered.{Orders, session_at, ops_at, begun_at, ended_at}
pub use Rattle.log_definitions.proofs.Settled.{txn_ops, each_from_settled, numbers_resolved, ops_resolved, learnt_resolved, outcome_learnt, IsLearnt}
pub use Rattle.log_definitions.specs.Serial.{Committed, committed_of, Map, Replays, node_in, initial, set}
unfoldable pub use Rattle.log_definitions.specs.Serial.{committed_in}
pub use Rattle.log_definitions.specs.Unknown.{is_committed, txns_in, ops_in, committed_ops, settle, taken, resolved, settled_as}
unfoldable pub use Rattle.log_definitions.specs.Unknown.{settled}
pub use Rattle.log_definitions.specs.WellFormed.{written}
pub use Rattle.log_laws.specs.Logs.{IsSoundLog, IsLearntLog, IsLog, HasOrder}
pub use Rattle.serializability.proofs.Listed.{Has_get, IsDistinct-from_Apart}
pub use Rattle.serializability.proofs.Places.{Has, Apart, Has-append_front, Has-append_back, Apart-not_both, each_of_flat_map, each_from_flat_map, Apart-from_IsDistinct, each_from_append, each_from_map, each_of_filter, each_from_filter}
pub use Rattle.serializability.proofs.Places.{Has-from_Contains, Contains-from_Has, place_of-here, place_of-further}
pub use Rattle.session_log.specs.Moments.{is_earlier}
pub use Rattle.session_log.specs.Text.{ClientSession, Transaction, IsLegal, IsLegalTxn, MayEndAt, IsKnown, is_unknown, IsLegalOp}
pub use Rattle.session_log.specs.declared.session.Op.{Op}
pub use Rattle.session_log.specs.declared.session.Op.TheVariants.{Write, Read}
pub use Rattle.std.proofs.Common.{◌≡◌, ℕ, zero, suc, ◌+◌, false, List, [], ◌∷◌, ◌++◌, map, refl, sym, ap, ◌∙◌, subst, inl, inr, arith, ◌<◌, ◌⊎◌, ◌≤◌, Bool, true, not, ◌≢◌, Some, eqb, ◌&&◌, cond, length, get_or, Option, None, eq-eqb}
pub use Rattle.std.proofs.Common.{eqb-true, ◌-◌}
pub use Rattle.std.proofs.lemmas.Bool.{cases_Bool, cases_order, false≢true, cases_eq, and_parts, and_from}
pub use Rattle.std.proofs.lemmas.Option.{slice_get-get_or, slice_get_within}
pub use Rattle.std.specs.List.{filter, flat_map, AllByRecursion, Contains, IsDistinct, enumerate_from}
pub use Rattle.std.specs.Prelude.{◌↔◌, nat_le, slice_get, option_and_then, nat_eq}
