-- What the proofs of this crate name of other modules.
pub use Rattle.chain_laws.specs.Chains.{chain_choices, chain_polygraph}
pub use Rattle.cobra_answers.proofs.Telling.{told_all, cut_all, keeps}
pub use Rattle.cobra_answers.specs.Answers.{by_log, by_command}
pub use Rattle.cobra_answers.specs.Refusals.{poly_refusal}
pub use Rattle.cobra_answers.specs.declared.status.Status.{Status}
pub use Rattle.cobra_answers.specs.declared.status.Status.TheVariants.{Done, NotSerializable, Unknown}
pub use Rattle.cobra_cli.specs.Checked.{status_of, verdict_text, IsVerdict, IsUndecided}
pub use Rattle.cobra_cli.specs.Commands.{IsEncoding, IsAnswerTo, named_by, IsOrderText, IsDecoding, model, unsatisfiable, unknown, IsCounting, IsListed, IsVerified, IsRefusal, IsReplayRefused, IsNotVerified, is_memory, IsNotDecoded}
pub use Rattle.cobra_cli.specs.Commands.{unchecked_text, unknown_text, HasNoFormula}
pub use Rattle.cobra_cli.specs.Explained.{IsDecisionText, IsExplanation}
pub use Rattle.cobra_cli.specs.Statistics.{OpensNoMore, stats_text, count_line, unlearnt_text, taken_count}
pub use Rattle.cobra_formulas.proofs.Made.{serial_of, belongs_so}
pub use Rattle.cobra_formulas.specs.Formulas.{IsFormulaFrom, IsFormulaOf, IsFaithful, plain_basis, IsReducedFormula, by_anomaly, by_cycle, by_pruning, by_choices}
pub use Rattle.cobra_formulas.specs.declared.basis.Basis.{Basis}
pub use Rattle.deciding.specs.Decides.{Decides, IsDecided, HasNoOrder, IsSearched}
pub use Rattle.deciding.specs.declared.decision.Decision.{Decision}
pub use Rattle.decode_order.specs.Replaying.{lists_once, first_early, first_before_ended, PlacedOp, placed_from, in_replay, meets, first_mismatch, IsReplayFault}
unfoldable pub use Rattle.decode_order.specs.Replaying.{replay_fault}
pub use Rattle.decode_order.specs.declared.fault.ReplayFault.{ReplayFault}
pub use Rattle.dimacs.specs.Answer.{IsAnswer, items_of}
pub use Rattle.dimacs.specs.Text.{text_of}
pub use Rattle.log_definitions.proofs.Nodes.{nodes_of_serial}
pub use Rattle.log_definitions.proofs.Renaming.{serial_numbered, serial_by_keys}
pub use Rattle.log_definitions.proofs.Room.{room, room_behind}
pub use Rattle.log_definitions.specs.Numbers.{log_of, IsWellFormedList}
pub use Rattle.log_definitions.specs.Serial.{committed_in, IsSerialOrder}
pub use Rattle.log_definitions.specs.WellFormed.{IsWellFormed, keys_in, is_aborted}
pub use Rattle.order_cnf.specs.Data.{cnf_of}
pub use Rattle.order_text.specs.Text.{order_text}
pub use Rattle.pruning_laws.specs.Forced.{Sides, open_from, edges_with}
pub use Rattle.serializability.specs.Anomalies.{anomaly_of, anomaly_number}
pub use Rattle.serializability.specs.Decoded.{before, IsDecoded}
pub use Rattle.serializability.specs.Formula.{Cnf, Satisfies}
pub use Rattle.serializability.specs.Log.{Log}
pub use Rattle.serializability.specs.Polygraph.{Choice, Polygraph, arcs}
pub use Rattle.serializability.specs.Replay.{Store, empty, after, ListsOnce}
pub use Rattle.serializability.specs.declared.anomaly.Anomaly.{Anomaly}
pub use Rattle.session_log.specs.Text.{ClientSession}
pub use Rattle.session_log.specs.Version.{version_of, first_line}
pub use Rattle.session_log.specs.declared.version.Version.{Version}
pub use Rattle.std.proofs.Common.{◌≡◌, ℕ, Bool, List, length, None, Some, refl, sym, subst, suc, ◌+◌, ◌≤◌, true, false, cond, ◌||◌, [], ◌∷◌, ◌++◌, Option, ap, ◌∙◌, arith, append_assoc, ◌⊎◌, ◌<◌, inl, inr, get_or, ◌-◌}
pub use Rattle.std.proofs.lemmas.Result.{err_from_is_err_and}
