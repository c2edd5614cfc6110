-- What the proofs of this crate name of other modules.
pub use Rattle.cobra_answers.specs.Answers.{by_command, IsRefused, by_log}
pub use Rattle.cobra_answers.specs.declared.fault.Fault.{Fault}
pub use Rattle.cobra_calls.specs.Audits.{part_names, StandsIn, StandsTwice, AreApart, IsUnwritten, Asks, IsRefusalTold, IsAuditEnding, by_memory, IsHandedOn, twice_line, by_names, cut_refusal, cut_report, cut_files, order_names, part_files}
pub use Rattle.cobra_calls.specs.Audits.{order_files}
pub use Rattle.cobra_calls.specs.Calls.{IsDone, IsEnded, log_name}
pub use Rattle.cobra_calls.specs.Censuses.{IsCensusEnding, by_device}
pub use Rattle.cobra_calls.specs.Endings.{IsUnusable, ending_of, failures_by, IsToldSo, told_as, IsUsage, IsUnusableLine, IsRefusedBy, IsUnread}
pub use Rattle.cobra_calls.specs.Explains.{IsSaid, IsUnsaid, said_fault, IsExplainEnding}
pub use Rattle.cobra_calls.specs.Files.{File, Disk, Grows, Adds, FailsAt}
pub use Rattle.cobra_calls.specs.Handed.{TellsFront}
pub use Rattle.cobra_calls.specs.Splits.{no_room_line, by_locks, IsSplitEnding}
pub use Rattle.cobra_calls.specs.Worlds.{Held, IsReading, IsLogRead, IsNamedRead, IsEnding, IsAnswer, AreReads, with_named, IsReadUpTo, by_answer, by_ending, by_output, IsLogUnread}
pub use Rattle.cobra_calls.specs.declared.ending.Ending.{Ending}
pub use Rattle.cobra_calls.specs.declared.ending.Ending.TheVariants.{Stop, Proof, Told}
pub use Rattle.cobra_cli.specs.Checked.{IsUndecided}
pub use Rattle.cobra_cli.specs.Explained.{IsExplanation}
pub use Rattle.cobra_words.specs.declared.request.Request.{Request}
pub use Rattle.session_log.specs.Version.{version_of}
pub use Rattle.std.proofs.Common.{◌≡◌, ◌≢◌, ℕ, ◌+◌, List, [], ◌∷◌, ◌++◌, Option, None, Some, length, refl, sym, ap, ◌∙◌, arith, length-append, append_assoc, append-nil, Err, subst, inl, inr, Bool, true, false, if◌then◌else◌, zero, suc, ◌-◌}
pub use Rattle.std.proofs.Common.{◌≤◌, take, Result, Ok, IfOk, string_bytes, rules}
pub use Rattle.std.proofs.Math.Seq.{take-length, take-append-add}
pub use Rattle.std.proofs.lemmas.Result.{err_from_is_err_and, IfErr-weaker, on_ok_weaker}
pub use Rattle.std.specs.Io.KnownBytes.{Keeps, Appends}
pub use Rattle.std.specs.Prelude.{codes, String}
