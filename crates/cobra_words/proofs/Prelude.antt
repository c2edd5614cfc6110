-- What the proofs of this crate name of other modules.
pub use Rattle.clap.specs.Built.{AddsArg, AddsSubcommand}
pub use Rattle.clap.specs.Matches.{first_value, one_text, ReadsOne, found_of}
pub use Rattle.clap.specs.Simple.{App, with_rule, with_subcommand, shape_of, is_simple, subcommand_of, subcommand_rows_of, HasMatchesOf, new_app}
pub use Rattle.clap.specs.Walk.{Rule, rule_of, Row, Text, rows_of, first_of, one_of}
pub use Rattle.cobra_words.specs.Asked.{IsAskedBy, IsInRange, IsAskedFor, IsAskedForNone, IsShownFor, IsFlag, IsNumber}
pub use Rattle.cobra_words.specs.Commands.{HasRule, HasApp, Lists, program_app, strategies, with_audit, with_report, with_search, HasListApp, IsAudit, required_file, form, level, IsExplain, IsProgram, conflicts, levels, flag, reports, strategy}
pub use Rattle.cobra_words.specs.Commands.{budget, with_workers}
pub use Rattle.std.proofs.Common.{ap, ◌∙◌, ◌≡◌, List, [], Option, None, Some, sym, subst, refl, inl, inr, true, ℕ, Bool, false, Result, Ok, Err, rules, map, string_bytes}
pub use Rattle.std.proofs.lemmas.Result.{IfOk-weaker}
pub use Rattle.std.specs.Prelude.{◌||◌, option_map, codes, unwrap_or, is_some, option_and_then}
pub use Rattle.std.specs.Str.Parse.{ParsesBool, ParsesUnsigned, ExplainsUnsignedError, HasUnsignedDigitsIfOk}
pub use Rattle.std.specs.declared.num.ParseIntError.{ParseIntError}
