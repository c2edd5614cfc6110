use Rattle.cobra_words.proofs.Prelude.{IfOk-weaker, AddsSubcommand, IsProgram}
use Rattle.cobra_words.proofs.Adding.{subcommand_step}
use Rattle.cobra_words.proofs.commands.program.Goals as goal

pub returns : goal.returns
returns c =
    let check = c.in_ok-check.ensures.app in
    let explain = c.in_ok-explain.ensures.app in
    let audit = c.in_ok-audit.ensures.app in
    let s1 = subcommand_step c.program_head.ensures.app c.in_ok-encode.ensures.app c.in_ok-subcommand.ensures in
    let s2 = subcommand_step s1 c.in_ok-decode.ensures.app c.in_ok-subcommand-2.ensures in
    let s3 = subcommand_step s2 c.in_ok-refute.ensures.app c.in_ok-subcommand-3.ensures in
    let s4 = subcommand_step s3 c.in_ok-solve.ensures.app c.in_ok-subcommand-4.ensures in
    let s5 = subcommand_step s4 check.has c.in_ok-subcommand-5.ensures in
    let s6 = subcommand_step s5 c.in_ok-verify.ensures.app c.in_ok-subcommand-6.ensures in
    let s7 = subcommand_step s6 c.in_ok-stats.ensures.app c.in_ok-subcommand-7.ensures in
    let s8 = subcommand_step s7 explain.has c.in_ok-subcommand-8.ensures in
    let s9 = subcommand_step s8 audit.has c.in_ok-subcommand-9.ensures in
    let s10 = subcommand_step s9 c.in_ok-split.ensures.app c.in_ok-subcommand-10.ensures in
    record {
      app = IfOk-weaker c.subcommand-11.result (AddsSubcommand c.in_ok-subcommand-10.field-0 c.in_ok-census.field-0) IsProgram (λ x adds. record {
        lists = record {
          check_strategies = check.parser;
          explain_forms = explain.form;
          explain_levels = explain.level;
          explain_strategies = explain.strategy;
          audit_levels = audit.level;
          audit_forms = audit.form;
          audit_strategies = audit.strategy;
        };
        are = record {
          check_strategies = check.takes;
          explain_forms = explain.takes_form;
          explain_levels = explain.takes_level;
          explain_strategies = explain.takes_strategy;
          audit_levels = audit.takes_level;
          audit_forms = audit.takes_form;
          audit_strategies = audit.takes_strategy;
        };
        has = subcommand_step s10 c.in_ok-census.ensures.app adds;
      }) c.subcommand-11.ensures;
    }
