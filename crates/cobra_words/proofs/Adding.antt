-- A command with one more argument or subcommand.
use Rattle.cobra_words.proofs.Prelude.{ap, ◌∙◌, ◌||◌, AddsArg, AddsSubcommand, Rule, rule_of, App, with_rule, with_subcommand, shape_of, HasRule, HasApp}
use Rattle.clap.specs.declared.builder.arg.Arg.{Arg}
use Rattle.clap.specs.declared.builder.command.Command.{Command}
use Rattle.clap.specs.declared.builder.command.Command.TheViews.{out-Command}

pub arg_step : {a : App} {rule : Rule} {old new : Command} {arg : Arg} → HasApp a old → HasRule rule arg → AddsArg old arg new → HasApp (with_rule a rule) new
arg_step {a} {rule} {old} {new} {arg} h r adds = record {
  is = adds.shape r.own ∙ ap (λ x. with_rule x (rule_of arg)) h.is ∙ ap (λ x. with_rule a x) r.is;
  own = adds.globals ∙ ap (λ b. b || arg.global) h.own ∙ r.own;
}

pub subcommand_step : {a b : App} {old sub new : Command} → HasApp a old → HasApp b sub → AddsSubcommand old sub new → HasApp (with_subcommand a b.top) new
subcommand_step {a} {b} {old} {sub} {new} h s adds = record {
  is = adds.shape s.own ∙ ap (λ x. with_subcommand x (shape_of sub)) h.is ∙ ap (λ (x : App). with_subcommand a x.top) s.is;
  own = adds.globals ∙ ap (λ b. b || (out-Command sub).has_globals) h.own ∙ s.own;
}
