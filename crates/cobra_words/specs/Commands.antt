-- The options and commands that the words are read by, as `clap` walks over words.
use Rattle.std.specs.Prelude.{◌≡◌, ℕ, pos, true, false, List, [], ◌∷◌, codes, Some}
use Rattle.std.specs.Borrow.{Bor}
use Rattle.clap.specs.Walk.{Rule, Text, rule_of, texts}
use Rattle.clap.specs.Simple.{App, new_rule, new_app, with_rule, with_subcommand, on_top, app_of}
use Rattle.clap.specs.declared.builder.arg.Arg.{Arg}
use Rattle.clap.specs.declared.builder.action.ArgAction.TheVariants.{Set, SetTrue}
use Rattle.clap.specs.declared.builder.value_parser.ValueParser.{ValueParser}
use Rattle.clap.specs.declared.builder.value_parser.ValueParser.TheVariants as vp
use Rattle.clap.specs.declared.builder.command.Command.{Command}
use Rattle.clap.specs.declared.builder.command.Command.TheViews.{out-Command}

-- an option with a value, and one without
abbrev pub valued : Text → Rule
valued name = record (new_rule name) { long = Some name; action = Some Set; value_names = 1 }

abbrev pub flag : Text → Rule
flag name = record (new_rule name) { long = Some name; action = Some SetTrue }

abbrev pub required_file : Text → Rule
required_file name = record (valued name) { required = true }

abbrev pub log_file : Rule
log_file = new_rule (codes "FILE")

-- an option whose value is a number from 1 on
abbrev pub numbered : Text → ℕ → Rule
numbered name most = record (valued name) { parser = Some (vp.Signed (pos 1) (pos most)) }

abbrev pub with_default : Text → Rule → Rule
with_default value r = record r { defaults = value ∷ [] }

abbrev pub workers : Rule
workers = with_default (codes "4") (numbered (codes "workers") 16)

abbrev pub conflicts : Rule
conflicts = record (new_rule (codes "conflicts")) {
  long = Some (codes "budget");
  action = Some Set;
  value_names = 1;
  parser = Some (vp.Signed (pos 1) (pos 100000000));
  defaults = codes "1000000" ∷ [];
}

-- ---- the names that options with a list take

abbrev pub strategies : List Text
strategies = codes "first" ∷ codes "most" ∷ codes "least" ∷ codes "forced" ∷ []

abbrev pub forms : List Text
forms = codes "text" ∷ codes "dot" ∷ []

abbrev pub reports : List Text
reports = codes "text" ∷ codes "json" ∷ []

abbrev pub levels : List Text
levels = codes "strict-serializable" ∷ codes "serializable" ∷ codes "strict-snapshot"
    ∷ codes "snapshot" ∷ codes "prefix" ∷ codes "causal" ∷ codes "read-atomic"
    ∷ codes "monotonic-atomic-view" ∷ codes "read-committed" ∷ []

-- the parser takes these names, and no other word
pub record IsOneOf (names : List Text) (parser : ValueParser) : Type 0 where
  pub list : Bor (List (Bor Text))
  pub is : parser ≡ vp.Names list
  pub has : texts list.now ≡ names

-- an option whose value this parser takes
abbrev pub listed : Text → ValueParser → Rule
listed name parser = record (valued name) { parser = Some parser }

abbrev pub strategy : Text → ValueParser → Rule
strategy default parser = with_default default (listed (codes "strategy") parser)

abbrev pub budget : Text → Rule
budget default = with_default default (numbered (codes "budget") 1000000)

abbrev pub form : ValueParser → Rule
form parser = with_default (codes "text") (listed (codes "format") parser)

abbrev pub level : ValueParser → Rule
level parser = listed (codes "level") parser

abbrev pub at_least : Rule
at_least = with_default (codes "1")
    (record (valued (codes "at-least")) { parser = Some (vp.Signed (pos 0) (pos 4294967295)) })

abbrev pub faults : Rule
faults = with_default (codes "1") (numbered (codes "faults") 1000)

abbrev pub seconds : Rule
seconds = numbered (codes "seconds") 1000000

-- the argument has this rule, and is no global one
pub record HasRule (rule : Rule) (a : Arg) : Type 0 where
  pub is : rule_of a ≡ rule
  pub own : a.global ≡ false

-- such an argument takes one of these names, and has this rule
pub record HasListRule (names : List Text) (rule : ValueParser → Rule) (a : Arg) : Type 0 where
  pub parser : ValueParser
  pub takes : IsOneOf names parser
  pub has : HasRule (rule parser) a

-- the command walks over words so, and has no global argument
pub record HasApp (app : App) (c : Command) : Type 0 where
  pub is : app_of c ≡ app
  pub own : (out-Command c).has_globals ≡ false

abbrev pub verify_app : App
verify_app = with_rule (with_rule (new_app (codes "verify")) (required_file (codes "order"))) log_file

abbrev pub with_workers : App → App
with_workers app = with_rule (with_rule app workers) log_file

abbrev pub with_formula : App → App
with_formula app = with_workers (with_rule app (flag (codes "plain")))

abbrev pub encode_app : App
encode_app = with_formula (new_app (codes "encode"))

abbrev pub decode_app : App
decode_app = with_formula (with_rule (new_app (codes "decode")) (required_file (codes "model")))

abbrev pub refute_app : App
refute_app = with_formula (with_rule (new_app (codes "refute")) (required_file (codes "proof")))

abbrev pub solve_app : App
solve_app = with_formula (with_rule (new_app (codes "solve")) conflicts)

abbrev pub stats_app : App
stats_app = with_formula (new_app (codes "stats"))

abbrev pub split_app : App
split_app = with_workers (new_app (codes "split"))

abbrev pub census_app : App
census_app = with_workers (new_app (codes "census"))

-- with these defaults of the strategy and the budget
abbrev pub with_search : Text → Text → ValueParser → App → App
with_search picked spent parser app =
    with_workers (with_rule (with_rule app (strategy picked parser)) (budget spent))

abbrev pub check_app : ValueParser → App
check_app s = with_search (codes "first") (codes "10000") s (new_app (codes "check"))

abbrev pub explain_app : ValueParser → ValueParser → ValueParser → App
explain_app f l s = with_search (codes "first") (codes "10000") s
    (with_rule (with_rule (new_app (codes "explain")) (form f)) (level l))

abbrev pub with_report : ValueParser → App → App
with_report f app = with_rule (with_rule (with_rule (with_rule app (form f))
    (flag (codes "quiet"))) seconds) (flag (codes "progress"))

-- what is asked of `audit` alone
abbrev pub with_audit : ValueParser → App → App
with_audit l app = with_rule (with_rule (with_rule (with_rule (with_rule (with_rule (with_rule
    (with_rule app (flag (codes "explain"))) faults) (valued (codes "part")))
    (valued (codes "order"))) (level l)) (flag (codes "only"))) (flag (codes "no-moments")))
    at_least

abbrev pub audit_app : ValueParser → ValueParser → ValueParser → App
audit_app l f s = with_search (codes "forced") (codes "100000") s
    (with_report f (with_audit l (new_app (codes "audit"))))

-- the lists that options take their names from
pub record Lists : Type 0 where
  pub check_strategies : ValueParser
  pub explain_forms : ValueParser
  pub explain_levels : ValueParser
  pub explain_strategies : ValueParser
  pub audit_levels : ValueParser
  pub audit_forms : ValueParser
  pub audit_strategies : ValueParser

-- they have these names
pub record AreLists (l : Lists) : Type 0 where
  pub check_strategies : IsOneOf strategies l.check_strategies
  pub explain_forms : IsOneOf forms l.explain_forms
  pub explain_levels : IsOneOf levels l.explain_levels
  pub explain_strategies : IsOneOf strategies l.explain_strategies
  pub audit_levels : IsOneOf levels l.audit_levels
  pub audit_forms : IsOneOf reports l.audit_forms
  pub audit_strategies : IsOneOf strategies l.audit_strategies

-- the program, with each of its commands
abbrev pub with_command : App → App → App
with_command program command = with_subcommand program command.top

abbrev pub program_head : App
program_head = on_top (λ s. record s { has_version = true; subcommand_required = true })
    (new_app (codes "cobra_poly"))

abbrev pub program_app : Lists → App
program_app l = with_command (with_command (with_command (with_command (with_command (with_command (with_command
    (with_command (with_command (with_command (with_command program_head encode_app) decode_app)
    refute_app) solve_app) (check_app l.check_strategies)) verify_app) stats_app)
    (explain_app l.explain_forms l.explain_levels l.explain_strategies))
    (audit_app l.audit_levels l.audit_forms l.audit_strategies)) split_app) census_app

-- a command walks so, with a list of these names
pub record HasListApp (names : List Text) (app : ValueParser → App) (c : Command) : Type 0 where
  pub parser : ValueParser
  pub takes : IsOneOf names parser
  pub has : HasApp (app parser) c

pub record IsExplain (c : Command) : Type 0 where
  pub form : ValueParser
  pub takes_form : IsOneOf forms form
  pub level : ValueParser
  pub takes_level : IsOneOf levels level
  pub strategy : ValueParser
  pub takes_strategy : IsOneOf strategies strategy
  pub has : HasApp (explain_app form level strategy) c

pub record IsAudit (c : Command) : Type 0 where
  pub level : ValueParser
  pub takes_level : IsOneOf levels level
  pub form : ValueParser
  pub takes_form : IsOneOf reports form
  pub strategy : ValueParser
  pub takes_strategy : IsOneOf strategies strategy
  pub has : HasApp (audit_app level form strategy) c

pub record IsProgram (c : Command) : Type 0 where
  pub lists : Lists
  pub are : AreLists lists
  pub has : HasApp (program_app lists) c
