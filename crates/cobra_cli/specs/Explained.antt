-- What `explain` says.
use Rattle.std.specs.Prelude.{◌≡◌, ℕ, List, [], ◌++◌, codes}
use Rattle.session_log.specs.Text.{ClientSession}
use Rattle.session_log.specs.Version.{first_line}
use Rattle.session_log.specs.declared.version.Version.{Version}
use Rattle.log_lines.specs.Rows.{own_places}
use Rattle.deciding.specs.Decides.{Decides}
use Rattle.deciding.specs.declared.decision.Decision.{Decision}
use Rattle.deciding.specs.declared.decision.Decision.TheVariants.{Serial, Anomalous, Cyclic, Dead, Refuted, Spent}
use Rattle.tell_decision.specs.Explained.{IsExplained}
use Rattle.call_options.specs.declared.format.Format.{Format}
use Rattle.call_options.specs.declared.format.Format.TheVariants.{Text, Dot}
use Rattle.cobra_answers.specs.declared.status.Status.{Status}
use Rattle.cobra_cli.specs.Checked.{status_of, verdict_text}

-- lines; in a graph the first alone, as a comment
abbrev pub head : Format → List ℕ → List ℕ → List ℕ
head Text whole first = whole
head Dot whole first = codes "// " ++ first

-- the first line of what `check` says
abbrev pub first_text : Decision → List ℕ → List ℕ
first_text (Serial order) whole = codes "serializable\n"
first_text (Anomalous a) whole = whole
first_text (Cyclic line) whole = codes "not serializable: A8 cycle of known edges\n"
first_text (Dead ledger) whole = whole
first_text (Refuted left tree) whole = whole
first_text (Spent closed) whole = whole

-- what to try where the budget was spent
abbrev pub advice : List ℕ
advice = codes "try --strategy forced --workers 1, then a larger --budget, then a SAT solver on what encode writes\n"

abbrev pub advice_text : Format → Decision → List ℕ
advice_text format (Serial order) = []
advice_text format (Anomalous a) = []
advice_text format (Cyclic line) = []
advice_text format (Dead ledger) = []
advice_text format (Refuted left tree) = []
advice_text format (Spent closed) = head format advice advice

-- what `check` says of the decision, what to try where the budget was spent, and why there is no
-- order, in the log's own lines
pub record IsDecisionText (v : Version) (format : Format) (ss : List ClientSession) (d : Decision)
    (text : List ℕ) : Type 0 where
  pub why : List ℕ
  pub explained : IsExplained format (own_places (first_line v) ss) ss d why
  pub told : text ≡ head format (verdict_text ss d)
      (first_text d (verdict_text ss d)) ++ advice_text format d ++ why

-- what is decided of the sessions within the budget, and why
pub record IsExplanation (budget : ℕ) (v : Version) (format : Format) (ss : List ClientSession)
    (status : Status) (text : List ℕ) : Type 0 where
  pub decision : Decision
  pub decides : Decides budget ss decision
  pub ends : status ≡ status_of decision
  pub explains : IsDecisionText v format ss decision text
