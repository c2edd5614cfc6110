-- The steps of proofs in texts.
use Rattle.std.specs.Prelude.{ℕ, true, false, ◌||◌, if◌then◌else◌, ◌==◌, List, [], map, drop, Option, Some, None, option_map, option_and_then}
use Rattle.serializability.specs.declared.literal.Literal.{Literal}
use Rattle.proof_text.specs.Words.{is_delete, behind_delete, lines_of}
use Rattle.proof_text.specs.Numbers.{numbers_of, literal_of, first_number, id_of, before_zero, whole}
use Rattle.proof_text.specs.declared.number.Number.{Number}
use Rattle.proof_text.specs.declared.lrat.LratAction.{LratAction}
use Rattle.proof_text.specs.declared.lrat.LratAction.TheVariants as lrat
use Rattle.proof_text.specs.declared.drat.DratAction.{DratAction}
use Rattle.proof_text.specs.declared.drat.DratAction.TheVariants as drat

-- what a step of an LRAT proof does, its literals, and the IDs that it names, of which those below
-- 0 are none
pub record LratStep : Type 0 where
  pub action : LratAction
  pub literals : List Literal
  pub ids : List (Option ℕ)

-- what a step of a DRAT proof does, and its literals
pub record DratStep : Type 0 where
  pub action : DratAction
  pub literals : List Literal

-- the step that deletes the clauses of these IDs
abbrev pub lrat_deletion : List (Option ℕ) → LratStep
lrat_deletion ids = record { action = lrat.Delete; literals = []; ids = ids }

-- the step that adds the clause of this ID
abbrev pub lrat_addition : ℕ → List Literal → List (Option ℕ) → LratStep
lrat_addition id literals ids = record { action = lrat.Add id; literals = literals; ids = ids }

-- `IDS 0`
unfoldable pub deletion_of : List (Option Number) → Option LratStep
deletion_of ns = option_map lrat_deletion (whole (before_zero (id_of false) ns))

-- the hints behind a clause
unfoldable pub addition_with : ℕ → List Literal × List (Option Number) → Option LratStep
addition_with id clause = option_map (lrat_addition id clause.0)
    (whole (before_zero (id_of true) clause.1))

-- `LITERALS 0 HINTS 0`
unfoldable pub addition_of : ℕ → ℕ → List (Option Number) → Option LratStep
addition_of v id ns = option_and_then (addition_with id) (before_zero (literal_of v) ns)

-- the ID of a line, which is above 0
unfoldable pub line_id : Option Number → Option ℕ
line_id None = None
line_id (Some n) = if n.negative || n.size == 0 then None else Some n.size

-- the step of a line with this ID, and these words behind it
unfoldable pub step_of_id : ℕ → List (List ℕ) → Option ℕ → Option LratStep
step_of_id v ws None = None
step_of_id v ws (Some id) = if is_delete ws then deletion_of
    (numbers_of (drop 1 ws)) else addition_of v id (numbers_of ws)

-- the step of a line: `ID d IDS 0`, or `ID LITERALS 0 HINTS 0`
unfoldable pub lrat_step : ℕ → List (List ℕ) → Option LratStep
lrat_step v ws = step_of_id v (drop 1 ws) (line_id (first_number (numbers_of ws)))

-- the step of a clause
abbrev pub drat_clause : DratAction → List Literal → DratStep
drat_clause action literals = record { action = action; literals = literals }

-- `LITERALS 0`
unfoldable pub clause_of : ℕ → DratAction → List (Option Number) → Option DratStep
clause_of v action ns = option_map (drat_clause action) (whole (before_zero (literal_of v) ns))

-- what the step of a line does
abbrev pub action_of : List (List ℕ) → DratAction
action_of ws = if is_delete ws then drat.Delete else drat.Add

-- the step of a line: `d LITERALS 0`, or `LITERALS 0`
unfoldable pub drat_step : ℕ → List (List ℕ) → Option DratStep
drat_step v ws = clause_of v (action_of ws) (numbers_of (behind_delete ws))

-- the step of an action, where there is one
abbrev pub lrat_with : Option LratAction → List Literal → List (Option ℕ) → Option LratStep
lrat_with None literals ids = None
lrat_with (Some action) literals ids = Some (record {
  action = action;
  literals = literals;
  ids
      = ids;
})

abbrev pub drat_with : Option DratAction → List Literal → Option DratStep
drat_with None literals = None
drat_with (Some action) literals = Some (drat_clause action literals)

-- the numbered steps of these lines; a line of no form has none
abbrev pub steps_by : {S : Type 0} → (List (List ℕ) → Option S) → List (ℕ × List (List ℕ))
    → List (ℕ × Option S)
steps_by step ls = map (λ l. (l.0, step l.1)) ls

-- the numbered steps of a text, for a formula of so many variables
unfoldable pub lrat_steps : ℕ → List ℕ → List (ℕ × Option LratStep)
lrat_steps v text = steps_by (lrat_step v) (lines_of text)

unfoldable pub drat_steps : ℕ → List ℕ → List (ℕ × Option DratStep)
drat_steps v text = steps_by (drat_step v) (lines_of text)
