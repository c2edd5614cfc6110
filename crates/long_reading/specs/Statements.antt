-- Numbers and the lines where they stand.
use Rattle.std.specs.Prelude.{◌≡◌, ℕ, ◌+◌, ◌≤◌, List, [], ◌∷◌, ◌++◌, length, map}
use Rattle.session_log.specs.declared.line.Line.{Line}
use Rattle.log_definitions.specs.WellFormed.{sessions_from, writes_from}
use Rattle.long_reading.specs.declared.repeats.Stated.{Stated}
use Rattle.long_reading.specs.declared.stated.Statements.{Statements}

-- each with its line before it
abbrev pub by_line : List Stated → List (ℕ × ℕ)
by_line stated = map (λ s. (s.line, s.number)) stated

-- each line is above the one before it, and none is below line n
abbrev pub AscendFrom : ℕ → List (ℕ × ℕ) → Type 0
AscendFrom n [] = Unit {0}
AscendFrom n (x ∷ xs) = (n ≤ x.0) × AscendFrom (x.0 + 1) xs

-- new is old with what these lines state
pub record Takes (old new : Statements) (lines : List Line) : Type 0 where
  pub line : new.line ≡ old.line + length lines
  pub sessions : by_line new.sessions.items ≡ by_line old.sessions.items
      ++ sessions_from old.line lines
  pub writes : by_line new.writes.items ≡ by_line old.writes.items ++ writes_from old.line lines
