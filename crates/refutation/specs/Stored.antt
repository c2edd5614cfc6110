-- Clauses as they are stored: their literals one behind the other, and where each begins and ends.
use Rattle.std.specs.Prelude.{ℕ, ◌≤◌, List, Option, None, Some, map}
use Rattle.std.specs.List.{slice_range, AllByRecursion}
use Rattle.serializability.specs.declared.literal.Literal.{Literal}
use Rattle.refutation.specs.declared.clauses.Span.{Span}

abbrev pub clause_in : List Literal → Option Span → Option (List Literal)
clause_in literals None = None
clause_in literals (Some s) = Some (slice_range literals s.start s.end)

abbrev pub clauses_in : List Literal → List (Option Span) → List (Option (List Literal))
clauses_in literals spans = map (clause_in literals) spans

abbrev pub IsWithin : ℕ → Option Span → Type 0
IsWithin n None = Unit {0}
IsWithin n (Some s) = (s.start ≤ s.end) × (s.end ≤ n)

abbrev pub AreWithin : ℕ → List (Option Span) → Type 0
AreWithin n spans = AllByRecursion (IsWithin n) spans
