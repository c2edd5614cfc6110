-- Clauses by their numbers; a forgotten one is none.
use Rattle.std.specs.Prelude.{ℕ, List, Option, None, unwrap_or, slice_get}
use Rattle.serializability.specs.declared.literal.Literal.{Literal}

-- the clause with a number, counted from 0
abbrev pub clause_at : List (Option (List Literal)) → ℕ → Option (List Literal)
clause_at clauses k = unwrap_or (slice_get clauses k) None
