-- The first fault of an LRAT proof.
use Rattle.std.specs.Prelude.{ℕ, ◌+◌, ◌-◌, Bool, true, false, ◌&&◌, if◌then◌else◌, nat_le, nat_lt, ◌==◌, List, [], ◌∷◌, ◌++◌, length, position, Option, None, Some, is_some, unwrap_or, option_map, option_and_then, slice_set, slice_index_or}
use Rattle.std.specs.Option.{option_or}
use Rattle.serializability.specs.declared.literal.Literal.{Literal}
use Rattle.refutation.specs.Hinted.{hinted}
use Rattle.refutation.specs.Known.{with_false, all_open}
use Rattle.refutation.specs.Numbered.{clause_at}
use Rattle.proof_text.specs.Steps.{LratStep}
use Rattle.proof_text.specs.declared.fault.ProofFault.{ProofFault}
use Rattle.proof_text.specs.declared.fault.ProofFault.TheVariants.{BadLine, NotImplied}
use Rattle.proof_text.specs.declared.lrat.LratAction.{LratAction}
use Rattle.proof_text.specs.declared.lrat.LratAction.TheVariants.{Add, Delete}
use Rattle.proof_checks.specs.Distinct.{distinct}
use Rattle.proof_checks.specs.Ends.{is_nil, end_fault}

-- the clauses by their numbers, those of the formula first, and the IDs of the others, which were
-- added
pub record Proof : Type 0 where
  pub clauses : List (Option (List Literal))
  pub added : List ℕ

-- how many clauses the formula has, whose IDs count from 1
abbrev pub given_of : Proof → ℕ
given_of p = length p.clauses - length p.added

-- the number of the clause that got an ID
unfoldable pub number_at : Proof → ℕ → Option ℕ
number_at p id =
    if nat_lt 0 id && nat_le id (given_of p) then Some (id - 1) else
    option_map (λ k. given_of p + k) (position (λ x. x == id) p.added)

-- the same, where the clause stands
unfoldable pub standing_at : Proof → ℕ → Option ℕ
standing_at p id = option_and_then (λ n. if is_some (clause_at p.clauses n) then Some n else None)
    (number_at p id)

-- the number that a step names; that of an ID below 0 has no clause
unfoldable pub named_at : Proof → Option ℕ → Option ℕ
named_at p None = Some (length p.clauses)
named_at p (Some id) = standing_at p id

-- the numbers of the clauses that a step names; none where one does not stand
unfoldable pub numbers_at : Proof → List (Option ℕ) → Option (List ℕ)
numbers_at p [] = Some []
numbers_at p (id ∷ ids) = option_and_then (λ n. option_map (λ ns. n ∷ ns) (numbers_at p ids))
    (named_at p id)

-- an added clause has a greater ID than all before
abbrev pub is_next : Proof → ℕ → Bool
is_next p id = nat_lt (slice_index_or p.added (length p.added - 1) (given_of p)) id

-- a clause follows by these hints, of so many variables
abbrev pub follows_by : ℕ → Proof → List Literal → List ℕ → Bool
follows_by n p c hints = hinted hints p.clauses (with_false c (all_open n))

-- clauses without those of these numbers
abbrev pub without : List ℕ → List (Option (List Literal)) → List (Option (List Literal))
without [] clauses = clauses
without (k ∷ ks) clauses = without ks (slice_set clauses k None)

-- what is wrong with a clause that is added on this line under an ID
unfoldable pub addition_fault : ℕ → ℕ → Proof → ℕ → List Literal → List ℕ → Option ProofFault
addition_fault n line p id c hints =
    if is_next p id then (if follows_by n p c hints then None else Some (NotImplied line)) else Some
    (BadLine line)

abbrev pub action_fault : ℕ → ℕ → Proof → LratAction → List Literal → List ℕ → Option ProofFault
action_fault n line p (Add id) c hints = addition_fault n line p id c hints
action_fault n line p Delete c numbers = None

abbrev pub fault_by : ℕ → ℕ → Proof → LratStep → Option (List ℕ) → Option ProofFault
fault_by n line p s None = Some (BadLine line)
fault_by n line p s (Some numbers) = action_fault n line p s.action (distinct s.literals) numbers

-- what is wrong with a step
unfoldable pub step_fault : ℕ → ℕ → Proof → LratStep → Option ProofFault
step_fault n line p s = fault_by n line p s (numbers_at p s.ids)

abbrev pub after_action : Proof → LratAction → List Literal → List ℕ → Proof
after_action p (Add id) c hints = record {
  clauses = p.clauses ++ Some c ∷ [];
  added = p.added ++ id
      ∷ [];
}
after_action p Delete c numbers = record p { clauses = without numbers p.clauses }

-- what stands behind a step
unfoldable pub after_step : Proof → LratStep → Proof
after_step p s = after_action p s.action (distinct s.literals) (unwrap_or (numbers_at p s.ids) [])

abbrev pub adds : LratAction → Bool
adds (Add id) = true
adds Delete = false

-- a step adds the empty clause
abbrev pub adds_empty : LratStep → Bool
adds_empty s = adds s.action && is_nil s.literals

-- the first fault of a step and of what is behind it
abbrev pub fault_from : ℕ → ℕ → Proof → Option LratStep → (Proof → Option ProofFault)
    → Option ProofFault
fault_from n line p None behind = Some (BadLine line)
fault_from n line p (Some s) behind =
    option_or (step_fault n line p s) (if adds_empty s then None else behind (after_step p s))

-- the first fault of these steps, each with its line, over so many variables; none where the empty
-- clause is derived
unfoldable pub lrat_fault : ℕ → List (ℕ × Option LratStep) → Proof → Option ProofFault
lrat_fault n [] p = end_fault p.clauses
lrat_fault n (s ∷ left) p = fault_from n s.0 p s.1 (λ q. lrat_fault n left q)
