-- Lines of nodes, and what their edges rest on.
use Rattle.std.specs.Prelude.{◌≡◌, ◌⊎◌, ℕ, ◌+◌, ◌<◌, ◌≤◌, List, [], ◌∷◌, ◌++◌, length, Option, None, Some, slice_get, slice_index}
use Rattle.std.specs.List.{All, Contains}
use Rattle.session_log.specs.Text.{ClientSession}
use Rattle.serializability.specs.Polygraph.{Edge}
use Rattle.serializability.specs.Log.{Log}
use Rattle.log_definitions.specs.Numbers.{log_of}
use Rattle.reasons.specs.Given.{HaveNone}
use Rattle.tell_reasons.specs.declared.why.ChainOrder.{ChainOrder}
use Rattle.tell_steps.specs.Steps.{edges_in, IsOrder, IsFirstWith, NoStepHas}

-- a node of the log other than node 0
pub record IsBetween (ss : List ClientSession) (v : ℕ) : Type 0 where
  pub low : 0 < v
  pub high : v ≤ (log_of ss).nodes

-- the line leads from the one node to the other
pub record HasEnds (first last : ℕ) (line : List ℕ) : Type 0 where
  pub inner : List ℕ
  pub shape : line ≡ first ∷ (inner ++ last ∷ [])

-- the line ends where it begins
pub record IsRound (line : List ℕ) : Type 0 where
  pub start : ℕ
  pub ends : HasEnds start start line

-- one of the orders has the edge
pub record OneHas (ss : List ClientSession) (decided : List ChainOrder) (e : Edge) : Type 0 where
  pub order : ChainOrder
  pub among : Contains decided order
  pub has : Contains (edges_in (log_of ss) order) e

-- ---- of lines over what steps and decided orders have
-- both are nodes, and where the log shows no reason of the edge, a step or a decided order has it
pub record Stands (ss : List ClientSession) (steps decided : List ChainOrder)
    (a b : ℕ) : Type 0 where
  pub first : IsBetween ss a
  pub second : IsBetween ss b
  pub has : HaveNone ss a b → OneHas ss steps (a, b) ⊎ OneHas ss decided (a, b)

-- each edge of the line, which has a node
pub record LineStands (ss : List ClientSession) (steps decided : List ChainOrder)
    (line : List ℕ) : Type 0 where
  pub some : 0 < length line
  pub each : (i : ℕ) → i + 1 < length line → Stands ss steps decided (slice_index line i)
      (slice_index line (i + 1))

-- ---- what steps have of edges that the log does not show
-- the first of the orders that has the edge, with its number from 1, if they are of two chains
abbrev pub IsFound : Log → List ChainOrder → Edge → Option (ℕ × ChainOrder) → Type 0
IsFound log orders e None = All (IsOrder log) orders → NoStepHas log orders e
IsFound log orders e (Some f) = (k : ℕ) × (f.0 ≡ k + 1) × (slice_get orders k ≡ Some f.1)
    × Contains (edges_in log f.1) e × (All (IsOrder log) orders → IsFirstWith log orders k f.1 e)
