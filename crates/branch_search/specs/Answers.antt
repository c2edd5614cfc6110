-- What the answers of a search say.
use Rattle.std.specs.Prelude.{◌≡◌, ℕ, List, true, false}
use Rattle.desk.specs.declared.history.Entry.{Entry}
use Rattle.desk.specs.History.{IsLegal, replay}
use Rattle.session_log.specs.Text.{ClientSession}
use Rattle.log_definitions.specs.Serial.{IsSerialOrder}
use Rattle.serializability.specs.Polygraph.{Polygraph}
use Rattle.cube_laws.specs.State.{State, opening_state}
use Rattle.cube_laws.specs.Steps.{has_solved, has_live, is_exhausted, next_of, reply_of}
use Rattle.cube_laws.specs.declared.messages.CubeEvent.{CubeEvent}
use Rattle.cube_laws.specs.declared.messages.CubeReply.{CubeReply}
use Rattle.cube_laws.specs.Trees.{IsRefutationTree}
use Rattle.branch_search.specs.declared.answer.Answer.{Answer}
use Rattle.branch_search.specs.declared.answer.Answer.TheVariants.{Yes, No, Unknown}

-- the order of a yes is serial
abbrev pub SaysYes : List ClientSession → Answer → Type 0
SaysYes ss (Yes order) = IsSerialOrder ss order
SaysYes ss _ = Unit {0}

-- where the answer is no, there is no serial order
abbrev pub SaysNo : List ClientSession → Answer → Type 0
SaysNo ss (No tree) = (order : List ℕ) → IsSerialOrder ss order → ⊥
SaysNo ss _ = Unit {0}

-- the tree of a no shows that every cube is refuted
abbrev pub ShowsNo : Polygraph → Answer → Type 0
ShowsNo p (No tree) = IsRefutationTree p tree
ShowsNo p _ = Unit {0}

-- where the answer is unknown, the budget was spent
abbrev pub SaysUnknown : ℕ → Answer → Type 0
SaysUnknown budget (Unknown closed) = closed ≡ budget
SaysUnknown budget _ = Unit {0}

-- the answer is yes or no
abbrev pub IsSettled : Answer → Type 0
IsSettled (Unknown closed) = ⊥
IsSettled _ = Unit {0}

-- as many nodes are closed as may be, none is solved, and one is open or held
pub record IsSpent (s : State) (closed : ℕ) : Type 0 where
  pub count : s.closed ≡ closed
  pub spent : s.closed ≡ s.budget
  pub unsolved : has_solved s.nodes ≡ false
  pub live : has_live s.nodes ≡ true

-- the answer says how this state stands: yes where a node is solved; no where none is solved, open
-- or held; else unknown, where the budget is spent
abbrev pub IsReadFrom : State → Answer → Type 0
IsReadFrom s (Yes order) = has_solved s.nodes ≡ true
IsReadFrom s (No tree) = is_exhausted s ≡ true
IsReadFrom s (Unknown closed) = IsSpent s closed

-- steps from node 0 alone lead to a state of which the answer says how it stands
pub record EndsRun (p : Polygraph) (budget : ℕ) (answer : Answer) : Type 0 where
  pub steps : List (Entry CubeEvent CubeReply)
  pub legal : IsLegal next_of reply_of (opening_state p budget) steps
  pub read : IsReadFrom (replay next_of (opening_state p budget) steps) answer
