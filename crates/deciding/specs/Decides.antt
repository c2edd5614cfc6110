-- What a decision says of sessions.
use Rattle.std.specs.Prelude.{◌≡◌, ℕ, List, None, Some}
use Rattle.session_log.specs.Text.{ClientSession}
use Rattle.serializability.specs.Anomalies.{anomaly_of}
use Rattle.log_definitions.specs.Serial.{IsSerialOrder, IsSomeOrder}
use Rattle.log_definitions.specs.Numbers.{log_of}
use Rattle.prune_ledger.specs.Pruned.{Remainder}
use Rattle.reduction.specs.Outcome.{IsCyclicHistory, IsDeadHistory, IsOpenHistory}
use Rattle.branch_search.specs.Answers.{EndsRun}
use Rattle.cube_laws.specs.Trees.{IsRefutationTree}
use Rattle.branch_search.specs.declared.answer.Answer.{Answer}
use Rattle.branch_search.specs.declared.answer.Answer.TheVariants.{Yes, No, Unknown}
use Rattle.cube_laws.specs.declared.tree.TreeNode.{TreeNode}
use Rattle.deciding.specs.declared.decision.Decision.{Decision}
use Rattle.deciding.specs.declared.decision.Decision.TheVariants.{Serial, Anomalous, Cyclic, Dead, Refuted, Spent}

-- no list of the committed transactions and of some of the unknown ones is an order that explains
-- the sessions
pub record HasNoOrder (ss : List ClientSession) : Type 0 where
  pub none : (order : List ℕ) → IsSomeOrder ss order → ⊥

-- The steps before a search let the sessions through (no anomaly, no cycle of known edges, at most
-- 100,000 choices between chains, and a polygraph of the chains that is not dead), and a search of
-- what they leave ends with this answer within the budget.
pub record IsSearched (budget : ℕ) (ss : List ClientSession) (answer : Answer) : Type 0 where
  pub left : Remainder
  pub history : IsOpenHistory ss left
  pub ran : EndsRun left.poly budget answer

-- no anomaly stands, and the line is a cycle of the arcs or, where these have none, of all known
-- edges of the chains
pub record IsCycleOf (ss : List ClientSession) (line : List ℕ) : Type 0 where
  pub none : anomaly_of (log_of ss) ≡ None
  pub cyclic : IsCyclicHistory ss line

-- this is what the steps before a search leave, and the tree, with which a search of it ends,
-- refutes every cube of it
pub record IsRefutedBy (budget : ℕ) (ss : List ClientSession) (left : Remainder)
    (tree : List TreeNode) : Type 0 where
  pub history : IsOpenHistory ss left
  pub ran : EndsRun left.poly budget (No tree)
  pub refutes : IsRefutationTree left.poly tree

-- A serial order, which a search found; or that there is none, and why: the anomaly that is
-- reported, a cycle of what is known, a ledger of the polygraph of the chains, which is dead, or a
-- tree that refutes every cube; or that a search spent its budget, and found neither.
abbrev pub Decides : ℕ → List ClientSession → Decision → Type 0
Decides budget ss (Serial order) = IsSerialOrder ss order × IsSearched budget ss (Yes order)
Decides budget ss (Anomalous a) = HasNoOrder ss × (anomaly_of (log_of ss) ≡ Some a)
Decides budget ss (Cyclic line) = HasNoOrder ss × IsCycleOf ss line.items
Decides budget ss (Dead ledger) = HasNoOrder ss × IsDeadHistory ss ledger
Decides budget ss (Refuted left tree) = HasNoOrder ss × IsRefutedBy budget ss left tree
Decides budget ss (Spent closed) = (closed ≡ budget) × IsSearched budget ss (Unknown closed)

-- the decision is one within some budget
pub record IsDecided (ss : List ClientSession) (d : Decision) : Type 0 where
  pub budget : ℕ
  pub decides : Decides budget ss d
