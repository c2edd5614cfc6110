-- Which formula belongs to sessions, and why there is none.
use Rattle.std.specs.Prelude.{◌≡◌, ℕ, nat_lt, if◌then◌else◌, List, length, Option, None, Some, Bool, true, false}
use Rattle.session_log.specs.Text.{ClientSession}
use Rattle.serializability.specs.declared.anomaly.Anomaly.{Anomaly}
use Rattle.serializability.specs.Log.{Log}
use Rattle.serializability.specs.Polygraph.{bipaths}
use Rattle.serializability.specs.Formula.{Cnf, Satisfies}
use Rattle.serializability.specs.Decoded.{before, IsDecoded}
use Rattle.serializability.specs.Pairs.{Known}
use Rattle.serializability.specs.Plain.{contradiction}
use Rattle.serializability.specs.Anomalies.{anomaly_of, anomaly_number}
use Rattle.reach_laws.specs.Reach.{IsCyclic}
use Rattle.chain_laws.specs.Chains.{chain_polygraph, chain_choices}
use Rattle.pruning_laws.specs.Forced.{Sides, IsForced, IsDead, edges_with, open_from, pruned}
use Rattle.log_definitions.specs.Serial.{IsSerialOrder, IsSomeOrder}
use Rattle.log_definitions.specs.Numbers.{log_of, plain_answer}
use Rattle.polygraph.specs.declared.fault.PolyFault.TheVariants as poly
use Rattle.reduction.specs.Chained.{IsCoalesced, IsKnownCycle}
use Rattle.reduction.specs.Outcome.{IsReduceFault}
use Rattle.order_laws.specs.Reduced.{reduced, IsReach}
use Rattle.order_cnf.specs.declared.fault.CnfFault.{CnfFault}
use Rattle.order_cnf.specs.declared.fault.CnfFault.TheVariants as cnf
use Rattle.order_cnf.specs.Limits.{plain_fault, size_fault, IsFault}
use Rattle.cobra_formulas.specs.declared.basis.Basis.{Basis}
use Rattle.cobra_formulas.specs.declared.basis.Basis.TheVariants.{Anomalous, Bipaths, Chains}
use Rattle.order_cnf.specs.declared.plain.TheConstants.{MAX_PLAIN_NODES}

-- ---- with `--plain`

-- the limit that the plain formula exceeds, where it exceeds one; the contradiction exceeds none
abbrev pub fault_where : Option Anomaly → Log → Option CnfFault
fault_where None log = plain_fault log
fault_where (Some _) log = None

-- the limit that stands in the way of a formula: more than 100 committed transactions, else one
-- that the plain formula exceeds
unfoldable pub formula_fault : List ClientSession → Option CnfFault
formula_fault ss = if nat_lt MAX_PLAIN_NODES (log_of ss).nodes then Some cnf.TooManyForPlain else
    fault_where (anomaly_of (log_of ss)) (log_of ss)

-- what the formula is made from: the bipaths, or the contradiction from an anomaly
abbrev pub plain_basis : Option Anomaly → Log → Basis
plain_basis None log = Bipaths (length (bipaths log))
plain_basis (Some a) log = Anomalous (anomaly_number a)

-- The plain formula, or the contradiction where an anomaly stands. There is one only where no limit
-- stands in the way.
pub record IsPlainFormula (ss : List ClientSession) (b : Basis) (f : Cnf) : Type 0 where
  pub within : formula_fault ss ≡ None
  pub formula : f ≡ plain_answer ss
  pub basis : b ≡ plain_basis (anomaly_of (log_of ss)) (log_of ss)

-- ---- without it

-- The contradiction where an anomaly stands; where none does, but the arcs have a cycle or, where
-- these have none, all known edges of the chains; and where pruning their polygraph ends in a
-- cycle. Else the reduced formula of what pruning leaves: the known edges with those of the forced
-- set, and the choices that are open.
pub data IsReducedFormula (ss : List ClientSession) : Basis → Cnf → Type 0 where
  by_anomaly : (a : Anomaly) → anomaly_of (log_of ss) ≡ Some a
      → IsReducedFormula ss (Anomalous (anomaly_number a)) contradiction
  by_cycle : anomaly_of (log_of ss) ≡ None → (line : List ℕ) → IsKnownCycle (log_of ss) line
      → IsReducedFormula ss (Anomalous 8) contradiction
  by_pruning : IsCoalesced (log_of ss) → (IsCyclic (chain_polygraph (log_of ss)).known → ⊥)
      → IsDead (chain_polygraph (log_of ss)) →
      IsReducedFormula ss (Anomalous 9) contradiction
  by_choices : IsCoalesced (log_of ss) → (forced : Sides)
      → IsForced (chain_polygraph (log_of ss)) forced →
      (IsCyclic (edges_with (chain_polygraph (log_of ss)) forced) → ⊥) →
      (known : Known) → IsReach (edges_with (chain_polygraph (log_of ss)) forced) known →
      IsReducedFormula ss (Chains (length (chain_choices (log_of ss)))
      (length (open_from forced 0 (chain_choices (log_of ss)))))
      (reduced known (pruned (chain_polygraph (log_of ss)) forced))

-- there is one only of at most 20,000,000 clauses
pub record IsReducedWithin (ss : List ClientSession) (b : Basis) (f : Cnf) : Type 0 where
  pub within : size_fault f ≡ None
  pub formula : IsReducedFormula ss b f

-- the sessions' formula has more clauses
pub record IsTooLarge (ss : List ClientSession) : Type 0 where
  pub basis : Basis
  pub formula : Cnf
  pub reduced : IsReducedFormula ss basis formula
  pub large : size_fault formula ≡ Some cnf.FormulaTooLarge

-- the limit that stands in the way: too many choices between chains, or too many clauses
abbrev pub IsReducedFault : List ClientSession → CnfFault → Type 0
IsReducedFault ss cnf.TooManyForPlain = ⊥
IsReducedFault ss cnf.TooManyChoices = IsReduceFault ss poly.TooManyChoices
IsReducedFault ss cnf.FormulaTooLarge = IsTooLarge ss
IsReducedFault ss cnf.Memory = Unit {0}

-- ---- with `--plain` or without it

-- the formula belongs to the sessions, and is made from this
abbrev pub IsFormulaFrom : Bool → List ClientSession → Basis → Cnf → Type 0
IsFormulaFrom true ss b f = IsPlainFormula ss b f
IsFormulaFrom false ss b f = IsReducedWithin ss b f

-- the formula that belongs to sessions
pub record IsFormulaOf (plain : Bool) (ss : List ClientSession) (f : Cnf) : Type 0 where
  pub basis : Basis
  pub made : IsFormulaFrom plain ss basis f

-- why there is none: a limit, or want of memory
abbrev pub IsFormulaFault : Bool → List ClientSession → CnfFault → Type 0
IsFormulaFault true ss e = IsFault e (formula_fault ss)
IsFormulaFault false ss e = IsReducedFault ss e

-- ---- what it says of the sessions

-- An assignment satisfies the formula exactly where a serial order explains the sessions: any order
-- of the committed and of some unknown transactions is enough, and there is one of just the taken
-- ones then.
pub record IsHeadline (ss : List ClientSession) (f : Cnf) : Type 0 where
  pub satisfied_where_some : (order : List ℕ) → IsSomeOrder ss order
      → (values : List Bool) × Satisfies values f
  pub serial_where_satisfied : (values : List Bool) → Satisfies values f
      → (order : List ℕ) × IsSerialOrder ss order

-- That holds of the formula, and the order that a satisfying assignment stands for is serial.
pub record IsFaithful (ss : List ClientSession) (f : Cnf) : Type 0 where
  pub headline : IsHeadline ss f
  pub orders : (values : List Bool) → Satisfies values f → (order : List ℕ)
      → IsDecoded f.nodes (before f values) order → IsSerialOrder ss order
