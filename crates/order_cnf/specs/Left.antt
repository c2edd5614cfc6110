-- The formula of what pruning leaves.
use Rattle.std.specs.Prelude.{ℕ, length}
use Rattle.serializability.specs.Formula.{Cnf}
use Rattle.serializability.specs.Plain.{contradiction}
use Rattle.order_laws.specs.Reduced.{reduced, IsReach}
use Rattle.order_laws.specs.Proper.{IsProper}
use Rattle.reach_laws.specs.Reach.{Graph}
use Rattle.reach_rows.specs.ReachRows.{AreRowsOf}
use Rattle.known_graph.specs.Graphs.{IsKnownGraph}
use Rattle.polygraph.specs.Polygraphs.{IsPolygraph}
use Rattle.serializability.specs.Polygraph.{Polygraph}
use Rattle.prune_ledger.specs.Pruned.{Remainder, IsReduced}
use Rattle.prune_ledger.specs.declared.remains.Pruned.{Pruned}
use Rattle.prune_ledger.specs.declared.remains.Pruned.TheVariants.{Dead, Open}
use Rattle.order_cnf.specs.Data.{is_listed}

-- of an open polygraph with its rows
abbrev pub formula_of_rest : Remainder → Cnf
formula_of_rest r = reduced (is_listed r.rows.edges) r.poly

-- a dead polygraph has the contradiction
abbrev pub formula_left : Pruned → Cnf
formula_left (Dead ledger) = contradiction
formula_left (Open rest) = formula_of_rest rest

-- a polygraph whose known edges have no cycle and refute no side, with the rows of what reaches
-- what by them
pub record IsRest (p : Polygraph) (reach : Graph) : Type 0 where
  pub graph : IsKnownGraph (record { nodes = p.nodes; edges = p.known })
  pub polygraph : IsPolygraph p
  pub reduced : IsReduced p
  pub rows : AreRowsOf reach (record { nodes = p.nodes; edges = p.known })

-- what is left is proper, and its rows say what reaches what by its known edges
pub record IsProperRest (r : Remainder) : Type 0 where
  pub proper : IsProper r.poly
  pub reach : IsReach r.poly.known (is_listed r.rows.edges)

-- the formula is one to which the laws of reduced formulas apply: the contradiction, or that of a
-- proper polygraph with its reach
abbrev pub IsLawful : Pruned → Type 0
IsLawful (Dead ledger) = Unit {0}
IsLawful (Open rest) = IsProperRest rest

-- how many choices are open
abbrev pub choices_left : Pruned → ℕ
choices_left (Dead ledger) = 0
choices_left (Open rest) = length rest.poly.choices
