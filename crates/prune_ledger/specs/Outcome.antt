-- What a call of `prune` gives.
use Rattle.std.specs.Prelude.{◌≡◌, ◌≤◌, length, take}
use Rattle.serializability.specs.Polygraph.{Polygraph}
use Rattle.reach_laws.specs.Reach.{IsCyclic}
use Rattle.prune_ledger.specs.Pruned.{IsRemainder, IsDeadBy, IsProgress, IsGraphOf, AreOpen, kept_by}
use Rattle.prune_ledger.specs.declared.remains.Pruned.{Pruned}
use Rattle.prune_ledger.specs.declared.remains.Pruned.TheVariants.{Dead, Open}
use Rattle.prune_ledger.specs.declared.rounds.Ended.{Ended}
use Rattle.prune_ledger.specs.declared.rounds.Stage.{Stage}
use Rattle.prune_ledger.specs.declared.rounds.Stage.TheVariants.{More, Done}

abbrev pub IsPruning : Polygraph → Pruned → Type 0
IsPruning p (Dead ledger) = IsDeadBy p ledger
IsPruning p (Open reduced) = IsRemainder p reduced

-- a round led on, or to the end
abbrev pub IsStage : Polygraph → Stage → Type 0
IsStage p (More progress) = IsProgress p progress.entries.items progress.machine
    × IsGraphOf p (kept_by progress.entries.items) progress.own
IsStage p (Done pruned) = IsPruning p pruned

-- a round ended: the graph, which has no cycle, is that of the entries before it, and the flags are
-- of choices that are open there
pub record IsEnded (p : Polygraph) (e : Ended) : Type 0 where
  pub progress : IsProgress p e.progress.entries.items e.progress.machine
  pub before : e.before ≤ length e.progress.entries.items
  pub graph : IsGraphOf p (kept_by (take e.before e.progress.entries.items)) e.progress.own
  pub acyclic : IsCyclic e.progress.own.edges → ⊥
  pub flagged : length e.passed.items ≡ length p.choices
  pub open_in : AreOpen e.progress.own.edges p.choices e.passed.items
