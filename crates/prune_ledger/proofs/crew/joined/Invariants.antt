use Rattle.prune_ledger.proofs.Prelude.{◌≡◌, ◌++◌, List, length, IfOk, map, AllByRecursion, Edge, Choice, IsOpenIn, AreOpen}
use Rattle.prune_ledger.proofs.crew.joined.Given as goal

abbrev pub invariant-loop-left : goal.invariant-loop-left
invariant-loop-left g l =
    ((edges : List Edge) (choices : List Choice) →
    AllByRecursion (λ d. IfOk d.1 (λ passed. AllByRecursion (IsOpenIn edges choices) passed.items)) l.fn.done.items →
    AllByRecursion (λ d. IfOk d.1 (λ passed. AllByRecursion (IsOpenIn edges choices) passed.items)) l.left-iterator.rest.items × AreOpen edges choices l.slots)
    × (length l.slots ≡ l.fn.count) × (l.lefts.items ++ map (λ d. d.0) l.left-iterator.rest.items ≡ map (λ d. d.0) l.fn.done.items)
