use Rattle.desk.proofs.Prelude.{◌≡◌, All, ◌++◌, part_of}
use Rattle.desk.proofs.desk.compare_all.Given as goal

abbrev pub invariant-loop-left : goal.invariant-loop-left
invariant-loop-left g l = (l.guarded ≡ l.fn.guarded) × All (λ x. part_of x.number l.fn.guarded.history ≡ x.calls) l.yielded × (l.yielded ++ l.left-iterator.rest.items ≡ l.fn.lefts.items)
