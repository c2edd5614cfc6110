use Rattle.proof_checks.proofs.Prelude.{◌≡◌, ◌++◌, drop, option_map, numbers_at, proof_of}
use Rattle.proof_checks.proofs.lrat.resolve.Given as goal

abbrev pub invariant-loop-id : goal.invariant-loop-id
invariant-loop-id l = option_map (λ r. l.numbers.items ++ r) (numbers_at (proof_of l.checker l.added) (drop l.id-index l.ids)) ≡ numbers_at (proof_of l.checker l.added) l.ids
