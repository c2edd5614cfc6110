use Rattle.write_chains.proofs.Prelude.{◌≡◌, ℕ, List, map, pairs, AreLists, unless_empty, group_view}
use Rattle.write_chains.proofs.groups.groups_of.Given as goal

abbrev pub invariant-loop-number : goal.invariant-loop-number
invariant-loop-number l = (n : ℕ) (f : ℕ → List ℕ) → AreLists n f l.lists → map group_view l.groups.items ≡ pairs (λ v. unless_empty (f v)) 0 l.number
