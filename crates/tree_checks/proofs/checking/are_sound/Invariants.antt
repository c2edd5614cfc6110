use Rattle.tree_checks.proofs.Prelude.{◌≡◌, ℕ, ◌<◌, true, Some, slice_get, TreeNode, is_sound}
use Rattle.tree_checks.proofs.checking.are_sound.Given as goal

abbrev pub invariant-loop-number : goal.invariant-loop-number
invariant-loop-number l = (k : ℕ) (x : TreeNode) → k < l.number → slice_get l.nodes k ≡ Some x → is_sound l.polygraph l.nodes k x ≡ true
