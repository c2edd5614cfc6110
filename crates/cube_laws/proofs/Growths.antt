-- What became of a node is one thing.
use Rattle.cube_laws.proofs.Prelude.{◌≡◌, ℕ, List}
use Rattle.cube_laws.specs.declared.tree.Growth.TheVariants.{Leaf, Inner}

pub leaf_is : (a b : List ℕ) → Leaf a ≡ Leaf b → a ≡ b
leaf_is a b e = cc

pub choice_is : (a b first second one two : ℕ) → Inner a first second ≡ Inner b one two → a ≡ b
choice_is a b first second one two e = cc

pub first_is : (a b first second one two : ℕ) → Inner a first second ≡ Inner b one two → first ≡ one
first_is a b first second one two e = cc

pub second_is : (a b first second one two : ℕ) → Inner a first second ≡ Inner b one two → second ≡ two
second_is a b first second one two e = cc

pub leaf_or_inner : (a : List ℕ) (b first second : ℕ) → Leaf a ≡ Inner b first second → ⊥
leaf_or_inner a b first second e = cc
