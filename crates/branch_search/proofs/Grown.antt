-- Steps of a growing tree.
use Rattle.branch_search.proofs.Prelude.{◌≡◌, ℕ, List, Bool, true, false, Option, Some, None, refl, ap, ◌∙◌, CubeEvent, CubeReply, is_closing, TreeNode, closed_with, closed_where, grown, if◌then◌else◌}

pub grown_open : (nodes : List TreeNode) (held : Option ℕ) (e : CubeEvent) (r : CubeReply) → is_closing r ≡ false → grown nodes held e r ≡ nodes
unfolding grown
grown_open nodes held e r is = ap (λ b. if b then closed_where nodes e held else nodes) is

pub grown_none : (nodes : List TreeNode) (held : Option ℕ) (e : CubeEvent) (r : CubeReply) → held ≡ None → grown nodes held e r ≡ nodes
unfolding grown
grown_none nodes held e r is = ap (λ h. grown nodes h e r) is ∙ by (is_closing r)
  where
    by : (b : Bool) → (if b then nodes else nodes) ≡ nodes
    by true = refl
    by false = refl

pub grown_closed : (nodes : List TreeNode) (held : Option ℕ) (id : ℕ) (e : CubeEvent) (r : CubeReply) → is_closing r ≡ true → held ≡ Some id → grown nodes held e r ≡ closed_with nodes id e
unfolding grown
grown_closed nodes held id e r is h = ap (λ b. if b then closed_where nodes e held else nodes) is ∙ ap (λ o. closed_where nodes e o) h
