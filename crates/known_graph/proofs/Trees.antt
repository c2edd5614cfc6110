-- A search's tree, and the ways in it.
use Rattle.known_graph.proofs.Prelude.{◌≡◌, ℕ, ◌<◌, List, [], ◌∷◌, ◌++◌, length, get_or, sym, ap, ◌∙◌, subst, get_or_default, Edge, Reached, node_at, from_at, IsTree}
use Rattle.known_graph.proofs.Lines.{Behind, behind_more}

pub node_read : (found : List Reached) (k : ℕ) (r : Reached) → k < length found → (get_or found k r).node ≡ node_at found k
node_read found k r h = ap (λ (x : Reached). x.node) (get_or_default found k r (record { node = 0; from = 0 }) h)

pub from_read : (found : List Reached) (k : ℕ) (r : Reached) → k < length found → (get_or found k r).from ≡ from_at found k
from_read found k r h = ap (λ (x : Reached). x.from) (get_or_default found k r (record { node = 0; from = 0 }) h)

pub behind_step : (edges : List Edge) (found : List Reached) (k v : ℕ) (back next : List ℕ) (a f : ℕ) → IsTree edges found → 0 < k → k < length found → a ≡ node_at found k → f ≡ from_at found k → next ≡ back ++ a ∷ [] → Behind edges (node_at found k) v back → Behind edges (node_at found f) v next
behind_step edges found k v back next a f tree lo hi p q e b =
    subst (λ j. Behind edges (node_at found j) v next) (sym q)
    (subst (Behind edges (node_at found (from_at found k)) v) (sym (e ∙ ap (λ x. back ++ x ∷ []) p))
    (behind_more edges (node_at found (from_at found k)) (node_at found k) v back (tree.edge k lo hi) b))
