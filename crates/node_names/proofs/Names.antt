-- The names of nodes, for whoever prints an order.
use Rattle.node_names.proofs.Prelude.{◌≡◌, ℕ, List, [], ◌∷◌, ◌++◌, map, refl, sym, ap, ◌∙◌, arith, Contains, behind, Transaction, Committed, nodes_from, names_of}
use Rattle.node_names.proofs.Nodes.{stands}

-- the nodes of a session have its number
pub named_here : (number n : ℕ) (ts : List Transaction) → map (λ (c : Committed). (number, c.place)) (nodes_from number n ts) ≡ names_of (nodes_from number n ts)
named_here number n ts = go (nodes_from number n ts) (λ c has. (stands number n ts c has).0)
  where
    go : (line : List Committed) → ((c : Committed) → Contains line c → c.session ≡ number) → map (λ (c : Committed). (number, c.place)) line ≡ names_of line
    go [] h = refl
    go (c ∷ line) h =
        ap (λ k. (k, c.place) ∷ map (λ (m : Committed). (number, m.place)) line) (sym (h c (0, omega arith, refl)))
        ∙ ap (λ l. (c.session, c.place) ∷ l) (go line (λ m has. h m (behind c line m has)))

pub append_once : {X : Type 0} (xs : List X) (x : X) (ys : List X) → xs ++ x ∷ ys ≡ (xs ++ x ∷ []) ++ ys
append_once [] x ys = refl
append_once (z ∷ zs) x ys = ap (λ l. z ∷ l) (append_once zs x ys)
