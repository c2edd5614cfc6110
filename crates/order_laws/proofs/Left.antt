-- What pruning leaves of a polygraph has a reduced formula.
use Rattle.order_laws.proofs.Prelude.{◌≡◌, ◌↔◌, ℕ, List, [], ap, ◌∙◌, Contains, Edge, Choice, Polygraph, Known, Cnf, each_from_contained, reach_in, reduced, IsReach}

-- ---- polygraphs with the same set of known edges
pub same_reach : (edges more : List Edge) (known : Known) → ((e : Edge) → (Contains edges e ↔ Contains more e)) → IsReach edges known → IsReach more known
same_reach edges more known same is =
    let there = each_from_contained (Contains more) edges (λ e c. (same e).0 c) in
    let back = each_from_contained (Contains edges) more (λ e c. (same e).1 c) in
    record { each = λ u v. (λ t. reach_in edges more there u v ((is.each u v).0 t), λ r. (is.each u v).1 (reach_in more edges back u v r)) }

-- the formula sees nodes and choices, and of the known edges what is known by them
pub same_reduced : (p q : Polygraph) (known : Known) → p.nodes ≡ q.nodes → p.choices ≡ q.choices → reduced known p ≡ reduced known q
unfolding reduced
same_reduced p q known nodes choices =
    let with_nodes : ℕ → Cnf = λ n. reduced known (record { nodes = n; known = []; choices = p.choices }) in
    let with_choices : List Choice → Cnf = λ hs. reduced known (record { nodes = q.nodes; known = []; choices = hs }) in
    ap with_nodes nodes ∙ ap with_choices choices
