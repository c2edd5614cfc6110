-- One node more in a map of names.
use Rattle.session_history.proofs.Prelude.{◌≡◌, ℕ, ◌+◌, ◌-◌, ◌<◌, ◌≤◌, ◌&&◌, cond, List, ◌∷◌, length, drop, get_or, Option, Some, sym, ap, ◌∙◌, arith, nat_eq, nat_cmp, unsigned_ties, is_eq, is_at, drop_more, eq_then, Node, name_cmp}
use Rattle.session_history.proofs.Prelude.{node_among}

tie : (p q : ℕ × ℕ) → is_at (name_cmp p) q ≡ (nat_eq p.0 q.0 && nat_eq p.1 q.1)
tie p q = eq_then (nat_cmp p.0 q.0) (nat_cmp p.1 q.1) ∙ ap (λ b. b && is_eq (nat_cmp p.1 q.1)) (sym (unsigned_ties p.0 q.0)) ∙ ap (λ b. nat_eq p.0 q.0 && b) (sym (unsigned_ties p.1 q.1))

pub name_more : (f g : ℕ × ℕ → Option ℕ) (nodes : List Node) (i at v : ℕ) (node : Node) (key : ℕ × ℕ) → i < length nodes → at ≡ length nodes - 1 - i → v ≡ at + 1 → node ≡ get_or nodes at node → key ≡ (node.session, node.place)
    → ((session place : ℕ) → f (session, place) ≡ node_among session place (length nodes - i + 1) (drop (length nodes - i) nodes))
    → ((q : ℕ × ℕ) → g q ≡ cond (is_at (name_cmp key) q) (Some v) (f q))
    → (session place : ℕ) → g (session, place) ≡ node_among session place (length nodes - (i + 1) + 1) (drop (length nodes - (i + 1)) nodes)
name_more f g nodes i at v node key h is_at_place number is is_key old new session place =
    let here : drop at nodes ≡ node ∷ drop (at + 1) nodes = drop_more nodes at node (omega arith) ∙ ap (λ n. n ∷ drop (at + 1) nodes) (sym is) in
    new (session, place) ∙ ap (λ k. cond (is_at (name_cmp k) (session, place)) (Some v) (f (session, place))) is_key
    ∙ ap (λ b. cond b (Some v) (f (session, place))) (tie (node.session, node.place) (session, place))
    ∙ ap (λ o. cond (nat_eq node.session session && nat_eq node.place place) (Some v) o) (old session place
    ∙ ap (λ n. node_among session place (n + 1) (drop n nodes)) (omega arith))
    ∙ ap (λ w. cond (nat_eq node.session session && nat_eq node.place place) (Some w) (node_among session place (at + 1 + 1) (drop (at + 1) nodes))) number
    ∙ sym (ap (node_among session place (at + 1)) here)
    ∙ ap (λ n. node_among session place (n + 1) (drop n nodes)) (omega arith)

pub names_all : (nodes : List Node) (i session place : ℕ) → length nodes ≤ i → node_among session place (length nodes - i + 1) (drop (length nodes - i) nodes) ≡ node_among session place 1 nodes
names_all nodes i session place h =
    let none : length nodes - i ≡ 0 = omega arith in
    ap (λ n. node_among session place (n + 1) (drop n nodes)) none
