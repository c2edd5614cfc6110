-- Groups of nodes, and how far the search for them has come.
use Rattle.known_graph.proofs.Prelude.{◌≡◌, ◌↔◌, ℕ, ◌<◌, ◌≤◌, true, false, eqb, ◌||◌, List, [], ◌∷◌, sym, ◌∙◌, subst, inl, inr, arith, eqb-true, eq-eqb, refl, Contains, or_cases, or_left, or_right, Graph, Walk, bit_of, row_len}
use Rattle.known_graph.proofs.Prelude.{IsKnownGraph, IsGroup, IsSearch, left_of}
use Rattle.known_graph.specs.declared.groups.Group.{Group}
use Rattle.known_graph.specs.declared.groups.Search.{Search}
use Rattle.known_graph.proofs.Opened.{left_falls}

-- a node alone
pub group_alone : (g : Graph) (v : ℕ) (nodes ends row : List ℕ) → IsKnownGraph g → ((k : ℕ) → bit_of nodes k ≡ eqb k v) → ((k : ℕ) → bit_of ends k ≡ bit_of row k) → ((w : ℕ) → ((bit_of row w ≡ true) ↔ Contains g.edges (v, w))) → IsGroup g (record { nodes = nodes; ends = ends })
group_alone g v nodes ends row known only same edges = record {
  edges = λ x w t c. (let here : x ≡ v = eqb-true x v (sym (only x) ∙ t) in same w ∙ (edges w).1 (subst (λ y. Contains g.edges (y, w)) here c));
  ends = λ w t. (known.joined (v, w) ((edges w).0 (sym (same w) ∙ t))).1;
}

-- ---- closing
walk_closed : (g : Graph) (s : Search) → IsSearch g s → (ws : List ℕ) (u v : ℕ) → bit_of s.closed u ≡ true → Walk g.edges u ws v → bit_of s.closed v ≡ true
walk_closed g s h [] u v t w = h.closed u v t w
walk_closed g s h (x ∷ ws) u v t w = walk_closed g s h ws x v (h.closed u x t w.0) w.1

-- all edges of a group lead to closed nodes: a cycle through one of its nodes would too
round_closed : (g : Graph) (s : Search) (group : Group) → IsSearch g s → IsGroup g group → ((k : ℕ) → bit_of group.ends k ≡ true → bit_of s.closed k ≡ true) → (v : ℕ) → bit_of group.nodes v ≡ true → (ws : List ℕ) → Walk g.edges v ws v → bit_of s.closed v ≡ true
round_closed g s group h p within v t [] w = within v (p.edges v v t w)
round_closed g s group h p within v t (x ∷ ws) w = walk_closed g s h ws x v (within x (p.edges v x t w.0)) w.1

pub search_closed : (g : Graph) (s : Search) (group : Group) (closed : List ℕ) → IsSearch g s → IsGroup g group → ((k : ℕ) → bit_of group.ends k ≡ true → bit_of s.closed k ≡ true) → ((k : ℕ) → bit_of closed k ≡ (bit_of s.closed k || bit_of group.nodes k)) → IsSearch g (record { path = s.path; seen = s.seen; closed = closed; round = s.round })
search_closed g s group closed h p within bits = record {
  graph = h.graph;
  groups = h.groups;
  closed = λ v w t c. bits w ∙ or_left (bit_of s.closed w) (bit_of group.nodes w) (elim (or_cases (bit_of s.closed v) (bit_of group.nodes v) (sym (bits v) ∙ t)) [
    | inl old ↦ h.closed v w old c
    | inr new ↦ within w (p.edges v w new c)
  ]);
  round = λ v t r. h.round v (elim (or_cases (bit_of s.closed v) (bit_of group.nodes v) (sym (bits v) ∙ t)) [
    | inl old ↦ old
    | inr new ↦ round_closed g s group h p within v new r.0 r.1
  ]) r;
}

-- ---- a node that was entered
pub left_after : (old new : List ℕ) (v : ℕ) → bit_of old v ≡ false → ((k : ℕ) → bit_of new k ≡ (eqb k v || bit_of old k)) → v < 1024 → left_of (bit_of new) 1024 < left_of (bit_of old) 1024
left_after old new v fresh bits small =
    left_falls (bit_of old) (bit_of new) (λ j t. bits j ∙ or_right (eqb j v) (bit_of old j) t)
    v fresh (bits v ∙ or_left (eqb v v) (bit_of old v) (eq-eqb v v refl)) 1024 small

pub row_len_small : (n : ℕ) → n ≤ 1000 → row_len n ≤ 16
unfolding row_len
row_len_small n h = omega arith
