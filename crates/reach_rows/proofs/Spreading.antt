-- A row of bits that spreads along edges.
use Rattle.reach_rows.proofs.Prelude.{◌≡◌, ◌⊎◌, ◌↔◌, ℕ, ◌≤◌, true, false, eqb, ◌||◌, List, [], ◌∷◌, sym, ◌∙◌, subst, inl, inr, eqb-true, arith, Contains, false≢true, or_cases, or_left, or_right, Edge, Graph, Walk, Reaches, reach_joined}
use Rattle.reach_rows.proofs.Prelude.{bit_of, IsKnownGraph, Spreads}

-- what the row has came by edges from the row at the start, and what lies behind the done nodes is in it
pub record IsSpreading (graph : Graph) (start row done : List ℕ) : Type 0 where
  pub kept : (v : ℕ) → bit_of start v ≡ true → bit_of row v ≡ true
  pub found : (v : ℕ) → bit_of row v ≡ true → (bit_of start v ≡ true) ⊎ ((w : ℕ) × (bit_of start w ≡ true) × Reaches graph.edges w v)
  pub nodes : (v : ℕ) → bit_of row v ≡ true → v ≤ graph.nodes
  pub closed : (w v : ℕ) → bit_of done w ≡ true → Contains graph.edges (w, v) → bit_of row v ≡ true

pub spreading_none : (graph : Graph) (start done : List ℕ) → ((k : ℕ) → bit_of done k ≡ false) → ((v : ℕ) → bit_of start v ≡ true → v ≤ graph.nodes) → IsSpreading graph start start done
spreading_none graph start done none nodes = grind (arith, false≢true)

-- the row of one of its nodes joins it
pub record IsSpreadStep (graph : Graph) (k : ℕ) (row done more row' done' : List ℕ) : Type 0 where
  pub here : bit_of row k ≡ true
  pub clear : bit_of done k ≡ false
  pub row_bits : (j : ℕ) → bit_of row' j ≡ (bit_of row j || bit_of more j)
  pub done_bits : (j : ℕ) → bit_of done' j ≡ (eqb j k || bit_of done j)
  pub edges : (v : ℕ) → ((bit_of more v ≡ true) ↔ Contains graph.edges (k, v))

edge_found : (graph : Graph) (start row done : List ℕ) (k v : ℕ) → IsSpreading graph start row done → bit_of row k ≡ true → Contains graph.edges (k, v) → (bit_of start v ≡ true) ⊎ ((w : ℕ) × (bit_of start w ≡ true) × Reaches graph.edges w v)
edge_found graph start row done k v h here c = elim (h.found k here) [
  | inl s ↦ inr (k, s, ([], c))
  | inr f ↦ inr (f.0, f.1, reach_joined graph.edges f.0 k v f.2 ([], c))
]

pub spreading_more : (graph : Graph) (start row done more row' done' : List ℕ) (k : ℕ) → IsKnownGraph graph → IsSpreading graph start row done → IsSpreadStep graph k row done more row' done' → IsSpreading graph start row' done'
spreading_more graph start row done more row' done' k known h s = record {
  kept = λ v t. s.row_bits v ∙ or_left (bit_of row v) (bit_of more v) (h.kept v t);
  found = λ v t. elim (or_cases (bit_of row v) (bit_of more v) (sym (s.row_bits v) ∙ t)) [
    | inl a ↦ h.found v a
    | inr a ↦ edge_found graph start row done k v h s.here ((s.edges v).0 a)
  ];
  nodes = λ v t. elim (or_cases (bit_of row v) (bit_of more v) (sym (s.row_bits v) ∙ t)) [
    | inl a ↦ h.nodes v a
    | inr a ↦ (known.joined (k, v) ((s.edges v).0 a)).1
  ];
  closed = λ w v t c. elim (or_cases (eqb w k) (bit_of done w) (sym (s.done_bits w) ∙ t)) [
    | inl a ↦
        let here : Contains graph.edges (k, v) = subst (λ x. Contains graph.edges (x, v)) (eqb-true w k a) c in
        s.row_bits v ∙ or_right (bit_of row v) (bit_of more v) ((s.edges v).1 here)
    | inr a ↦ s.row_bits v ∙ or_left (bit_of row v) (bit_of more v) (h.closed w v a c)
  ];
}

-- ---- the row of a node
walk_spread : (edges : List Edge) (start row : List ℕ) → Spreads edges start row → (ws : List ℕ) (u v : ℕ) → bit_of row u ≡ true → Walk edges u ws v → bit_of row v ≡ true
walk_spread edges start row s [] u v t w = s.closed u v t w
walk_spread edges start row s (x ∷ ws) u v t w = walk_spread edges start row s ws x v (s.closed u x t w.0) w.1

reached_set : (edges : List Edge) (start row : List ℕ) (u : ℕ) → ((v : ℕ) → ((bit_of start v ≡ true) ↔ Contains edges (u, v))) → Spreads edges start row → (ws : List ℕ) (v : ℕ) → Walk edges u ws v → bit_of row v ≡ true
reached_set edges start row u first s [] v w = s.kept v ((first v).1 w)
reached_set edges start row u first s (x ∷ ws) v w = walk_spread edges start row s ws x v (s.kept x ((first x).1 w.0)) w.1

set_reached : (edges : List Edge) (start row : List ℕ) (u : ℕ) → ((v : ℕ) → ((bit_of start v ≡ true) ↔ Contains edges (u, v))) → Spreads edges start row → (v : ℕ) → bit_of row v ≡ true → Reaches edges u v
set_reached edges start row u first s v t = elim (s.found v t) [
  | inl a ↦ ([], (first v).0 a)
  | inr f ↦ reach_joined edges u f.0 v ([], (first f.0).0 f.1) f.2
]

pub spread_row : (edges : List Edge) (start row : List ℕ) (u : ℕ) → ((v : ℕ) → ((bit_of start v ≡ true) ↔ Contains edges (u, v))) → Spreads edges start row → (v : ℕ) → ((bit_of row v ≡ true) ↔ Reaches edges u v)
spread_row edges start row u first s v = (set_reached edges start row u first s v, λ r. reached_set edges start row u first s r.0 v r.1)
