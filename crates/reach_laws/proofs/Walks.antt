-- Walks and edges in lists, and orders that keep them.
use Rattle.std.proofs.Common.{ℕ, suc, List, [], ◌∷◌, ◌++◌, refl, arith}
use Rattle.std.specs.List.{Contains, AllByRecursion}
pub use Rattle.list_lemmas.proofs.Each.{member as each_contained, each_member as each_from_contained}
use Rattle.serializability.specs.Replay.{Before}
use Rattle.serializability.specs.Polygraph.{Edge, Keeps}
use Rattle.reach_laws.specs.Reach.{Walk, Reaches, IsCyclic, IsCycle}

pub Contains-here : {X : Type 0} (x : X) (xs : List X) → Contains (x ∷ xs) x
Contains-here x xs = (0, omega arith, refl)

pub Contains-further : {X : Type 0} (x y : X) (xs : List X) → Contains xs y → Contains (x ∷ xs) y
Contains-further x y xs c = (suc c.0, omega (arith, c.1), c.2)

edge_kept : (order : List ℕ) (edges : List Edge) (u v : ℕ) → Keeps order edges → Contains edges (u, v) → Before order u v
edge_kept order edges u v k c = each_contained (λ (e : Edge). Before order e.0 e.1) edges (u, v) k c

pub walk_kept : (order : List ℕ) (edges : List Edge) → Keeps order edges → (ws : List ℕ) (u v : ℕ) → Walk edges u ws v → Before order u v
walk_kept order edges k [] u v w = edge_kept order edges u v k w
walk_kept order edges k (x ∷ ws) u v w = omega (arith, edge_kept order edges u x k w.0, walk_kept order edges k ws x v w.1)

pub reach_kept : (order : List ℕ) (edges : List Edge) (u v : ℕ) → Keeps order edges → Reaches edges u v → Before order u v
reach_kept order edges u v k r = walk_kept order edges k r.0 u v r.1

pub no_cycle_kept : (order : List ℕ) (edges : List Edge) → Keeps order edges → IsCyclic edges → ⊥
no_cycle_kept order edges k c = (let b = reach_kept order edges c.0 c.0 k c.1 in omega (arith, b))

pub walk_joined : (edges : List Edge) (xs ys : List ℕ) (u v w : ℕ) → Walk edges u xs v → Walk edges v ys w → Walk edges u (xs ++ v ∷ ys) w
walk_joined edges [] ys u v w a b = (a, b)
walk_joined edges (x ∷ xs) ys u v w a b = (a.0, walk_joined edges xs ys x v w a.1 b)

pub reach_joined : (edges : List Edge) (u v w : ℕ) → Reaches edges u v → Reaches edges v w → Reaches edges u w
reach_joined edges u v w a b = (a.0 ++ v ∷ b.0, walk_joined edges a.0 b.0 u v w a.1 b.1)

-- more edges, more walks
walk_in : (edges more : List Edge) → AllByRecursion (Contains more) edges → (ws : List ℕ) (u v : ℕ) → Walk edges u ws v → Walk more u ws v
walk_in edges more sub [] u v w = each_contained (Contains more) edges (u, v) sub w
walk_in edges more sub (x ∷ ws) u v w = (each_contained (Contains more) edges (u, x) sub w.0, walk_in edges more sub ws x v w.1)

pub reach_in : (edges more : List Edge) → AllByRecursion (Contains more) edges → (u v : ℕ) → Reaches edges u v → Reaches more u v
reach_in edges more sub u v r = (r.0, walk_in edges more sub r.0 u v r.1)

-- ---- cycles as lists of nodes
pub cycle_listed : (edges : List Edge) → IsCyclic edges → ((line : List ℕ) × IsCycle edges line)
cycle_listed edges c = (c.0 ∷ (c.1.0 ++ c.0 ∷ []), (c.0, record { inner = c.1.0; shape = refl; steps = c.1.1 }))

pub cycle_from : (edges : List Edge) → ((line : List ℕ) × IsCycle edges line) → IsCyclic edges
cycle_from edges l = (l.1.0, (l.1.1.inner, l.1.1.steps))
