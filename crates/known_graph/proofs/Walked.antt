-- Which nodes a cycle has.
use Rattle.known_graph.proofs.Prelude.{◌≡◌, ℕ, ◌+◌, ◌<◌, ◌≤◌, false, List, [], ◌∷◌, Option, None, Some, sym, subst, inl, inr, arith, is_some, MatchOption, cases_lt, false≢true, Graph, Walk, Reaches, IsCyclic, IsKnownGraph}

walk_from : (g : Graph) → IsKnownGraph g → (u : ℕ) (ws : List ℕ) (v : ℕ) → Walk g.edges u ws v → u ≤ g.nodes
walk_from g k u [] v w = (k.joined (u, v) w).0
walk_from g k u (x ∷ ws) v w = (k.joined (u, x) w.0).0

pub cycle_within : (g : Graph) → IsKnownGraph g → (c : IsCyclic g.edges) → c.0 ≤ g.nodes
cycle_within g k c = walk_from g k c.0 c.1.0 c.0 c.1.1

pub where_none : {X : Type 0} (o : Option X) (P : Type 0) (Q : X → Type 0) → is_some o ≡ false → MatchOption o P Q → P
where_none None P Q e m = m
where_none (Some x) P Q e m = absurd (false≢true (sym e))

pub no_cycle_more : (g : Graph) (n v : ℕ) → v ≡ n → (Reaches g.edges v v → ⊥) → ((w : ℕ) → w < n → Reaches g.edges w w → ⊥) → (w : ℕ) → w < n + 1 → Reaches g.edges w w → ⊥
no_cycle_more g n v e here below w h r = elim (cases_lt w n) [
  | inl lt ↦ below w lt r
  | inr ge ↦ let same : w ≡ v = omega (arith, e, ge, h) in here (subst (λ x. Reaches g.edges x x) same r)
]
