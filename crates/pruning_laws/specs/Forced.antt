-- The sides that a polygraph forces, and what pruning leaves of it.
use Rattle.std.specs.Prelude.{◌≡◌, ℕ, ◌+◌, ◌||◌, List, [], ◌∷◌, ◌++◌, Bool, true, if◌then◌else◌}
use Rattle.std.specs.List.{Contains}
use Rattle.serializability.specs.Polygraph.{Edge, Choice, Polygraph}
use Rattle.pruning_laws.specs.declared.side.Side.{Side}
use Rattle.pruning_laws.specs.declared.side.Side.TheVariants.{One, Two}
use Rattle.reach_laws.specs.Reach.{Reaches, IsCyclic}

abbrev pub edges_of : Choice → Side → List Edge
edges_of c One = c.one
edges_of c Two = c.two

abbrev pub other : Side → Side
other One = Two
other Two = One

-- a set of sides, by the number of their choice
abbrev pub Sides : Type 0
Sides = ℕ → Side → Bool

-- a fact of each choice, where these are numbered from c
abbrev pub EachNumbered : (ℕ → Choice → Type 0) → ℕ → List Choice → Type 0
EachNumbered P c [] = Unit {0}
EachNumbered P c (h ∷ rest) = P c h × EachNumbered P (c + 1) rest

-- the edges of the sides in the set
abbrev pub kept_from : Sides → ℕ → List Choice → List Edge
kept_from sides c [] = []
kept_from sides c (h ∷ rest) = (if sides c One then h.one else []) ++
    (if sides c Two then h.two else []) ++ kept_from sides (c + 1) rest

-- the known edges and those
abbrev pub edges_with : Polygraph → Sides → List Edge
edges_with p sides = p.known ++ kept_from sides 0 p.choices

-- some edge of the side goes against a walk
abbrev pub IsRefuted : List Edge → List Edge → Type 0
IsRefuted edges side = (u : ℕ) × ((v : ℕ) × (Contains side (u, v) × Reaches edges v u))

-- where a side is refuted, the other side of its choice is in the set
pub record IsClosed (p : Polygraph) (sides : Sides) : Type 0 where
  pub rule : EachNumbered (λ c h. (s : Side) → IsRefuted (edges_with p sides) (edges_of h s)
      → sides c (other s) ≡ true) 0 p.choices

-- the least set that is closed
pub record IsForced (p : Polygraph) (forced : Sides) : Type 0 where
  pub closed : IsClosed p forced
  pub least : (sides : Sides) → IsClosed p sides
      → EachNumbered (λ c h. (s : Side) → forced c s ≡ true → sides c s ≡ true) 0 p.choices

-- the edges have a cycle that no order escapes: the forced set's have, and so each closed set's
abbrev pub IsDead : Polygraph → Type 0
IsDead p = (sides : Sides) → IsClosed p sides → IsCyclic (edges_with p sides)

-- the choices of which neither side is in the set
abbrev pub open_from : Sides → ℕ → List Choice → List Choice
open_from sides c [] = []
open_from sides c (h ∷ rest) = if sides c One || sides c Two then open_from sides
    (c + 1) rest else h ∷ open_from sides (c + 1) rest

-- the known and the kept edges, and the open choices
abbrev pub pruned : Polygraph → Sides → Polygraph
pruned p forced = record {
  nodes = p.nodes;
  known = edges_with p forced;
  choices = open_from forced
      0 p.choices;
}
