-- Of the known edges of a polygraph its forced set, and whether it is dead, see the set alone.
use Rattle.cobra_formulas.proofs.Prelude.{◌≡◌, ℕ, ◌+◌, true, List, [], ◌∷◌, ◌++◌, sym, subst, inl, inr, Contains, Edge, Choice, Polygraph, Reaches, IsCyclic, edges_of, other, Sides, EachNumbered, kept_from, edges_with, IsRefuted, IsClosed}
use Rattle.cobra_formulas.proofs.Prelude.{IsForced, IsDead}
use Rattle.std.proofs.lemmas.List.Elements.{Contains-append_left, Contains-append_right, Contains-append_cases}
use Rattle.reach_laws.proofs.Walks.{each_from_contained, reach_in}
use Rattle.pruning_laws.specs.declared.side.Side.{Side}

-- each of these edges is one of those
abbrev pub Among : List Edge → List Edge → Type 0
Among edges more = (e : Edge) → Contains edges e → Contains more e

pub reach_among : (edges more : List Edge) → Among edges more → (u v : ℕ) → Reaches edges u v → Reaches more u v
reach_among edges more sub u v r = reach_in edges more (each_from_contained (Contains more) edges sub) u v r

pub cycle_among : (edges more : List Edge) → Among edges more → IsCyclic edges → IsCyclic more
cycle_among edges more sub c = (c.0, reach_among edges more sub c.0 c.0 c.1)

pub known_among : (p : Polygraph) (sides : Sides) → Among p.known (edges_with p sides)
known_among p sides e c = Contains-append_left p.known (kept_from sides 0 p.choices) e c

pub with_among : (p q : Polygraph) → Among p.known q.known → p.choices ≡ q.choices → (sides : Sides) → Among (edges_with p sides) (edges_with q sides)
with_among p q sub same sides e c = subst (λ (hs : List Choice). Contains (q.known ++ kept_from sides 0 hs) e) same (elim (Contains-append_cases p.known (kept_from sides 0 p.choices) e c) [
  | inl known ↦ Contains-append_left q.known (kept_from sides 0 p.choices) e (sub e known)
  | inr kept ↦ Contains-append_right q.known (kept_from sides 0 p.choices) e kept
])

each_numbered : (P Q : ℕ → Choice → Type 0) (c : ℕ) (hs : List Choice) → ((c : ℕ) (h : Choice) → P c h → Q c h) → EachNumbered P c hs → EachNumbered Q c hs
each_numbered P Q c [] f a = tt
each_numbered P Q c (h ∷ hs) f a = (f c h a.0, each_numbered P Q (c + 1) hs f a.1)

abbrev Rule : List Edge → Sides → ℕ → Choice → Type 0
Rule edges sides c h = (s : Side) → IsRefuted edges (edges_of h s) → sides c (other s) ≡ true

closed_among : (p q : Polygraph) → Among q.known p.known → q.choices ≡ p.choices → (sides : Sides) → IsClosed p sides → IsClosed q sides
closed_among p q sub same sides closed = record {
  rule = subst (λ (hs : List Choice). EachNumbered (Rule (edges_with q sides) sides) 0 hs) (sym same)
      (each_numbered (Rule (edges_with p sides) sides) (Rule (edges_with q sides) sides) 0 p.choices
      (λ c h rule s r. rule s (r.0, (r.1.0, (r.1.1.0, reach_among (edges_with q sides) (edges_with p sides) (with_among q p sub same sides) r.1.0 r.0 r.1.1.1))))
      closed.rule);
}

pub forced_among : (p q : Polygraph) → Among p.known q.known → Among q.known p.known → p.choices ≡ q.choices → (forced : Sides) → IsForced p forced → IsForced q forced
forced_among p q there back same forced f = record {
  closed = closed_among p q back (sym same) forced f.closed;
  least = λ sides closed. subst (λ (hs : List Choice). EachNumbered (λ c h. (s : Side) → forced c s ≡ true → sides c s ≡ true) 0 hs) same
      (f.least sides (closed_among q p there same sides closed));
}

pub dead_among : (p q : Polygraph) → Among p.known q.known → p.choices ≡ q.choices → IsDead p → IsDead q
dead_among p q there same dead sides closed =
    cycle_among (edges_with p sides) (edges_with q sides) (with_among p q there same sides) (dead sides (closed_among q p there same sides closed))
