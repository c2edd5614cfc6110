-- A satisfying assignment of a reduced formula stands for an order that fits.
use Rattle.order_laws.proofs.Prelude.{◌≡◌, ◌⊎◌, ℕ, suc, ◌+◌, Bool, true, false, cond, not, List, [], ◌∷◌, ◌++◌, length, refl, sym, ap, ◌∙◌, subst, inl, inr, arith, AllByRecursion, cases_Bool, false≢true, or_cases, Before, Edge, Choice}
use Rattle.order_laws.proofs.Prelude.{Polygraph, Keeps, KeepsOne, Fits, Literal, value_of, literal_true, Satisfies, Known, free_pairs, edge_literal, order_clauses, is_before, before, IsOrder, IsDecoded, each_of_append, lit, known_other}
use Rattle.order_laws.proofs.Prelude.{before_known, before_lit, turns_kept, is_order, unit_true, True, each_contained, each_from_contained, Side, One, Two, edges_of, IsRefuted, Joins, JoinsBoth, side_clauses, choice_clauses, order_nodes}
use Rattle.order_laws.proofs.Prelude.{reduced, IsReach, IsProper}
use Rattle.serializability.proofs.Ranks.{IsRanked, ranked_once, ranked_before}
use Rattle.serializability.proofs.Lines.{decoded}
use Rattle.order_laws.proofs.Reached.{reach_known, edge_known, not_back, initial_known, same_pairs}

abbrev pairs_of_nodes : Polygraph → Known → List (ℕ × ℕ)
pairs_of_nodes p known = free_pairs known (order_nodes p.nodes)

-- ---- what the clauses say
record Parts (p : Polygraph) (known : Known) (values : List Bool) : Type 0 where
  pub order : AllByRecursion (True values) (order_clauses known (order_nodes p.nodes))
  pub choices : AllByRecursion (True values) (choice_clauses known (pairs_of_nodes p known) (suc (length (pairs_of_nodes p known))) p.choices)

parts_of : (p : Polygraph) (known : Known) (values : List Bool) → Satisfies values (reduced known p) → Parts p known values
unfolding reduced
parts_of p known values s =
    let pairs = pairs_of_nodes p known in
    let parts = each_of_append (True values) (order_clauses known (order_nodes p.nodes)) (choice_clauses known pairs (suc (length pairs)) p.choices) s.each_clause in
    record { order = parts.0; choices = parts.1 }

-- an edge that is known, or whose literal is true
abbrev Told : Known → List (ℕ × ℕ) → List Bool → Edge → Type 0
Told known pairs values e = (known e.0 e.1 ≡ true) ⊎ (lit pairs values e.0 e.1 ≡ true)

clause_tells : (values : List Bool) (b : Bool) (or_else l : Literal) → literal_true values or_else ≡ false → AllByRecursion (True values) (cond b [] ((or_else ∷ l ∷ []) ∷ [])) → (b ≡ true) ⊎ (literal_true values l ≡ true)
clause_tells values true or_else l f h = inl refl
clause_tells values false or_else l f h = elim (or_cases (literal_true values or_else) _ h.0) [
  | inl t ↦ absurd (false≢true (sym f ∙ t))
  | inr t ↦ inr (unit_true _ t)
]

side_tells : (known : Known) (pairs : List (ℕ × ℕ)) (values : List Bool) (or_else : Literal) → literal_true values or_else ≡ false → (edges : List Edge) → AllByRecursion (True values) (side_clauses known pairs or_else edges) → AllByRecursion (Told known pairs values) edges
side_tells known pairs values or_else f [] h = tt
side_tells known pairs values or_else f (e ∷ edges) h =
    let parts = each_of_append (True values) (cond (known e.0 e.1) [] ((or_else ∷ edge_literal pairs e.0 e.1 ∷ []) ∷ [])) (side_clauses known pairs or_else edges) h in
    (clause_tells values (known e.0 e.1) or_else (edge_literal pairs e.0 e.1) f parts.0, side_tells known pairs values or_else f edges parts.1)

abbrev SideTold : Known → List (ℕ × ℕ) → List Bool → Choice → Type 0
SideTold known pairs values h = AllByRecursion (Told known pairs values) h.one ⊎ AllByRecursion (Told known pairs values) h.two

choices_tell : (known : Known) (pairs : List (ℕ × ℕ)) (values : List Bool) (c : ℕ) (hs : List Choice) → AllByRecursion (True values) (choice_clauses known pairs c hs) → AllByRecursion (SideTold known pairs values) hs
choices_tell known pairs values c [] k = tt
choices_tell known pairs values c (h ∷ hs) k =
    let no : Literal = record { variable = c; positive = false } in
    let yes : Literal = record { variable = c; positive = true } in
    let one = side_clauses known pairs no h.one in
    let two = side_clauses known pairs yes h.two in
    let a = each_of_append (True values) (one ++ two) (choice_clauses known pairs (c + 1) hs) k in
    let b = each_of_append (True values) one two a.0 in (
      elim (cases_Bool (value_of values c)) [
        | inl t ↦ inl (side_tells known pairs values no (ap not t) h.one b.0)
        | inr f ↦ inr (side_tells known pairs values yes f h.two b.1)
      ],
      choices_tell known pairs values (c + 1) hs a.1,
    )

-- ---- the order
order_of : (p : Polygraph) → IsProper p → (known : Known) → IsReach p.known known → (values : List Bool) → Satisfies values (reduced known p) → IsOrder p.nodes (is_before known (pairs_of_nodes p known) values)
order_of p proper known is values s =
    let pairs = pairs_of_nodes p known in
    let k = reach_known p.known known is proper.acyclic in
    let parts = parts_of p known values s in
    is_order p.nodes known pairs values k
    (λ v lo hi. (let t = initial_known p proper known is v lo hi in before_known known pairs values 0 v (known_other known k 0 v t) t))
    (λ i j l lo ij jl hi. turns_kept known values k 1 p.nodes parts.order i j l lo ij jl (omega arith))

pub formula_is_order : (p : Polygraph) → IsProper p → (known : Known) → IsReach p.known known → (values : List Bool) → Satisfies values (reduced known p) → IsOrder p.nodes (before (reduced known p) values)
unfolding reduced
formula_is_order p proper known is values s =
    subst (λ pairs. IsOrder p.nodes (is_before known pairs values)) (sym (same_pairs p.nodes known (initial_known p proper known is)))
    (order_of p proper known is values s)

record Decoding (p : Polygraph) (known : Known) (values : List Bool) (order : List ℕ) : Type 0 where
  pub order_is : IsOrder p.nodes (is_before known (pairs_of_nodes p known) values)
  pub ranked : IsRanked p.nodes (is_before known (pairs_of_nodes p known) values) order

decoding : (p : Polygraph) → IsProper p → (known : Known) → IsReach p.known known → (values : List Bool) → Satisfies values (reduced known p) → (order : List ℕ) → IsDecoded p.nodes (before (reduced known p) values) order → Decoding p known values order
unfolding reduced
decoding p proper known is values s order dec =
    let d = subst (λ pairs. IsDecoded p.nodes (is_before known pairs values) order) (same_pairs p.nodes known (initial_known p proper known is)) dec in
    record {
      order_is = order_of p proper known is values s;
      ranked = record { places = d.places; nodes = d.nodes; each = d.each };
    }

told_kept : (p : Polygraph) (known : Known) → IsReach p.known known → (values : List Bool) (order : List ℕ) → Decoding p known values order → (edges : List Edge) → (IsRefuted p.known edges → ⊥) → AllByRecursion (Joins p.nodes) edges → AllByRecursion (Told known (pairs_of_nodes p known) values) edges → Keeps order edges
told_kept p known is values order d edges unrefuted joined told =
    let pairs = pairs_of_nodes p known in
    each_from_contained (λ (e : Edge). Before order e.0 e.1) edges (λ e c.
    let joins = each_contained (Joins p.nodes) edges e joined c in
    let t : is_before known pairs values e.0 e.1 ≡ true = elim (each_contained (Told known pairs values) edges e told c) [
      | inl k ↦ before_known known pairs values e.0 e.1 joins.apart k
      | inr l ↦ before_lit known pairs values e.0 e.1 joins.apart (not_back p.known known is edges unrefuted e c) l
    ] in
    ranked_before p.nodes (is_before known pairs values) d.order_is order d.ranked e.0 e.1 joins.from joins.to t)

choices_kept : (p : Polygraph) (known : Known) → IsReach p.known known → (values : List Bool) (order : List ℕ) → Decoding p known values order → (hs : List Choice) → AllByRecursion (λ h. (side : Side) → IsRefuted p.known (edges_of h side) → ⊥) hs → AllByRecursion (JoinsBoth p.nodes) hs → AllByRecursion (SideTold known (pairs_of_nodes p known) values) hs → AllByRecursion (KeepsOne order) hs
choices_kept p known is values order d [] unrefuted joined told = tt
choices_kept p known is values order d (h ∷ hs) unrefuted joined told = (
  elim told.0 [
    | inl k ↦ inl (told_kept p known is values order d h.one (unrefuted.0 One) joined.0.first k)
    | inr k ↦ inr (told_kept p known is values order d h.two (unrefuted.0 Two) joined.0.second k)
  ],
  choices_kept p known is values order d hs unrefuted.1 joined.1 told.1,
)

pub decoded_fits : (p : Polygraph) → IsProper p → (known : Known) → IsReach p.known known → (values : List Bool) → Satisfies values (reduced known p) → (order : List ℕ) → IsDecoded p.nodes (before (reduced known p) values) order → Fits p order
decoded_fits p proper known is values s order dec =
    let pairs = pairs_of_nodes p known in
    let n = p.nodes in
    let B = is_before known pairs values in
    let k = reach_known p.known known is proper.acyclic in
    let d = decoding p proper known is values s order dec in
    let parts = parts_of p known values s in
    record {
      once = ranked_once n B d.order_is order d.ranked;
      known = each_from_contained (λ (e : Edge). Before order e.0 e.1) p.known (λ e c.
          let t = edge_known p.known known is e c in
          let w = proper.joined e c in
          ranked_before n B d.order_is order d.ranked e.0 e.1 w.0 w.1 (before_known known pairs values e.0 e.1 (known_other known k e.0 e.1 t) t));
      choices = choices_kept p known is values order d p.choices proper.unrefuted proper.sides
          (choices_tell known pairs values (suc (length pairs)) p.choices parts.choices);
    }

pub formula_decodes : (p : Polygraph) → IsProper p → (known : Known) → IsReach p.known known → (values : List Bool) → Satisfies values (reduced known p) → (order : List ℕ) × IsDecoded p.nodes (before (reduced known p) values) order
formula_decodes p proper known is values s = decoded p.nodes (before (reduced known p) values) (formula_is_order p proper known is values s)
