-- An order that fits gives an assignment that satisfies the reduced formula.
use Rattle.order_laws.proofs.Prelude.{◌≡◌, ◌⊎◌, ℕ, suc, ◌+◌, ◌-◌, Bool, true, false, cond, not, List, [], ◌∷◌, ◌++◌, length, get_or, refl, sym, ap, ◌∙◌, inl, inr, arith, length-append, AllByRecursion, map, cases_Bool, false≢true, or_left}
use Rattle.order_laws.proofs.Prelude.{or_right, Before, Edge, Choice, Polygraph, Keeps, KeepsOne, Fits, Literal, value_of, literal_true, Satisfies, Known, free_pairs, edge_literal, order_clauses, each_from_append, length_mapped, lit}
use Rattle.order_laws.proofs.Prelude.{in_order, made, Agrees, lit_made, order_clauses_made, True, reach_kept, tested_keeps, keeps_tested, keeps_test, Joins, JoinsBoth, side_clauses, choice_clauses, order_nodes, reduced, IsReach, IsProper}
use Rattle.std.proofs.lemmas.List.{get_or-append-add}
use Rattle.order_laws.proofs.Reached.{InitialKnown, initial_known, past_zero}

-- ---- the assignment: a choice's variable says that side one is kept
abbrev sides_taken : List ℕ → List Choice → List Bool
sides_taken order hs = map (λ h. keeps_test order h.one) hs

abbrev assignment : Known → Polygraph → List ℕ → List Bool
assignment known p order = made known (order_nodes p.nodes) order (sides_taken order p.choices)

-- what a fitting order gives
record Setting (p : Polygraph) (known : Known) (order : List ℕ) : Type 0 where
  pub agrees : Agrees known order
  pub initial : InitialKnown p.nodes known

edge_true : (p : Polygraph) (known : Known) (order : List ℕ) → Setting p known order → (e : Edge) → Joins p.nodes e → Before order e.0 e.1 → known e.0 e.1 ≡ false → lit (free_pairs known (order_nodes p.nodes)) (assignment known p order) e.0 e.1 ≡ true
edge_true p known order set e joins b f =
    let back : known e.1 e.0 ≡ false = elim (cases_Bool (known e.1 e.0)) [
      | inl t ↦ absurd (let turned = set.agrees e.1 e.0 t in omega (arith, b, turned))
      | inr g ↦ g
    ] in
    let lo = past_zero p.nodes known set.initial e.0 e.1 joins.apart joins.to f in
    let lo' = past_zero p.nodes known set.initial e.1 e.0 (λ same. joins.apart (sym same)) joins.from back in
    lit_made known 1 p.nodes order (sides_taken order p.choices) set.agrees e.0 e.1 lo lo' (omega (arith, joins.from)) (omega (arith, joins.to)) b f

-- ---- the clauses of choices
abbrev Given : Known → List (ℕ × ℕ) → List Bool → Literal → Edge → Type 0
Given known pairs values or_else e = known e.0 e.1 ≡ false → (literal_true values or_else ≡ true) ⊎ (lit pairs values e.0 e.1 ≡ true)

clause_gives : (values : List Bool) (b : Bool) (or_else l : Literal) → (b ≡ false → (literal_true values or_else ≡ true) ⊎ (literal_true values l ≡ true)) → AllByRecursion (True values) (cond b [] ((or_else ∷ l ∷ []) ∷ []))
clause_gives values true or_else l h = tt
clause_gives values false or_else l h = (elim (h refl) [ inl t ↦ or_left _ _ t | inr t ↦ or_right _ _ (or_left _ false t) ], tt)

side_gives : (known : Known) (pairs : List (ℕ × ℕ)) (values : List Bool) (or_else : Literal) (edges : List Edge) → AllByRecursion (Given known pairs values or_else) edges → AllByRecursion (True values) (side_clauses known pairs or_else edges)
side_gives known pairs values or_else [] h = tt
side_gives known pairs values or_else (e ∷ edges) h =
    each_from_append (True values) (cond (known e.0 e.1) [] ((or_else ∷ edge_literal pairs e.0 e.1 ∷ []) ∷ [])) (side_clauses known pairs or_else edges)
    (clause_gives values (known e.0 e.1) or_else (edge_literal pairs e.0 e.1) h.0) (side_gives known pairs values or_else edges h.1)

-- the edges of a kept side
kept_gives : (p : Polygraph) (known : Known) (order : List ℕ) → Setting p known order → (or_else : Literal) (edges : List Edge) → AllByRecursion (Joins p.nodes) edges → Keeps order edges → AllByRecursion (Given known (free_pairs known (order_nodes p.nodes)) (assignment known p order) or_else) edges
kept_gives p known order set or_else [] joined k = tt
kept_gives p known order set or_else (e ∷ edges) joined k =
    (λ f. inr (edge_true p known order set e joined.0 k.0 f), kept_gives p known order set or_else edges joined.1 k.1)

-- the edges of a side of which the choice's literal frees us
freed_gives : (known : Known) (pairs : List (ℕ × ℕ)) (values : List Bool) (or_else : Literal) → literal_true values or_else ≡ true → (edges : List Edge) → AllByRecursion (Given known pairs values or_else) edges
freed_gives known pairs values or_else t [] = tt
freed_gives known pairs values or_else t (e ∷ edges) = (λ f. inl t, freed_gives known pairs values or_else t edges)

-- the variables of the choices that are left
record ChoicesLeft (values taken : List Bool) (c : ℕ) : Type 0 where
  pub value : (i : ℕ) → value_of values (c + i) ≡ get_or taken i false

choices_give : (p : Polygraph) (known : Known) (order : List ℕ) → Setting p known order → (c : ℕ) (hs : List Choice) → ChoicesLeft (assignment known p order) (sides_taken order hs) c → AllByRecursion (JoinsBoth p.nodes) hs → AllByRecursion (KeepsOne order) hs →
    AllByRecursion (True (assignment known p order)) (choice_clauses known (free_pairs known (order_nodes p.nodes)) c hs)
choices_give p known order set c [] left joined k = tt
choices_give p known order set c (h ∷ hs) left joined k =
    let values = assignment known p order in
    let pairs = free_pairs known (order_nodes p.nodes) in
    let no : Literal = record { variable = c; positive = false } in
    let yes : Literal = record { variable = c; positive = true } in
    let one = side_clauses known pairs no h.one in
    let two = side_clauses known pairs yes h.two in
    let c0 : c ≡ c + 0 = omega arith in
    let value : value_of values c ≡ keeps_test order h.one = ap (value_of values) c0 ∙ left.value 0 in
    let rest : ChoicesLeft values (sides_taken order hs) (c + 1) = record { value = λ i. (let up : c + 1 + i ≡ c + suc i = omega arith in ap (value_of values) up ∙ left.value (suc i)) } in
    each_from_append (True values) (one ++ two) (choice_clauses known pairs (c + 1) hs)
    (each_from_append (True values) one two
    (side_gives known pairs values no h.one (elim (cases_Bool (keeps_test order h.one)) [
      | inl t ↦ kept_gives p known order set no h.one joined.0.first (tested_keeps order h.one t)
      | inr f ↦ freed_gives known pairs values no (ap not (value ∙ f)) h.one
    ]))
    (side_gives known pairs values yes h.two (elim (cases_Bool (keeps_test order h.one)) [
      | inl t ↦ freed_gives known pairs values yes (value ∙ t) h.two
      | inr f ↦ elim k.0 [
        | inl one' ↦ absurd (false≢true (sym f ∙ keeps_tested order h.one one'))
        | inr two' ↦ kept_gives p known order set yes h.two joined.0.second two'
      ]
    ])))
    (choices_give p known order set (c + 1) hs rest joined.1 k.1)

pub fitting_satisfies : (p : Polygraph) → IsProper p → (known : Known) → IsReach p.known known → (order : List ℕ) → Fits p order → (values : List Bool) × Satisfies values (reduced known p)
unfolding reduced
fitting_satisfies p proper known is order f =
    let nodes = order_nodes p.nodes in
    let pairs = free_pairs known (order_nodes p.nodes) in
    let taken = sides_taken order p.choices in
    let values = assignment known p order in
    let set : Setting p known order = record {
      agrees = λ u v t. reach_kept order p.known u v f.known ((is.each u v).0 t);
      initial = initial_known p proper known is;
    } in
    let front = map (in_order order) pairs in
    let long : length front ≡ length pairs = length_mapped (in_order order) pairs in
    let left : ChoicesLeft values taken (suc (length pairs)) = record {
      value = λ i.
          (let at : suc (length pairs) + i - 1 ≡ length front + i = omega (arith, long) in
          ap (λ q. get_or (front ++ taken) q false) at ∙ get_or-append-add front taken i false);
    } in (
      values,
      record {
        each_variable = omega (arith, length-append front taken, long, length_mapped (λ (h : Choice). keeps_test order h.one) p.choices);
        each_clause = each_from_append (True values) (order_clauses known nodes) (choice_clauses known pairs (suc (length pairs)) p.choices)
            (order_clauses_made known p.nodes 1 p.nodes order taken (omega arith) f.once set.agrees)
            (choices_give p known order set (suc (length pairs)) p.choices left proper.sides f.choices);
      },
    )
