-- Literals in range, and clauses of one to three literals.
use Rattle.order_laws.proofs.Prelude.{◌≡◌, ◌≢◌, ℕ, suc, ◌+◌, ◌<◌, ◌≤◌, Bool, true, false, eqb, ltb, cond, not, ◌&&◌, List, [], ◌∷◌, ◌++◌, length, refl, sym, ◌∙◌, inl, inr, arith, eq-eqb, map, filter, list_any, range_with_len}
use Rattle.order_laws.proofs.Prelude.{AllByRecursion, cases_order, cases_Bool, cond-true, cond-false, false≢true, and_from, or_parts, not_from_false, not-true, not-false, lt-ltb, le-ltb, Edge, Choice, Polygraph, Literal, IsInRange}
use Rattle.order_laws.proofs.Prelude.{HasShortClauses, Known, is_free, free_pairs, pair_place, edge_literal, edge_clause, triple_clauses, triples_of, order_clauses, IsFormula, each_from_append, each_from_flat_map, each_from_map}
use Rattle.order_laws.proofs.Prelude.{each_from_filter, length_mapped, IsKnown, HasPair, pair_free, each_triple_from, clause_from, each_contained, each_from_contained, Side, One, Two, edges_of, IsRefuted, Joins, JoinsBoth, side_clauses}
use Rattle.order_laws.proofs.Prelude.{choice_clauses, order_nodes, reduced, IsReach, IsProper}
use Rattle.std.proofs.lemmas.List.Sums.{length-filter, count_by-le-length}
use Rattle.order_laws.proofs.Reached.{InitialKnown, reach_known, not_back, initial_known, past_zero}
use Rattle.order_laws.proofs.Satisfied.{formula_is_order}

-- one of this many variables, or the negation of one
abbrev pub IsVariable : ℕ → Literal → Type 0
IsVariable most l = (0 < l.variable) × (l.variable ≤ most)

-- one to three literals over this many variables
pub record IsClause (most : ℕ) (c : List Literal) : Type 0 where
  pub literals : AllByRecursion (IsVariable most) c
  pub some : 0 < length c
  pub few : length c ≤ 3

-- ---- literals
pub place_within : (i j : ℕ) (ps : List (ℕ × ℕ)) → HasPair i j ps → pair_place ps i j < length ps
place_within i j [] h = absurd h
place_within i j (p ∷ ps) h = elim (cases_Bool (eqb p.0 i && eqb p.1 j)) [
  | inl t ↦
      let here : pair_place (p ∷ ps) i j ≡ 0 = cond-true (eqb p.0 i && eqb p.1 j) 0 (suc (pair_place ps i j)) t in
      omega (arith, here)
  | inr f ↦
      let there : pair_place (p ∷ ps) i j ≡ suc (pair_place ps i j) = cond-false (eqb p.0 i && eqb p.1 j) 0 (suc (pair_place ps i j)) f in
      elim h [
        | inl e ↦ absurd (false≢true (sym f ∙ and_from (eqb p.0 i) (eqb p.1 j) (eq-eqb p.0 i e.0) (eq-eqb p.1 j e.1)))
        | inr k ↦ (let rest = place_within i j ps k in omega (arith, there, rest))
      ]
]

pub variable_up : (pairs : List (ℕ × ℕ)) (u v : ℕ) → u < v → (edge_literal pairs u v).variable ≡ suc (pair_place pairs u v)
variable_up pairs u v h = let t : ltb u v ≡ true = lt-ltb u v h in rw t refl

pub variable_down : (pairs : List (ℕ × ℕ)) (u v : ℕ) → u < v → (edge_literal pairs v u).variable ≡ suc (pair_place pairs u v)
variable_down pairs u v h = let t : ltb v u ≡ false = le-ltb v u (omega arith) in rw t refl

-- an edge between two different ones of the nodes
pub record IsWithin (low m : ℕ) (e : Edge) : Type 0 where
  pub from : (low ≤ e.0) × (e.0 < low + m)
  pub to : (low ≤ e.1) × (e.1 < low + m)
  pub apart : e.0 ≢ e.1

-- and it is not known which of them comes first
pub record IsOpen (known : Known) (low m : ℕ) (e : Edge) : Type 0 where
  pub within : IsWithin low m e
  pub ahead : known e.0 e.1 ≡ false
  pub back : known e.1 e.0 ≡ false

pub edge_in_range : (known : Known) (low m : ℕ) (e : Edge) → IsOpen known low m e → IsVariable (length (free_pairs known (range_with_len low m))) (edge_literal (free_pairs known (range_with_len low m)) e.0 e.1)
edge_in_range known low m e k =
    let pairs = free_pairs known (range_with_len low m) in
    elim (cases_order e.0 e.1) [
      | inl same ↦ absurd (k.within.apart same)
      | inr o ↦ elim o [
        | inl lt ↦
            let free : is_free known (e.0, e.1) ≡ true = and_from (not (known e.0 e.1)) (not (known e.1 e.0)) (not_from_false _ k.ahead) (not_from_false _ k.back) in
            let place = place_within e.0 e.1 pairs (pair_free known low m e.0 e.1 k.within.from.0 lt k.within.to.1 free) in
            let variable = variable_up pairs e.0 e.1 lt in
            (omega (arith, variable), omega (arith, variable, place))
        | inr lt ↦
            let free : is_free known (e.1, e.0) ≡ true = and_from (not (known e.1 e.0)) (not (known e.0 e.1)) (not_from_false _ k.back) (not_from_false _ k.ahead) in
            let place = place_within e.1 e.0 pairs (pair_free known low m e.1 e.0 k.within.to.0 lt k.within.from.1 free) in
            let variable = variable_down pairs e.1 e.0 lt in
            (omega (arith, variable), omega (arith, variable, place))
      ]
    ]

pub more_variables : (low high : ℕ) (l : Literal) → low ≤ high → IsVariable low l → IsVariable high l
more_variables low high l le h = (h.0, omega (arith, h.1, le))

-- ---- clauses of edges
edge_literals : (known : Known) (low m : ℕ) (edges : List Edge) → AllByRecursion (IsWithin low m) edges → list_any (λ e. known e.0 e.1) edges ≡ false →
    AllByRecursion (λ (e : Edge). not (known e.1 e.0) ≡ true → IsVariable (length (free_pairs known (range_with_len low m))) (edge_literal (free_pairs known (range_with_len low m)) e.0 e.1)) edges
edge_literals known low m [] within none = tt
edge_literals known low m (e ∷ edges) within none =
    let parts = or_parts (known e.0 e.1) (list_any (λ e. known e.0 e.1) edges) none in (
      λ t. edge_in_range known low m e (record { within = within.0; ahead = parts.0; back = not-true (known e.1 e.0) t }),
      edge_literals known low m edges within.1 parts.1,
    )

some_left : (p : Edge → Bool) (edges : List Edge) → (AllByRecursion (λ e. p e ≡ false) edges → ⊥) → 0 < length (filter p edges)
some_left p [] some = absurd (some tt)
some_left p (e ∷ edges) some = elim (cases_Bool (p e)) [
  | inl t ↦ rw t (omega arith)
  | inr f ↦ rw f (some_left p edges (λ rest. some (f, rest)))
]

few_left : (p : Edge → Bool) (edges : List Edge) → length (filter p edges) ≤ length edges
few_left p edges = omega (arith, length-filter p edges, count_by-le-length p edges)

pub each_mapped : {X : Type 0} (P Q : X → Type 0) (xs : List X) → ((x : X) → P x → Q x) → AllByRecursion P xs → AllByRecursion Q xs
each_mapped P Q [] f h = tt
each_mapped P Q (x ∷ xs) f h = (f x h.0, each_mapped P Q xs f h.1)

-- of three edges, not all of which are known the other way round
pub edge_clause_is : (known : Known) (low m most : ℕ) → length (free_pairs known (range_with_len low m)) ≤ most → (edges : List Edge) → length edges ≤ 3 → AllByRecursion (IsWithin low m) edges → (AllByRecursion (λ (e : Edge). not (known e.1 e.0) ≡ false) edges → ⊥) →
    AllByRecursion (IsClause most) (edge_clause known (free_pairs known (range_with_len low m)) edges)
edge_clause_is known low m most le edges three within some =
    let pairs = free_pairs known (range_with_len low m) in
    let literal : Edge → Literal = λ e. edge_literal pairs e.0 e.1 in
    let left = filter (λ (e : Edge). not (known e.1 e.0)) edges in
    let long : length (map literal left) ≡ length left = length_mapped literal left in
    clause_from (IsClause most) (list_any (λ e. known e.0 e.1) edges) (map literal left) (λ none. record {
      literals = each_from_map (IsVariable most) literal left
          (each_from_filter (λ (e : Edge). IsVariable most (literal e)) (λ (e : Edge). not (known e.1 e.0)) edges
          (each_mapped (λ (e : Edge). not (known e.1 e.0) ≡ true → IsVariable (length pairs) (literal e)) (λ (e : Edge). not (known e.1 e.0) ≡ true → IsVariable most (literal e)) edges
          (λ e h t. more_variables (length pairs) most (literal e) le (h t)) (edge_literals known low m edges within none)));
      some = omega (arith, long, some_left (λ (e : Edge). not (known e.1 e.0)) edges some);
      few = omega (arith, long, few_left (λ (e : Edge). not (known e.1 e.0)) edges, three);
    })

-- three edges of a circle are not all known the other way round
circle : (known : Known) → IsKnown known → (a b c : ℕ) → AllByRecursion (λ (e : Edge). not (known e.1 e.0) ≡ false) ((b, a) ∷ (c, b) ∷ (a, c) ∷ []) → ⊥
circle known k a b c h =
    let ab = not-false (known a b) h.0 in
    let bc = not-false (known b c) h.1.0 in
    let ca = not-false (known c a) h.1.1.0 in
    false≢true (sym (k.irreflexive a) ∙ k.transitive a c a (k.transitive a b c ab bc) ca)

circle' : (known : Known) → IsKnown known → (a b c : ℕ) → AllByRecursion (λ (e : Edge). not (known e.1 e.0) ≡ false) ((a, b) ∷ (b, c) ∷ (c, a) ∷ []) → ⊥
circle' known k a b c h =
    let ba = not-false (known b a) h.0 in
    let cb = not-false (known c b) h.1.0 in
    let ac = not-false (known a c) h.1.1.0 in
    false≢true (sym (k.irreflexive a) ∙ k.transitive a b a (k.transitive a c b ac cb) ba)

-- ---- clauses of triples
pub order_clauses_are : (known : Known) → IsKnown known → (low m most : ℕ) → length (free_pairs known (range_with_len low m)) ≤ most → AllByRecursion (IsClause most) (order_clauses known (range_with_len low m))
order_clauses_are known kn low m most le =
    let pairs = free_pairs known (range_with_len low m) in
    let P = IsClause most in
    each_from_flat_map P (triple_clauses known pairs) (triples_of (range_with_len low m))
    (each_triple_from (λ t. AllByRecursion P (triple_clauses known pairs t)) low m (λ i j k lo ij jk hi.
    let atI : (low ≤ i) × (i < low + m) = (lo, omega arith) in
    let atJ : (low ≤ j) × (j < low + m) = (omega arith, omega arith) in
    let atK : (low ≤ k) × (k < low + m) = (omega arith, hi) in
    let wij : IsWithin low m (i, j) = record { from = atI; to = atJ; apart = λ e. omega (arith, e, ij) } in
    let wji : IsWithin low m (j, i) = record { from = atJ; to = atI; apart = λ e. omega (arith, e, ij) } in
    let wjk : IsWithin low m (j, k) = record { from = atJ; to = atK; apart = λ e. omega (arith, e, jk) } in
    let wkj : IsWithin low m (k, j) = record { from = atK; to = atJ; apart = λ e. omega (arith, e, jk) } in
    let wik : IsWithin low m (i, k) = record { from = atI; to = atK; apart = λ e. omega (arith, e, ij, jk) } in
    let wki : IsWithin low m (k, i) = record { from = atK; to = atI; apart = λ e. omega (arith, e, ij, jk) } in
    each_from_append P (edge_clause known pairs ((j, i) ∷ (k, j) ∷ (i, k) ∷ [])) (edge_clause known pairs ((i, j) ∷ (j, k) ∷ (k, i) ∷ []))
    (edge_clause_is known low m most le ((j, i) ∷ (k, j) ∷ (i, k) ∷ []) (omega arith) (wji, (wkj, (wik, tt))) (circle known kn i j k))
    (edge_clause_is known low m most le ((i, j) ∷ (j, k) ∷ (k, i) ∷ []) (omega arith) (wij, (wjk, (wki, tt))) (circle' known kn i j k))))

-- ---- clauses of choices
-- an edge of a side that is not refuted, between two different ones of nodes 0 to n
pub record Unturned (n : ℕ) (known : Known) (e : Edge) : Type 0 where
  pub joins : Joins n e
  pub back : known e.1 e.0 ≡ false

pub side_edge_open : (n : ℕ) (known : Known) → InitialKnown n known → (e : Edge) → Joins n e → known e.0 e.1 ≡ false → known e.1 e.0 ≡ false → IsOpen known 1 n e
side_edge_open n known initial e joins f back =
    let lo = past_zero n known initial e.0 e.1 joins.apart joins.to f in
    let lo' = past_zero n known initial e.1 e.0 (λ same. joins.apart (sym same)) joins.from back in
    let within : IsWithin 1 n e = record { from = (lo, omega (arith, joins.from)); to = (lo', omega (arith, joins.to)); apart = joins.apart } in
    record { within = within; ahead = f; back = back }

pub side_clauses_are : (n : ℕ) (known : Known) → InitialKnown n known → (most : ℕ) → length (free_pairs known (order_nodes n)) ≤ most → (or_else : Literal) → IsVariable most or_else → (edges : List Edge) → AllByRecursion (Unturned n known) edges →
    AllByRecursion (IsClause most) (side_clauses known (free_pairs known (order_nodes n)) or_else edges)
side_clauses_are n known initial most le or_else is [] h = tt
side_clauses_are n known initial most le or_else is (e ∷ edges) h =
    let pairs = free_pairs known (order_nodes n) in
    let l = edge_literal pairs e.0 e.1 in
    each_from_append (IsClause most) (cond (known e.0 e.1) [] ((or_else ∷ l ∷ []) ∷ [])) (side_clauses known pairs or_else edges)
    (clause_from (IsClause most) (known e.0 e.1) (or_else ∷ l ∷ []) (λ f. record {
      literals = (is, (more_variables (length pairs) most l le (edge_in_range known 1 n e (side_edge_open n known initial e h.0.joins f h.0.back)), tt));
      some = omega arith;
      few = omega arith;
    }))
    (side_clauses_are n known initial most le or_else is edges h.1)

-- each edge of the choice is one
pub record BothUnturned (n : ℕ) (known : Known) (h : Choice) : Type 0 where
  pub one : AllByRecursion (Unturned n known) h.one
  pub two : AllByRecursion (Unturned n known) h.two

pub choice_clauses_are : (n : ℕ) (known : Known) → InitialKnown n known → (most : ℕ) → length (free_pairs known (order_nodes n)) ≤ most → (c : ℕ) (hs : List Choice) → 0 < c → c + length hs ≤ suc most → AllByRecursion (BothUnturned n known) hs →
    AllByRecursion (IsClause most) (choice_clauses known (free_pairs known (order_nodes n)) c hs)
choice_clauses_are n known initial most le c [] lo hi h = tt
choice_clauses_are n known initial most le c (x ∷ hs) lo hi h =
    let pairs = free_pairs known (order_nodes n) in
    let no : Literal = record { variable = c; positive = false } in
    let yes : Literal = record { variable = c; positive = true } in
    let one = side_clauses known pairs no x.one in
    let two = side_clauses known pairs yes x.two in
    let within : c ≤ most = omega (arith, hi) in
    each_from_append (IsClause most) (one ++ two) (choice_clauses known pairs (c + 1) hs)
    (each_from_append (IsClause most) one two
    (side_clauses_are n known initial most le no (lo, within) x.one h.0.one)
    (side_clauses_are n known initial most le yes (lo, within) x.two h.0.two))
    (choice_clauses_are n known initial most le (c + 1) hs (omega arith) (omega (arith, hi)) h.1)

unturned : (p : Polygraph) (known : Known) → IsReach p.known known → (edges : List Edge) → (IsRefuted p.known edges → ⊥) → AllByRecursion (Joins p.nodes) edges → AllByRecursion (Unturned p.nodes known) edges
unturned p known is edges unrefuted joined =
    each_from_contained (Unturned p.nodes known) edges (λ e c. record {
      joins = each_contained (Joins p.nodes) edges e joined c;
      back = not_back p.known known is edges unrefuted e c;
    })

each_unturned : (p : Polygraph) (known : Known) → IsReach p.known known → (hs : List Choice) → AllByRecursion (λ h. (side : Side) → IsRefuted p.known (edges_of h side) → ⊥) hs → AllByRecursion (JoinsBoth p.nodes) hs → AllByRecursion (BothUnturned p.nodes known) hs
each_unturned p known is [] unrefuted joined = tt
each_unturned p known is (h ∷ hs) unrefuted joined = (
  record { one = unturned p known is h.one (unrefuted.0 One) joined.0.first; two = unturned p known is h.two (unrefuted.0 Two) joined.0.second },
  each_unturned p known is hs unrefuted.1 joined.1,
)

-- ---- the formula
pub clauses_are : (p : Polygraph) → IsProper p → (known : Known) → IsReach p.known known → AllByRecursion (IsClause (reduced known p).variables) (reduced known p).clauses
unfolding reduced
clauses_are p proper known is =
    let pairs = free_pairs known (order_nodes p.nodes) in
    let most = length pairs + length p.choices in
    each_from_append (IsClause most) (order_clauses known (order_nodes p.nodes)) (choice_clauses known pairs (suc (length pairs)) p.choices)
    (order_clauses_are known (reach_known p.known known is proper.acyclic) 1 p.nodes most (omega arith))
    (choice_clauses_are p.nodes known (initial_known p proper known is) most (omega arith) (suc (length pairs)) p.choices (omega arith) (omega arith)
    (each_unturned p known is p.choices proper.unrefuted proper.sides))

pub in_range : (p : Polygraph) → IsProper p → (known : Known) → IsReach p.known known → IsInRange (reduced known p)
in_range p proper known is =
    let f = reduced known p in
    each_mapped (IsClause f.variables) (AllByRecursion (IsVariable f.variables)) f.clauses (λ c k. k.literals) (clauses_are p proper known is)

pub short_clauses : (p : Polygraph) → IsProper p → (known : Known) → IsReach p.known known → HasShortClauses (reduced known p)
short_clauses p proper known is =
    let f = reduced known p in
    each_mapped (IsClause f.variables) (λ c. (0 < length c) × (length c ≤ 3)) f.clauses (λ c k. (k.some, k.few)) (clauses_are p proper known is)

pub is_formula : (p : Polygraph) → IsProper p → (known : Known) → IsReach p.known known → p.nodes ≤ 1000 → length (reduced known p).clauses ≤ 20000000 → IsFormula (reduced known p)
unfolding reduced
is_formula p proper known is few_nodes few_clauses = record {
  few_nodes = few_nodes;
  few_clauses = few_clauses;
  in_range = in_range p proper known is;
  short = short_clauses p proper known is;
  orders = λ values s. formula_is_order p proper known is values s;
}
