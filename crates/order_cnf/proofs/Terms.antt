-- Clauses by what a formula says of their edges.
use Rattle.order_cnf.proofs.Prelude.{◌≡◌, ◌≢◌, inl, inr, refl, sym, ap, ◌∙◌, subst, ℕ, suc, ◌+◌, ◌<◌, ◌≤◌, ◌&&◌, ◌||◌, Bool, true, false, cond, not, ltb, List, [], ◌∷◌, ◌++◌, length, Option, arith, map, filter, list_any, cases_order}
use Rattle.order_cnf.proofs.Prelude.{false≢true, or_parts, lt-ltb, le-ltb, Literal, Edge, edge_literal, edge_clause, pair_place, pair_free, Clause, IsWithin, Relation, known_in, pairs_in, term_of, is_true, literals_in, clause_of, given}
use Rattle.order_cnf.proofs.Prelude.{clauses_at}
use Rattle.order_cnf.specs.declared.term.Term.{Term}
use Rattle.order_cnf.specs.declared.term.Term.TheVariants as term
use Rattle.order_cnf.proofs.PairPlaces.{place_within}

-- ---- a term by two facts
abbrev when : Bool → Bool → Literal → Term
when a b l = cond a term.True (cond b term.False (term.Open l))

is_true_when : (a b : Bool) (l : Literal) → is_true (when a b l) ≡ a
is_true_when true b l = refl
is_true_when false true l = refl
is_true_when false false l = refl

abbrev is_open : Term → Bool
is_open term.True = false
is_open term.False = false
is_open (term.Open l) = true

abbrev opened : Term → Literal → Literal
opened term.True d = d
opened term.False d = d
opened (term.Open l) d = l

record Opens (a b : Bool) (l k : Literal) : Type 0 where
  pub first : a ≡ false
  pub second : b ≡ false
  pub same : l ≡ k

open_when : (a b : Bool) (l k : Literal) → when a b l ≡ term.Open k → Opens a b l k
open_when true b l k h = absurd (false≢true (ap is_open h))
open_when false true l k h = absurd (false≢true (ap is_open h))
open_when false false l k h = record { first = refl; second = refl; same = ap (λ t. opened t l) h }

-- ---- clauses of edges
abbrev pub terms : Relation → List Edge → List Term
terms r es = map (λ (e : Edge). term_of r e.0 e.1) es

any_same : (r : Relation) (es : List Edge) → list_any (λ (e : Edge). known_in r e.0 e.1) es ≡ list_any is_true (terms r es)
any_same r [] = refl
any_same r (e ∷ es) =
    ap (λ b. b || list_any (λ (e : Edge). known_in r e.0 e.1) es) (sym (is_true_when (known_in r e.0 e.1) (known_in r e.1 e.0) (edge_literal (pairs_in r) e.0 e.1)))
    ∙ ap (λ b. is_true (term_of r e.0 e.1) || b) (any_same r es)

step : (a b : Bool) (l : Literal) (e : Edge) (es : List Edge) (ts : List Term) (lit : Edge → Literal) → a ≡ false → l ≡ lit e → literals_in ts ≡ map lit es → literals_in (when a b l ∷ ts) ≡ map lit (cond (not b) (e ∷ es) es)
step true b l e es ts lit h k m = absurd (false≢true (sym h))
step false true l e es ts lit h k m = m
step false false l e es ts lit h k m = ap (λ x. x ∷ literals_in ts) k ∙ ap (λ xs. lit e ∷ xs) m

lits : (r : Relation) (es : List Edge) → list_any (λ (e : Edge). known_in r e.0 e.1) es ≡ false
    → literals_in (terms r es) ≡ map (λ (e : Edge). edge_literal (pairs_in r) e.0 e.1) (filter (λ (e : Edge). not (known_in r e.1 e.0)) es)
lits r [] h = refl
lits r (e ∷ es) h =
    let p = or_parts (known_in r e.0 e.1) (list_any (λ (e : Edge). known_in r e.0 e.1) es) h in
    step (known_in r e.0 e.1) (known_in r e.1 e.0) (edge_literal (pairs_in r) e.0 e.1) e (filter (λ (e : Edge). not (known_in r e.1 e.0)) es) (terms r es)
    (λ (e : Edge). edge_literal (pairs_in r) e.0 e.1) p.0 refl (lits r es p.1)

both : (a b : Bool) (x y : List Literal) → a ≡ b → (a ≡ false → x ≡ y) → cond a [] (x ∷ []) ≡ cond b [] (y ∷ [])
both true b x y e k = ap (λ t. cond t [] (y ∷ [])) e
both false b x y e k = ap (λ l. l ∷ []) (k refl) ∙ ap (λ t. cond t [] (y ∷ [])) e

pub edge_clause_is : (r : Relation) (es : List Edge) → edge_clause (known_in r) (pairs_in r) es ≡ clause_of (terms r es)
unfolding clause_of
edge_clause_is r es = both (list_any (λ (e : Edge). known_in r e.0 e.1) es) (list_any is_true (terms r es)) _ _ (any_same r es) (λ h. sym (lits r es h))

triple_of : (r : Relation) (i j k : ℕ) (a b c d e f : Term) → a ≡ term_of r j i → b ≡ term_of r k j → c ≡ term_of r i k → d ≡ term_of r i j → e ≡ term_of r j k → f ≡ term_of r k i
    → clause_of (a ∷ b ∷ c ∷ []) ++ clause_of (d ∷ e ∷ f ∷ []) ≡ clauses_at r (i, j, k)
triple_of r i j k a b c d e f ea eb ec ed ee ef =
    let first : clause_of (a ∷ b ∷ c ∷ []) ≡ edge_clause (known_in r) (pairs_in r) ((j, i) ∷ (k, j) ∷ (i, k) ∷ []) =
    ap (λ t. clause_of (t ∷ b ∷ c ∷ [])) ea ∙ ap (λ t. clause_of (term_of r j i ∷ t ∷ c ∷ [])) eb ∙ ap (λ t. clause_of (term_of r j i ∷ term_of r k j ∷ t ∷ [])) ec
    ∙ sym (edge_clause_is r ((j, i) ∷ (k, j) ∷ (i, k) ∷ [])) in
    let second : clause_of (d ∷ e ∷ f ∷ []) ≡ edge_clause (known_in r) (pairs_in r) ((i, j) ∷ (j, k) ∷ (k, i) ∷ []) =
    ap (λ t. clause_of (t ∷ e ∷ f ∷ [])) ed ∙ ap (λ t. clause_of (term_of r i j ∷ t ∷ f ∷ [])) ee ∙ ap (λ t. clause_of (term_of r i j ∷ term_of r j k ∷ t ∷ [])) ef
    ∙ sym (edge_clause_is r ((i, j) ∷ (j, k) ∷ (k, i) ∷ [])) in
    ap (λ l. l ++ clause_of (d ∷ e ∷ f ∷ [])) first ∙ ap (λ l. edge_clause (known_in r) (pairs_in r) ((j, i) ∷ (k, j) ∷ (i, k) ∷ []) ++ l) second

pub triple_is : (r : Relation) (i j k : ℕ) (a b c d e f : Term) (x y : Option Clause) → a ≡ term_of r j i → b ≡ term_of r k j → c ≡ term_of r i k → d ≡ term_of r i j → e ≡ term_of r j k → f ≡ term_of r k i
    → given x ≡ clause_of (a ∷ b ∷ c ∷ []) → given y ≡ clause_of (d ∷ e ∷ f ∷ []) → given x ++ given y ≡ clauses_at r (i, j, k)
triple_is r i j k a b c d e f x y ea eb ec ed ee ef ex ey =
    ap (λ l. l ++ given y) ex ∙ ap (λ l. clause_of (a ∷ b ∷ c ∷ []) ++ l) ey ∙ triple_of r i j k a b c d e f ea eb ec ed ee ef

-- ---- where a pair has a variable, and where it has none
pub literal_up : (pairs : List (ℕ × ℕ)) (u v : ℕ) → u < v → edge_literal pairs u v ≡ record { variable = suc (pair_place pairs u v); positive = true }
literal_up pairs u v h = let t : ltb u v ≡ true = lt-ltb u v h in rw t refl

pub literal_down : (pairs : List (ℕ × ℕ)) (u v : ℕ) → u < v → edge_literal pairs v u ≡ record { variable = suc (pair_place pairs u v); positive = false }
literal_down pairs u v h = let t : ltb v u ≡ false = le-ltb v u (omega arith) in rw t refl

-- ---- a literal's variable is one of the pairs'
free_from : (a b : Bool) → a ≡ false → b ≡ false → (not a && not b) ≡ true
free_from true b h k = absurd (false≢true (sym h))
free_from false true h k = absurd (false≢true (sym k))
free_from false false h k = refl

pub term_within : (r : Relation) (u v : ℕ) (l : Literal) → u ≤ r.nodes → v ≤ r.nodes → u ≢ v → term_of r u v ≡ term.Open l → IsWithin (length (pairs_in r)) l
term_within r u v l hu hv ne h =
    let o = open_when (known_in r u v) (known_in r v u) (edge_literal (pairs_in r) u v) l h in
    subst (IsWithin (length (pairs_in r))) o.same (elim (cases_order u v) [
      | inl e ↦ absurd (ne e)
      | inr lt ↦ elim lt [
        | inl lt ↦
            let w = place_within (pairs_in r) u v (pair_free (known_in r) 0 (r.nodes + 1) u v (omega arith) lt (omega arith) (free_from _ _ o.first o.second)) in
            subst (IsWithin (length (pairs_in r))) (sym (literal_up (pairs_in r) u v lt)) (omega arith, omega (arith, w))
        | inr lt ↦
            let w = place_within (pairs_in r) v u (pair_free (known_in r) 0 (r.nodes + 1) v u (omega arith) lt (omega arith) (free_from _ _ o.second o.first)) in
            subst (IsWithin (length (pairs_in r))) (sym (literal_down (pairs_in r) v u lt)) (omega arith, omega (arith, w))
      ]
    ])
