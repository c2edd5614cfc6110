-- Tests of edges and walks, and what they say.
use Rattle.known_graph.proofs.Prelude.{◌≡◌, ℕ, Bool, true, ◌&&◌, List, [], ◌∷◌, ◌++◌, length, refl, sym, ap, subst, inl, inr, arith, ◌==◌, nat_lt, Contains, false≢true, and_parts, and_from, or_cases, or_left, or_right, eqb-true, lt-ltb}
use Rattle.known_graph.proofs.Prelude.{eq-eqb, same_bool, Edge, Walk, IsWalk, has_edge, leads, is_line}
use Rattle.reach_laws.proofs.Walks.{Contains-here, Contains-further}
use Rattle.known_graph.proofs.Listed.{In, In-from_Contains}

-- ---- an edge of a list
pub edge_in : (edges : List Edge) (e : Edge) → has_edge edges e ≡ true → Contains edges e
edge_in [] e h = absurd (false≢true h)
edge_in (x ∷ xs) e h = elim (or_cases ((x.0 == e.0) && (x.1 == e.1)) (has_edge xs e) h) [
  | inl a ↦ (let p = and_parts (x.0 == e.0) (x.1 == e.1) a in
      subst (Contains (x ∷ xs)) (λ i. (eqb-true x.0 e.0 p.0 i, eqb-true x.1 e.1 p.1 i)) (Contains-here x xs))
  | inr b ↦ Contains-further x e xs (edge_in xs e b)
]

pub has_in : (edges : List Edge) (e : Edge) → In e edges → has_edge edges e ≡ true
has_in [] e h = absurd h
has_in (x ∷ xs) e (inl same) =
    or_left ((x.0 == e.0) && (x.1 == e.1)) (has_edge xs e)
    (subst (λ (y : Edge). ((y.0 == e.0) && (y.1 == e.1)) ≡ true) (sym same) (and_from (e.0 == e.0) (e.1 == e.1) (eq-eqb e.0 e.0 refl) (eq-eqb e.1 e.1 refl)))
has_in (x ∷ xs) e (inr h) = or_right ((x.0 == e.0) && (x.1 == e.1)) (has_edge xs e) (has_in xs e h)

pub has_contained : (edges : List Edge) (e : Edge) → Contains edges e → has_edge edges e ≡ true
has_contained edges e c = has_in edges e (In-from_Contains edges e c)

pub known_is : (b : Bool) (edges : List Edge) (e : Edge) → (b ≡ true → Contains edges e) → (Contains edges e → b ≡ true) → b ≡ has_edge edges e
known_is b edges e f g = same_bool b (has_edge edges e) (λ t. has_contained edges e (f t)) (λ t. g (edge_in edges e t))

-- ---- walks
pub walk_leads : (edges : List Edge) (ws : List ℕ) (u v : ℕ) (w : ℕ) → has_edge edges (u, w) ≡ true → leads edges w ws v ≡ true → (inner : List ℕ) × ((w ∷ ws ≡ inner ++ v ∷ []) × Walk edges u inner v)
walk_leads edges [] u v w a h = let e = eqb-true w v h in ([], (ap (λ x. x ∷ []) e, subst (λ x. Contains edges (u, x)) e (edge_in edges (u, w) a)))
walk_leads edges (x ∷ ws) u v w a h =
    let p = and_parts (has_edge edges (w, x)) (leads edges x ws v) h in
    let r = walk_leads edges ws w v x p.0 p.1 in
    (w ∷ r.0, (ap (λ l. w ∷ l) r.1.0, (edge_in edges (u, w) a, r.1.1)))

pub walk_of : (edges : List Edge) (line : List ℕ) (u v : ℕ) → is_line edges u line v ≡ true → IsWalk edges u v line
walk_of edges [] u v h = absurd (false≢true h)
walk_of edges (x ∷ []) u v h = absurd (false≢true h)
walk_of edges (x ∷ w ∷ ws) u v h =
    let p = and_parts (nat_lt 1 (length (x ∷ w ∷ ws))) ((x == u) && leads edges u (w ∷ ws) v) h in
    let q = and_parts (x == u) (leads edges u (w ∷ ws) v) p.1 in
    let s = and_parts (has_edge edges (u, w)) (leads edges w ws v) q.1 in
    let r = walk_leads edges ws u v w s.0 s.1 in
    record { inner = r.0; shape = (λ i. eqb-true x u q.0 i ∷ r.1.0 i); steps = r.1.1 }

leads_inner : (edges : List Edge) (inner : List ℕ) (u v : ℕ) → Walk edges u inner v → leads edges u (inner ++ v ∷ []) v ≡ true
leads_inner edges [] u v w = and_from (has_edge edges (u, v)) (v == v) (has_contained edges (u, v) w) (eq-eqb v v refl)
leads_inner edges (x ∷ inner) u v w = and_from (has_edge edges (u, x)) (leads edges x (inner ++ v ∷ []) v) (has_contained edges (u, x) w.0) (leads_inner edges inner x v w.1)

more_than_one : (inner : List ℕ) (u v : ℕ) → nat_lt 1 (length (u ∷ (inner ++ v ∷ []))) ≡ true
more_than_one [] u v = refl
more_than_one (x ∷ inner) u v = lt-ltb _ _ (omega arith)

pub line_of : (edges : List Edge) (line : List ℕ) (u v : ℕ) → IsWalk edges u v line → is_line edges u line v ≡ true
line_of edges line u v w =
    subst (λ (l : List ℕ). is_line edges u l v ≡ true) (sym w.shape)
    (and_from (nat_lt 1 (length (u ∷ (w.inner ++ v ∷ [])))) ((u == u) && leads edges u (w.inner ++ v ∷ []) v) (more_than_one w.inner u v)
    (and_from (u == u) (leads edges u (w.inner ++ v ∷ []) v) (eq-eqb u u refl) (leads_inner edges w.inner u v w.steps)))
