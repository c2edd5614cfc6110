-- Walks as lists of nodes, step by step.
use Rattle.known_graph.proofs.Prelude.{◌≡◌, ℕ, zero, suc, ◌+◌, ◌-◌, ◌<◌, ◌≤◌, List, [], ◌∷◌, ◌++◌, length, get_or, refl, sym, ap, ◌∙◌, subst, inl, inr, arith, length-append, Contains, reverse, cases_lt, reverse-append, get_or_read, Edge}
use Rattle.known_graph.proofs.Prelude.{Walk, IsWalk}

-- an edge leads from each node of the line to the next
pub record IsStepwise (edges : List Edge) (line : List ℕ) : Type 0 where
  pub long : 2 ≤ length line
  pub steps : (k : ℕ) → suc k < length line → Contains edges (get_or line k 0, get_or line (suc k) 0)

record Tail (edges : List Edge) (u : ℕ) (rest : List ℕ) : Type 0 where
  pub inner : List ℕ
  pub end : ℕ
  pub shape : rest ≡ inner ++ end ∷ []
  pub walk : Walk edges u inner end

tail_of : (edges : List Edge) (u v : ℕ) (rest : List ℕ) → ((k : ℕ) → suc k < length (u ∷ v ∷ rest) → Contains edges (get_or (u ∷ v ∷ rest) k 0, get_or (u ∷ v ∷ rest) (suc k) 0)) → Tail edges u (v ∷ rest)
tail_of edges u v [] steps = record { inner = []; end = v; shape = refl; walk = steps 0 (omega arith) }
tail_of edges u v (w ∷ rest) steps =
    let t = tail_of edges v w rest (λ k h. steps (suc k) (omega arith)) in
    record { inner = v ∷ t.inner; end = t.end; shape = ap (λ l. v ∷ l) t.shape; walk = (steps 0 (omega arith), t.walk) }

pub walk_from_steps : (edges : List Edge) (line : List ℕ) → IsStepwise edges line → (u : ℕ) × (v : ℕ) × IsWalk edges u v line
walk_from_steps edges [] s = absurd (let l = s.long in omega (arith, l))
walk_from_steps edges (u ∷ []) s = absurd (let l = s.long in omega (arith, l))
walk_from_steps edges (u ∷ v ∷ rest) s =
    let t = tail_of edges u v rest s.steps in
    (u, t.end, record { inner = t.inner; shape = ap (λ l. u ∷ l) t.shape; steps = t.walk })

steps_of : (edges : List Edge) (u : ℕ) (inner : List ℕ) (v : ℕ) → Walk edges u inner v → (k : ℕ) → suc k < length (u ∷ (inner ++ v ∷ [])) → Contains edges (get_or (u ∷ (inner ++ v ∷ [])) k 0, get_or (u ∷ (inner ++ v ∷ [])) (suc k) 0)
steps_of edges u [] v w zero h = w
steps_of edges u [] v w (suc k) h = absurd (omega arith)
steps_of edges u (x ∷ inner) v w zero h = w.0
steps_of edges u (x ∷ inner) v w (suc k) h = steps_of edges x inner v w.1 k (omega arith)

pub steps_from_walk : (edges : List Edge) (u v : ℕ) (line : List ℕ) → IsWalk edges u v line → IsStepwise edges line
steps_from_walk edges u v line w =
    subst (IsStepwise edges) (sym w.shape) (record {
      long = omega (arith, length-append w.inner (v ∷ []));
      steps = steps_of edges u w.inner v w.steps;
    })

-- ---- a line that is made from its end
-- the nodes behind u on a walk from u to v, the last first
pub record Behind (edges : List Edge) (u v : ℕ) (back : List ℕ) : Type 0 where
  pub inner : List ℕ
  pub shape : reverse back ≡ inner ++ v ∷ []
  pub walk : Walk edges u inner v

pub behind_more : (edges : List Edge) (t u v : ℕ) (back : List ℕ) → Contains edges (t, u) → Behind edges u v back → Behind edges t v (back ++ u ∷ [])
behind_more edges t u v back c b = record {
  inner = u ∷ b.inner;
  shape = reverse-append back (u ∷ []) ∙ ap (λ l. u ∷ l) b.shape;
  walk = (c, b.walk);
}

-- ---- a loop over the steps of a line
-- two nodes that stand side by side, as they are read, and the edge between them
read_edge : (edges : List Edge) (line : List ℕ) (i a b : ℕ) → 0 < i → i < length line → a ≡ get_or line (i - 1) a → b ≡ get_or line i b → (k : ℕ) → suc k ≡ i → (a ≡ get_or line k 0) × (b ≡ get_or line (suc k) 0)
read_edge edges line i a b lo hi p q k e =
    let before : i - 1 ≡ k = omega arith in (
      get_or_read line (i - 1) a (omega arith) p 0 ∙ ap (λ j. get_or line j 0) before,
      get_or_read line i b hi q 0 ∙ ap (λ j. get_or line j 0) (sym e),
    )

pub steps_more : (edges : List Edge) (line : List ℕ) (i a b : ℕ) → 0 < i → i < length line → a ≡ get_or line (i - 1) a → b ≡ get_or line i b → Contains edges (a, b) → ((k : ℕ) → suc k < i → Contains edges (get_or line k 0, get_or line (suc k) 0)) → (k : ℕ) → suc k < i + 1 → Contains edges (get_or line k 0, get_or line (suc k) 0)
steps_more edges line i a b lo hi p q c steps k h = elim (cases_lt (suc k) i) [
  | inl lt ↦ steps k lt
  | inr ge ↦
      let r = read_edge edges line i a b lo hi p q k (omega (arith, ge, h)) in
      subst (λ x. Contains edges (x, get_or line (suc k) 0)) r.0 (subst (λ y. Contains edges (a, y)) r.1 c)
]

pub step_read : (edges : List Edge) (line : List ℕ) (i a b : ℕ) → 0 < i → i < length line → a ≡ get_or line (i - 1) a → b ≡ get_or line i b → IsStepwise edges line → Contains edges (a, b)
step_read edges line i a b lo hi p q s =
    let k = i - 1 in
    let e : suc k ≡ i = omega arith in
    let r = read_edge edges line i a b lo hi p q k e in
    subst (λ y. Contains edges (a, y)) (sym r.1) (subst (λ x. Contains edges (x, get_or line (suc k) 0)) (sym r.0) (s.steps k (omega (arith, e, hi))))
