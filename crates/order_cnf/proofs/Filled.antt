-- Tables of bits of pairs that are filled one pair after the other.
use Rattle.order_cnf.proofs.Prelude.{◌≡◌, ◌⊎◌, ◌↔◌, inl, inr, sym, ap, ◌∙◌, ℕ, ◌+◌, ◌<◌, ◌≤◌, Bool, true, false, ◌&&◌, arith, nat_le, Contains, cases_eq, false≢true, and_from, le-leb, Edge, Graph, pair_same}

-- each bit that is set is one at which f holds, and the bits of the pairs that are done are
pub record IsFilled (n : ℕ) (f : ℕ → ℕ → Bool) (Done : ℕ → ℕ → Type 0) (table : Graph) : Type 0 where
  pub nodes : table.nodes ≡ n
  pub sound : (x y : ℕ) → Contains table.edges (x, y) → (nat_le y n && f x y) ≡ true
  pub whole : (x y : ℕ) → x ≤ n → y ≤ n → Done x y → f x y ≡ true → Contains table.edges (x, y)

-- by the first and then the second, and by the second and then the first
abbrev pub IsPast : ℕ → ℕ → ℕ → ℕ → Type 0
IsPast u v x y = (x < u) ⊎ ((x ≡ u) × (y < v))

abbrev pub IsPastTurned : ℕ → ℕ → ℕ → ℕ → Type 0
IsPastTurned u v x y = IsPast u v y x

past_more : (u v x y : ℕ) → IsPast u (v + 1) x y → ((x ≡ u) × (y ≡ v)) ⊎ IsPast u v x y
past_more u v x y (inl lt) = inr (inl lt)
past_more u v x y (inr p) = elim (cases_eq y v) [
  | inl e ↦ inl (p.0, e)
  | inr ne ↦ inr (inr (p.0, omega (arith, p.1, ne)))
]

past_more_turned : (u v x y : ℕ) → IsPastTurned u (v + 1) x y → ((x ≡ v) × (y ≡ u)) ⊎ IsPastTurned u v x y
past_more_turned u v x y h = elim (past_more u v y x h) [
  | inl e ↦ inl (e.1, e.0)
  | inr p ↦ inr p
]

-- ---- a table of no bits
pub filled_none : (n : ℕ) (f : ℕ → ℕ → Bool) (Done : ℕ → ℕ → Type 0) (table : Graph) → table.nodes ≡ n → ((e : Edge) → Contains table.edges e → ⊥) → ((x y : ℕ) → Done x y → ⊥) → IsFilled n f Done table
filled_none n f Done table nodes clear none = record { nodes = nodes; sound = λ x y c. absurd (clear (x, y) c); whole = λ x y hx hy d t. absurd (none x y d) }

-- ---- one pair more
filled_set : (n : ℕ) (f : ℕ → ℕ → Bool) (Old New : ℕ → ℕ → Type 0) (old new : Graph) (a b : ℕ) → b ≤ n → f a b ≡ true → IsFilled n f Old old
    → ((x y : ℕ) → New x y → ((x ≡ a) × (y ≡ b)) ⊎ Old x y) → ((e : Edge) → (Contains new.edges e ↔ (Contains old.edges e ⊎ (e ≡ (a, b))))) → new.nodes ≡ old.nodes → IsFilled n f New new
filled_set n f Old New old new a b hb here k more sets nodes = record {
  nodes = nodes ∙ k.nodes;
  sound = λ x y c. elim ((sets (x, y)).0 c) [
    | inl before ↦ k.sound x y before
    | inr s ↦ and_from (nat_le y n) (f x y) (le-leb y n (omega (arith, hb, ap (λ (e : Edge). e.1) s))) (ap (λ (e : Edge). f e.0 e.1) s ∙ here)
  ];
  whole = λ x y hx hy d t. (sets (x, y)).1 (elim (more x y d) [
    | inl e ↦ inr (pair_same (x, y) a b e.0 e.1)
    | inr before ↦ inl (k.whole x y hx hy before t)
  ]);
}

filled_kept : (n : ℕ) (f : ℕ → ℕ → Bool) (Old New : ℕ → ℕ → Type 0) (table : Graph) (a b : ℕ) → f a b ≡ false → IsFilled n f Old table
    → ((x y : ℕ) → New x y → ((x ≡ a) × (y ≡ b)) ⊎ Old x y) → IsFilled n f New table
filled_kept n f Old New table a b here k more = record {
  nodes = k.nodes;
  sound = k.sound;
  whole = λ x y hx hy d t. elim (more x y d) [
    | inl e ↦ absurd (false≢true (sym here ∙ sym (ap (λ z. f z y) e.0 ∙ ap (λ z. f a z) e.1) ∙ t))
    | inr before ↦ k.whole x y hx hy before t
  ];
}

pub set_first : (n : ℕ) (f : ℕ → ℕ → Bool) (old new : Graph) (u v : ℕ) → v ≤ n → f u v ≡ true → IsFilled n f (IsPast u v) old → ((e : Edge) → (Contains new.edges e ↔ (Contains old.edges e ⊎ (e ≡ (u, v))))) → new.nodes ≡ old.nodes
    → IsFilled n f (IsPast u (v + 1)) new
set_first n f old new u v hv here k sets nodes = filled_set n f (IsPast u v) (IsPast u (v + 1)) old new u v hv here k (past_more u v) sets nodes

pub set_second : (n : ℕ) (f : ℕ → ℕ → Bool) (old new : Graph) (u v : ℕ) → u ≤ n → f v u ≡ true → IsFilled n f (IsPastTurned u v) old → ((e : Edge) → (Contains new.edges e ↔ (Contains old.edges e ⊎ (e ≡ (v, u))))) → new.nodes ≡ old.nodes
    → IsFilled n f (IsPastTurned u (v + 1)) new
set_second n f old new u v hu here k sets nodes = filled_set n f (IsPastTurned u v) (IsPastTurned u (v + 1)) old new v u hu here k (past_more_turned u v) sets nodes

pub kept_first : (n : ℕ) (f : ℕ → ℕ → Bool) (table : Graph) (u v : ℕ) → f u v ≡ false → IsFilled n f (IsPast u v) table → IsFilled n f (IsPast u (v + 1)) table
kept_first n f table u v here k = filled_kept n f (IsPast u v) (IsPast u (v + 1)) table u v here k (past_more u v)

pub kept_second : (n : ℕ) (f : ℕ → ℕ → Bool) (table : Graph) (u v : ℕ) → f v u ≡ false → IsFilled n f (IsPastTurned u v) table → IsFilled n f (IsPastTurned u (v + 1)) table
kept_second n f table u v here k = filled_kept n f (IsPastTurned u v) (IsPastTurned u (v + 1)) table v u here k (past_more_turned u v)
