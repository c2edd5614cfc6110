-- The order in which the node at place p has p nodes before it.
use Rattle.serializability.proofs.Prelude.{◌≡◌, ℕ, zero, suc, ◌+◌, ◌<◌, ◌≤◌, Bool, List, [], ◌∷◌, length, get_or, refl, ap, inl, inr, arith, cases_lt, IsOrder, IsDecoded}
use Rattle.serializability.proofs.Ranks.{rank, rank-onto, rank-zero}

record Line (n : ℕ) (r : ℕ → ℕ → Bool) (p m : ℕ) : Type 0 where
  pub items : List ℕ
  pub long : length items ≡ m
  pub nodes : (k d : ℕ) → k < length items → (0 < get_or items k d) × (get_or items k d ≤ n)
  pub ranks : (k d : ℕ) → k < length items → rank n r (get_or items k d) ≡ p + k

nodes_from : (n v : ℕ) (xs : List ℕ) → 0 < v → v ≤ n → ((k d : ℕ) → k < length xs → (0 < get_or xs k d) × (get_or xs k d ≤ n)) → (k d : ℕ) → k < length (v ∷ xs) → (0 < get_or (v ∷ xs) k d) × (get_or (v ∷ xs) k d ≤ n)
nodes_from n v xs lo hi h zero d lt = (lo, hi)
nodes_from n v xs lo hi h (suc k) d lt = h k d (omega arith)

ranks_from : (n : ℕ) (r : ℕ → ℕ → Bool) (p v : ℕ) (xs : List ℕ) → rank n r v ≡ p → ((k d : ℕ) → k < length xs → rank n r (get_or xs k d) ≡ p + 1 + k) → (k d : ℕ) → k < length (v ∷ xs) → rank n r (get_or (v ∷ xs) k d) ≡ p + k
ranks_from n r p v xs e h zero d lt = omega (arith, e)
ranks_from n r p v xs e h (suc k) d lt = let i = h k d (omega arith) in omega (arith, i)

line : (n : ℕ) (r : ℕ → ℕ → Bool) → IsOrder n r → (m p : ℕ) → 0 < p → p + m ≡ n + 1 → Line n r p m
line n r o zero p lo top = record { items = []; long = refl; nodes = λ k d lt. absurd (omega arith); ranks = λ k d lt. absurd (omega arith) }
line n r o (suc m) p lo top =
    let v = rank-onto n r o p (omega arith) in
    let rest = line n r o m (p + 1) (omega arith) (omega arith) in
    let pos : 0 < v.0 = elim (cases_lt 0 v.0) [
      | inl h ↦ h
      | inr z ↦ let e : v.0 ≡ 0 = omega arith in absurd (let same = ap (rank n r) e in omega (arith, same, v.1.1, rank-zero n r o, lo))
    ] in
    record {
      items = v.0 ∷ rest.items;
      long = ap suc rest.long;
      nodes = nodes_from n v.0 rest.items pos v.1.0 rest.nodes;
      ranks = ranks_from n r p v.0 rest.items v.1.1 rest.ranks;
    }

pub decoded : (n : ℕ) (r : ℕ → ℕ → Bool) → IsOrder n r → (order : List ℕ) × IsDecoded n r order
decoded n r o =
    let l = line n r o n 1 (omega arith) (omega arith) in
    (l.items, record { places = l.long; nodes = l.nodes; each = λ p lt. (let e = l.ranks p 0 lt in omega (arith, e)) })
