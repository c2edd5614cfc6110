-- Nodes 1 to n stand in an order by numbers that tell them apart.
use Rattle.level_laws.proofs.Prelude.{◌≡◌, ◌≢◌, ◌⊎◌, ℕ, ◌<◌, ◌≤◌, true, false, List, inl, inr, arith, lt-ltb, ltb-true, cases_Bool, cases_lt, Before, ListsOnce}
use Rattle.std.proofs.Math.Dec.{ltb}
use Rattle.serializability.specs.Decoded.{IsOrder}
use Rattle.serializability.proofs.Ranks.{IsRanked, ranked_once, ranked_before}
use Rattle.serializability.proofs.Lines.{decoded}

pub record Listed (n : ℕ) (at : ℕ → ℕ) : Type 0 where
  pub order : List ℕ
  pub once : ListsOnce n order
  pub before : (u v : ℕ) → u ≤ n → v ≤ n → at u < at v → Before order u v

not_less : (a b : ℕ) → (a < b → ⊥) → ltb a b ≡ false
not_less a b none = elim (cases_Bool (ltb a b)) [
  | inl e ↦ absurd (none (ltb-true a b e))
  | inr e ↦ e
]

is_order : (n : ℕ) (at : ℕ → ℕ) → ((v : ℕ) → 0 < v → v ≤ n → at 0 < at v) → ((u v : ℕ) → u ≤ n → v ≤ n → at u ≡ at v → u ≡ v) → IsOrder n (λ u v. ltb (at u) (at v))
is_order n at first apart = record {
  irreflexive = λ u. not_less (at u) (at u) (λ lt. omega (arith, lt));
  total = total;
  apart = λ u v hu hv e. (let lt = ltb-true (at u) (at v) e in not_less (at v) (at u) (λ gt. omega (arith, lt, gt)));
  transitive = λ u v w hu hv hw e f. (let a = ltb-true (at u) (at v) e in let b = ltb-true (at v) (at w) f in lt-ltb (at u) (at w) (omega (arith, a, b)));
  zero_first = λ v lo hi. lt-ltb (at 0) (at v) (first v lo hi);
}
  where
    total : (u v : ℕ) → u ≤ n → v ≤ n → u ≢ v → (ltb (at u) (at v) ≡ true) ⊎ (ltb (at v) (at u) ≡ true)
    total u v hu hv ne = elim (cases_lt (at u) (at v)) [
      | inl lt ↦ inl (lt-ltb (at u) (at v) lt)
      | inr ge ↦ elim (cases_lt (at v) (at u)) [
        | inl gt ↦ inr (lt-ltb (at v) (at u) gt)
        | inr le ↦ absurd (ne (apart u v hu hv (omega (arith, ge, le))))
      ]
    ]

pub listed : (n : ℕ) (at : ℕ → ℕ) → ((v : ℕ) → 0 < v → v ≤ n → at 0 < at v) → ((u v : ℕ) → u ≤ n → v ≤ n → at u ≡ at v → u ≡ v) → Listed n at
listed n at first apart =
    let o = is_order n at first apart in
    let d = decoded n (λ u v. ltb (at u) (at v)) o in
    let r : IsRanked n (λ u v. ltb (at u) (at v)) d.0 = record { places = d.1.places; nodes = d.1.nodes; each = λ p lt. d.1.each p lt } in
    record {
      order = d.0;
      once = ranked_once n (λ u v. ltb (at u) (at v)) o d.0 r;
      before = λ u v hu hv lt. ranked_before n (λ u v. ltb (at u) (at v)) o d.0 r u v hu hv (lt-ltb (at u) (at v) lt);
    }
