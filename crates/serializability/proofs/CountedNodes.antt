-- How many of nodes 0 to n have a property, one node after the other.
use Rattle.serializability.proofs.Prelude.{◌≡◌, ℕ, ◌+◌, ◌<◌, ◌≤◌, Bool, true, false, get_or, take, ap, ◌∙◌, arith, count_by, range_with_len, take_all, length-range_with_len, get_or-range_with_len, count_by_more_yes, count_by_more_no}

node_at : (n u : ℕ) → u < n + 1 → get_or (range_with_len 0 (n + 1)) u 0 ≡ u
node_at n u h = omega (arith, get_or-range_with_len 0 (n + 1) u 0 h)

pub counted_yes : (p : ℕ → Bool) (n u : ℕ) → u < n + 1 → p u ≡ true → count_by p (take (u + 1) (range_with_len 0 (n + 1))) ≡ count_by p (take u (range_with_len 0 (n + 1))) + 1
counted_yes p n u h t = count_by_more_yes p (range_with_len 0 (n + 1)) u 0 (omega (arith, length-range_with_len 0 (n + 1))) (ap p (node_at n u h) ∙ t)

pub counted_no : (p : ℕ → Bool) (n u : ℕ) → u < n + 1 → p u ≡ false → count_by p (take (u + 1) (range_with_len 0 (n + 1))) ≡ count_by p (take u (range_with_len 0 (n + 1)))
counted_no p n u h f = count_by_more_no p (range_with_len 0 (n + 1)) u 0 (omega (arith, length-range_with_len 0 (n + 1))) (ap p (node_at n u h) ∙ f)

pub counted_all : (p : ℕ → Bool) (n u : ℕ) → n + 1 ≤ u → count_by p (take u (range_with_len 0 (n + 1))) ≡ count_by p (range_with_len 0 (n + 1))
counted_all p n u h = ap (count_by p) (take_all u (range_with_len 0 (n + 1)) (omega (arith, length-range_with_len 0 (n + 1))))
