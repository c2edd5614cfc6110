-- Each log has fresh locks: keys longer than its own, and identities greater than its own.
use Rattle.point_laws.proofs.Prelude.{◌≡◌, ℕ, zero, suc, ◌+◌, ◌≤◌, List, [], ◌∷◌, length, map, ap, inl, inr, arith, refl, Contains, ops_in, written, key_of, first_or_behind, Locks, SomeAreFresh}

-- ---- keys
padded : ℕ → List ℕ → List ℕ
padded zero key = key
padded (suc n) key = 0 ∷ padded n key

padded_length : (n : ℕ) (key : List ℕ) → length (padded n key) ≡ n + length key
unfolding padded
padded_length zero key = omega arith
padded_length (suc n) key = let ih = padded_length n key in omega (arith, ih)

pub same_behind : (x : ℕ) (a b : List ℕ) → x ∷ a ≡ x ∷ b → a ≡ b
same_behind x a b e = cc

padded_same : (n : ℕ) (a b : List ℕ) → padded n a ≡ padded n b → a ≡ b
unfolding padded
padded_same zero a b e = e
padded_same (suc n) a b e = padded_same n a b (same_behind 0 (padded n a) (padded n b) e)

all_lengths : List (List ℕ) → ℕ
all_lengths [] = 0
all_lengths (key ∷ keys) = length key + all_lengths keys

within_lengths : (keys : List (List ℕ)) (key : List ℕ) → Contains keys key → length key ≤ all_lengths keys
unfolding all_lengths
within_lengths [] key c = absurd (omega (arith, c.1))
within_lengths (k ∷ keys) key c = elim (first_or_behind k keys key c) [
  | inl e ↦ let same = ap length e in omega (arith, same)
  | inr d ↦ let ih = within_lengths keys key d in omega (arith, ih)
]

-- ---- identities
total : List ℕ → ℕ
total [] = 0
total (w ∷ ws) = w + total ws

within_total : (ws : List ℕ) (w : ℕ) → Contains ws w → w ≤ total ws
unfolding total
within_total [] w c = absurd (omega (arith, c.1))
within_total (v ∷ ws) w c = elim (first_or_behind v ws w c) [
  | inl e ↦ omega (arith, e)
  | inr d ↦ let ih = within_total ws w d in omega (arith, ih)
]

-- ---- the law
pub some_are_fresh : SomeAreFresh
some_are_fresh ss taken = (
  locks,
  refl,
  record {
    new_key = λ a b h k e. (let same = ap length e in omega (arith, same, padded_length (suc long) a, within_lengths (map key_of (ops_in ss)) b k));
    one_key = λ a b h k e. padded_same (suc long) a b e;
    new_identity = λ v w h k e. (omega (arith, e, within_total (written (ops_in ss)) w k));
    one_identity = λ v w h k e. omega (arith, e);
  },
)
  where
    long : ℕ
    long = all_lengths (map key_of (ops_in ss))

    locks : Locks
    locks = record { key = padded (suc (all_lengths (map key_of (ops_in ss)))); identity = λ v. v + suc (total (written (ops_in ss))); taken = taken }
