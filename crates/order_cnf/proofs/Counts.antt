-- How many pairs have a variable.
use Rattle.order_cnf.proofs.Prelude.{◌≡◌, ℕ, zero, suc, ◌+◌, ◌*◌, ◌≤◌, Bool, true, false, List, [], ◌∷◌, length, arith, length-append, cond, filter, range_with_len, map, length-map, mul-le, is_free, pairs_of, Relation, known_in, pairs_in}
use Rattle.std.proofs.lemmas.List.FromFn.{length-range_with_len}

pairs_twice : (m a : ℕ) → 2 * length (pairs_of (range_with_len a m)) + m ≡ m * m
pairs_twice zero a = omega arith
pairs_twice (suc m) a =
    let others = range_with_len (a + 1) m in
    let with_first : ℕ → (ℕ × ℕ) = λ b. (a, b) in
    omega (arith, length-append (map with_first others) (pairs_of others), length-map others with_first, length-range_with_len (a + 1) m, pairs_twice m (a + 1))

one_less : {X : Type 0} (b : Bool) (x : X) (xs : List X) (n : ℕ) → length xs ≤ n → length (cond b (x ∷ xs) xs) ≤ suc n
one_less true x xs n h = omega (arith, h)
one_less false x xs n h = omega (arith, h)

pub filtered : {X : Type 0} (p : X → Bool) (xs : List X) → length (filter p xs) ≤ length xs
filtered p [] = omega arith
filtered p (x ∷ xs) = one_less (p x) x (filter p xs) (length xs) (filtered p xs)

pub few_pairs : (r : Relation) → r.nodes ≤ 1000 → length (pairs_in r) ≤ 500500
few_pairs r few =
    let m = r.nodes + 1 in
    let all = pairs_of (range_with_len 0 m) in
    let most : m * m ≤ 1001 * m = mul-le m m 1001 m (omega (arith, few)) (omega arith) in
    omega (arith, filtered (is_free (known_in r)) all, pairs_twice m 0, most, few)
