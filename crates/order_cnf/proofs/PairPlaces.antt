-- The place of a pair of nodes 0 to n among all of them.
use Rattle.order_cnf.proofs.Prelude.{◌≡◌, ℕ, suc, ◌+◌, ◌<◌, ◌≤◌, eqb, ◌&&◌, List, [], ◌∷◌, length, refl, inl, inr, arith, eq-eqb, cases_Bool, cond-true, cond-false, and_from, pair_place, nothing_known, plain_pairs, HasPair, pair_free}

-- ---- a pair that is there has its place among them
pub place_within : (pairs : List (ℕ × ℕ)) (i j : ℕ) → HasPair i j pairs → pair_place pairs i j < length pairs
place_within [] i j h = absurd h
place_within (p ∷ pairs) i j h = elim (cases_Bool (eqb p.0 i && eqb p.1 j)) [
  | inl t ↦ let e : pair_place (p ∷ pairs) i j ≡ 0 = cond-true (eqb p.0 i && eqb p.1 j) 0 (suc (pair_place pairs i j)) t in omega (arith, e)
  | inr f ↦
      let e : pair_place (p ∷ pairs) i j ≡ suc (pair_place pairs i j) = cond-false (eqb p.0 i && eqb p.1 j) 0 (suc (pair_place pairs i j)) f in
      elim h [
        | inl same ↦ cc (f, and_from (eqb p.0 i) (eqb p.1 j) (eq-eqb p.0 i same.0) (eq-eqb p.1 j same.1))
        | inr k ↦ omega (arith, e, place_within pairs i j k)
      ]
]

-- ---- the number of a pair, from 1
pub pair_within : (n i j : ℕ) → i < j → j ≤ n → pair_place (plain_pairs n) i j < length (plain_pairs n)
pair_within n i j lt hi = place_within (plain_pairs n) i j (pair_free nothing_known 0 (n + 1) i j (omega arith) lt (omega arith) refl)
