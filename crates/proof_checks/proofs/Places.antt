-- The places of IDs among ascending ones, and the numbers of clauses.
use Rattle.proof_checks.proofs.Prelude.{◌≡◌, ℕ, ◌+◌, ◌-◌, ◌<◌, ◌≤◌, Bool, true, false, ◌&&◌, if◌then◌else◌, is_some, cond, nat_lt, nat_le, ◌==◌, List, [], ◌∷◌, ◌++◌, length, Option, Some, None, Result, Ok, Err, MatchResult, refl, sym, ap}
use Rattle.proof_checks.proofs.Prelude.{◌∙◌, get_or, position, inl, inr, arith, append_assoc, append-nil, drop, slice_set, position_or_len, option_map, option_and_then, eq-eqb, ne_eqb, lt-ltb, le-ltb, le-leb, ltb-true, leb-true, cases_lt}
use Rattle.proof_checks.proofs.Prelude.{cases_eq, all_open, Literal, clause_at, Proof, given_of, number_at, standing_at, named_at, numbers_at, is_next, without}
use Rattle.std.specs.List.Sorted.{IsStrictlyIncreasing, IsBinarySearchResult}
use Rattle.std.specs.Ordering.{nat_cmp}
use Rattle.std.proofs.lemmas.List.Sums.{position_or_len_is}
use Rattle.std.proofs.lemmas.List.Kept.{AllPairs-from_increasing}
use Rattle.std.proofs.lemmas.List.Sorted.{searched}
use Rattle.std.proofs.lemmas.List.{get_or_append_left, get_or_push, length_push, drop_all, get_or_default, length-replicate, drop_more}
use Rattle.std.specs.Result.{result_ok}

pub place_at : (xs : List ℕ) (i x : ℕ) → IsStrictlyIncreasing xs → i < length xs → get_or xs i 0 ≡ x → position (λ y. y == x) xs ≡ Some i
place_at xs i x up within at =
    let pairs = AllPairs-from_increasing xs up in
    let first : position_or_len (λ y. y == x) xs ≡ i = position_or_len_is (λ y. y == x) xs i 0 (omega (arith, within))
    (λ k lt. let less = pairs k i 0 lt within in ne_eqb (get_or xs k 0) x (λ e. omega (arith, less, at, e))) (λ _. eq-eqb (get_or xs i 0) x at) in
    ap (λ j. cond (nat_lt j (length xs)) (Some j) None) first ∙ ap (λ b. cond b (Some i) None) (lt-ltb i (length xs) within)

pub place_of_none : (xs : List ℕ) (x : ℕ) → ((k : ℕ) → k < length xs → get_or xs k 0 ≡ x → ⊥) → position (λ y. y == x) xs ≡ None
place_of_none xs x none =
    let all : position_or_len (λ y. y == x) xs ≡ length xs = position_or_len_is (λ y. y == x) xs (length xs) 0 (omega arith)
    (λ k lt. ne_eqb (get_or xs k 0) x (none k lt)) (λ lt. absurd (omega (arith, lt))) in
    ap (λ j. cond (nat_lt j (length xs)) (Some j) None) all ∙ ap (λ b. cond b (Some (length xs)) None) (le-ltb (length xs) (length xs) (omega arith))

rises : (xs : List ℕ) → IsStrictlyIncreasing xs → (i j : ℕ) → i ≤ j → j < length xs → get_or xs i 0 ≤ get_or xs j 0
rises xs up i j le within = elim (cases_eq i j) [
  | inl e ↦ let same = ap (λ k. get_or xs k 0) e in omega (arith, same)
  | inr ne ↦ let less = AllPairs-from_increasing xs up i j 0 (omega (arith, le, ne)) within in omega (arith, less)
]

-- what a binary search says of the place of an ID
pub found_place : (xs : List ℕ) (x : ℕ) (r : Result ℕ ℕ) (o : Option ℕ) → IsStrictlyIncreasing xs → IsBinarySearchResult (λ y. nat_cmp y x) xs r → MatchResult r (λ i. o ≡ Some i) (λ i. o ≡ None) → o ≡ position (λ y. y == x) xs
found_place xs x (Ok i) o up h is = let at = searched xs x (Ok i) h (rises xs up) in is ∙ sym (place_at xs i x up at.0 at.1)
found_place xs x (Err i) o up h is =
    let at = searched xs x (Err i) h (rises xs up) in
    is ∙ sym (place_of_none xs x (λ k lt e. elim (cases_lt k i) [
      | inl less ↦ let low = at.1 k less in omega (arith, low, e)
      | inr more ↦ let high = at.2 k more lt in omega (arith, high, e)
    ]))

-- an ID that is greater than the last goes on
pub goes_up : (xs : List ℕ) (x : ℕ) → IsStrictlyIncreasing xs → (0 < length xs → get_or xs (length xs - 1) 0 < x) → IsStrictlyIncreasing (xs ++ x ∷ [])
goes_up xs x up last k within =
    let long = length_push xs x in
    let low : get_or (xs ++ x ∷ []) k 0 ≡ get_or xs k 0 = get_or_append_left xs (x ∷ []) 0 k (omega (arith, long, within)) in
    elim (cases_lt (k + 1) (length xs)) [
      | inl inside ↦
          let high : get_or (xs ++ x ∷ []) (k + 1) 0 ≡ get_or xs (k + 1) 0 = get_or_append_left xs (x ∷ []) 0 (k + 1) inside in
          let less = up k inside in omega (arith, low, high, less)
      | inr behind ↦
          let high : get_or (xs ++ x ∷ []) (k + 1) 0 ≡ x = get_or_push xs x 0 (k + 1) (omega (arith, long, within, behind)) in
          let at : get_or xs (length xs - 1) 0 ≡ get_or xs k 0 = ap (λ j. get_or xs j 0) (omega (arith, long, within, behind)) in
          let less = last (omega (arith, long, within, behind)) in omega (arith, low, high, at, less)
    ]

-- the numbers that were found, and those of the IDs that are left
pub numbers_more : (p : Proof) (ns : List ℕ) (id : Option ℕ) (ids : List (Option ℕ)) (n : ℕ) → named_at p id ≡ Some n → option_map (λ r. ns ++ r) (numbers_at p (id ∷ ids)) ≡ option_map (λ r. (ns ++ n ∷ []) ++ r) (numbers_at p ids)
unfolding numbers_at
numbers_more p ns id ids n e =
    ap (λ o. option_map (λ r. ns ++ r) (option_and_then (λ n. option_map (λ ms. n ∷ ms) (numbers_at p ids)) o)) e ∙ by_rest (numbers_at p ids)
  where
    by_rest : (o : Option (List ℕ)) → option_map (λ r. ns ++ r) (option_map (λ ms. n ∷ ms) o) ≡ option_map (λ r. (ns ++ n ∷ []) ++ r) o
    by_rest None = refl
    by_rest (Some ms) = ap Some (sym (append_assoc ns (n ∷ []) ms))

pub numbers_none : (p : Proof) (ns : List ℕ) (id : Option ℕ) (ids : List (Option ℕ)) → named_at p id ≡ None → option_map (λ r. ns ++ r) (numbers_at p (id ∷ ids)) ≡ None
unfolding numbers_at
numbers_none p ns id ids e = ap (λ o. option_map (λ r. ns ++ r) (option_and_then (λ n. option_map (λ ms. n ∷ ms) (numbers_at p ids)) o)) e

pub map_onto_none : (o : Option (List ℕ)) (ns : List ℕ) → ns ≡ [] → option_map (λ r. ns ++ r) o ≡ o
map_onto_none None ns e = refl
map_onto_none (Some r) ns e = ap (λ (m : List ℕ). Some (m ++ r)) e

pub number_given : (p : Proof) (id : ℕ) → 0 < id → id ≤ given_of p → Some (id - 1) ≡ number_at p id
unfolding number_at
number_given p id low high = sym (
    ap (λ b. if b && nat_le id (given_of p) then Some (id - 1) else option_map (λ k. given_of p + k) (position (λ x. x == id) p.added)) (lt-ltb 0 id low)
    ∙ ap (λ b. if b then Some (id - 1) else option_map (λ k. given_of p + k) (position (λ x. x == id) p.added)) (le-leb id (given_of p) high))

pub number_added : (p : Proof) (id : ℕ) (o : Option ℕ) → (0 < id → id ≤ given_of p → ⊥) → o ≡ position (λ x. x == id) p.added → option_map (λ k. given_of p + k) o ≡ number_at p id
unfolding number_at
number_added p id o none e = ap (option_map (λ k. given_of p + k)) e ∙ by_tests (nat_lt 0 id) (nat_le id (given_of p)) refl refl
  where
    by_tests : (s t : Bool) → nat_lt 0 id ≡ s → nat_le id (given_of p) ≡ t → option_map (λ k. given_of p + k) (position (λ x. x == id) p.added) ≡ (if nat_lt 0 id && nat_le id (given_of p) then Some (id - 1) else option_map (λ k. given_of p + k) (position (λ x. x == id) p.added))
    by_tests true true a b = absurd (none (ltb-true 0 id a) (leb-true id (given_of p) b))
    by_tests true false a b = sym (
        ap (λ s. if s && nat_le id (given_of p) then Some (id - 1) else option_map (λ k. given_of p + k) (position (λ x. x == id) p.added)) a
        ∙ ap (λ s. if s then Some (id - 1) else option_map (λ k. given_of p + k) (position (λ x. x == id) p.added)) b)
    by_tests false t a b = sym (ap (λ s. if s && nat_le id (given_of p) then Some (id - 1) else option_map (λ k. given_of p + k) (position (λ x. x == id) p.added)) a)

pub stands : (p : Proof) (id n : ℕ) (c : List Literal) → Some n ≡ number_at p id → clause_at p.clauses n ≡ Some c → Some n ≡ standing_at p id
unfolding standing_at
stands p id n c e at = sym (
    ap (option_and_then (λ m. if is_some (clause_at p.clauses m) then Some m else None)) (sym e)
    ∙ ap (λ o. if is_some o then Some n else None) at)

pub stands_not : (p : Proof) (id n : ℕ) → Some n ≡ number_at p id → clause_at p.clauses n ≡ None → None ≡ standing_at p id
unfolding standing_at
stands_not p id n e at = sym (
    ap (option_and_then (λ m. if is_some (clause_at p.clauses m) then Some m else None)) (sym e)
    ∙ ap (λ o. if is_some o then Some n else None) at)

pub has_no_number : (p : Proof) (id : ℕ) → None ≡ number_at p id → None ≡ standing_at p id
unfolding standing_at
has_no_number p id e = ap (option_and_then (λ m. if is_some (clause_at p.clauses m) then Some m else None)) e

-- the numbers of the IDs up to a place, and of the others
pub numbers_step : (p : Proof) (ns new : List ℕ) (ids : List (Option ℕ)) (i : ℕ) (d : Option ℕ) (n : ℕ) → i < length ids → option_map (λ r. ns ++ r) (numbers_at p (drop i ids)) ≡ numbers_at p ids
    → Some n ≡ named_at p (get_or ids i d) → new ≡ ns ++ n ∷ [] → option_map (λ r. new ++ r) (numbers_at p (drop (i + 1) ids)) ≡ numbers_at p ids
numbers_step p ns new ids i d n lt inv e more =
    ap (λ (ms : List ℕ). option_map (λ r. ms ++ r) (numbers_at p (drop (i + 1) ids))) more
    ∙ (sym (numbers_more p ns (get_or ids i d) (drop (i + 1) ids) n (sym e))
    ∙ (ap (λ (xs : List (Option ℕ)). option_map (λ r. ns ++ r) (numbers_at p xs)) (sym (drop_more ids i d lt)) ∙ inv))

pub numbers_stop : (p : Proof) (ns : List ℕ) (ids : List (Option ℕ)) (i : ℕ) (d : Option ℕ) → i < length ids → option_map (λ r. ns ++ r) (numbers_at p (drop i ids)) ≡ numbers_at p ids
    → None ≡ named_at p (get_or ids i d) → numbers_at p ids ≡ None
numbers_stop p ns ids i d lt inv e =
    sym inv ∙ (ap (λ (xs : List (Option ℕ)). option_map (λ r. ns ++ r) (numbers_at p xs)) (drop_more ids i d lt) ∙ numbers_none p ns (get_or ids i d) (drop (i + 1) ids) (sym e))

pub numbers_end : (p : Proof) (ns : List ℕ) (ids : List (Option ℕ)) (i : ℕ) → length ids ≤ i → option_map (λ r. ns ++ r) (numbers_at p (drop i ids)) ≡ numbers_at p ids → numbers_at p ids ≡ Some ns
unfolding numbers_at
numbers_end p ns ids i le inv =
    sym inv ∙ (ap (λ (xs : List (Option ℕ)). option_map (λ r. ns ++ r) (numbers_at p xs)) (drop_all i ids le) ∙ ap Some (append-nil ns))

pub ok_value : (r : Result ℕ ℕ) (o : Option ℕ) → o ≡ result_ok r → MatchResult r (λ i. o ≡ Some i) (λ i. o ≡ None)
ok_value (Ok i) o e = e
ok_value (Err i) o e = e

-- deleted clauses up to a place
pub without_step : (ks : List ℕ) (i : ℕ) (cs new all : List (Option (List Literal))) → i < length ks → without (drop i ks) cs ≡ all → new ≡ slice_set cs (get_or ks i 0) None → without (drop (i + 1) ks) new ≡ all
without_step ks i cs new all lt inv e =
    ap (without (drop (i + 1) ks)) e ∙ (ap (λ (ms : List ℕ). without ms cs) (sym (drop_more ks i 0 lt)) ∙ inv)

pub opened : (n : ℕ) (known : List (Option Bool)) → known ≡ all_open n → length known ≡ n
opened n known e = ap length e ∙ length-replicate n None

pub last_below : (p : Proof) (id : ℕ) → is_next p id ≡ true → 0 < length p.added → get_or p.added (length p.added - 1) 0 < id
last_below p id t some =
    let less = ltb-true (get_or p.added (length p.added - 1) (given_of p)) id t in
    let same : get_or p.added (length p.added - 1) (given_of p) ≡ get_or p.added (length p.added - 1) 0 = get_or_default p.added (length p.added - 1) (given_of p) 0 (omega (arith, some)) in
    omega (arith, less, same)
