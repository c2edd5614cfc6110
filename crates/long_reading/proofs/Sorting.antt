-- A sorted list of numbers shows the first line whose number stood before.
use Rattle.long_reading.proofs.Prelude.{◌≡◌, ◌≢◌, ◌⊎◌, inl, inr, ℕ, zero, suc, ◌+◌, ◌-◌, ◌<◌, ◌≤◌, false, cond, min, List, [], ◌∷◌, ◌++◌, length, get_or, Option, Some, None, refl, sym, ap, ◌∙◌, subst, arith, nat_eq, nat_cmp, count_by}
use Rattle.long_reading.proofs.Prelude.{Contains, option_map_or, repeated, Stated, by_line, AscendFrom}
use Rattle.std.specs.List.Sorted.{IsPermutation, IsSorted}
use Rattle.std.specs.Ordering.{is_lt, ordering_then}
use Rattle.std.specs.declared.cmp.Ordering.{Ordering}
use Rattle.std.proofs.lemmas.Bool.{cases_Bool, eqb-true, eqb-false, eq-eqb, ne_eqb, cases_lt, false≢true}
use Rattle.std.proofs.lemmas.Cmp.{nat_cmp_total, on_total, then_total, ranked, by_ranked}
use Rattle.std.proofs.lemmas.List.Sorted.{sorted_far, ranks_by, Contains-permutation, IsPermutation-sym, sum_by-IsPermutation}
use Rattle.std.proofs.lemmas.List.Sums.{sum_by-cons}
use Rattle.serializability.proofs.Places.{Has, Apart}
use Rattle.log_definitions.proofs.Scanning.{numbers}
use Rattle.long_log_definitions.proofs.Repeats.{apart_where_none, first_where_some, IsFirstRepeated}

-- the order of the numbers, and of the lines among equal ones
abbrev pub compared : Stated → Stated → Ordering
compared x y = ordering_then (nat_cmp x.number y.number) (nat_cmp x.line y.line)

abbrev number_at : List Stated → ℕ → ℕ
number_at ys k = (get_or ys k (record { number = 0; line = 0 })).number

abbrev line_at : List Stated → ℕ → ℕ
line_at ys k = (get_or ys k (record { number = 0; line = 0 })).line

-- ---- what the loop finds: the least line of a number that equals the one before it, among the first n
pub record IsLeastPair (ys : List Stated) (n : ℕ) (first : Option ℕ) : Type 0 where
  pub found : (m : ℕ) → first ≡ Some m → (k : ℕ) × (k + 1 < length ys) × (number_at ys k ≡ number_at ys (k + 1)) × (line_at ys (k + 1) ≡ m)
  pub least : (k : ℕ) → k + 1 < n → number_at ys k ≡ number_at ys (k + 1) → (m : ℕ) × (first ≡ Some m) × (m ≤ line_at ys (k + 1))

abbrev pub lesser_of : Option ℕ → ℕ → ℕ
lesser_of least line = option_map_or (λ l. min l line) least line

-- the least so far with one more line
lesser_within : (least : Option ℕ) (line m : ℕ) → least ≡ Some m → lesser_of least line ≤ m
lesser_within v0 line m e = grind arith

lesser_new : (least : Option ℕ) (line : ℕ) → lesser_of least line ≤ line
lesser_new None line = omega arith
lesser_new (Some l) line = omega arith

lesser_one : (least : Option ℕ) (line : ℕ) → (lesser_of least line ≡ line) ⊎ (least ≡ Some (lesser_of least line))
lesser_one v0 line = grind (arith, cases_lt)

some_is : {X : Type 0} (a b : X) (o : Option X) → o ≡ Some a → o ≡ Some b → a ≡ b
some_is a b o e f = cc

pub one_pair_more : (ys : List Stated) (i : ℕ) (first next : Option ℕ) → 0 < i → i < length ys → next ≡ cond (nat_eq (number_at ys (i - 1)) (number_at ys i)) (Some (lesser_of first (line_at ys i))) first → IsLeastPair ys i first → IsLeastPair ys (i + 1) next
one_pair_more ys i first next lo hi is h = grind (arith, lesser_one, eqb-true, some_is, cases_lt, lesser_within, lesser_new, eqb-false)

-- ---- what the order says
not_less : (a b c d : ℕ) → is_lt (ordering_then (nat_cmp a b) (nat_cmp c d)) ≡ false → (b ≤ a) × (a ≡ b → d ≤ c)
not_less a b c d h = grind (arith, by_ranked, ranked, false≢true)

ordered : (ys : List Stated) → IsSorted compared ys → (i j : ℕ) → i ≤ j → j < length ys → (number_at ys i ≤ number_at ys j) × (number_at ys j ≡ number_at ys i → line_at ys i ≤ line_at ys j)
ordered ys up i j le lt =
    let d : Stated = record { number = 0; line = 0 } in
    not_less (number_at ys j) (number_at ys i) (line_at ys j) (line_at ys i)
    (sorted_far (λ x y. is_lt (compared x y)) (ranks_by (then_total (on_total (λ (s : Stated). s.number) nat_cmp_total) (on_total (λ (s : Stated). s.line) nat_cmp_total)) (λ s. s)) ys up i j d le lt)

-- ---- members, with their lines
abbrev Among : ℕ × ℕ → List (ℕ × ℕ) → Type 0
Among p [] = ⊥
Among p (x ∷ xs) = (x ≡ p) ⊎ Among p xs

among_at : (xs : List Stated) (k : ℕ) (s : Stated) → k < length xs → get_or xs k s ≡ s → Among (s.line, s.number) (by_line xs)
among_at [] k s lt e = absurd (omega arith)
among_at (x ∷ xs) zero s lt e = inl (ap (λ (y : Stated). (y.line, y.number)) e)
among_at (x ∷ xs) (suc k) s lt e = inr (among_at xs k s (omega arith) e)

stated_of : (p : ℕ × ℕ) (xs : List Stated) → Among p (by_line xs) → (s : Stated) × Contains xs s × (s.line ≡ p.0) × (s.number ≡ p.1)
stated_of p [] h = absurd h
stated_of p (x ∷ xs) (inl e) = (x, (0, omega arith, refl), ap (λ (q : ℕ × ℕ). q.0) e, ap (λ (q : ℕ × ℕ). q.1) e)
stated_of p (x ∷ xs) (inr h) = let r = stated_of p xs h in (r.0, (suc r.1.0, omega (arith, r.1.1), r.1.2), r.2, r.3)

among_has : (p : ℕ × ℕ) (zs : List (ℕ × ℕ)) → Among p zs → Has p.1 (numbers zs)
among_has p [] h = h
among_has p (z ∷ zs) (inl e) = inl (ap (λ (q : ℕ × ℕ). q.1) e)
among_has p (z ∷ zs) (inr h) = inr (among_has p zs h)

has_among : (w : ℕ) (zs : List (ℕ × ℕ)) → Has w (numbers zs) → (p : ℕ × ℕ) × Among p zs × (p.1 ≡ w)
has_among w [] h = absurd h
has_among w (z ∷ zs) (inl e) = (z, inl refl, e)
has_among w (z ∷ zs) (inr h) = let r = has_among w zs h in (r.0, inr r.1, r.2)

one_line : (zs : List (ℕ × ℕ)) (p q : ℕ × ℕ) → Apart (numbers zs) → Among p zs → Among q zs → p.1 ≡ q.1 → p.0 ≡ q.0
one_line [] p q a h k e = absurd h
one_line (z ∷ zs) p q a (inl h) (inl k) e = ap (λ (x : ℕ × ℕ). x.0) (sym h ∙ k)
one_line (z ∷ zs) p q a (inl h) (inr k) e = absurd (a.0 (subst (λ w. Has w (numbers zs)) (sym e ∙ sym (ap (λ (x : ℕ × ℕ). x.1) h)) (among_has q zs k)))
one_line (z ∷ zs) p q a (inr h) (inl k) e = absurd (a.0 (subst (λ w. Has w (numbers zs)) (e ∙ sym (ap (λ (x : ℕ × ℕ). x.1) k)) (among_has p zs h)))
one_line (z ∷ zs) p q a (inr h) (inr k) e = one_line zs p q a.1 h k e

-- ---- lines that ascend
above : (n : ℕ) (zs : List (ℕ × ℕ)) (p : ℕ × ℕ) → AscendFrom n zs → Among p zs → n ≤ p.0
above n [] p a h = absurd h
above n (z ∷ zs) p a (inl e) = omega (arith, a.0, ap (λ (q : ℕ × ℕ). q.0) e)
above n (z ∷ zs) p a (inr h) = omega (arith, a.0, above (z.0 + 1) zs p a.1 h)

among_front : (front back : List (ℕ × ℕ)) (p : ℕ × ℕ) → Among p front → Among p (front ++ back)
among_front [] back p h = absurd h
among_front (z ∷ front) back p (inl e) = inl e
among_front (z ∷ front) back p (inr h) = inr (among_front front back p h)

among_middle : (front back : List (ℕ × ℕ)) (p : ℕ × ℕ) → Among p (front ++ p ∷ back)
among_middle [] back p = inl refl
among_middle (z ∷ front) back p = inr (among_middle front back p)

-- what stands before an element has a lesser line, and what has one stands before it
before : (k : ℕ) (front back : List (ℕ × ℕ)) (n w : ℕ) (p : ℕ × ℕ) → AscendFrom k (front ++ (n, w) ∷ back) → Among p front → p.0 < n
before k [] back n w p a h = absurd h
before k (z ∷ front) back n w p a (inl e) = omega (arith, ap (λ (q : ℕ × ℕ). q.0) e, above (z.0 + 1) (front ++ (n, w) ∷ back) (n, w) a.1 (among_middle front back (n, w)))
before k (z ∷ front) back n w p a (inr h) = before (z.0 + 1) front back n w p a.1 h

in_front : (k : ℕ) (front back : List (ℕ × ℕ)) (n w : ℕ) (p : ℕ × ℕ) → AscendFrom k (front ++ (n, w) ∷ back) → Among p (front ++ (n, w) ∷ back) → p.0 < n → Among p front
in_front k [] back n w p a (inl e) lt = absurd (omega (arith, lt, ap (λ (q : ℕ × ℕ). q.0) e))
in_front k [] back n w p a (inr h) lt = absurd (omega (arith, lt, above (n + 1) back p a.1 h))
in_front k (z ∷ front) back n w p a (inl e) lt = inl e
in_front k (z ∷ front) back n w p a (inr h) lt = inr (in_front (z.0 + 1) front back n w p a.1 h lt)

-- ---- no line stands twice, in whatever order
abbrev counted : ℕ → List Stated → ℕ
counted n xs = count_by (λ s. nat_eq s.line n) xs

counted-cons : (n : ℕ) (x : Stated) (xs : List Stated) → counted n (x ∷ xs) ≡ cond (nat_eq x.line n) 1 0 + counted n xs
counted-cons n x xs = sum_by-cons (λ s. cond (nat_eq s.line n) 1 0) x xs

none_counted : (n k : ℕ) (xs : List Stated) → AscendFrom k (by_line xs) → n < k → counted n xs ≡ 0
none_counted n k [] a lt = grind (arith, counted-cons, ne_eqb)
none_counted n k (x ∷ xs) a lt = grind (arith, counted-cons, ne_eqb, none_counted n (x.line + 1) xs a.1 (omega (arith, lt, a.0)))

once_counted : (n k : ℕ) (xs : List Stated) → AscendFrom k (by_line xs) → counted n xs ≤ 1
once_counted n k [] a = omega arith
once_counted n k (x ∷ xs) a = elim (cases_Bool (nat_eq x.line n)) [
  | inl e ↦
      let here = counted-cons n x xs ∙ ap (λ b. cond b 1 0 + counted n xs) e in
      let later = none_counted n (x.line + 1) xs a.1 (omega (arith, eqb-true x.line n e)) in
      omega (arith, here, later)
  | inr e ↦
      let here = counted-cons n x xs ∙ ap (λ b. cond b 1 0 + counted n xs) e in
      omega (arith, here, once_counted n (x.line + 1) xs a.1)
]

one_counted : (n j : ℕ) (xs : List Stated) → j < length xs → line_at xs j ≡ n → 1 ≤ counted n xs
one_counted n j [] lt e = absurd (omega arith)
one_counted n zero (x ∷ xs) lt e = let here = counted-cons n x xs ∙ ap (λ b. cond b 1 0 + counted n xs) (eq-eqb x.line n e) in omega (arith, here)
one_counted n (suc j) (x ∷ xs) lt e = let here = counted-cons n x xs in omega (arith, here, one_counted n j xs (omega arith) e)

two_counted : (n i j : ℕ) (xs : List Stated) → i < j → j < length xs → line_at xs i ≡ n → line_at xs j ≡ n → 2 ≤ counted n xs
two_counted n i zero xs lt hi e f = absurd (omega arith)
two_counted n i (suc j) [] lt hi e f = absurd (omega arith)
two_counted n zero (suc j) (x ∷ xs) lt hi e f = let here = counted-cons n x xs ∙ ap (λ b. cond b 1 0 + counted n xs) (eq-eqb x.line n e) in omega (arith, here, one_counted n j xs (omega arith) f)
two_counted n (suc i) (suc j) (x ∷ xs) lt hi e f = let here = counted-cons n x xs in omega (arith, here, two_counted n i j xs (omega arith) (omega arith) e f)

other_line : (xs ys : List Stated) → IsPermutation xs ys → AscendFrom 0 (by_line xs) → (i j : ℕ) → i < j → j < length ys → line_at ys i ≢ line_at ys j
other_line xs ys perm a i j lt hi e =
    let twice = two_counted (line_at ys j) i j ys lt hi e refl in
    let same = sum_by-IsPermutation (λ s. cond (nat_eq s.line (line_at ys j)) 1 0) xs ys perm in
    omega (arith, twice, same, once_counted (line_at ys j) 0 xs a)

-- ---- the first line whose number stood before
-- a place of the sorted list, as one of the lines
placed : (xs ys : List Stated) → IsPermutation xs ys → (k : ℕ) → k < length ys → Among (line_at ys k, number_at ys k) (by_line xs)
placed xs ys perm k lt =
    let s = get_or ys k (record { number = 0; line = 0 }) in
    let there = Contains-permutation ys xs s (IsPermutation-sym xs ys perm) (k, lt, same ys k s lt refl) in
    among_at xs there.0 s there.1 there.2
  where
    same : (ys : List Stated) (k : ℕ) (s : Stated) → k < length ys → get_or ys k (record { number = 0; line = 0 }) ≡ s → get_or ys k s ≡ s
    same [] k s lt e = absurd (omega arith)
    same (y ∷ ys) zero s lt e = e
    same (y ∷ ys) (suc k) s lt e = same ys k s (omega arith) e

-- one of the lines, by its place in the sorted list
place_of : (xs ys : List Stated) (p : ℕ × ℕ) → IsPermutation xs ys → Among p (by_line xs) → (k : ℕ) × (k < length ys) × (line_at ys k ≡ p.0) × (number_at ys k ≡ p.1)
place_of xs ys p perm h =
    let s = stated_of p xs h in
    let there = Contains-permutation xs ys s.0 perm s.1 in
    let at = same ys there.0 s.0 there.1 there.2 in
    (there.0, there.1, ap (λ (x : Stated). x.line) at ∙ s.2, ap (λ (x : Stated). x.number) at ∙ s.3)
  where
    same : (ys : List Stated) (k : ℕ) (s : Stated) → k < length ys → get_or ys k s ≡ s → get_or ys k (record { number = 0; line = 0 }) ≡ s
    same [] k s lt e = absurd (omega arith)
    same (y ∷ ys) zero s lt e = e
    same (y ∷ ys) (suc k) s lt e = same ys k s (omega arith) e

-- what the pair that was found says of the lines
record Pair (zs : List (ℕ × ℕ)) (m : ℕ) : Type 0 where
  pub number : ℕ
  pub lesser : ℕ
  pub first : Among (lesser, number) zs
  pub later : Among (m, number) zs
  pub less : lesser < m

pair_of : (xs ys : List Stated) (n m : ℕ) (first : Option ℕ) → IsPermutation xs ys → IsSorted compared ys → AscendFrom 0 (by_line xs) → IsLeastPair ys n first → first ≡ Some m → Pair (by_line xs) m
pair_of xs ys n m first perm up a h e =
    let found = h.found m e in
    let k = found.0 in
    let one = placed xs ys perm k (omega (arith, found.1)) in
    let two = placed xs ys perm (k + 1) found.1 in
    let le = (ordered ys up k (k + 1) (omega arith) found.1).1 (sym found.2) in
    let ne = other_line xs ys perm a k (k + 1) (omega arith) found.1 in
    record {
      number = number_at ys (k + 1);
      lesser = line_at ys k;
      first = subst (λ w. Among (line_at ys k, w) (by_line xs)) found.2 one;
      later = subst (λ l. Among (l, number_at ys (k + 1)) (by_line xs)) found.3 two;
      less = omega (arith, le, ne, found.3);
    }

-- two lines with one number are a pair of neighbours' at or before the later one
pair_before : (xs ys : List Stated) (n : ℕ) (first : Option ℕ) (l m w : ℕ) → IsPermutation xs ys → IsSorted compared ys → length ys ≤ n → IsLeastPair ys n first → Among (l, w) (by_line xs) → Among (m, w) (by_line xs) → l < m
    → (f : ℕ) × (first ≡ Some f) × (f ≤ m)
pair_before xs ys n first l m w perm up all h one two lt = go (place_of xs ys (l, w) perm one) (place_of xs ys (m, w) perm two)
  where
    go : (k : ℕ) × (k < length ys) × (line_at ys k ≡ l) × (number_at ys k ≡ w) → (k : ℕ) × (k < length ys) × (line_at ys k ≡ m) × (number_at ys k ≡ w) → (f : ℕ) × (first ≡ Some f) × (f ≤ m)
    go (i, il, iline, inum) (j, jl, jline, jnum) = elim (cases_lt i j) [
      | inl before ↦
          let here : j - 1 + 1 ≡ j = omega (arith, before) in
          let low = (ordered ys up i (j - 1) (omega (arith, before)) (omega (arith, jl))).0 in
          let high = (ordered ys up (j - 1) j (omega arith) jl).0 in
          let same : number_at ys (j - 1) ≡ number_at ys (j - 1 + 1) = omega (arith, low, high, inum, jnum, ap (number_at ys) here) in
          let found = h.least (j - 1) (omega (arith, here, jl, all)) same in
          (found.0, found.1, omega (arith, found.2, ap (line_at ys) here, jline))
      | inr behind ↦
          let le = (ordered ys up j i behind il).1 (inum ∙ sym jnum) in
          absurd (omega (arith, le, iline, jline, lt))
    ]

pub first_is : (xs ys : List Stated) (n : ℕ) (first : Option ℕ) → IsPermutation xs ys → IsSorted compared ys → AscendFrom 0 (by_line xs) → length ys ≤ n → IsLeastPair ys n first → first ≡ repeated [] (by_line xs)
first_is xs ys n first perm up a all h = go (repeated [] (by_line xs)) refl
  where
    zs : List (ℕ × ℕ)
    zs = by_line xs

    go : (o : Option ℕ) → repeated [] (by_line xs) ≡ o → first ≡ repeated [] (by_line xs)
    go None e = none_found first refl ∙ sym e
      where
        none_found : (o : Option ℕ) → first ≡ o → first ≡ None
        none_found None f = f
        none_found (Some m) f =
            let pair = pair_of xs ys n m first perm up a h f in
            let apart = (apart_where_none [] (by_line xs) e).0 in
            let same = one_line (by_line xs) (pair.lesser, pair.number) (m, pair.number) apart pair.first pair.later refl in
            absurd (omega (arith, pair.less, same))
    go (Some m) e = whole (first_where_some [] (by_line xs) m e) ∙ sym e
      where
        whole : IsFirstRepeated [] (by_line xs) m → first ≡ Some m
        whole r = stands r.stood
          where
            split : AscendFrom 0 (r.front ++ (m, r.number) ∷ r.back)
            split = subst (AscendFrom 0) r.whole a

            all_of : (p : ℕ × ℕ) → Among p (r.front ++ (m, r.number) ∷ r.back) → Among p (by_line xs)
            all_of p k = subst (Among p) (sym r.whole) k

            never_before : (f : ℕ) → first ≡ Some f → f < m → ⊥
            never_before f g lt =
                let pair = pair_of xs ys n f first perm up a h g in
                let one = in_front 0 r.front r.back m r.number (pair.lesser, pair.number) split (subst (Among (pair.lesser, pair.number)) r.whole pair.first) (omega (arith, pair.less, lt)) in
                let two = in_front 0 r.front r.back m r.number (f, pair.number) split (subst (Among (f, pair.number)) r.whole pair.later) lt in
                let same = one_line r.front (pair.lesser, pair.number) (f, pair.number) r.apart one two refl in
                omega (arith, pair.less, same)

            stands : Has r.number [] ⊎ Has r.number (numbers r.front) → first ≡ Some m
            stands (inl k) = absurd k
            stands (inr k) =
                let p = has_among r.number r.front k in
                let lt = before 0 r.front r.back m r.number p.0 split p.1 in
                let one = all_of p.0 (among_front r.front ((m, r.number) ∷ r.back) p.0 p.1) in
                let two = all_of (m, r.number) (among_middle r.front r.back (m, r.number)) in
                let found = pair_before xs ys n first p.0.0 m r.number perm up all h (subst (λ w. Among (p.0.0, w) (by_line xs)) p.2 one) two lt in
                elim (cases_lt found.0 m) [
                  | inl less ↦ absurd (never_before found.0 found.1 less)
                  | inr more ↦ let is : found.0 ≡ m = omega (arith, more, found.2) in found.1 ∙ ap (λ x. Some x) is
                ]
