-- The worst of some lines, ten at most, where their keys come in order.
use Rattle.census.proofs.Prelude.{◌≡◌, ◌⊎◌, ℕ, ◌+◌, ◌<◌, ◌≤◌, zero, suc, Bool, true, false, cond, List, [], ◌∷◌, ◌++◌, length, take, refl, sym, ap, ◌∙◌, subst, inl, inr, nat_cmp, arith, nat_lt, not, drop, insert, unwrap_or, Some, None}
use Rattle.census.proofs.Prelude.{AllByRecursion, AllPairs, Contains, position_or_len, slice_cmp, nat_list_cmp_total, Less, All-from_recursion, behind, lt_true, KeyFaults, place_in, with_line, IsWorse}
use Rattle.std.proofs.Math.Numerals.{one-add}
use Rattle.std.proofs.lemmas.List.Kept.{AllPairs-cons}

-- ---- what holds of all, and what is among some
pub weaker : {X : Type 0} (P Q : X → Type 0) → ((x : X) → P x → Q x) → (xs : List X) → AllByRecursion P xs → AllByRecursion Q xs
weaker P Q f [] all = tt
weaker P Q f (x ∷ xs) all = (f x all.0, weaker P Q f xs all.1)

front : {X : Type 0} (P : X → Type 0) (n : ℕ) (xs : List X) → AllByRecursion P xs → AllByRecursion P (take n xs)
front P zero xs all = tt
front P (suc n) [] all = tt
front P (suc n) (x ∷ xs) all = (all.0, front P n xs all.1)

abbrev pub Among : {X : Type 0} → X → List X → Type 0
Among x [] = ⊥
Among x (y ∷ ys) = (y ≡ x) ⊎ Among x ys

pub of_one : {X : Type 0} (P : X → Type 0) (xs : List X) (x : X) → AllByRecursion P xs → Among x xs → P x
of_one P [] x all at = absurd at
of_one P (y ∷ ys) x all (inl e) = subst P e all.0
of_one P (y ∷ ys) x all (inr at) = of_one P ys x all.1 at

pub of_each : {X : Type 0} (P : X → Type 0) (xs : List X) → ((x : X) → Among x xs → P x) → AllByRecursion P xs
of_each P [] f = tt
of_each P (y ∷ ys) f = (f y (inl refl), of_each P ys (λ x at. f x (inr at)))

pub before_more : {X : Type 0} (x : X) (xs ys : List X) → Among x xs → Among x (xs ++ ys)
before_more x [] ys at = absurd at
before_more x (z ∷ xs) ys (inl e) = inl e
before_more x (z ∷ xs) ys (inr at) = inr (before_more x xs ys at)

pub at_end : {X : Type 0} (x : X) (xs : List X) → Among x (xs ++ x ∷ [])
at_end x [] = inl refl
at_end x (z ∷ xs) = inr (at_end x xs)

one_more : {X : Type 0} (x y : X) (xs : List X) → Among x (xs ++ y ∷ []) → (y ≡ x) ⊎ Among x xs
one_more x y [] (inl e) = inl e
one_more x y [] (inr at) = absurd at
one_more x y (z ∷ xs) (inl e) = inr (inl e)
one_more x y (z ∷ xs) (inr at) = elim (one_more x y xs at) [ inl e ↦ inl e | inr there ↦ inr (inr there) ]

pub contained : {X : Type 0} (x : X) (xs : List X) → Among x xs → Contains xs x
contained x [] at = absurd at
contained x (y ∷ ys) (inl e) = (0, omega arith, e)
contained x (y ∷ ys) (inr at) = behind y ys x (contained x ys at)

-- ---- lines in order
abbrev Lines : Type 0
Lines = List KeyFaults

abbrev pub Ranked : Lines → Type 0
Ranked [] = Unit {0}
Ranked (l ∷ ls) = AllByRecursion (IsWorse l) ls × Ranked ls

-- their names stand before this one's
abbrev pub AreNamedBefore : KeyFaults → Lines → Type 0
AreNamedBefore e ls = AllByRecursion (λ (l : KeyFaults). slice_cmp nat_cmp l.key e.key ≡ Less) ls

pub all_pairs : (ls : Lines) → Ranked ls → AllPairs IsWorse ls
all_pairs [] r = λ i j d lt within. absurd (omega (arith, within))
all_pairs (l ∷ ls) r = AllPairs-cons IsWorse l ls (All-from_recursion (IsWorse l) ls r.0) (all_pairs ls r.1)

worse_then : (a b c : KeyFaults) → IsWorse a b → IsWorse b c → IsWorse a c
worse_then a b c (inl p) (inl q) = inl (omega arith)
worse_then a b c (inl p) (inr q) = let e = q.0 in inl (omega arith)
worse_then a b c (inr p) (inl q) = let e = p.0 in inl (omega arith)
worse_then a b c (inr p) (inr q) = inr (p.0 ∙ q.0, nat_list_cmp_total.trans a.key b.key c.key p.1 q.1)

still_more : (e l x : KeyFaults) → l.faults < e.faults → IsWorse l x → IsWorse e x
still_more e l x lt (inl p) = inl (omega arith)
still_more e l x lt (inr p) = let is = p.0 in inl (omega arith)

-- one more line, where it belongs
abbrev put : KeyFaults → Lines → Lines
put e [] = e ∷ []
put e (l ∷ ls) = cond (nat_lt l.faults e.faults) (e ∷ l ∷ ls) (l ∷ put e ls)

all_put : (P : KeyFaults → Type 0) (e : KeyFaults) (ls : Lines) → P e → AllByRecursion P ls → AllByRecursion P (put e ls)
all_put P e [] p all = (p, tt)
all_put P e (l ∷ ls) p all = at (nat_lt l.faults e.faults) (all_put P e ls p all.1)
  where
    at : (b : Bool) → AllByRecursion P (put e ls) → AllByRecursion P (cond b (e ∷ l ∷ ls) (l ∷ put e ls))
    at true rest = (p, all)
    at false rest = (all.0, rest)

not_less : (a b : ℕ) → nat_lt a b ≡ false → b ≤ a
not_less a b e = grind arith

behind_it : (l e : KeyFaults) → e.faults ≤ l.faults → slice_cmp nat_cmp l.key e.key ≡ Less → IsWorse l e
behind_it l e le named = elim (le_cases e.faults l.faults le) [ inl lt ↦ inl lt | inr is ↦ inr (sym is, named) ]
  where
    le_cases : (m n : ℕ) → m ≤ n → (m < n) ⊎ (m ≡ n)
    le_cases m n h = grind arith

ranked_put : (e : KeyFaults) (ls : Lines) → AreNamedBefore e ls → Ranked ls → Ranked (put e ls)
ranked_put e [] named r = (tt, tt)
ranked_put e (l ∷ ls) named r = at (nat_lt l.faults e.faults) refl (ranked_put e ls named.1 r.1)
  where
    at : (b : Bool) → nat_lt l.faults e.faults ≡ b → Ranked (put e ls) → Ranked (cond b (e ∷ l ∷ ls) (l ∷ put e ls))
    at true is rest = let lt : l.faults < e.faults = lt_true l.faults e.faults is in
        ((inl lt, weaker (IsWorse l) (IsWorse e) (λ x w. still_more e l x lt w) ls r.0), r)
    at false is rest = (all_put (IsWorse l) e ls (behind_it l e (not_less l.faults e.faults is) named.0) r.0, rest)

ranked_front : (n : ℕ) (ls : Lines) → Ranked ls → Ranked (take n ls)
ranked_front zero ls r = tt
ranked_front (suc n) [] r = tt
ranked_front (suc n) (l ∷ ls) r = (front (IsWorse l) n ls r.0, ranked_front n ls r.1)

put_there : (e : KeyFaults) (ls : Lines) → Among e (put e ls)
put_there e [] = inl refl
put_there e (l ∷ ls) = at (nat_lt l.faults e.faults) (put_there e ls)
  where
    at : (b : Bool) → Among e (put e ls) → Among e (cond b (e ∷ l ∷ ls) (l ∷ put e ls))
    at true rest = inl refl
    at false rest = inr rest

put_keeps : (e x : KeyFaults) (ls : Lines) → Among x ls → Among x (put e ls)
put_keeps e x [] h = absurd h
put_keeps e x (l ∷ ls) h = at (nat_lt l.faults e.faults) h (put_keeps e x ls)
  where
    at : (b : Bool) → (l ≡ x) ⊎ Among x ls → (Among x ls → Among x (put e ls)) → Among x (cond b (e ∷ l ∷ ls) (l ∷ put e ls))
    at true g rest = inr g
    at false (inl is) rest = inl is
    at false (inr there) rest = inr (rest there)

length_put : (e : KeyFaults) (ls : Lines) → length (put e ls) ≡ suc (length ls)
length_put e [] = refl
length_put e (l ∷ ls) = at (nat_lt l.faults e.faults) (length_put e ls)
  where
    at : (b : Bool) → length (put e ls) ≡ suc (length ls) → length (cond b (e ∷ l ∷ ls) (l ∷ put e ls)) ≡ suc (suc (length ls))
    at true rest = refl
    at false rest = ap suc rest

-- what is among the lines is among the first, or these are worse
first_or_worse : (n : ℕ) (ls : Lines) (x : KeyFaults) → Ranked ls → Among x ls → Among x (take n ls) ⊎ ((length (take n ls) ≡ n) × AllByRecursion (λ l. IsWorse l x) (take n ls))
first_or_worse zero ls x r at = inr (refl, tt)
first_or_worse (suc n) [] x r at = absurd at
first_or_worse (suc n) (l ∷ ls) x r (inl e) = inl (inl e)
first_or_worse (suc n) (l ∷ ls) x r (inr at) = elim (first_or_worse n ls x r.1 at) [
  | inl there ↦ inl (inr there)
  | inr full ↦ inr (ap suc full.0, (of_one (IsWorse l) ls x r.0 at, full.1))
]

dropped : (x : KeyFaults) (n : ℕ) (xs : Lines) → Among x (take n xs) → Among x xs
dropped x zero xs h = absurd h
dropped x (suc n) [] h = absurd h
dropped x (suc n) (y ∷ ys) (inl is) = inl is
dropped x (suc n) (y ∷ ys) (inr h) = inr (dropped x n ys h)

-- a line that stays, where as many as before do, is one of those or stands before one of them
stays : (e x : KeyFaults) (ls : Lines) → AreNamedBefore e ls → Ranked ls → Among x (take (length ls) (put e ls)) → Among x ls ⊎ ((e ≡ x) × ((l : KeyFaults) × Among l ls × IsWorse e l))
stays e x [] named r at = absurd at
stays e x (l ∷ ls) named r at = here (nat_lt l.faults e.faults) refl at (stays e x ls named.1 r.1)
  where
    here : (b : Bool) → nat_lt l.faults e.faults ≡ b → Among x (take (suc (length ls)) (cond b (e ∷ l ∷ ls) (l ∷ put e ls)))
        → (Among x (take (length ls) (put e ls)) → Among x ls ⊎ ((e ≡ x) × ((y : KeyFaults) × Among y ls × IsWorse e y)))
        → Among x (l ∷ ls) ⊎ ((e ≡ x) × ((y : KeyFaults) × Among y (l ∷ ls) × IsWorse e y))
    here true is (inl same) rest = inr (same, (l, inl refl, inl (lt_true l.faults e.faults is)))
    here true is (inr h) rest = inl (dropped x (length ls) (l ∷ ls) h)
    here false is (inl same) rest = inl (inl same)
    here false is (inr h) rest = elim (rest h) [
      | inl there ↦ inl (inr there)
      | inr new ↦ inr (new.0, (new.1.0, inr new.1.1, new.1.2))
    ]

-- ---- the worst of those that were seen
pub record AreTop (seen lines : Lines) : Type 0 where
  pub known : AllByRecursion (λ l. Among l seen) lines
  pub ranked : Ranked lines
  pub few : length lines ≤ 10
  pub rest : (x : KeyFaults) → Among x seen → Among x lines ⊎ ((length lines ≡ 10) × AllByRecursion (λ l. IsWorse l x) lines)

length_front : {X : Type 0} (n : ℕ) (xs : List X) → length (take n xs) ≤ n
length_front zero xs = omega arith
length_front (suc n) [] = omega arith
length_front (suc n) (x ∷ xs) = let h = length_front n xs in omega (arith, h)

full_front : {X : Type 0} (n : ℕ) (xs : List X) → length xs ≡ suc n → length (take n xs) ≡ n
full_front zero xs e = refl
full_front (suc n) [] e = absurd (omega (arith, e))
full_front (suc n) (x ∷ xs) e = ap suc (full_front n xs (omega (arith, e)))

top_put : (seen lines : Lines) (e : KeyFaults) → AreNamedBefore e seen → AreTop seen lines → AreTop (seen ++ e ∷ []) (take 10 (put e lines))
top_put seen lines e names top = record {
  known = front (λ l. Among l all) 10 (put e lines) (all_put (λ l. Among l all) e lines (at_end e seen) (weaker (λ l. Among l seen) (λ l. Among l all) (λ l at. before_more l seen (e ∷ []) at) lines top.known));
  ranked = ranked_front 10 (put e lines) placed;
  few = length_front 10 (put e lines);
  rest = λ x at. elim (one_more x e seen at) [
    | inl is ↦ first_or_worse 10 (put e lines) x placed (subst (λ y. Among y (put e lines)) is (put_there e lines))
    | inr old ↦ elim (top.rest x old) [
      | inl there ↦ first_or_worse 10 (put e lines) x placed (put_keeps e x lines there)
      | inr full ↦ inr (full_front 10 (put e lines) (length_put e lines ∙ ap suc full.0), of_each (λ l. IsWorse l x) (take 10 (put e lines)) (λ l there. worse l x full.0 full.1 there))
    ]
  ];
}
  where
    all : Lines
    all = seen ++ e ∷ []

    named : AreNamedBefore e lines
    named = weaker (λ l. Among l seen) (λ (l : KeyFaults). slice_cmp nat_cmp l.key e.key ≡ Less) (λ l at. of_one (λ (l : KeyFaults). slice_cmp nat_cmp l.key e.key ≡ Less) seen l names at) lines top.known

    placed : Ranked (put e lines)
    placed = ranked_put e lines named top.ranked

    worse : (l x : KeyFaults) → length lines ≡ 10 → AllByRecursion (λ y. IsWorse y x) lines → Among l (take 10 (put e lines)) → IsWorse l x
    worse l x ten before there = elim (stays e l lines named top.ranked (subst (λ n. Among l (take n (put e lines))) (sym ten) there)) [
      | inl old ↦ of_one (λ y. IsWorse y x) lines l before old
      | inr new ↦ subst (λ y. IsWorse y x) new.0 (worse_then e new.1.0 x new.1.2 (of_one (λ y. IsWorse y x) lines new.1.0 before new.1.1))
    ]

-- ---- the place
put_at : (e : KeyFaults) (ls : Lines) → insert ls (position_or_len (λ l. nat_lt l.faults e.faults) ls) e ≡ put e ls
put_at e [] = refl
put_at e (l ∷ ls) = at (nat_lt l.faults e.faults) (put_at e ls)
  where
    n : ℕ
    n = position_or_len (λ x. nat_lt x.faults e.faults) ls

    at : (b : Bool) → insert ls n e ≡ put e ls → insert (l ∷ ls) (cond (not b) (1 + n) 0) e ≡ cond b (e ∷ l ∷ ls) (l ∷ put e ls)
    at true rest = refl
    at false rest = ap (λ m. insert (l ∷ ls) m e) (one-add n) ∙ ap (λ r. l ∷ r) rest

place_within : (e : KeyFaults) (ls : Lines) → position_or_len (λ l. nat_lt l.faults e.faults) ls ≤ length ls
place_within e [] = omega arith
place_within e (l ∷ ls) = at (nat_lt l.faults e.faults) (place_within e ls)
  where
    at : (b : Bool) → position_or_len (λ x. nat_lt x.faults e.faults) ls ≤ length ls → cond (not b) (1 + position_or_len (λ x. nat_lt x.faults e.faults) ls) 0 ≤ suc (length ls)
    at true rest = omega arith
    at false rest = omega (arith, rest)

place_is : (e : KeyFaults) (ls : Lines) → place_in e.faults ls ≡ position_or_len (λ l. nat_lt l.faults e.faults) ls
place_is e ls = at (nat_lt place (length ls)) refl
  where
    place : ℕ
    place = position_or_len (λ l. nat_lt l.faults e.faults) ls

    at : (b : Bool) → nat_lt place (length ls) ≡ b → unwrap_or (cond b (Some place) None) (length ls) ≡ place
    at true is = refl
    at false is = let low = not_less place (length ls) is in let high = place_within e ls in omega (arith, low, high)

line_put : (e : KeyFaults) (ls : Lines) → with_line e ls ≡ take 10 (put e ls)
line_put e ls = ap (λ n. take 10 (insert ls n e)) (place_is e ls) ∙ ap (take 10) (put_at e ls)

pub top_more : (seen lines : Lines) (e : KeyFaults) → AreNamedBefore e seen → AreTop seen lines → AreTop (seen ++ e ∷ []) (with_line e lines)
top_more seen lines e names top = subst (AreTop (seen ++ e ∷ [])) (sym (line_put e lines)) (top_put seen lines e names top)

-- a line behind the first ten is left out
cut_before : {X : Type 0} (n p : ℕ) (xs ys : List X) → n ≤ p → p ≤ length xs → take n (take p xs ++ ys) ≡ take n xs
cut_before zero p xs ys le within = refl
cut_before (suc n) zero xs ys le within = absurd (omega (arith, le))
cut_before (suc n) (suc p) [] ys le within = absurd (omega (arith, within))
cut_before (suc n) (suc p) (x ∷ xs) ys le within = ap (λ l. x ∷ l) (cut_before n p xs ys (omega (arith, le)) (omega (arith, within)))

pub left_out : (e : KeyFaults) (ls : Lines) → 10 ≤ place_in e.faults ls → take 10 ls ≡ with_line e ls
left_out e ls le =
    let high : place_in e.faults ls ≤ length ls = subst (λ n. n ≤ length ls) (sym (place_is e ls)) (place_within e ls) in
    sym (cut_before 10 (place_in e.faults ls) ls (e ∷ drop (place_in e.faults ls) ls) le high)
