-- The list of open nodes.
use Rattle.cube_machine.proofs.Prelude.{◌≡◌, ℕ, zero, suc, ◌+◌, ◌-◌, ◌<◌, ◌≤◌, Bool, true, false, cond, not, ◌||◌, eqb, List, [], ◌∷◌, ◌++◌, length, get_or, Option, None, Some, refl, sym, ap, ◌∙◌, subst, inl, inr, arith, slice_get}
use Rattle.cube_machine.proofs.Prelude.{slice_set, list_any, insert, remove, cases_Bool, cond-true, cond-false, eqb-true, same_Some, Cube, is_open, or_else, last_open_from, none-some, nodes_with, nodes_of, cubes_after, open_from}
use Rattle.cube_machine.proofs.Prelude.{IsAscending, TreeNode}
use Rattle.cube_machine.proofs.Cubes.{as_many}

-- how many of the first i nodes are open
pub opens : ℕ → List TreeNode → ℕ
opens zero xs = 0
opens (suc i) [] = 0
opens (suc i) (x ∷ xs) = cond (is_open x.mark) (suc (opens i xs)) (opens i xs)

-- ---- writes
removed_under : (b : Bool) (k : ℕ) (l now : List ℕ) (n : ℕ) → now ≡ remove l n → cond b (k ∷ now) now ≡ remove (cond b (k ∷ l) l) (cond b (suc n) n)
removed_under true k l now n e = ap (λ t. k ∷ t) e
removed_under false k l now n e = e

inserted_under : (b : Bool) (k i : ℕ) (l now : List ℕ) (n : ℕ) → now ≡ insert l n i → cond b (k ∷ now) now ≡ insert (cond b (k ∷ l) l) (cond b (suc n) n) i
inserted_under true k i l now n e = ap (λ t. k ∷ t) e
inserted_under false k i l now n e = e

pub open_removed : (k : ℕ) (xs : List TreeNode) (i : ℕ) (x y : TreeNode) → slice_get xs i ≡ Some x → is_open x.mark ≡ true → is_open y.mark ≡ false → open_from k (slice_set xs i y) ≡ remove (open_from k xs) (opens i xs)
unfolding open_from opens
open_removed k [] i x y at t f = absurd (none-some x at)
open_removed k (z ∷ zs) zero x y at t f =
    let g : is_open z.mark ≡ true = ap (λ (n : TreeNode). is_open n.mark) (same_Some z x at) ∙ t in
    cond-false (is_open y.mark) (k ∷ open_from (k + 1) zs) (open_from (k + 1) zs) f
    ∙ ap (λ l. remove l 0) (sym (cond-true (is_open z.mark) (k ∷ open_from (k + 1) zs) (open_from (k + 1) zs) g))
open_removed k (z ∷ zs) (suc i) x y at t f =
    removed_under (is_open z.mark) k (open_from (k + 1) zs) (open_from (k + 1) (slice_set zs i y)) (opens i zs) (open_removed (k + 1) zs i x y at t f)

pub open_inserted : (k : ℕ) (xs : List TreeNode) (i : ℕ) (x y : TreeNode) → slice_get xs i ≡ Some x → is_open x.mark ≡ false → is_open y.mark ≡ true → open_from k (slice_set xs i y) ≡ insert (open_from k xs) (opens i xs) (k + i)
unfolding open_from opens
open_inserted k [] i x y at f t = absurd (none-some x at)
open_inserted k (z ∷ zs) zero x y at f t =
    let g : is_open z.mark ≡ false = ap (λ (n : TreeNode). is_open n.mark) (same_Some z x at) ∙ f in
    let e : k ≡ k + 0 = omega arith in
    cond-true (is_open y.mark) (k ∷ open_from (k + 1) zs) (open_from (k + 1) zs) t
    ∙ ap (λ n. n ∷ open_from (k + 1) zs) e
    ∙ ap (λ l. insert l 0 (k + 0)) (sym (cond-false (is_open z.mark) (k ∷ open_from (k + 1) zs) (open_from (k + 1) zs) g))
open_inserted k (z ∷ zs) (suc i) x y at f t =
    let e : k + 1 + i ≡ k + suc i = omega arith in
    inserted_under (is_open z.mark) k (k + suc i) (open_from (k + 1) zs) (open_from (k + 1) (slice_set zs i y)) (opens i zs)
    (open_inserted (k + 1) zs i x y at f t ∙ ap (insert (open_from (k + 1) zs) (opens i zs)) e)

same_under : (b : Bool) (k : ℕ) (l now : List ℕ) → now ≡ l → cond b (k ∷ now) now ≡ cond b (k ∷ l) l
same_under b k l now e = ap (λ t. cond b (k ∷ t) t) e

pub open_unchanged : (k : ℕ) (xs : List TreeNode) (i : ℕ) (x y : TreeNode) → slice_get xs i ≡ Some x → is_open x.mark ≡ false → is_open y.mark ≡ false → open_from k (slice_set xs i y) ≡ open_from k xs
unfolding open_from
open_unchanged k [] i x y at f g = refl
open_unchanged k (z ∷ zs) zero x y at f g =
    let h : is_open z.mark ≡ false = ap (λ (n : TreeNode). is_open n.mark) (same_Some z x at) ∙ f in
    ap (λ b. cond b (k ∷ open_from (k + 1) zs) (open_from (k + 1) zs)) (g ∙ sym h)
open_unchanged k (z ∷ zs) (suc i) x y at f g =
    same_under (is_open z.mark) k (open_from (k + 1) zs) (open_from (k + 1) (slice_set zs i y)) (open_unchanged (k + 1) zs i x y at f g)

pushed_under : (b : Bool) (k n : ℕ) (l now : List ℕ) → now ≡ l ++ n ∷ [] → cond b (k ∷ now) now ≡ cond b (k ∷ l) l ++ n ∷ []
pushed_under true k n l now e = ap (λ t. k ∷ t) e
pushed_under false k n l now e = e

pub open_pushed : (k : ℕ) (xs : List TreeNode) (y : TreeNode) → is_open y.mark ≡ true → open_from k (xs ++ y ∷ []) ≡ open_from k xs ++ (k + length xs) ∷ []
unfolding open_from
open_pushed k [] y t =
    let e : k ≡ k + 0 = omega arith in
    cond-true (is_open y.mark) (k ∷ []) [] t ∙ ap (λ n. n ∷ []) e
open_pushed k (z ∷ zs) y t =
    let e : k + 1 + length zs ≡ k + suc (length zs) = omega arith in
    pushed_under (is_open z.mark) k (k + suc (length zs)) (open_from (k + 1) zs) (open_from (k + 1) (zs ++ y ∷ []))
    (open_pushed (k + 1) zs y t ∙ ap (λ n. open_from (k + 1) zs ++ n ∷ []) e)

-- ---- how many
few_under : (b : Bool) (k : ℕ) (l : List ℕ) (n : ℕ) → length l ≤ n → length (cond b (k ∷ l) l) ≤ suc n
few_under true k l n le = omega arith
few_under false k l n le = omega arith

pub open_few : (k : ℕ) (xs : List TreeNode) → length (open_from k xs) ≤ length xs
unfolding open_from
open_few k [] = omega arith
open_few k (x ∷ xs) = few_under (is_open x.mark) k (open_from (k + 1) xs) (length xs) (open_few (k + 1) xs)

pub open_fewer : (k : ℕ) (xs : List TreeNode) (i : ℕ) (x : TreeNode) → slice_get xs i ≡ Some x → is_open x.mark ≡ false → length (open_from k xs) < length xs
unfolding open_from
open_fewer k [] i x at f = absurd (none-some x at)
open_fewer k (z ∷ zs) zero x at f =
    let h : is_open z.mark ≡ false = ap (λ (n : TreeNode). is_open n.mark) (same_Some z x at) ∙ f in
    let e = ap length (cond-false (is_open z.mark) (k ∷ open_from (k + 1) zs) (open_from (k + 1) zs) h) in
    let r = open_few (k + 1) zs in omega (arith, e, r)
open_fewer k (z ∷ zs) (suc i) x at f = fewer_under (is_open z.mark) k (open_from (k + 1) zs) (length zs) (open_fewer (k + 1) zs i x at f)
  where
    fewer_under : (b : Bool) (k : ℕ) (l : List ℕ) (n : ℕ) → length l < n → length (cond b (k ∷ l) l) < suc n
    fewer_under true k l n le = omega arith
    fewer_under false k l n le = omega arith

-- ---- order
low_under : (b : Bool) (k : ℕ) (l : List ℕ) → ((j : ℕ) → j < length l → k + 1 ≤ get_or l j 0) → (j : ℕ) → j < length (cond b (k ∷ l) l) → k ≤ get_or (cond b (k ∷ l) l) j 0
low_under true k l h zero lt = omega arith
low_under true k l h (suc j) lt = let r = h j (omega (arith, lt)) in omega (arith, r)
low_under false k l h j lt = let r = h j lt in omega (arith, r)

open_low : (k : ℕ) (xs : List TreeNode) (j : ℕ) → j < length (open_from k xs) → k ≤ get_or (open_from k xs) j 0
unfolding open_from
open_low k [] j lt = absurd (omega (arith, lt))
open_low k (x ∷ xs) j lt = low_under (is_open x.mark) k (open_from (k + 1) xs) (open_low (k + 1) xs) j lt

rising_under : (b : Bool) (k : ℕ) (l : List ℕ) → ((j : ℕ) → j < length l → k + 1 ≤ get_or l j 0) → ((i j : ℕ) → i < j → j < length l → get_or l i 0 < get_or l j 0) → (i j : ℕ) → i < j → j < length (cond b (k ∷ l) l) → get_or (cond b (k ∷ l) l) i 0 < get_or (cond b (k ∷ l) l) j 0
rising_under true k l low h i zero a c = absurd (omega (arith, a))
rising_under true k l low h zero (suc j) a c = let r = low j (omega (arith, c)) in omega (arith, r)
rising_under true k l low h (suc i) (suc j) a c = h i j (omega (arith, a)) (omega (arith, c))
rising_under false k l low h i j a c = h i j a c

open_rising : (k : ℕ) (xs : List TreeNode) (i j : ℕ) → i < j → j < length (open_from k xs) → get_or (open_from k xs) i 0 < get_or (open_from k xs) j 0
unfolding open_from
open_rising k [] i j a c = absurd (omega (arith, c))
open_rising k (x ∷ xs) i j a c = rising_under (is_open x.mark) k (open_from (k + 1) xs) (open_low (k + 1) xs) (open_rising (k + 1) xs) i j a c

pub open_ascending : (k : ℕ) (xs : List TreeNode) → IsAscending (open_from k xs)
open_ascending k xs = record { each = open_rising k xs }

-- ---- the place of a node
-- the numbers below n are those before the place
pub record IsPlace (n : ℕ) (l : List ℕ) (p : ℕ) : Type 0 where
  pub within : p ≤ length l
  pub below : (j : ℕ) → j < p → get_or l j 0 < n
  pub above : (j : ℕ) → p ≤ j → j < length l → n ≤ get_or l j 0

place_under : (b : Bool) (k n p : ℕ) (l : List ℕ) (r : ℕ) → k < n → ((q : ℕ) → IsPlace n l q → q ≡ r) → IsPlace n (cond b (k ∷ l) l) p → p ≡ cond b (suc r) r
place_under true k n zero l r lt h w = let a = w.above 0 (omega arith) (omega arith) in absurd (omega (arith, a, lt))
place_under true k n (suc p) l r lt h w =
    ap suc (h p (record {
      within = (let i = w.within in omega (arith, i));
      below = λ j c. w.below (suc j) (omega (arith, c));
      above = λ j c d. w.above (suc j) (omega (arith, c)) (omega (arith, d));
    }))
place_under false k n p l r lt h w = h p w

pub place_is : (k : ℕ) (xs : List TreeNode) (i p : ℕ) → i ≤ length xs → IsPlace (k + i) (open_from k xs) p → p ≡ opens i xs
unfolding open_from opens
place_is k xs zero zero le w = refl
place_is k xs zero (suc p) le w =
    let b = w.below 0 (omega arith) in let i = w.within in
    let a = open_low k xs 0 (omega (arith, i)) in absurd (omega (arith, a, b))
place_is k [] (suc i) p le w = absurd (omega (arith, le))
place_is k (x ∷ xs) (suc i) p le w =
    let e : k + suc i ≡ k + 1 + i = omega arith in
    place_under (is_open x.mark) k (k + suc i) p (open_from (k + 1) xs) (opens i xs) (omega arith)
    (λ q v. place_is (k + 1) xs i q (omega (arith, le)) (subst (λ n. IsPlace n (open_from (k + 1) xs) q) e v)) w

-- the place of an open node is one of the list
opens_under : (b : Bool) (k : ℕ) (l : List ℕ) (n : ℕ) → n < length l → cond b (suc n) n < length (cond b (k ∷ l) l)
opens_under true k l n lt = omega arith
opens_under false k l n lt = lt

pub open_within : (k : ℕ) (xs : List TreeNode) (i : ℕ) (x : TreeNode) → slice_get xs i ≡ Some x → is_open x.mark ≡ true → opens i xs < length (open_from k xs)
unfolding open_from opens
open_within k [] i x at t = absurd (none-some x at)
open_within k (z ∷ zs) zero x at t =
    let g : is_open z.mark ≡ true = ap (λ (n : TreeNode). is_open n.mark) (same_Some z x at) ∙ t in
    let e = ap length (cond-true (is_open z.mark) (k ∷ open_from (k + 1) zs) (open_from (k + 1) zs) g) in omega (arith, e)
open_within k (z ∷ zs) (suc i) x at t = opens_under (is_open z.mark) k (open_from (k + 1) zs) (opens i zs) (open_within (k + 1) zs i x at t)

-- ---- the last
last : List ℕ → Option ℕ
last [] = None
last (k ∷ l) = or_else (last l) (Some k)

last_read : (l : List ℕ) → slice_get l (length l - 1) ≡ last l
unfolding last
last_read [] = refl
last_read (k ∷ []) = refl
last_read (k ∷ n ∷ l) =
    let e : length (k ∷ n ∷ l) - 1 ≡ suc (length (n ∷ l) - 1) = omega arith in
    ap (slice_get (k ∷ n ∷ l)) e ∙ last_read (n ∷ l) ∙ kept (last l) n k
  where
    kept : (o : Option ℕ) (n k : ℕ) → or_else o (Some n) ≡ or_else (or_else o (Some n)) (Some k)
    kept None n k = refl
    kept (Some m) n k = refl

last_under : (b : Bool) (k : ℕ) (l : List ℕ) (o : Option ℕ) → o ≡ last l → or_else o (cond b (Some k) None) ≡ last (cond b (k ∷ l) l)
unfolding last
last_under true k l o e = ap (λ t. or_else t (Some k)) e
last_under false k l o e = plain o ∙ e
  where
    plain : (o : Option ℕ) → or_else o None ≡ o
    plain None = refl
    plain (Some m) = refl

last_with : (k : ℕ) (cs : List Cube) (xs : List TreeNode) → length cs ≡ length xs → last_open_from k (nodes_with cs xs) ≡ last (open_from k xs)
unfolding nodes_with open_from last
last_with k cs [] e = refl
last_with k [] (x ∷ xs) e = absurd (omega (arith, e))
last_with k (c ∷ cs) (x ∷ xs) e = last_under (is_open x.mark) k (open_from (k + 1) xs) (last_open_from (k + 1) (nodes_with cs xs)) (last_with (k + 1) cs xs (omega (arith, e)))

pub last_is : (xs : List TreeNode) → slice_get (open_from 0 xs) (length (open_from 0 xs) - 1) ≡ last_open_from 0 (nodes_of xs)
unfolding nodes_of
last_is xs = last_read (open_from 0 xs) ∙ sym (last_with 0 (cubes_after [] xs) xs (as_many xs))

-- ---- whether one is open
more_than_none : (n : ℕ) → eqb (suc n) 0 ≡ false
more_than_none n = elim (cases_Bool (eqb (suc n) 0)) [
  | inl t ↦ (let e = eqb-true (suc n) 0 t in absurd (omega (arith, e)))
  | inr f ↦ f
]

some_under : (b t : Bool) (k : ℕ) (l : List ℕ) → t ≡ not (eqb (length l) 0) → (b || t) ≡ not (eqb (length (cond b (k ∷ l) l)) 0)
some_under true t k l e = ap not (sym (more_than_none (length l)))
some_under false t k l e = e

pub some_open : (k : ℕ) (xs : List TreeNode) → list_any (λ (x : TreeNode). is_open x.mark) xs ≡ not (eqb (length (open_from k xs)) 0)
unfolding open_from
some_open k [] = refl
some_open k (x ∷ xs) = some_under (is_open x.mark) (list_any (λ (x : TreeNode). is_open x.mark) xs) k (open_from (k + 1) xs) (some_open (k + 1) xs)
