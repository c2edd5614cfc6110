-- What the strategies pick is open, and they pick where some choice is open.
use Rattle.std.proofs.Common.{◌≡◌, ◌⊎◌, ℕ, zero, suc, ◌+◌, ◌<◌, ◌%◌, Bool, true, false, cond, List, [], ◌∷◌, length, get_or, Option, Some, None, refl, sym, ap, ◌∙◌, inl, inr, arith}
use Rattle.std.specs.Prelude.{slice_get, if◌then◌else◌}
use Rattle.std.specs.Option.{option_or}
use Rattle.std.specs.List.{filter}
use Rattle.std.proofs.lemmas.Nat.{mod_below}
use Rattle.std.proofs.lemmas.Option.{slice_get-get_or, same_Some}
use Rattle.pruning_laws.specs.declared.side.Side.{Side}
use Rattle.branching.specs.View.{View, is_open_in}
use Rattle.branching.specs.Picks.{open_from, open_choices, first_open, has_more, has_fewer, or_better, first_best, most_edges, least_edges, word_at, by_words, is_even_depth}
use Rattle.branching.specs.Opens.{is_open_at}
use Rattle.branching.specs.Refuted.{is_forced_in, first_forced, forced_or_most}

not_some : {A : Type 0} (x : A) → Some x ≡ None → ⊥
not_some x e = absurd (cc)

-- ---- the listed ones are open
abbrev pub Listed : List ℕ → ℕ → Type 0
Listed cs c = (r : ℕ) × (slice_get cs r ≡ Some c)

pub record IsFound (sides : List (Option Side)) (k c : ℕ) : Type 0 where
  pub place : ℕ
  pub whole : k + place ≡ c
  pub free : is_open_at sides place ≡ true

pub found_listed : (sides : List (Option Side)) (k r c : ℕ)
    → slice_get (open_from k sides) r ≡ Some c → IsFound sides k c
found_listed [] k r c e = absurd (cc)
found_listed (None ∷ xs) k zero c e = let same = same_Some k c e in
    record { place = 0; whole = omega (arith, same); free = refl }
found_listed (None ∷ xs) k (suc r) c e = let f = found_listed xs (k + 1) r c e in let w = f.whole in
    record { place = suc f.place; whole = omega (arith, w); free = f.free }
found_listed (Some s ∷ xs) k r c e = let f = found_listed xs (k + 1) r c e in let w = f.whole in
    record { place = suc f.place; whole = omega (arith, w); free = f.free }

pub listed_open : (v : View) (c : ℕ) → Listed (open_choices v) c → is_open_in v c ≡ true
listed_open v c l =
    let f = found_listed v.sides 0 l.0 c l.1 in
    let w = f.whole in
    let same : c ≡ f.place = omega (arith, w) in
    ap (is_open_at v.sides) same ∙ f.free

pub none_listed : (sides : List (Option Side)) (k : ℕ) → slice_get (open_from k sides) 0 ≡ None
    → (c : ℕ) → is_open_at sides c ≡ false
none_listed [] k e c = refl
none_listed (None ∷ xs) k e c = absurd (cc)
none_listed (Some s ∷ xs) k e zero = refl
none_listed (Some s ∷ xs) k e (suc c) = none_listed xs (k + 1) e c

-- ---- the first
pub first_is_open : (v : View) (c : ℕ) → first_open v ≡ Some c → is_open_in v c ≡ true
first_is_open v c e = listed_open v c (0, e)

pub first_where_open : (v : View) → first_open v ≡ None → (c : ℕ) → is_open_in v c ≡ false
first_where_open v e c = none_listed v.sides 0 e c

-- ---- the most and the fewest edges
-- one of two
one_of : (x d c : ℕ) (b : Bool) (xs : List ℕ) → cond b (Some d) (Some x) ≡ Some c → Listed xs d
    → Listed (x ∷ xs) c
one_of x d c true xs e l = (suc l.0, l.1 ∙ e)
one_of x d c false xs e l = (0, e)

best_from : (better : ℕ → ℕ → Bool) (x c : ℕ) (xs : List ℕ) (o : Option ℕ)
    → or_better better x o ≡ Some c → ((d : ℕ) → o ≡ Some d → Listed xs d) → Listed (x ∷ xs) c
best_from better x c xs None e h = (0, e)
best_from better x c xs (Some d) e h = one_of x d c (better d x) xs e (h d refl)

pub best_listed : (better : ℕ → ℕ → Bool) (cs : List ℕ) (c : ℕ) → first_best better cs ≡ Some c
    → Listed cs c
best_listed better [] c e = absurd (cc)
best_listed better (x ∷ xs) c e = best_from better x c xs (first_best better xs) e
    (best_listed better xs)

one_is_some : (x d : ℕ) (b : Bool) → cond b (Some d) (Some x) ≡ None → ⊥
one_is_some x d true e = not_some d e
one_is_some x d false e = not_some x e

pub better_is_some : (better : ℕ → ℕ → Bool) (x : ℕ) (o : Option ℕ) → or_better better x o ≡ None
    → ⊥
better_is_some better x None e = not_some x e
better_is_some better x (Some d) e = one_is_some x d (better d x) e

best_none : (better : ℕ → ℕ → Bool) (cs : List ℕ) → first_best better cs ≡ None
    → slice_get cs 0 ≡ None
best_none better [] e = refl
best_none better (x ∷ xs) e = absurd (better_is_some better x (first_best better xs) e)

pub most_is_open : (v : View) (c : ℕ) → most_edges v ≡ Some c → is_open_in v c ≡ true
most_is_open v c e = listed_open v c (best_listed (has_more v.polygraph.choices)
    (open_choices v) c e)

pub most_where_open : (v : View) → most_edges v ≡ None → (c : ℕ) → is_open_in v c ≡ false
most_where_open v e c = none_listed v.sides 0 (best_none (has_more v.polygraph.choices)
    (open_choices v) e) c

pub least_is_open : (v : View) (c : ℕ) → least_edges v ≡ Some c → is_open_in v c ≡ true
least_is_open v c e = listed_open v c (best_listed (has_fewer v.polygraph.choices)
    (open_choices v) c e)

pub least_where_open : (v : View) → least_edges v ≡ None → (c : ℕ) → is_open_in v c ≡ false
least_where_open v e c = none_listed v.sides 0
    (best_none (has_fewer v.polygraph.choices) (open_choices v) e) c

-- ---- the first that passes a test
head_of : (x c : ℕ) (b : Bool) (rest cs : List ℕ) → slice_get (cond b (x ∷ rest) rest) 0 ≡ Some c
    → (slice_get rest 0 ≡ Some c → Listed cs c) → Listed (x ∷ cs) c
head_of x c true rest cs e h = (0, e)
head_of x c false rest cs e h = let l = h e in (suc l.0, l.1)

pub passed_listed : (p : ℕ → Bool) (cs : List ℕ) (c : ℕ) → slice_get (filter p cs) 0 ≡ Some c
    → Listed cs c
passed_listed p [] c e = absurd (cc)
passed_listed p (x ∷ xs) c e = head_of x c (p x) (filter p xs) xs e (passed_listed p xs c)

forced_from : (v : View) (c : ℕ) (o : Option ℕ) → option_or o (most_edges v) ≡ Some c
    → ((d : ℕ) → o ≡ Some d → Listed (open_choices v) d) → is_open_in v c ≡ true
forced_from v c None e h = most_is_open v c e
forced_from v c (Some d) e h = listed_open v c (h c e)

pub forced_is_open : (v : View) (c : ℕ) → forced_or_most v ≡ Some c → is_open_in v c ≡ true
forced_is_open v c e = forced_from v c (first_forced v) e
    (passed_listed (is_forced_in v) (open_choices v))

none_most : (v : View) (o : Option ℕ) → option_or o (most_edges v) ≡ None → most_edges v ≡ None
none_most v None e = e
none_most v (Some d) e = absurd (not_some d e)

pub forced_where_open : (v : View) → forced_or_most v ≡ None → (c : ℕ) → is_open_in v c ≡ false
forced_where_open v e c = most_where_open v (none_most v (first_forced v) e) c

-- ---- a rank
ranked_none : (cs : List ℕ) (w : ℕ) → slice_get cs (w % length cs) ≡ None → slice_get cs 0 ≡ None
ranked_none [] w e = refl
ranked_none (x ∷ xs) w e =
    let some : 0 < length (x ∷ xs) = omega arith in
    let at = slice_get-get_or (x ∷ xs) (w % length (x ∷ xs)) 0
    (mod_below w (length (x ∷ xs)) some) in
    absurd (not_some (get_or (x ∷ xs) (w % length (x ∷ xs)) 0) (sym at ∙ e))

pub word_is_open : (words : List ℕ) (v : View) (c : ℕ) → by_words words v ≡ Some c
    → is_open_in v c ≡ true
word_is_open [] v c e = first_is_open v c e
word_is_open (w ∷ ws) v c e = listed_open v c (word_at (w ∷ ws) v % length (open_choices v), e)

pub word_where_open : (words : List ℕ) (v : View) → by_words words v ≡ None → (c : ℕ)
    → is_open_in v c ≡ false
word_where_open [] v e c = first_where_open v e c
word_where_open (w ∷ ws) v e c = none_listed v.sides 0
    (ranked_none (open_choices v) (word_at (w ∷ ws) v) e) c

-- ---- two in turn
one_or : (P : Option ℕ → Type 0) (b : Bool) (x y : Option ℕ) → P (cond b x y) → P x ⊎ P y
one_or P true x y p = inl p
one_or P false x y p = inr p

pub either_open : (f g : View → Option ℕ) → ((v : View) (c : ℕ) → f v ≡ Some c
    → is_open_in v c ≡ true) → ((v : View) (c : ℕ) → g v ≡ Some c → is_open_in v c ≡ true)
    → (v : View) (c : ℕ) → (if is_even_depth v then f v else g v) ≡ Some c → is_open_in v c ≡ true
either_open f g h k v c e = elim (one_or (λ o. o ≡ Some c) (is_even_depth v) (f v) (g v) e)
    [ inl a ↦ h v c a | inr b ↦ k v c b ]

pub either_where_open : (f g : View → Option ℕ)
    → ((v : View) → f v ≡ None → (c : ℕ) → is_open_in v c ≡ false)
    → ((v : View) → g v ≡ None → (c : ℕ) → is_open_in v c ≡ false)
    → (v : View) → (if is_even_depth v then f v else g v) ≡ None → (c : ℕ) → is_open_in v c ≡ false
either_where_open f g h k v e c = elim (one_or (λ o. o ≡ None) (is_even_depth v) (f v) (g v) e)
    [ inl a ↦ h v a c | inr b ↦ k v b c ]
