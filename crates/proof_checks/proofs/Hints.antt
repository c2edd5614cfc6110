-- What hints close follows by unit propagation, and what follows so follows.
use Rattle.proof_checks.proofs.Prelude.{◌≡◌, ℕ, zero, suc, ◌+◌, ◌<◌, ◌≤◌, length, take, take_all, get_or, add-one, Bool, true, false, not, ◌||◌, if◌then◌else◌, List, [], ◌∷◌, ◌++◌, Option, Some, None, Result, Ok, Err, IfOk, slice_get, refl}
use Rattle.proof_checks.proofs.Prelude.{sym, ap, subst, ◌∙◌, ◌⊎◌, inl, inr, take-suc, option_map, or_cases, or_left, or_right, Literal, SatisfiesAll, Follows, Entails, value_is, known_false, left_of, with_true, with_false, all_open}
use Rattle.proof_checks.proofs.Prelude.{clause_at, satisfied_at, is_same, is_among, negated, IsMadeFalse, assumed, forced, IsImplied, Standing, Holds, IsFound, IsTaken, EndsAt}
use Rattle.serializability.specs.Formula.{value_of, literal_true, clause_true}
use Rattle.refutation.specs.Hinted.{looked, hinted}
use Rattle.refutation.proofs.Places.{written_cases}
use Rattle.refutation.specs.Steps.{Steps}
use Rattle.proof_checks.proofs.Propagating.{stands_at, at_stands, twice_negated, alike, self_same, implied_more, held_implied, holds_added, holds_same}
use Rattle.proof_checks.proofs.Reaching.{both, more_cases}

-- what is left of a clause
left_cases : (known : List (Option Bool)) (d : List Literal) (m : Literal) → is_among d m ≡ true → (known_false known m ≡ true) ⊎ (is_among (left_of known d) m ≡ true)
left_cases known [] m h = cc
left_cases known (y ∷ d) m h = by_test (left_cases known d m) (known_false known y) refl (or_cases (is_same m y) (is_among d m) h)
  where
    by_test : (is_among d m ≡ true → (known_false known m ≡ true) ⊎ (is_among (left_of known d) m ≡ true)) → (b : Bool) → known_false known y ≡ b → ((is_same m y ≡ true) ⊎ (is_among d m ≡ true)) → (known_false known m ≡ true) ⊎ (is_among (if not b then y ∷ left_of known d else left_of known d) m ≡ true)
    by_test rest true e (inl s) = inl (subst (λ (x : Literal). known_false known x ≡ true) (sym (alike m y s)) e)
    by_test rest true e (inr r) = rest r
    by_test rest false e (inl s) = inr (or_left (is_same m y) (is_among (left_of known d) m) s)
    by_test rest false e (inr r) = elim (rest r) [ inl f ↦ inl f | inr t ↦ inr (or_right (is_same m y) (is_among (left_of known d) m) t) ]

left_stands : (known : List (Option Bool)) (d : List Literal) (m : Literal) → is_among (left_of known d) m ≡ true → is_among d m ≡ true
left_stands known [] m h = cc
left_stands known (y ∷ d) m h = by_test (left_stands known d m) (known_false known y) h
  where
    by_test : (is_among (left_of known d) m ≡ true → is_among d m ≡ true) → (b : Bool) → is_among (if not b then y ∷ left_of known d else left_of known d) m ≡ true → (is_same m y || is_among d m) ≡ true
    by_test rest true h = or_right (is_same m y) (is_among d m) (rest h)
    by_test rest false h = elim (or_cases (is_same m y) (is_among (left_of known d) m) h) [ inl s ↦ or_left (is_same m y) (is_among d m) s | inr r ↦ or_right (is_same m y) (is_among d m) (rest r) ]

-- what is known to be false where a literal more is known to be true
same_sign : (v p : Bool) → value_is (Some (Some v)) (not p) ≡ true → p ≡ not v
same_sign true true h = cc
same_sign true false h = refl
same_sign false true h = refl
same_sign false false h = cc

known_cases : (known : List (Option Bool)) (x m : Literal) → known_false (with_true known x) m ≡ true → (m ≡ negated x) ⊎ (known_false known m ≡ true)
known_cases known x m h = by_value (slice_get (with_true known x) m.variable) refl h
  where
    by_value : (o : Option (Option Bool)) → slice_get (with_true known x) m.variable ≡ o → value_is o (not m.positive) ≡ true → (m ≡ negated x) ⊎ (known_false known m ≡ true)
    by_value None e h = cc
    by_value (Some None) e h = cc
    by_value (Some (Some v)) e h = elim (written_cases known x.variable (Some x.positive) m.variable (Some v) e) [
      | inl p ↦ let value : v ≡ x.positive = cc in
          let sign : m.positive ≡ not x.positive = same_sign v m.positive h ∙ ap not value in
          inl (λ i. record { variable = p.0 i; positive = sign i })
      | inr p ↦ inr (ap (λ o. value_is o (not m.positive)) p.1 ∙ h)
    ]

open_false : (n v : ℕ) (b : Bool) → value_is (slice_get (all_open n) v) b ≡ true → ⊥
open_false zero v b h = cc
open_false (suc n) zero b h = cc
open_false (suc n) (suc v) b h = open_false n v b h

assumed_cases : (c : List Literal) (known : List (Option Bool)) (m : Literal) → known_false (with_false c known) m ≡ true → (known_false known m ≡ true) ⊎ (is_among c m ≡ true)
assumed_cases [] known m h = inl h
assumed_cases (x ∷ c) known m h = elim (assumed_cases c (with_true known (negated x)) m h) [
  | inl f ↦ elim (known_cases known (negated x) m f) [
    | inl s ↦ inr (or_left (is_same m x) (is_among c m) (ap (is_same m) (sym (s ∙ twice_negated x)) ∙ self_same m))
    | inr g ↦ inl g
  ]
  | inr t ↦ inr (or_right (is_same m x) (is_among c m) t)
]

closed_by : (hints : List ℕ) (cs : List (Option (List Literal))) (c : List Literal) (known : List (Option Bool)) → ((m : Literal) → known_false known m ≡ true → IsMadeFalse cs c m) → hinted hints cs known ≡ true → IsImplied cs c
closed_by [] cs c known k h = cc
closed_by (n ∷ hints) cs c known k h = by_clause (closed_by hints cs c) (clause_at cs n) refl h
  where
    others : (d : List Literal) (x m : Literal) → left_of known d ≡ x ∷ [] → is_among d m ≡ true → is_same m x ≡ false → IsMadeFalse cs c m
    others d x m e b n = elim (left_cases known d m b) [
      | inl f ↦ k m f
      | inr t ↦ elim (or_cases (is_same m x) false (ap (λ (ls : List Literal). is_among ls m) (sym e) ∙ t)) [ inl s ↦ absurd (both (is_same m x) s n) | inr w ↦ cc ]
    ]

    made : (d : List Literal) (x : Literal) → clause_at cs n ≡ Some d → left_of known d ≡ x ∷ [] → IsMadeFalse cs c (negated x)
    made d x at e = forced d (negated x) (stands_at cs n d at)
        (subst (λ (y : Literal). is_among d y ≡ true) (sym (twice_negated x)) (left_stands known d x (ap (λ (ls : List Literal). is_among ls x) e ∙ or_left (is_same x x) false (self_same x))))
        (λ m b f. others d x m e b (subst (λ (y : Literal). is_same m y ≡ false) (twice_negated x) f))

    by_left : ((now : List (Option Bool)) → ((m : Literal) → known_false now m ≡ true → IsMadeFalse cs c m) → hinted hints cs now ≡ true → IsImplied cs c) → (d left : List Literal) → clause_at cs n ≡ Some d → left_of known d ≡ left → looked (Some left) (λ l. hinted hints cs (with_true known l)) ≡ true → IsImplied cs c
    by_left rest d [] at e h = record {
      clause = d;
      stands = stands_at cs n d at;
      all_false = λ m b. elim (left_cases known d m b) [ inl f ↦ k m f | inr t ↦ absurd (both (is_among [] m) (ap (λ (ls : List Literal). is_among ls m) (sym e) ∙ t) refl) ];
    }
    by_left rest d (x ∷ []) at e h = rest (with_true known x) (λ m f. elim (known_cases known x m f) [ inl s ↦ subst (IsMadeFalse cs c) (sym s) (made d x at e) | inr g ↦ k m g ]) h
    by_left rest d (x ∷ y ∷ more) at e h = cc

    by_clause : ((now : List (Option Bool)) → ((m : Literal) → known_false now m ≡ true → IsMadeFalse cs c m) → hinted hints cs now ≡ true → IsImplied cs c) → (o : Option (List Literal)) → clause_at cs n ≡ o → looked (option_map (left_of known) o) (λ l. hinted hints cs (with_true known l)) ≡ true → IsImplied cs c
    by_clause rest None e h = cc
    by_clause rest (Some d) e h = by_left rest d (left_of known d) e refl h

pub hinted_implied : (hints : List ℕ) (cs : List (Option (List Literal))) (c : List Literal) (n : ℕ) → hinted hints cs (with_false c (all_open n)) ≡ true → IsImplied cs c
hinted_implied hints cs c n h = closed_by hints cs c (with_false c (all_open n)) (λ m f. elim (assumed_cases c (all_open n) m f) [ inl o ↦ absurd (open_false n m.variable (not m.positive) o) | inr t ↦ assumed m t ]) h

-- what is made false is false
false_among : (values : List Bool) (c : List Literal) (l : Literal) → clause_true values c ≡ false → is_among c l ≡ true → literal_true values l ≡ false
false_among values [] l f h = cc
false_among values (x ∷ c) l f h = by_test (false_among values c l) (literal_true values x) refl f
  where
    by_test : (clause_true values c ≡ false → is_among c l ≡ true → literal_true values l ≡ false) → (b : Bool) → literal_true values x ≡ b → (b || clause_true values c) ≡ false → literal_true values l ≡ false
    by_test rest true e f = cc
    by_test rest false e f = elim (or_cases (is_same l x) (is_among c l) h) [ inl s ↦ ap (literal_true values) (alike l x s) ∙ e | inr r ↦ rest f r ]

none_true : (values : List Bool) (d : List Literal) → ((m : Literal) → is_among d m ≡ true → literal_true values m ≡ false) → clause_true values d ≡ false
none_true values [] h = refl
none_true values (x ∷ d) h =
    ap (λ b. b || clause_true values d) (h x (or_left (is_same x x) (is_among d x) (self_same x)))
    ∙ none_true values d (λ m b. h m (or_right (is_same m x) (is_among d m) b))

sign_false : (p v : Bool) → (if p then v else not v) ≡ true → (if not p then v else not v) ≡ false
sign_false true true h = refl
sign_false true false h = cc
sign_false false true h = cc
sign_false false false h = refl

sign_true : (p v : Bool) → (if not p then v else not v) ≡ false → (if p then v else not v) ≡ true
sign_true true true h = refl
sign_true true false h = cc
sign_true false true h = cc
sign_true false false h = refl

false_so : (cs : List (Option (List Literal))) (c : List Literal) (l : Literal) (values : List Bool) → SatisfiesAll values cs → clause_true values c ≡ false → IsMadeFalse cs c l → literal_true values l ≡ false
false_so cs c _ values all f (assumed l h) = false_among values c l f h
false_so cs c _ values all f (forced d l stands h others) = by_value (λ m a b. false_so cs c m values all f (others m a b)) (literal_true values l) refl
  where
    each : ((m : Literal) → is_among d m ≡ true → is_same m (negated l) ≡ false → literal_true values m ≡ false) → literal_true values l ≡ true → (m : Literal) → is_among d m ≡ true → (b : Bool) → is_same m (negated l) ≡ b → literal_true values m ≡ false
    each rest t m a true s = ap (literal_true values) (alike m (negated l) s) ∙ sign_false l.positive (value_of values l.variable) t
    each rest t m a false s = rest m a s

    by_value : ((m : Literal) → is_among d m ≡ true → is_same m (negated l) ≡ false → literal_true values m ≡ false) → (b : Bool) → literal_true values l ≡ b → literal_true values l ≡ false
    by_value rest false e = e
    by_value rest true e = absurd (both (clause_true values d) (satisfied_at values cs stands.0 d all (at_stands cs d stands)) (none_true values d (λ m a. each rest e m a (is_same m (negated l)) refl)))

pub implied_follows : (cs : List (Option (List Literal))) (c : List Literal) → IsImplied cs c → Follows cs c
implied_follows cs c i = record { each = λ values all. by_value values all (clause_true values c) refl }
  where
    by_value : (values : List Bool) → SatisfiesAll values cs → (b : Bool) → clause_true values c ≡ b → clause_true values c ≡ true
    by_value values all true e = e
    by_value values all false e = absurd (both (clause_true values i.clause) (satisfied_at values cs i.stands.0 i.clause all (at_stands cs i.clause i.stands)) (none_true values i.clause (λ m a. false_so cs c m values all e (i.all_false m a))))

pub root_follows : (cs : List (Option (List Literal))) (l : Literal) → IsMadeFalse cs [] (negated l) → Follows cs (l ∷ [])
root_follows cs l r = record {
  each = λ values all. or_left (literal_true values l) false (sign_true l.positive (value_of values l.variable) (false_so cs [] (negated l) values all refl r));
}

each_more : (values : List Bool) (cs : List (Option (List Literal))) (c : List Literal) → SatisfiesAll values cs → clause_true values c ≡ true → SatisfiesAll values (cs ++ Some c ∷ [])
each_more values [] c all t = (t, tt)
each_more values (d ∷ cs) c all t = (all.0, each_more values cs c all.1 t)

pub entails_added : (cs new : List (Option (List Literal))) (c : List Literal) → new ≡ cs ++ Some c ∷ [] → Follows cs c → Entails cs new
entails_added cs new c e f = record { each = λ values all. subst (SatisfiesAll values) (sym e) (each_more values cs c all (f.each values all)) }

-- a root of a unit clause, and one that a clause forces
pub root_at : (cs : List (Option (List Literal))) (k : ℕ) (l x : Literal) → x ≡ negated l → clause_at cs k ≡ Some (x ∷ []) → IsMadeFalse cs [] l
root_at cs k l x e h = forced (x ∷ []) l (stands_at cs k (x ∷ []) h)
    (or_left (is_same (negated l) x) false (ap (is_same (negated l)) e ∙ self_same (negated l)))
    (λ m a f. elim (or_cases (is_same m x) false a) [ inl s ↦ absurd (both (is_same m x) s (ap (is_same m) e ∙ f)) | inr w ↦ cc ])

pub root_forced : (cs : List (Option (List Literal))) (k : ℕ) (l : Literal) (d : List Literal) → clause_at cs k ≡ Some d → is_among d l ≡ true → ((m : Literal) → is_among d m ≡ true → is_same m l ≡ false → IsMadeFalse cs [] m) → IsMadeFalse cs [] (negated l)
root_forced cs k l d h a others = forced d (negated l) (stands_at cs k d h) (subst (λ (x : Literal). is_among d x ≡ true) (sym (twice_negated l)) a)
    (λ m b f. others m b (subst (λ (x : Literal). is_same m x ≡ false) (twice_negated l) f))

-- a step that hints close, or none
pub found_by : {E : Type 0} (cs : List (Option (List Literal))) (old new : Standing) (c : List Literal) (n : ℕ) (hints : List ℕ) (r : Result Bool E) → Holds cs old.clauses → IfOk r (λ t. Steps old new c t) → IfOk r (λ t. t ≡ hinted hints old.clauses (with_false c (all_open n))) → IfOk r (IsFound cs new.clauses c)
found_by cs old new c n hints (Err e) hs s x = tt
found_by cs old new c n hints (Ok false) hs s x = holds_same cs old.clauses new.clauses hs s
found_by cs old new c n hints (Ok true) hs s x = (held_implied cs old.clauses c hs (hinted_implied hints old.clauses c n (sym x)), holds_added cs old.clauses new.clauses c hs s.stands)

-- a step on which the plain propagation has the word
pub plainly_follows : (held new : List (Option (List Literal))) (c : List Literal) (b : Bool) → EndsAt held c b → b ≡ true → new ≡ held ++ Some c ∷ [] → Entails held new
plainly_follows held new c false h e n = cc
plainly_follows held new c true h e n = entails_added held new c n (implied_follows held c h)

pub plainly_taken : (cs held new : List (Option (List Literal))) (c : List Literal) (b : Bool) → Holds cs held → EndsAt held c b → b ≡ true → new ≡ held ++ Some c ∷ [] → IsTaken cs new c true
plainly_taken cs held new c false hs h e n = cc
plainly_taken cs held new c true hs h e n = (held_implied cs held c hs h, holds_added cs held new c hs n)

pub plainly_not : (cs held new : List (Option (List Literal))) (c : List Literal) (b : Bool) → Holds cs held → EndsAt held c b → b ≡ false → IsTaken cs new c false
plainly_not cs held new c true hs h e = cc
plainly_not cs held new c false hs h e = λ i. h (implied_more cs held c hs.all i)

-- a loop over the literals of a clause that forces a root
pub others_more : (cs : List (Option (List Literal))) (d : List Literal) (l : Literal) (i : ℕ) (x : Literal) → i < length d → ((m : Literal) → is_among (take i d) m ≡ true → is_same m l ≡ false → IsMadeFalse cs [] m) → (is_same (get_or d i x) l ≡ false → IsMadeFalse cs [] (get_or d i x)) → (m : Literal) → is_among (take (i + 1) d) m ≡ true → is_same m l ≡ false → IsMadeFalse cs [] m
others_more cs d l i x less before here m a n = elim (more_cases (take i d) (get_or d i x) m (subst (λ (ds : List Literal). is_among ds m ≡ true) (rw add-one (take-suc d i x less)) a)) [
  | inl b ↦ before m b n
  | inr s ↦ subst (IsMadeFalse cs []) (sym s) (here (subst (λ (y : Literal). is_same y l ≡ false) s n))
]

pub others_whole : (cs : List (Option (List Literal))) (d : List Literal) (l : Literal) (i k : ℕ) (b : Bool) → length d ≤ i → ((m : Literal) → is_among (take i d) m ≡ true → is_same m l ≡ false → IsMadeFalse cs [] m) → clause_at cs k ≡ Some d → b ≡ is_among d l → b ≡ true → IsMadeFalse cs [] (negated l)
others_whole cs d l i k b le before at e t = root_forced cs k l d at (sym e ∙ t) (λ m a n. before m (subst (λ (ds : List Literal). is_among ds m ≡ true) (sym (take_all i d le)) a) n)
