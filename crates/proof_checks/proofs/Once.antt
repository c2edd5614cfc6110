-- Literals that are kept once.
use Rattle.proof_checks.proofs.Prelude.{◌≡◌, ℕ, ◌+◌, ◌*◌, ◌<◌, ◌≤◌, Bool, true, false, not, ◌||◌, eqb, ◌==◌, if◌then◌else◌, List, [], ◌∷◌, ◌++◌, length, filter, take, refl, sym, ap, ◌∙◌, get_or, add-one, append-nil, arith, take_all}
use Rattle.proof_checks.proofs.Prelude.{take-suc, eqb-true, ne_eqb, list_any, list_any_more, filter-append, Literal, code_of, is_same, is_among, with_literal, distinct, negated, is_tautology, is_nil}
use Rattle.list_lemmas.proofs.Comparisons.{eqb_flip}

-- a literal stands among literals as it stands among them without another
among_others : (l m : Literal) (ls : List Literal) → is_same l m ≡ false → is_among (filter (λ k. not (is_same m k)) ls) l ≡ is_among ls l
among_others l m [] h = refl
among_others l m (k ∷ ls) h = by_test (among_others l m ls h) (is_same m k) refl
  where
    by_test : is_among (filter (λ k. not (is_same m k)) ls) l ≡ is_among ls l → (b : Bool) → is_same m k ≡ b → is_among (filter (λ k. not (is_same m k)) (k ∷ ls)) l ≡ is_among (k ∷ ls) l
    by_test rest true e =
        let apart : is_same l k ≡ false = ap (eqb (code_of l)) (sym (eqb-true (code_of m) (code_of k) e)) ∙ h in
        ap (λ b. is_among (if not b then k ∷ filter (λ k. not (is_same m k)) ls else filter (λ k. not (is_same m k)) ls) l) e
        ∙ (rest ∙ sym (ap (λ b. b || is_among ls l) apart))
    by_test rest false e =
        ap (λ b. is_among (if not b then k ∷ filter (λ k. not (is_same m k)) ls else filter (λ k. not (is_same m k)) ls) l) e
        ∙ ap (λ b. is_same l k || b) rest

dropped : (y x : Literal) (b : Bool) → is_same y x ≡ true → filter (λ m. not (is_same y m)) (if b then [] else x ∷ []) ≡ []
dropped y x true e = refl
dropped y x false e = ap (λ b. if not b then x ∷ [] else []) e

kept_on : (y x : Literal) (b : Bool) → is_same y x ≡ false → filter (λ m. not (is_same y m)) (if b then [] else x ∷ []) ≡ (if b then [] else x ∷ [])
kept_on y x true e = refl
kept_on y x false e = ap (λ b. if not b then x ∷ [] else []) e

more_by : (y x : Literal) (ds whole : List Literal) (b : Bool) → is_same y x ≡ b → whole ≡ filter (λ m. not (is_same y m)) ds ++ filter (λ m. not (is_same y m)) (if is_among ds x then [] else x ∷ [])
    → y ∷ whole ≡ y ∷ filter (λ m. not (is_same y m)) ds ++ (if is_same x y || is_among (filter (λ m. not (is_same y m)) ds) x then [] else x ∷ [])
more_by y x ds whole true e w =
    let others : List Literal = filter (λ m. not (is_same y m)) ds in
    let same : is_same x y ≡ true = eqb_flip (code_of x) (code_of y) ∙ e in
    ap (λ (t : List Literal). y ∷ t) (w ∙ ap (λ (t : List Literal). others ++ t) (dropped y x (is_among ds x) e))
    ∙ sym (ap (λ b. y ∷ others ++ (if b || is_among others x then [] else x ∷ [])) same)
more_by y x ds whole false e w =
    let others : List Literal = filter (λ m. not (is_same y m)) ds in
    let apart : is_same x y ≡ false = eqb_flip (code_of x) (code_of y) ∙ e in
    ap (λ (t : List Literal). y ∷ t) (w ∙ ap (λ (t : List Literal). others ++ t) (kept_on y x (is_among ds x) e))
    ∙ (sym (ap (λ b. y ∷ others ++ (if b then [] else x ∷ [])) (among_others x y ds apart))
    ∙ sym (ap (λ b. y ∷ others ++ (if b || is_among others x then [] else x ∷ [])) apart))

distinct_more : (ls : List Literal) (x : Literal) → distinct (ls ++ x ∷ []) ≡ with_literal (distinct ls) x
unfolding distinct
distinct_more [] x = refl
distinct_more (y ∷ ls) x = more_by y x (distinct ls) (filter (λ m. not (is_same y m)) (distinct (ls ++ x ∷ []))) (is_same y x) refl
    (ap (filter (λ m. not (is_same y m))) (distinct_more ls x) ∙ filter-append (λ m. not (is_same y m)) (distinct ls) (if is_among (distinct ls) x then [] else x ∷ []))

-- one literal more
pub kept_more : (kept new ls : List Literal) (i : ℕ) (d : Literal) → i < length ls → kept ≡ distinct (take i ls) → new ≡ with_literal kept (get_or ls i d) → new ≡ distinct (take (i + 1) ls)
kept_more kept new ls i d lt e n =
    n ∙ ap (λ (k : List Literal). with_literal k (get_or ls i d)) e
    ∙ (sym (distinct_more (take i ls) (get_or ls i d)) ∙ sym (ap distinct (rw add-one (take-suc ls i d lt))))

pub none_kept : (kept ls : List Literal) → kept ≡ [] → kept ≡ distinct (take 0 ls)
unfolding distinct
none_kept kept ls e = e

pub nil_kept : (kept ls : List Literal) → kept ≡ distinct ls → (length kept == 0) ≡ is_nil ls
unfolding distinct
nil_kept kept [] e = ap (λ (k : List Literal). length k == 0) e
nil_kept kept (l ∷ ls) e = ne_eqb (length kept) 0 (λ h. let long = ap length e in omega (arith, long, h))

-- a kept literal is marked
pub same_kept : (kept : List Literal) (l : Literal) → is_among kept l ≡ true → kept ≡ with_literal kept l
same_kept kept l t = sym (ap (λ b. kept ++ (if b then [] else l ∷ [])) t ∙ append-nil kept)

pub other_kept : (kept new : List Literal) (l : Literal) → is_among kept l ≡ false → new ≡ kept ++ l ∷ [] → new ≡ with_literal kept l
other_kept kept new l t e = e ∙ sym (ap (λ b. kept ++ (if b then [] else l ∷ [])) t)

-- a test that no literal up to a place passes
pub none_more : (test : Literal → Bool) (ls : List Literal) (i : ℕ) (d : Literal) → i < length ls → list_any test (take i ls) ≡ false → test (get_or ls i d) ≡ false → list_any test (take (i + 1) ls) ≡ false
none_more test ls i d lt before here = list_any_more test ls i d lt ∙ (ap (λ b. b || test (get_or ls i d)) before ∙ here)

pub none_in_all : (test : Literal → Bool) (ls : List Literal) (i : ℕ) → length ls ≤ i → list_any test (take i ls) ≡ false → list_any test ls ≡ false
none_in_all test ls i le before = sym (ap (list_any test) (take_all i ls le)) ∙ before

-- what stands among literals stands among them where each is kept once
pub among_distinct : (ls : List Literal) (x : Literal) → is_among (distinct ls) x ≡ is_among ls x
unfolding distinct
among_distinct [] x = refl
among_distinct (l ∷ ls) x = by_test (among_distinct ls x) (is_same x l) refl
  where
    by_test : is_among (distinct ls) x ≡ is_among ls x → (b : Bool) → is_same x l ≡ b → (is_same x l || is_among (filter (λ m. not (is_same l m)) (distinct ls)) x) ≡ (is_same x l || is_among ls x)
    by_test rest true e = ap (λ b. b || is_among (filter (λ m. not (is_same l m)) (distinct ls)) x) e ∙ sym (ap (λ b. b || is_among ls x) e)
    by_test rest false e = ap (λ b. is_same x l || b) (among_others x l (distinct ls) e ∙ rest)

-- a test that a literal fails passes elsewhere, or not at all
any_others : (test : Literal → Bool) → ((l m : Literal) → is_same l m ≡ true → test l ≡ test m) → (l : Literal) (ms : List Literal) → test l ≡ false → list_any test (filter (λ m. not (is_same l m)) ms) ≡ list_any test ms
any_others test alike l [] e = refl
any_others test alike l (m ∷ ms) e = by_test (any_others test alike l ms e) (is_same l m) refl
  where
    by_test : list_any test (filter (λ m. not (is_same l m)) ms) ≡ list_any test ms → (b : Bool) → is_same l m ≡ b → list_any test (filter (λ m. not (is_same l m)) (m ∷ ms)) ≡ (test m || list_any test ms)
    by_test rest true s =
        ap (λ b. list_any test (if not b then m ∷ filter (λ m. not (is_same l m)) ms else filter (λ m. not (is_same l m)) ms)) s
        ∙ (rest ∙ sym (ap (λ b. b || list_any test ms) (sym (alike l m s) ∙ e)))
    by_test rest false s =
        ap (λ b. list_any test (if not b then m ∷ filter (λ m. not (is_same l m)) ms else filter (λ m. not (is_same l m)) ms)) s
        ∙ ap (λ b. test m || b) rest

any_distinct : (test : Literal → Bool) → ((l m : Literal) → is_same l m ≡ true → test l ≡ test m) → (ls : List Literal) → list_any test (distinct ls) ≡ list_any test ls
unfolding distinct
any_distinct test alike [] = refl
any_distinct test alike (l ∷ ls) = by_test (any_distinct test alike ls) (test l) refl
  where
    by_test : list_any test (distinct ls) ≡ list_any test ls → (b : Bool) → test l ≡ b → (test l || list_any test (filter (λ m. not (is_same l m)) (distinct ls))) ≡ (test l || list_any test ls)
    by_test rest true e = ap (λ b. b || list_any test (filter (λ m. not (is_same l m)) (distinct ls))) e ∙ sym (ap (λ b. b || list_any test ls) e)
    by_test rest false e = ap (λ b. test l || b) (any_others test alike l (distinct ls) e ∙ rest)

pub same_literal : (l m : Literal) → code_of l ≡ code_of m → l ≡ m
same_literal l m e = by_signs l.positive m.positive refl refl
  where
    by_signs : (p q : Bool) → l.positive ≡ p → m.positive ≡ q → l ≡ m
    by_signs true true a b =
        let one : code_of l ≡ 2 * l.variable + 0 = ap (λ p. 2 * l.variable + (if p then 0 else 1)) a in
        let two : code_of m ≡ 2 * m.variable + 0 = ap (λ p. 2 * m.variable + (if p then 0 else 1)) b in
        let v : l.variable ≡ m.variable = omega (arith, e, one, two) in
        let s : l.positive ≡ m.positive = a ∙ sym b in
        λ i. record { variable = v i; positive = s i }
    by_signs true false a b =
        let one : code_of l ≡ 2 * l.variable + 0 = ap (λ p. 2 * l.variable + (if p then 0 else 1)) a in
        let two : code_of m ≡ 2 * m.variable + 1 = ap (λ p. 2 * m.variable + (if p then 0 else 1)) b in
        absurd (omega (arith, e, one, two))
    by_signs false true a b =
        let one : code_of l ≡ 2 * l.variable + 1 = ap (λ p. 2 * l.variable + (if p then 0 else 1)) a in
        let two : code_of m ≡ 2 * m.variable + 0 = ap (λ p. 2 * m.variable + (if p then 0 else 1)) b in
        absurd (omega (arith, e, one, two))
    by_signs false false a b =
        let one : code_of l ≡ 2 * l.variable + 1 = ap (λ p. 2 * l.variable + (if p then 0 else 1)) a in
        let two : code_of m ≡ 2 * m.variable + 1 = ap (λ p. 2 * m.variable + (if p then 0 else 1)) b in
        let v : l.variable ≡ m.variable = omega (arith, e, one, two) in
        let s : l.positive ≡ m.positive = a ∙ sym b in
        λ i. record { variable = v i; positive = s i }

any_where : (f g : Literal → Bool) → ((l : Literal) → f l ≡ g l) → (ls : List Literal) → list_any f ls ≡ list_any g ls
any_where f g e [] = refl
any_where f g e (l ∷ ls) = ap (λ b. b || list_any f ls) (e l) ∙ ap (λ b. g l || b) (any_where f g e ls)

-- so a clause is a tautology where its literals, each once, are one
pub tautology_distinct : (ls : List Literal) → is_tautology (distinct ls) ≡ is_tautology ls
tautology_distinct ls =
    any_distinct (λ l. is_among (distinct ls) (negated l)) (λ l m s. ap (λ (k : Literal). is_among (distinct ls) (negated k)) (same_literal l m (eqb-true (code_of l) (code_of m) s))) ls
    ∙ any_where (λ l. is_among (distinct ls) (negated l)) (λ l. is_among ls (negated l)) (λ l. among_distinct ls (negated l)) ls
