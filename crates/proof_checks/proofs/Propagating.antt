-- What unit propagation makes false.
use Rattle.proof_checks.proofs.Prelude.{◌≡◌, ℕ, zero, suc, ◌<◌, Bool, true, false, not, ◌||◌, List, [], ◌∷◌, ◌++◌, length, Contains, Option, Some, None, slice_get, unwrap_or, refl, sym, ap, subst, ◌∙◌, ◌⊎◌, inl, inr, arith, eqb-true}
use Rattle.proof_checks.proofs.Prelude.{eq-eqb, Contains-append_left, Contains-append_right, Contains-append_cases, Literal, clause_at, code_of, is_same, is_among, negated, IsRoot, Holds, IsMadeFalse, assumed, forced, IsImplied}
use Rattle.std.proofs.lemmas.Option.{slice_get-get_or, slice_get_within, get_or_from_slice_get}
use Rattle.proof_checks.proofs.Once.{same_literal}

-- clauses that stand, by their numbers
pub stands_at : (cs : List (Option (List Literal))) (k : ℕ) (c : List Literal) → clause_at cs k ≡ Some c → Contains cs (Some c)
stands_at cs k c h = by_slot (slice_get cs k) refl h
  where
    by_slot : (o : Option (Option (List Literal))) → slice_get cs k ≡ o → unwrap_or o None ≡ Some c → Contains cs (Some c)
    by_slot None e h = cc
    by_slot (Some s) e h = let stands : slice_get cs k ≡ Some (Some c) = e ∙ ap Some h in
        (k, slice_get_within cs k (Some c) stands, get_or_from_slice_get cs k (Some c) (Some c) stands)

pub within_clauses : (cs : List (Option (List Literal))) (k : ℕ) (c : List Literal) → clause_at cs k ≡ Some c → k < length cs
within_clauses cs k c h = by_slot (slice_get cs k) refl h
  where
    by_slot : (o : Option (Option (List Literal))) → slice_get cs k ≡ o → unwrap_or o None ≡ Some c → k < length cs
    by_slot None e h = cc
    by_slot (Some s) e h = slice_get_within cs k s e

pub at_stands : (cs : List (Option (List Literal))) (c : List Literal) (p : Contains cs (Some c)) → clause_at cs p.0 ≡ Some c
at_stands cs c p = ap (λ o. unwrap_or o None) (slice_get-get_or cs p.0 (Some c) p.1 ∙ ap Some p.2)

pub twice_negated : (l : Literal) → negated (negated l) ≡ l
twice_negated l = by_sign l.positive refl
  where
    by_sign : (b : Bool) → l.positive ≡ b → negated (negated l) ≡ l
    by_sign true e = let s : not (not l.positive) ≡ l.positive = ap (λ b. not (not b)) e ∙ sym e in λ i. record { variable = l.variable; positive = s i }
    by_sign false e = let s : not (not l.positive) ≡ l.positive = ap (λ b. not (not b)) e ∙ sym e in λ i. record { variable = l.variable; positive = s i }

pub alike : (l m : Literal) → is_same l m ≡ true → l ≡ m
alike l m e = same_literal l m (eqb-true (code_of l) (code_of m) e)

pub self_same : (l : Literal) → is_same l l ≡ true
self_same l = eq-eqb (code_of l) (code_of l) refl

-- with more clauses more is made false, and with more literals assumed
pub false_more : (cs ds : List (Option (List Literal))) (c : List Literal) (l : Literal) → ((d : List Literal) → Contains cs (Some d) → Contains ds (Some d)) → IsMadeFalse cs c l → IsMadeFalse ds c l
false_more cs ds c _ more (assumed l h) = assumed l h
false_more cs ds c _ more (forced d l stands h others) = forced d l (more d stands) h (λ m a b. false_more cs ds c m more (others m a b))

pub implied_more : (cs ds : List (Option (List Literal))) (c : List Literal) → ((d : List Literal) → Contains cs (Some d) → Contains ds (Some d)) → IsImplied cs c → IsImplied ds c
implied_more cs ds c more i = record {
  clause = i.clause;
  stands = more i.clause i.stands;
  all_false = λ m h. false_more cs ds c m more (i.all_false m h);
}

pub false_always : (cs : List (Option (List Literal))) (c : List Literal) (l : Literal) → IsMadeFalse cs [] l → IsMadeFalse cs c l
false_always cs c _ (assumed l h) = cc
false_always cs c _ (forced d l stands h others) = forced d l stands h (λ m a b. false_always cs c m (others m a b))

-- roots add nothing
root_false : (cs : List (Option (List Literal))) (d : List Literal) (x l : Literal) (c : List Literal) → d ≡ x ∷ [] → IsMadeFalse cs [] (negated x) → is_among d (negated l) ≡ true → IsMadeFalse cs c l
root_false cs d x l c e r h = by_test (is_same (negated l) x) refl (ap (λ (ms : List Literal). is_among ms (negated l)) (sym e) ∙ h)
  where
    by_test : (b : Bool) → is_same (negated l) x ≡ b → (is_same (negated l) x || false) ≡ true → IsMadeFalse cs c l
    by_test true s t =
        let same : negated x ≡ l = ap negated (sym (alike (negated l) x s)) ∙ twice_negated l in
        subst (IsMadeFalse cs c) same (false_always cs c (negated x) r)
    by_test false s t = cc

pub held_false : (cs held : List (Option (List Literal))) (c : List Literal) (l : Literal) → Holds cs held → IsMadeFalse held c l → IsMadeFalse cs c l
held_false cs held c _ hs (assumed l h) = assumed l h
held_false cs held c _ hs (forced d l stands h others) = by_case (λ m a b. held_false cs held c m hs (others m a b)) (hs.only d stands)
  where
    by_case : ((m : Literal) → is_among d m ≡ true → is_same m (negated l) ≡ false → IsMadeFalse cs c m) → (Contains cs (Some d) ⊎ IsRoot cs d) → IsMadeFalse cs c l
    by_case rest (inl there) = forced d l there h rest
    by_case rest (inr root) = root_false cs d root.literal l c root.unit root.made_true h

-- where a literal is false whatever is assumed, and so is its opposite here, a clause has no literal left
clash : (cs : List (Option (List Literal))) (c : List Literal) (x : Literal) → IsMadeFalse cs [] (negated x) → IsMadeFalse cs c x → IsImplied cs c
clash cs c x (assumed y h) now = cc
clash cs c x (forced d y stands h others) now = record { clause = d; stands = stands; all_false = each }
  where
    by_test : (m : Literal) → is_among d m ≡ true → (b : Bool) → is_same m (negated (negated x)) ≡ b → IsMadeFalse cs c m
    by_test m a true s = subst (IsMadeFalse cs c) (sym (alike m (negated (negated x)) s ∙ twice_negated x)) now
    by_test m a false s = false_always cs c m (others m a s)

    each : (m : Literal) → is_among d m ≡ true → IsMadeFalse cs c m
    each m a = by_test m a (is_same m (negated (negated x))) refl

pub held_implied : (cs held : List (Option (List Literal))) (c : List Literal) → Holds cs held → IsImplied held c → IsImplied cs c
held_implied cs held c hs i = by_case (hs.only i.clause i.stands)
  where
    by_case : (Contains cs (Some i.clause) ⊎ IsRoot cs i.clause) → IsImplied cs c
    by_case (inl there) = record { clause = i.clause; stands = there; all_false = λ m h. held_false cs held c m hs (i.all_false m h) }
    by_case (inr root) =
        let has : is_among i.clause root.literal ≡ true =
        ap (λ (ms : List Literal). is_among ms root.literal) root.unit ∙ ap (λ b. b || false) (self_same root.literal) in
        clash cs c root.literal root.made_true (held_false cs held c root.literal hs (i.all_false root.literal has))

-- a clause or a root more
pub holds_added : (cs held new : List (Option (List Literal))) (c : List Literal) → Holds cs held → new ≡ held ++ Some c ∷ [] → Holds (cs ++ Some c ∷ []) new
holds_added cs held new c hs e = subst (Holds (cs ++ Some c ∷ [])) (sym e) (record { all = all; only = only })
  where
    all : (d : List Literal) → Contains (cs ++ Some c ∷ []) (Some d) → Contains (held ++ Some c ∷ []) (Some d)
    all d p = elim (Contains-append_cases cs (Some c ∷ []) (Some d) p) [
      | inl before ↦ Contains-append_left held (Some c ∷ []) (Some d) (hs.all d before)
      | inr last ↦ Contains-append_right held (Some c ∷ []) (Some d) last
    ]

    root_more : (d : List Literal) → IsRoot cs d → IsRoot (cs ++ Some c ∷ []) d
    root_more d r = record {
      literal = r.literal;
      unit = r.unit;
      made_true = false_more cs (cs ++ Some c ∷ []) [] (negated r.literal) (λ d p. Contains-append_left cs (Some c ∷ []) (Some d) p) r.made_true;
    }

    by_case : (d : List Literal) → (Contains cs (Some d) ⊎ IsRoot cs d) → Contains (cs ++ Some c ∷ []) (Some d) ⊎ IsRoot (cs ++ Some c ∷ []) d
    by_case d (inl there) = inl (Contains-append_left cs (Some c ∷ []) (Some d) there)
    by_case d (inr root) = inr (root_more d root)

    only : (d : List Literal) → Contains (held ++ Some c ∷ []) (Some d) → Contains (cs ++ Some c ∷ []) (Some d) ⊎ IsRoot (cs ++ Some c ∷ []) d
    only d p = elim (Contains-append_cases held (Some c ∷ []) (Some d) p) [
      | inl before ↦ by_case d (hs.only d before)
      | inr last ↦ inl (Contains-append_right cs (Some c ∷ []) (Some d) last)
    ]

alone : (c d : List Literal) → Contains (Some c ∷ []) (Some d) → d ≡ c
alone c d (zero, le, e) = let same : Some c ≡ Some d = e in cc
alone c d (suc k, le, e) = absurd (omega (arith, le))

pub holds_root : (cs held new : List (Option (List Literal))) (l : Literal) → Holds cs held → new ≡ held ++ Some (l ∷ []) ∷ [] → IsMadeFalse held [] (negated l) → Holds cs new
holds_root cs held new l hs e r = subst (Holds cs) (sym e) (record { all = λ d p. Contains-append_left held (Some (l ∷ []) ∷ []) (Some d) (hs.all d p); only = only })
  where
    only : (d : List Literal) → Contains (held ++ Some (l ∷ []) ∷ []) (Some d) → Contains cs (Some d) ⊎ IsRoot cs d
    only d p = elim (Contains-append_cases held (Some (l ∷ []) ∷ []) (Some d) p) [
      | inl before ↦ hs.only d before
      | inr last ↦ inr (record { literal = l; unit = alone (l ∷ []) d last; made_true = held_false cs held [] (negated l) hs r })
    ]

pub holds_same : (cs held new : List (Option (List Literal))) → Holds cs held → new ≡ held → Holds cs new
holds_same cs held new hs e = subst (Holds cs) (sym e) hs

pub holds_itself : (cs : List (Option (List Literal))) → Holds cs cs
holds_itself cs = record { all = λ d p. p; only = λ d p. inl p }
