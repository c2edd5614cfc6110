-- A propagation that looks at one clause after the other, to its end.
use Rattle.proof_checks.proofs.Prelude.{◌≡◌, ℕ, zero, suc, ◌+◌, ◌<◌, ◌≤◌, Bool, true, false, not, ◌||◌, if◌then◌else◌, List, [], ◌∷◌, ◌++◌, length, take, get_or, Contains, Option, Some, refl, sym, ap, subst, ◌∙◌, ◌⊎◌, inl, inr, arith}
use Rattle.proof_checks.proofs.Prelude.{length-append, add-one, take_all, take-suc, cases_eq, or_cases, or_left, or_right, list_any-append, Contains-append_left, Contains-append_right, Contains-append_cases, Literal, clause_at, is_same}
use Rattle.proof_checks.proofs.Prelude.{is_among, negated, with_literal, IsMadeFalse, assumed, forced, IsImplied, IsLast, IsOpen, IsDone, IsLeft, AreFalse, Keeps, Passes, Visits, Covers, PassesOr, Left}
use Rattle.proof_checks.specs.declared.plain.Left.TheVariants as left
use Rattle.proof_checks.proofs.Propagating.{stands_at, at_stands, within_clauses, twice_negated, alike, self_same}

pub both : (b : Bool) → b ≡ true → b ≡ false → ⊥
both b t f = cc

differ : (l m : Literal) → l ≡ m → is_same l m ≡ false → ⊥
differ l m e f = both (is_same l m) (ap (is_same l) (sym e) ∙ self_same l) f

opposite : (l : Literal) → is_same l (negated l) ≡ false
opposite l = by_test (is_same l (negated l)) refl
  where
    unlike : (b : Bool) → b ≡ not b → ⊥
    unlike true e = cc
    unlike false e = cc

    by_test : (b : Bool) → is_same l (negated l) ≡ b → is_same l (negated l) ≡ false
    by_test true e = absurd (unlike l.positive (ap (λ (m : Literal). m.positive) (alike l (negated l) e)))
    by_test false e = e

-- a literal more at the end
pub more_cases : (ls : List Literal) (x m : Literal) → is_among (ls ++ x ∷ []) m ≡ true → (is_among ls m ≡ true) ⊎ (m ≡ x)
more_cases ls x m h = by_case (or_cases (is_among ls m) (is_same m x || false) (sym (list_any-append (is_same m) ls (x ∷ [])) ∙ h))
  where
    by_case : ((is_among ls m ≡ true) ⊎ ((is_same m x || false) ≡ true)) → (is_among ls m ≡ true) ⊎ (m ≡ x)
    by_case (inl a) = inl a
    by_case (inr b) = elim (or_cases (is_same m x) false b) [ inl s ↦ inr (alike m x s) | inr f ↦ cc ]

pub more_left : (ls : List Literal) (x m : Literal) → is_among ls m ≡ true → is_among (ls ++ x ∷ []) m ≡ true
more_left ls x m h = list_any-append (is_same m) ls (x ∷ []) ∙ or_left (is_among ls m) (is_same m x || false) h

pub more_last : (ls : List Literal) (x : Literal) → is_among (ls ++ x ∷ []) x ≡ true
more_last ls x = list_any-append (is_same x) ls (x ∷ []) ∙ or_right (is_among ls x) (is_same x x || false) (or_left (is_same x x) false (self_same x))

-- a literal more, unless it is there
with_cases : (ls : List Literal) (x m : Literal) → is_among (with_literal ls x) m ≡ true → (is_among ls m ≡ true) ⊎ (m ≡ x)
with_cases ls x m h = by_test (is_among ls x) h
  where
    by_test : (b : Bool) → is_among (ls ++ (if b then [] else x ∷ [])) m ≡ true → (is_among ls m ≡ true) ⊎ (m ≡ x)
    by_test true h = elim (or_cases (is_among ls m) false (sym (list_any-append (is_same m) ls []) ∙ h)) [ inl a ↦ inl a | inr b ↦ cc ]
    by_test false h = more_cases ls x m h

with_left : (ls : List Literal) (x m : Literal) → is_among ls m ≡ true → is_among (with_literal ls x) m ≡ true
with_left ls x m h = by_test (is_among ls x)
  where
    by_test : (b : Bool) → is_among (ls ++ (if b then [] else x ∷ [])) m ≡ true
    by_test true = list_any-append (is_same m) ls [] ∙ or_left (is_among ls m) false h
    by_test false = more_left ls x m h

with_last : (ls : List Literal) (x : Literal) → is_among (with_literal ls x) x ≡ true
with_last ls x = by_test (is_among ls x) refl
  where
    by_test : (b : Bool) → is_among ls x ≡ b → is_among (ls ++ (if b then [] else x ∷ [])) x ≡ true
    by_test true e = list_any-append (is_same x) ls [] ∙ or_left (is_among ls x) false e
    by_test false e = more_last ls x

with_unmarked : (ls : List Literal) (x m : Literal) → is_among ls m ≡ false → (m ≡ x → ⊥) → is_among (with_literal ls x) m ≡ false
with_unmarked ls x m f n = by_test (is_among (with_literal ls x) m) refl
  where
    by_test : (b : Bool) → is_among (with_literal ls x) m ≡ b → is_among (with_literal ls x) m ≡ false
    by_test true e = elim (with_cases ls x m e) [ inl a ↦ absurd (both (is_among ls m) a f) | inr s ↦ absurd (n s) ]
    by_test false e = e

-- what is left of a clause with a literal more
pub left_marked : (marked ds : List Literal) (x : Literal) (l : Left) → IsLeft marked ds l → is_among marked x ≡ true → IsLeft marked (ds ++ x ∷ []) l
left_marked marked ds x left.Nothing h t = λ m a. elim (more_cases ds x m a) [ inl b ↦ h m b | inr e ↦ subst (λ (y : Literal). is_among marked y ≡ true) (sym e) t ]
left_marked marked ds x (left.One y) h t = record {
  stands = more_left ds x y h.stands;
  unmarked = h.unmarked;
  others = λ m a n. elim (more_cases ds x m a) [ inl b ↦ h.others m b n | inr e ↦ subst (λ (y : Literal). is_among marked y ≡ true) (sym e) t ];
}
left_marked marked ds x left.More h t = record {
  one = h.one;
  two = h.two;
  one_stands = more_left ds x h.one h.one_stands;
  two_stands = more_left ds x h.two h.two_stands;
  differ = h.differ;
  one_unmarked = h.one_unmarked;
  two_unmarked = h.two_unmarked;
}

-- one pass after another
keeps_then : (cs : List (Option (List Literal))) (c old now new : List Literal) → Keeps cs c old now → Keeps cs c now new → Keeps cs c old new
keeps_then cs c old now new a b = record { are_false = b.are_false; done = λ d h. b.done d (a.done d h) }

-- the opposite of a last literal is made false
last_keeps : (cs : List (Option (List Literal))) (c old d : List Literal) (l : Literal) (k : ℕ) → clause_at cs k ≡ Some d → AreFalse cs c old → IsLast old d l → Keeps cs c old (with_literal old (negated l))
last_keeps cs c old d l k at a h = record {
  are_false = record {
    assumed = λ m b. lifted m (a.assumed m b);
    made_false = λ m b. elim (with_cases old (negated l) m b) [ inl t ↦ a.made_false m t | inr s ↦ subst (IsMadeFalse cs c) (sym s) made ];
  };
  done = done_before;
}
  where
    lifted : (m : Literal) → is_among old m ≡ true → is_among (with_literal old (negated l)) m ≡ true
    lifted m b = with_left old (negated l) m b

    made : IsMadeFalse cs c (negated l)
    made = forced d (negated l) (stands_at cs k d at) (subst (λ (x : Literal). is_among d x ≡ true) (sym (twice_negated l)) h.stands) (λ m b n. a.made_false m (h.others m b (subst (λ (x : Literal). is_same m x ≡ false) (twice_negated l) n)))

    done_before : (f : List Literal) → IsDone old f → IsDone (with_literal old (negated l)) f
    done_before f g = record {
      last = g.last;
      is_last = record {
        stands = g.is_last.stands;
        unmarked = with_unmarked old (negated l) g.last g.is_last.unmarked (λ s. both (is_among old l) (subst (λ (x : Literal). is_among old x ≡ true) (ap negated s ∙ twice_negated l) g.made_true) h.unmarked);
        others = λ m b n. lifted m (g.is_last.others m b n);
      };
      made_true = lifted (negated g.last) g.made_true;
    }

last_done : (old d : List Literal) (l : Literal) → IsLast old d l → IsDone (with_literal old (negated l)) d
last_done old d l h = record {
  last = l;
  is_last = record {
    stands = h.stands;
    unmarked = with_unmarked old (negated l) l h.unmarked (λ s. differ l (negated l) s (opposite l));
    others = λ m b n. with_left old (negated l) m (h.others m b n);
  };
  made_true = with_last old (negated l);
}

-- a list of one number
one_number : (n k : ℕ) → Contains (n ∷ []) k → k ≡ n
one_number n k (zero, le, e) = sym e
one_number n k (suc i, le, e) = absurd (omega (arith, le))

this_number : (n : ℕ) → Contains (n ∷ []) n
this_number n = (zero, (omega arith), refl)

-- one more clause is done with
passes_done : (cs : List (Option (List Literal))) (c first old new : List Literal) (front before : List ℕ) (n : ℕ) → Keeps cs c old new → ((d : List Literal) → clause_at cs n ≡ Some d → IsDone new d) → Passes cs c first old front before → Passes cs c first new (front ++ n ∷ []) before
passes_done cs c first old new front before n keeps done p = record {
  keeps = keeps_then cs c first old new p.keeps keeps;
  looked = λ k d q h. elim (Contains-append_cases front (n ∷ []) k q) [ inl b ↦ earlier k d b h | inr b ↦ inr (done d (ap (clause_at cs) (sym (one_number n k b)) ∙ h)) ];
  fewer = let le = p.fewer in omega (arith, length-append front (n ∷ []), le);
  quiet = λ s k d q h. absurd (let le = p.fewer in omega (arith, length-append front (n ∷ []), le, s));
}
  where
    earlier : (k : ℕ) (d : List Literal) → Contains front k → clause_at cs k ≡ Some d → Contains before k ⊎ IsDone new d
    earlier k d q h = elim (p.looked k d q h) [ inl b ↦ inl b | inr b ↦ inr (keeps.done d b) ]

-- one more is open
passes_open : (cs : List (Option (List Literal))) (c first old : List Literal) (front before : List ℕ) (n : ℕ) → ((d : List Literal) → clause_at cs n ≡ Some d → IsOpen old d) → Passes cs c first old front before → Passes cs c first old (front ++ n ∷ []) (before ++ n ∷ [])
passes_open cs c first old front before n is_open p = record {
  keeps = p.keeps;
  looked = λ k d q h. elim (Contains-append_cases front (n ∷ []) k q) [ inl b ↦ earlier k d b h | inr b ↦ inl (Contains-append_right before (n ∷ []) k (subst (Contains (n ∷ [])) (sym (one_number n k b)) (this_number n))) ];
  fewer = let le = p.fewer in omega (arith, length-append front (n ∷ []), length-append before (n ∷ []), le);
  quiet = λ s k d q h. let same : length before ≡ length front = omega (arith, length-append front (n ∷ []), length-append before (n ∷ []), s) in
      elim (Contains-append_cases before (n ∷ []) k q) [
        | inl b ↦ p.quiet same k d b h
        | inr b ↦ is_open d (ap (clause_at cs) (sym (one_number n k b)) ∙ h)
      ];
}
  where
    earlier : (k : ℕ) (d : List Literal) → Contains front k → clause_at cs k ≡ Some d → Contains (before ++ n ∷ []) k ⊎ IsDone old d
    earlier k d q h = elim (p.looked k d q h) [ inl b ↦ inl (Contains-append_left before (n ∷ []) k b) | inr b ↦ inr b ]

pub visits_last : (cs : List (Option (List Literal))) (c old new d : List Literal) (l : Literal) (k : ℕ) (before : List ℕ) → clause_at cs k ≡ Some d → AreFalse cs c old → IsLeft old d (left.One l) → new ≡ with_literal old (negated l) → Visits cs c old new k before before false
visits_last cs c old new d l k before at a h e = subst (λ (now : List Literal). Visits cs c old now k before before false) (sym e)
    (λ first front p. passes_done cs c first old (with_literal old (negated l)) front before k (last_keeps cs c old d l k at a h) (λ f g. let same : d ≡ f = cc in subst (IsDone (with_literal old (negated l))) same (last_done old d l h)) p)

pub visits_open : (cs : List (Option (List Literal))) (c old d : List Literal) (k : ℕ) (before kept : List ℕ) → clause_at cs k ≡ Some d → IsLeft old d left.More → kept ≡ before ++ k ∷ [] → Visits cs c old old k before kept false
visits_open cs c old d k before kept at h e = subst (λ (ks : List ℕ). Visits cs c old old k before ks false) (sym e)
    (λ first front p. passes_open cs c first old front before k (λ f g. let same : d ≡ f = cc in subst (IsOpen old) same h) p)

pub visited : (cs : List (Option (List Literal))) (c first old new : List Literal) (numbers before kept : List ℕ) (i n : ℕ) (b : Bool) → i < length numbers → Visits cs c old new (get_or numbers i n) before kept b → b ≡ false → Passes cs c first old (take i numbers) before → Passes cs c first new (take (i + 1) numbers) kept
visited cs c first old new numbers before kept i n true less v e p = cc
visited cs c first old new numbers before kept i n false less v e p = subst (λ (ns : List ℕ). Passes cs c first new ns kept) (sym (rw add-one (take-suc numbers i n less))) (v first (take i numbers) p)

pub pass_closed : (cs : List (Option (List Literal))) (c old new : List Literal) (numbers kept : List ℕ) (b : Bool) → PassesOr cs c old new numbers kept b → b ≡ true → IsImplied cs c
pass_closed cs c old new numbers kept true p e = p
pass_closed cs c old new numbers kept false p e = cc

pub pass_over : (cs : List (Option (List Literal))) (c old new : List Literal) (numbers kept : List ℕ) (b : Bool) → PassesOr cs c old new numbers kept b → b ≡ false → Passes cs c old new numbers kept
pass_over cs c old new numbers kept true p e = cc
pass_over cs c old new numbers kept false p e = p

-- from pass to pass
pub covers_more : (cs : List (Option (List Literal))) (c old new : List Literal) (numbers kept : List ℕ) → Covers cs old numbers → Passes cs c old new numbers kept → Covers cs new kept
covers_more cs c old new numbers kept v p = record {
  each = λ k d h. elim (v.each k d h) [ inl b ↦ p.looked k d b h | inr b ↦ inr (p.keeps.done d b) ];
}

pub covers_all : (cs : List (Option (List Literal))) (marked : List Literal) (numbers : List ℕ) → ((k : ℕ) → k < length cs → Contains numbers k) → Covers cs marked numbers
covers_all cs marked numbers all = record { each = λ k d h. inl (all k (within_clauses cs k d h)) }

-- The end: where each clause is done with or open, and a pass changed nothing, no more is made false.
pub not_implied : (cs : List (Option (List Literal))) (c old marked : List Literal) (numbers kept : List ℕ) → Covers cs old numbers → Passes cs c old marked numbers kept → length kept ≡ length numbers → IsImplied cs c → ⊥
not_implied cs c old marked numbers kept v p same i = wrong
  where
    settled : (d : List Literal) → Contains cs (Some d) → IsOpen marked d ⊎ IsDone marked d
    settled d s = elim ((covers_more cs c old marked numbers kept v p).each s.0 d (at_stands cs d s)) [ inl b ↦ inl (p.quiet same s.0 d b (at_stands cs d s)) | inr b ↦ inr b ]

    marked_by : (d : List Literal) (x : Literal) → IsOpen marked d ⊎ IsDone marked d → ((m : Literal) → is_among d m ≡ true → is_same m x ≡ false → is_among marked m ≡ true) → is_among marked (negated x) ≡ true
    marked_by d x (inl o) others = by_first (is_same o.one x) refl
      where
        by_second : is_same o.one x ≡ true → (b : Bool) → is_same o.two x ≡ b → is_among marked (negated x) ≡ true
        by_second s true t = absurd (differ o.one o.two (alike o.one x s ∙ sym (alike o.two x t)) o.differ)
        by_second s false t = absurd (both (is_among marked o.two) (others o.two o.two_stands t) o.two_unmarked)

        by_first : (b : Bool) → is_same o.one x ≡ b → is_among marked (negated x) ≡ true
        by_first true s = by_second s (is_same o.two x) refl
        by_first false s = absurd (both (is_among marked o.one) (others o.one o.one_stands s) o.one_unmarked)
    marked_by d x (inr o) others = by_test (is_same o.last x) refl
      where
        by_test : (b : Bool) → is_same o.last x ≡ b → is_among marked (negated x) ≡ true
        by_test true s = subst (λ (y : Literal). is_among marked (negated y) ≡ true) (alike o.last x s) o.made_true
        by_test false s = absurd (both (is_among marked o.last) (others o.last o.is_last.stands s) o.is_last.unmarked)

    below : (l : Literal) → IsMadeFalse cs c l → is_among marked l ≡ true
    below _ (assumed l h) = p.keeps.are_false.assumed l h
    below _ (forced d l stands h others) = subst (λ (y : Literal). is_among marked y ≡ true) (twice_negated l) (marked_by d (negated l) (settled d stands) (λ m a n. below m (others m a n)))

    contradicts : (d : List Literal) → IsOpen marked d ⊎ IsDone marked d → ((m : Literal) → is_among d m ≡ true → is_among marked m ≡ true) → ⊥
    contradicts d (inl o) all = both (is_among marked o.one) (all o.one o.one_stands) o.one_unmarked
    contradicts d (inr o) all = both (is_among marked o.last) (all o.last o.is_last.stands) o.is_last.unmarked

    wrong : ⊥
    wrong = contradicts i.clause (settled i.clause i.stands) (λ m a. below m (i.all_false m a))

-- a literal more of a clause, and a number more
pub front_more : (marked clause : List Literal) (i : ℕ) (x : Literal) (l : Left) → i < length clause → IsLeft marked (take i clause ++ get_or clause i x ∷ []) l → IsLeft marked (take (i + 1) clause) l
front_more marked clause i x l less h = subst (λ (ds : List Literal). IsLeft marked ds l) (sym (rw add-one (take-suc clause i x less))) h

pub front_marked : (marked clause : List Literal) (i : ℕ) (x : Literal) (l : Left) → i < length clause → IsLeft marked (take i clause) l → is_among marked (get_or clause i x) ≡ true → IsLeft marked (take (i + 1) clause) l
front_marked marked clause i x l less h t = front_more marked clause i x l less (left_marked marked (take i clause) (get_or clause i x) l h t)

pub front_whole : (marked clause : List Literal) (i : ℕ) (l : Left) → length clause ≤ i → IsLeft marked (take i clause) l → IsLeft marked clause l
front_whole marked clause i l le h = subst (λ (ds : List Literal). IsLeft marked ds l) (take_all i clause le) h

pub number_more : (ns new : List ℕ) (n : ℕ) → ((k : ℕ) → k < n → Contains ns k) → new ≡ ns ++ n ∷ [] → (k : ℕ) → k < n + 1 → Contains new k
number_more ns new n below e k less = subst (λ (xs : List ℕ). Contains xs k) (sym e) (elim (cases_eq k n) [
  | inl s ↦ Contains-append_right ns (n ∷ []) k (subst (Contains (n ∷ [])) (sym s) (this_number n))
  | inr other ↦ Contains-append_left ns (n ∷ []) k (below k (omega (arith, less, other)))
])

-- where nothing was looked at yet
pub itself_false : (cs : List (Option (List Literal))) (m : List Literal) → AreFalse cs m m
itself_false cs m = record { assumed = λ l h. h; made_false = λ l h. assumed l h }

pub starts_false : (cs : List (Option (List Literal))) (c none m : List Literal) → none ≡ [] → m ≡ none ++ c → AreFalse cs c m
starts_false cs c none m e f = subst (AreFalse cs c) (sym (f ∙ ap (λ (ls : List Literal). ls ++ c) e)) (itself_false cs c)
