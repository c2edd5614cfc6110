-- Where sessions have different numbers, the nodes of a session lie together.
use Rattle.log_definitions.proofs.Prelude.{◌≡◌, ℕ, zero, suc, ◌<◌, ◌≤◌, List, [], ◌∷◌, ◌++◌, length, get_or, refl, sym, ap, ◌∙◌, subst, arith, inl, inr, unwrap_or, Option, Some, None, map, slice_get, filter, flat_map, enumerate_from}
use Rattle.log_definitions.proofs.Prelude.{AllByRecursion, option_map, option_map_or, map-append, slice_get-map, unwrap_or-slice_get, ClientSession, Transaction, Has, Apart, Has-append_cases, length_mapped, is_committed, resolved}
use Rattle.log_definitions.proofs.Prelude.{Committed, committed_of, committed_in, node_of, session_of}
use Rattle.log_definitions.proofs.Settled.{numbers_resolved}

-- ---- lists of numbers whose equal elements lie together
abbrev Grouped : List ℕ → Type 0
Grouped xs = (i j k : ℕ) → i ≤ j → j ≤ k → k < length xs → get_or xs i 0 ≡ get_or xs k 0 → get_or xs j 0 ≡ get_or xs k 0

Has_at : (n : ℕ) (xs : List ℕ) (k : ℕ) → k < length xs → get_or xs k 0 ≡ n → Has n xs
Has_at n [] k h e = absurd (omega arith)
Has_at n (x ∷ xs) zero h e = inl e
Has_at n (x ∷ xs) (suc k) h e = inr (Has_at n xs k (omega arith) e)

-- all before one of a group at the front are of that group
in_front : (n : ℕ) (xs ys : List ℕ) (j k : ℕ) → AllByRecursion (λ x. x ≡ n) xs → (Has n ys → ⊥) → j ≤ k → k < length (xs ++ ys) → get_or (xs ++ ys) k 0 ≡ n → get_or (xs ++ ys) j 0 ≡ n
in_front n [] ys j k h absent le lt e = absurd (absent (Has_at n ys k lt e))
in_front n (x ∷ xs) ys zero k h absent le lt e = h.0
in_front n (x ∷ xs) ys (suc j) zero h absent le lt e = absurd (omega arith)
in_front n (x ∷ xs) ys (suc j) (suc k) h absent le lt e = in_front n xs ys j k h.1 absent (omega arith) (omega arith) e

Grouped-append : (n : ℕ) (xs ys : List ℕ) → AllByRecursion (λ x. x ≡ n) xs → (Has n ys → ⊥) → Grouped ys → Grouped (xs ++ ys)
Grouped-append n [] ys h absent g i j k ij jk lt e = g i j k ij jk lt e
Grouped-append n (x ∷ xs) ys h absent g zero j k ij jk lt e =
    let last : get_or (x ∷ (xs ++ ys)) k 0 ≡ n = sym e ∙ h.0 in
    in_front n (x ∷ xs) ys j k h absent jk lt last ∙ sym last
Grouped-append n (x ∷ xs) ys h absent g (suc i) zero k ij jk lt e = absurd (omega arith)
Grouped-append n (x ∷ xs) ys h absent g (suc i) (suc j) zero ij jk lt e = absurd (omega arith)
Grouped-append n (x ∷ xs) ys h absent g (suc i) (suc j) (suc k) ij jk lt e =
    Grouped-append n xs ys h.1 absent g i j k (omega arith) (omega arith) (omega arith) e

-- ---- the sessions of the nodes
abbrev session_numbers : List Committed → List ℕ
session_numbers nodes = map (λ (c : Committed). c.session) nodes

all_of_session : (number : ℕ) (ts : List (ℕ × Transaction)) → AllByRecursion (λ n. n ≡ number) (session_numbers (map (λ (p : ℕ × Transaction). record { session = number; place = p.0; ops = p.1.ops; begun = p.1.begun; ended = p.1.ended }) ts))
all_of_session number [] = tt
all_of_session number (t ∷ ts) = (refl, all_of_session number ts)

committed_numbers : (s : ClientSession) → AllByRecursion (λ n. n ≡ s.number) (session_numbers (committed_of s))
committed_numbers s = all_of_session s.number (filter (λ (p : ℕ × Transaction). is_committed p.1) (enumerate_from 1 s.txns))

of_group : (number n : ℕ) (xs : List ℕ) → AllByRecursion (λ x. x ≡ number) xs → Has n xs → number ≡ n
of_group number n [] h k = absurd k
of_group number n (x ∷ xs) h (inl e) = sym h.0 ∙ e
of_group number n (x ∷ xs) h (inr k) = of_group number n xs h.1 k

abbrev node_numbers : List ClientSession → List ℕ
node_numbers ss = session_numbers (flat_map committed_of ss)

numbers-cons : (s : ClientSession) (ss : List ClientSession) → node_numbers (s ∷ ss) ≡ session_numbers (committed_of s) ++ node_numbers ss
numbers-cons s ss = map-append (λ (c : Committed). c.session) (committed_of s) (flat_map committed_of ss)

a_session : (n : ℕ) (ss : List ClientSession) → Has n (node_numbers ss) → Has n (map (λ s. s.number) ss)
a_session n [] h = h
a_session n (s ∷ ss) h = elim (Has-append_cases n (session_numbers (committed_of s)) (node_numbers ss) (subst (Has n) (numbers-cons s ss) h)) [
  | inl k ↦ inl (of_group s.number n (session_numbers (committed_of s)) (committed_numbers s) k)
  | inr k ↦ inr (a_session n ss k)
]

each_grouped : (ss : List ClientSession) → Apart (map (λ s. s.number) ss) → Grouped (node_numbers ss)
each_grouped [] h = λ i j k ij jk lt e. absurd (omega arith)
each_grouped (s ∷ ss) h =
    subst Grouped (sym (numbers-cons s ss)) (Grouped-append s.number (session_numbers (committed_of s)) (node_numbers ss) (committed_numbers s) (λ k. h.0 (a_session s.number ss k)) (each_grouped ss h.1))

grouped : (ss : List ClientSession) → Apart (map (λ s. s.number) ss) → Grouped (session_numbers (committed_in ss))
unfolding committed_in
grouped ss h = each_grouped (resolved ss) (subst Apart (sym (numbers_resolved ss)) h)

map_or-unwrap : {A : Type 0} (f : A → ℕ) (o : Option A) → option_map_or f o 0 ≡ unwrap_or (option_map f o) 0
map_or-unwrap f None = refl
map_or-unwrap f (Some a) = refl

session_at : (ss : List ClientSession) (i : ℕ) → session_of ss (suc i) ≡ get_or (session_numbers (committed_in ss)) i 0
unfolding node_of
session_at ss i =
    map_or-unwrap (λ (c : Committed). c.session) (slice_get (committed_in ss) i)
    ∙ ap (λ o. unwrap_or o 0) (sym (slice_get-map (λ (c : Committed). c.session) (committed_in ss) i))
    ∙ unwrap_or-slice_get (session_numbers (committed_in ss)) i 0

pub together : (ss : List ClientSession) → Apart (map (λ s. s.number) ss) → (a b c : ℕ) → 0 < a → a ≤ b → b ≤ c → c ≤ length (committed_in ss) → session_of ss a ≡ session_of ss c → session_of ss b ≡ session_of ss c
together ss h zero b c lo ab bc hi e = absurd (omega arith)
together ss h (suc a) zero c lo ab bc hi e = absurd (omega arith)
together ss h (suc a) (suc b) zero lo ab bc hi e = absurd (omega arith)
together ss h (suc a) (suc b) (suc c) lo ab bc hi e =
    let count = length_mapped (λ (n : Committed). n.session) (committed_in ss) in
    session_at ss b ∙ grouped ss h a b c (omega arith) (omega arith) (omega (arith, count, hi)) (sym (session_at ss a) ∙ e ∙ session_at ss c) ∙ sym (session_at ss c)
