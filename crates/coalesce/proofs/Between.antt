-- The choices between chains, by key.
use Rattle.coalesce.proofs.Prelude.{◌≡◌, ℕ, zero, suc, ◌+◌, ◌-◌, ◌≤◌, List, [], ◌∷◌, ◌++◌, length, refl, sym, ap, ◌∙◌, subst, arith, length-append, true, map, flat_map, AllByRecursion, map-append, length-map, Log, pairs_of, Edge, Choice}
use Rattle.coalesce.proofs.Prelude.{committed, each_from_range, each_from_filter, each_from_map, heads, is_head, chain_first, edges_to, chain_choice, ChainView, chain_from, chains_in, Joins, before, between, among}
use Rattle.coalesce.proofs.Joined.{initial_joined}

-- ---- the choices of a key
abbrev pub of_key : Log → ℕ → List Choice
of_key log x = map (chain_choice log x) (pairs_of (heads log x))

with_each : (log : Log) (x a : ℕ) (hs : List ℕ) → map (between (chain_from log x a)) (map (chain_from log x) hs) ≡ map (chain_choice log x) (map (λ b. (a, b)) hs)
with_each log x a [] = refl
with_each log x a (b ∷ hs) = ap (λ l. chain_choice log x (a, b) ∷ l) (with_each log x a hs)

among_heads : (log : Log) (x : ℕ) (hs : List ℕ) → among (map (chain_from log x) hs) ≡ map (chain_choice log x) (pairs_of hs)
among_heads log x [] = refl
among_heads log x (a ∷ hs) =
    ap (λ l. l ++ among (map (chain_from log x) hs)) (with_each log x a hs)
    ∙ ap (λ l. map (chain_choice log x) (map (λ b. (a, b)) hs) ++ l) (among_heads log x hs)
    ∙ sym (map-append (chain_choice log x) (map (λ b. (a, b)) hs) (pairs_of hs))

pub among_key : (log : Log) (x : ℕ) (views : List ChainView) → views ≡ chains_in log x → among views ≡ of_key log x
among_key log x views e = ap among e ∙ among_heads log x (heads log x)

-- ---- how many
abbrev pub triangle : ℕ → ℕ
triangle zero = 0
triangle (suc m) = triangle m + m

pub triangle_more : (m : ℕ) → triangle (m + 1) ≡ triangle m + m
triangle_more m = let e : m + 1 ≡ suc m = omega arith in ap triangle e

triangle_up : (m d : ℕ) → triangle m ≤ triangle (m + d)
triangle_up m zero = let e : m + 0 ≡ m = omega arith in subst (λ k. triangle m ≤ triangle k) (sym e) (omega arith)
triangle_up m (suc d) =
    let e : m + suc d ≡ (m + d) + 1 = omega arith in
    subst (λ k. triangle m ≤ triangle k) (sym e) (omega (arith, triangle_up m d, triangle_more (m + d)))

pub triangle_le : (m n : ℕ) → m ≤ n → triangle m ≤ triangle n
triangle_le m n h = let e : m + (n - m) ≡ n = omega arith in subst (λ k. triangle m ≤ triangle k) e (triangle_up m (n - m))

pairs_number : (xs : List ℕ) → length (pairs_of xs) ≡ triangle (length xs)
pairs_number [] = refl
pairs_number (a ∷ xs) =
    let with_first : ℕ → (ℕ × ℕ) = λ b. (a, b) in
    omega (arith, length-append (map with_first xs) (pairs_of xs), length-map xs with_first, pairs_number xs)

pub key_number : (log : Log) (x : ℕ) (views : List ChainView) → views ≡ chains_in log x → length (of_key log x) ≡ triangle (length views)
key_number log x views e =
    let many : length (heads log x) ≡ length views = sym (ap length e ∙ length-map (heads log x) (chain_from log x)) in
    length-map (pairs_of (heads log x)) (chain_choice log x) ∙ pairs_number (heads log x) ∙ ap triangle many

-- ---- the initial chain first
abbrev pub first_of_key : Log → ℕ → List Edge
first_of_key log x = flat_map (chain_first log x 0) (heads log x)

first_heads : (log : Log) (x : ℕ) (hs : List ℕ) → flat_map (before (chain_from log x 0)) (map (chain_from log x) hs) ≡ flat_map (chain_first log x 0) hs
first_heads log x [] = refl
first_heads log x (h ∷ hs) = ap (λ l. chain_first log x 0 h ++ l) (first_heads log x hs)

pub first_key : (log : Log) (x : ℕ) (initial : ChainView) (views : List ChainView) → initial ≡ chain_from log x 0 → views ≡ chains_in log x → flat_map (before initial) views ≡ first_of_key log x
first_key log x initial views i e = ap (λ c. flat_map (before c) views) i ∙ ap (flat_map (before (chain_from log x 0))) e ∙ first_heads log x (heads log x)

pub first_key_joined : (log : Log) (x n : ℕ) (initial : ChainView) (views : List ChainView) → n ≡ log.nodes → initial ≡ chain_from log x 0 → views ≡ chains_in log x → AllByRecursion (λ v. AllByRecursion (Joins n) (before initial v)) views
first_key_joined log x n initial views nodes i e =
    let P : ℕ → ChainView → ChainView → Type 0 = λ k c v. AllByRecursion (Joins k) (before c v) in
    subst (λ k. AllByRecursion (P k initial) views) (sym nodes)
    (subst (λ c. AllByRecursion (P log.nodes c) views) (sym i)
    (subst (AllByRecursion (P log.nodes (chain_from log x 0))) (sym e)
    (each_from_map (P log.nodes (chain_from log x 0)) (chain_from log x) (heads log x)
    (each_from_filter (λ h. P log.nodes (chain_from log x 0) (chain_from log x h)) (is_head log x) (committed log)
    (each_from_range (λ h. is_head log x h ≡ true → P log.nodes (chain_from log x 0) (chain_from log x h)) 1 log.nodes
    (λ h lo hi p. initial_joined log x h (omega arith) (omega arith) p))))))

-- ---- from each reader, or from the last writer
pub no_readers : (t b : ℕ) (rs : List ℕ) → length rs ≡ 0 → edges_to t b rs ≡ (t, b) ∷ []
no_readers t b [] e = refl
no_readers t b (r ∷ rs) e = absurd (omega (arith, e))
