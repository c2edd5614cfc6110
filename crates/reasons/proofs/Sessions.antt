-- Lines of nodes of which each run of one session is told by its ends.
use Rattle.reasons.proofs.Prelude.{◌≡◌, ℕ, zero, suc, ◌+◌, ◌<◌, true, List, [], ◌∷◌, ◌++◌, length, get_or, refl, ap, ◌∙◌, arith, eqb, eqb-true, nat_lt, and_parts, cond_both, ltb-true, ClientSession, session_of, IsNode, AreOfSession}
use Rattle.reasons.proofs.Prelude.{is_behind, goes_on, is_between, told_behind, without_runs}

-- ---- of one session
pub of_session : (ss : List ClientSession) (a b : ℕ) → IsNode ss a → IsNode ss b → is_behind ss a b ≡ true → AreOfSession ss a b
of_session ss a b first second t =
    let parts = and_parts (nat_lt a b) (eqb (session_of ss a) (session_of ss b)) t in
    record {
      first = first;
      second = second;
      order = ltb-true a b parts.0;
      session = eqb-true (session_of ss a) (session_of ss b) parts.1;
    }

pub ends_of_session : (ss : List ClientSession) (a b c : ℕ) → IsNode ss a → IsNode ss b → IsNode ss c → goes_on ss a b c ≡ true → AreOfSession ss a c
ends_of_session ss a b c one two three t =
    let parts = and_parts (is_behind ss a b) (is_behind ss b c) t in
    let h = of_session ss a b one two parts.0 in
    let g = of_session ss b c two three parts.1 in
    record { first = one; second = three; order = omega (arith, h.order, g.order); session = h.session ∙ g.session }

-- ---- the line that is told
module _ (ss : List ClientSession) where
  module _ (P : ℕ → ℕ → Type 0) (join : (a b c : ℕ) → P a b → P b c → goes_on ss a b c ≡ true → P a c) where
    abbrev pub Steps : List ℕ → Type 0
    Steps line = (i : ℕ) → i + 1 < length line → P (get_or line i 0) (get_or line (i + 1) 0)

    steps_more : (a b : ℕ) (rest : List ℕ) → P a b → Steps (b ∷ rest) → Steps (a ∷ b ∷ rest)
    steps_more a b rest p h zero lt = p
    steps_more a b rest p h (suc i) lt = grind (arith, h i)

    steps_after : (a : ℕ) (rest : List ℕ) → Steps (a ∷ rest) → Steps rest
    steps_after a rest h i lt = grind (arith, h (suc i))

    steps_behind : (a : ℕ) (rest : List ℕ) → Steps (a ∷ rest) → Steps (a ∷ told_behind ss a rest)
    unfolding told_behind
    steps_behind a [] h = h
    steps_behind a (b ∷ []) h = h
    steps_behind a (b ∷ c ∷ rest) h =
        let after = steps_after a (b ∷ c ∷ rest) h in
        let first : P a b = h 0 (omega arith) in
        cond_both (goes_on ss a b c) (told_behind ss a (c ∷ rest)) (b ∷ told_behind ss b (c ∷ rest)) (λ l. Steps (a ∷ l))
        (λ t. steps_behind a (c ∷ rest) (steps_more a c rest (join a b c first (after 0 (omega arith)) t) (steps_after b (c ∷ rest) after)))
        (λ f. steps_more a b (told_behind ss b (c ∷ rest)) first (steps_behind b (c ∷ rest) after))

    pub runs_each : (line : List ℕ) → Steps line → Steps (without_runs ss line)
    runs_each [] h = h
    runs_each (a ∷ rest) h = steps_behind a rest h

  pub runs_some : (line : List ℕ) → 0 < length line → 0 < length (without_runs ss line)
  runs_some [] lt = lt
  runs_some (a ∷ rest) lt = omega arith

  -- ---- its ends
  abbrev pub LeadsTo : ℕ → ℕ → List ℕ → Type 0
  LeadsTo u v line = (inner : List ℕ) × (line ≡ u ∷ (inner ++ v ∷ []))

  ends_behind : (a v : ℕ) (inner : List ℕ) → (front : List ℕ) × (told_behind ss a (inner ++ v ∷ []) ≡ front ++ v ∷ [])
  unfolding told_behind
  ends_behind a v [] = ([], refl)
  ends_behind a v (b ∷ inner) =
      cond_both (is_between ss a b (inner ++ v ∷ [])) (told_behind ss a (inner ++ v ∷ [])) (b ∷ told_behind ss b (inner ++ v ∷ [])) (λ l. (front : List ℕ) × (l ≡ front ++ v ∷ []))
      (λ t. ends_behind a v inner)
      (λ f. (let r = ends_behind b v inner in (b ∷ r.0, ap (λ l. b ∷ l) r.1)))

  pub runs_ends : (u v : ℕ) (inner : List ℕ) → LeadsTo u v (without_runs ss (u ∷ (inner ++ v ∷ [])))
  runs_ends u v inner = let r = ends_behind u v inner in (r.0, ap (λ l. u ∷ l) r.1)
