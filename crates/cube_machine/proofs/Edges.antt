-- The edges of a cube.
use Rattle.cube_machine.proofs.Prelude.{◌≡◌, ◌⊎◌, ◌↔◌, ℕ, zero, suc, ◌+◌, ◌<◌, Bool, true, false, eqb, ◌&&◌, ◌||◌, List, [], ◌∷◌, ◌++◌, length, get_or, take, refl, sym, ap, ◌∙◌, subst, inl, inr, arith, slice_get, option_map_or, Contains}
use Rattle.cube_machine.proofs.Prelude.{false≢true, or_cases, or_left, or_right, eq-eqb, ne_eqb, take_more, or-false, or_assoc, and-or_distrib_right, same_bool, either_way, Edge, Choice, Polygraph, Side, One, Two, edges_of, Sides}
use Rattle.cube_machine.proofs.Prelude.{kept_from, same_side, sides_in, has_edge, edge_in, has_contained, edge_append, Cube, edges_under, kept_edge, side_in, cube_edges}

-- ---- one edge more
pub edge_added : (old now : List Edge) (d e : Edge) → ((x : Edge) → (Contains now x ↔ (Contains old x ⊎ (x ≡ d)))) → has_edge now e ≡ (has_edge old e || has_edge (d ∷ []) e)
edge_added old now d e f =
    same_bool (has_edge now e) (has_edge old e || has_edge (d ∷ []) e)
    (λ t. (elim ((f e).0 (edge_in now e t)) [
      | inl c ↦ or_left (has_edge old e) (has_edge (d ∷ []) e) (has_contained old e c)
      | inr same ↦ or_right (has_edge old e) (has_edge (d ∷ []) e) (has_contained (d ∷ []) e (subst (Contains (d ∷ [])) (sym same) (0, omega arith, refl)))
    ]))
    (λ t. has_contained now e ((f e).1 (elim (or_cases (has_edge old e) (has_edge (d ∷ []) e) t) [
      | inl a ↦ inl (edge_in old e a)
      | inr b ↦ inr (alone (edge_in (d ∷ []) e b))
    ])))
  where
    alone : (k : Contains (d ∷ []) e) → e ≡ d
    alone k = first k.0 k.1 k.2
      where
        first : (k : ℕ) → k < 1 → get_or (d ∷ []) k e ≡ e → e ≡ d
        first zero lt g = sym g
        first (suc k) lt g = absurd (omega (arith, lt))

-- one more of a list
pub edge_more : (old now next : List Edge) (part : List Edge) (k : ℕ) (d : Edge) (u v : ℕ) → k < length part → d ≡ get_or part k d → u ≡ d.0 → v ≡ d.1
    → ((e : Edge) → has_edge now e ≡ (has_edge old e || has_edge (take k part) e)) → ((e : Edge) → (Contains next e ↔ (Contains now e ⊎ (e ≡ (u, v)))))
    → (e : Edge) → has_edge next e ≡ (has_edge old e || has_edge (take (k + 1) part) e)
edge_more old now next part k d u v lt is p q a f e =
    let same : ◌≡◌ {A = Edge} (u, v) (get_or part k d) = (λ i. (p i, q i)) ∙ is in
    edge_added now next (u, v) e f
    ∙ (λ i. a e i || has_edge (same i ∷ []) e)
    ∙ or_assoc (has_edge old e) (has_edge (take k part) e) (has_edge (get_or part k d ∷ []) e)
    ∙ ap (λ b. has_edge old e || b) (sym (edge_append (take k part) (get_or part k d ∷ []) e) ∙ ap (λ l. has_edge l e) (sym (take_more part k d lt)))

-- ---- the way up
-- one side more
pub side_more : (p : Polygraph) (now next whole : List Edge) (at above : Cube) (c : ℕ) (side : Side) → at ≡ (c, side) ∷ above
    → ((e : Edge) → (has_edge now e || has_edge (cube_edges p at) e) ≡ has_edge whole e) → ((e : Edge) → has_edge next e ≡ (has_edge now e || has_edge (side_in p c side) e))
    → (e : Edge) → (has_edge next e || has_edge (cube_edges p above) e) ≡ has_edge whole e
unfolding cube_edges
side_more p now next whole at above c side shape a f e =
    ap (λ b. b || has_edge (cube_edges p above) e) (f e)
    ∙ or_assoc (has_edge now e) (has_edge (side_in p c side) e) (has_edge (cube_edges p above) e)
    ∙ ap (λ b. has_edge now e || b) (sym (edge_append (side_in p c side) (cube_edges p above) e) ∙ ap (λ l. has_edge (cube_edges p l) e) (sym shape))
    ∙ a e

pub sides_all : (p : Polygraph) (now whole : List Edge) (at : Cube) → at ≡ [] → ((e : Edge) → (has_edge now e || has_edge (cube_edges p at) e) ≡ has_edge whole e) → (e : Edge) → has_edge now e ≡ has_edge whole e
unfolding cube_edges
sides_all p now whole at none a e = sym (or-false (has_edge now e)) ∙ ap (λ l. has_edge now e || has_edge (cube_edges p l) e) (sym none) ∙ a e

-- ---- the edges under a cube

kept_either : (f g : Sides) (k : ℕ) (hs : List Choice) (e : Edge) → has_edge (kept_from (λ c s. f c s || g c s) k hs) e ≡ (has_edge (kept_from f k hs) e || has_edge (kept_from g k hs) e)
kept_either f g k [] e = refl
kept_either f g k (h ∷ hs) e =
    let x = has_edge h.one e in let y = has_edge h.two e in
    let F = has_edge (kept_from f (k + 1) hs) e in let G = has_edge (kept_from g (k + 1) hs) e in
    kept_edge (λ c s. f c s || g c s) k h hs e
    ∙ (λ i. (and-or_distrib_right (f k One) (g k One) x i || and-or_distrib_right (f k Two) (g k Two) y i) || kept_either f g (k + 1) hs e i)
    ∙ ap (λ b. b || (F || G)) (either_way (f k One && x) (g k One && x) (f k Two && y) (g k Two && y))
    ∙ either_way ((f k One && x) || (f k Two && y)) ((g k One && x) || (g k Two && y)) F G
    ∙ (λ i. (let a = sym (kept_edge f k h hs e) in a i) || (let b = sym (kept_edge g k h hs e) in b i))

-- one side alone
abbrev alone : ℕ → Side → Sides
alone a b c s = eqb a c && same_side b s

and_off : (a b c : Bool) → a ≡ false → ((a && b) && c) ≡ false
and_off true b c e = absurd (false≢true (sym e))
and_off false b c e = refl

alone_past : (a k : ℕ) (b : Side) (hs : List Choice) (e : Edge) → a < k → has_edge (kept_from (alone a b) k hs) e ≡ false
alone_past a k b [] e lt = refl
alone_past a k b (h ∷ hs) e lt =
    let n : eqb a k ≡ false = ne_eqb a k (omega arith) in
    kept_edge (alone a b) k h hs e
    ∙ (λ i. (and_off (eqb a k) (same_side b One) (has_edge h.one e) n i || and_off (eqb a k) (same_side b Two) (has_edge h.two e) n i) || alone_past a (k + 1) b hs e (omega arith) i)

here_edge : (t : Bool) (b : Side) (h : Choice) (e : Edge) → t ≡ true → (((t && same_side b One) && has_edge h.one e) || ((t && same_side b Two) && has_edge h.two e)) ≡ has_edge (edges_of h b) e
here_edge true One h e t = or-false (has_edge h.one e)
here_edge true Two h e t = refl
here_edge false b h e t = absurd (false≢true t)

abbrev side_at : List Choice → ℕ → Side → List Edge
side_at hs i b = option_map_or (λ h. edges_of h b) (slice_get hs i) []

alone_here : (k i : ℕ) (b : Side) (hs : List Choice) (e : Edge) → has_edge (kept_from (alone (k + i) b) k hs) e ≡ has_edge (side_at hs i b) e
alone_here k i b [] e = refl
alone_here k zero b (h ∷ hs) e =
    kept_edge (alone (k + 0) b) k h hs e
    ∙ (λ j. here_edge (eqb (k + 0) k) b h e (eq-eqb (k + 0) k (omega arith)) j || alone_past (k + 0) (k + 1) b hs e (omega arith) j)
    ∙ or-false (has_edge (edges_of h b) e)
alone_here k (suc i) b (h ∷ hs) e =
    let n : eqb (k + suc i) k ≡ false = ne_eqb (k + suc i) k (omega arith) in
    let z : k + suc i ≡ k + 1 + i = omega arith in
    kept_edge (alone (k + suc i) b) k h hs e
    ∙ (λ j. (and_off (eqb (k + suc i) k) (same_side b One) (has_edge h.one e) n j || and_off (eqb (k + suc i) k) (same_side b Two) (has_edge h.two e) n j) || has_edge (kept_from (alone (z j) b) (k + 1) hs) e)
    ∙ alone_here (k + 1) i b hs e

nothing_kept : (k : ℕ) (hs : List Choice) (e : Edge) → has_edge (kept_from (λ c s. false) k hs) e ≡ false
nothing_kept k [] e = refl
nothing_kept k (h ∷ hs) e = kept_edge (λ c s. false) k h hs e ∙ nothing_kept (k + 1) hs e

cube_kept : (p : Polygraph) (cube : Cube) (e : Edge) → has_edge (kept_from (sides_in cube) 0 p.choices) e ≡ has_edge (cube_edges p cube) e
unfolding cube_edges
cube_kept p [] e = nothing_kept 0 p.choices e
cube_kept p (x ∷ cube) e =
    let z : x.0 ≡ 0 + x.0 = omega arith in
    kept_either (alone x.0 x.1) (sides_in cube) 0 p.choices e
    ∙ (λ i. has_edge (kept_from (alone (z i) x.1) 0 p.choices) e || cube_kept p cube e i)
    ∙ ap (λ b. b || has_edge (cube_edges p cube) e) (alone_here 0 x.0 x.1 p.choices e)
    ∙ sym (edge_append (side_in p x.0 x.1) (cube_edges p cube) e)

pub under_is : (p : Polygraph) (cube : Cube) (e : Edge) → has_edge (p.known ++ cube_edges p cube) e ≡ has_edge (edges_under p cube) e
under_is p cube e =
    edge_append p.known (cube_edges p cube) e
    ∙ ap (λ b. has_edge p.known e || b) (sym (cube_kept p cube e))
    ∙ sym (edge_append p.known (kept_from (sides_in cube) 0 p.choices) e)
