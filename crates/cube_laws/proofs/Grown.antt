-- What every list of steps keeps.
use Rattle.cube_laws.proofs.Prelude.{◌≡◌, ℕ, zero, suc, ◌+◌, ◌-◌, ◌*◌, ◌^◌, ◌<◌, ◌≤◌, Bool, true, false, cond, eqb, ◌||◌, not, List, [], ◌∷◌, ◌++◌, length, map, Some, refl, sym, ap, ◌∙◌, subst, inl, inr, arith, pow-suc, slice_get}
use Rattle.cube_laws.proofs.Prelude.{slice_set, AllByRecursion, false≢true, and_parts, or_parts, or_cases, or_left, or_right, not-true, ltb-true, eqb-false, eq-eqb, same_Some, Polygraph, Has, Apart, each_from_append, IsDistinct-from_Apart}
use Rattle.cube_laws.proofs.Prelude.{Has-from_any, Side, One, Two, Entry, replay, Cube, is_decided, Node, State, opening_state, is_open, is_solved, is_held_by, is_held, has_solved, has_live, is_finished, is_choice, can_split, child}
use Rattle.cube_laws.proofs.Prelude.{next_of, CubeState, Open, Held, Split as Divided, Refuted, Solved as Ended, CubeEvent, CubeReply}
use Rattle.std.proofs.lemmas.Map.Steps.{length-le_from_distinct_below}
use Rattle.pruning_laws.specs.Ledger.{Entry as Decision}
use Rattle.cube_laws.proofs.Nodes.{none-some, length_set, length_two, each_at, each_set, any_at, any_kept}
use Rattle.cube_laws.proofs.Ways.{marked, noted, counted, divided, ways}

-- ---- marks
pub is_split : CubeState → Bool
is_split Open = false
is_split (Held seat) = false
is_split (Divided c) = true
is_split Refuted = false
is_split Ended = false

pub open_unsplit : (m : CubeState) → is_open m ≡ true → is_split m ≡ false
unfolding is_split
open_unsplit Open e = refl
open_unsplit (Held seat) e = refl
open_unsplit (Divided c) e = absurd (false≢true e)
open_unsplit Refuted e = refl
open_unsplit Ended e = refl

pub held_unsplit : (seat : ℕ) (m : CubeState) → is_held_by seat m ≡ true → is_split m ≡ false
unfolding is_split
held_unsplit seat Open e = refl
held_unsplit seat (Held other) e = refl
held_unsplit seat (Divided c) e = absurd (false≢true e)
held_unsplit seat Refuted e = refl
held_unsplit seat Ended e = refl

pub held_unsolved : (seat : ℕ) (m : CubeState) → is_held_by seat m ≡ true → is_solved m ≡ false
held_unsolved seat Open e = refl
held_unsolved seat (Held other) e = refl
held_unsolved seat (Divided c) e = refl
held_unsolved seat Refuted e = refl
held_unsolved seat Ended e = absurd (false≢true e)

pub held_live : (seat : ℕ) (m : CubeState) → is_held_by seat m ≡ true → (is_open m || is_held m) ≡ true
held_live seat Open e = refl
held_live seat (Held other) e = refl
held_live seat (Divided c) e = absurd (false≢true e)
held_live seat Refuted e = absurd (false≢true e)
held_live seat Ended e = absurd (false≢true e)

-- ---- cubes
abbrev pub choices_of : Cube → List ℕ
choices_of cube = map (λ (e : Decision). e.0) cube

-- the cube decides distinct choices, below m
pub record IsCube (m : ℕ) (cube : Cube) : Type 0 where
  pub apart : Apart (choices_of cube)
  pub below : (c : ℕ) → Has c (choices_of cube) → c < m

pub cube_opening : (m : ℕ) → IsCube m []
cube_opening m = record { apart = tt; below = λ c h. absurd h }

undecided : (cube : Cube) (c : ℕ) → is_decided cube c ≡ false → Has c (choices_of cube) → ⊥
undecided [] c f h = h
undecided (e ∷ cube) c f (inl same) = let p = or_parts (eqb e.0 c) (is_decided cube c) f in false≢true (sym p.0 ∙ eq-eqb e.0 c same)
undecided (e ∷ cube) c f (inr h) = let p = or_parts (eqb e.0 c) (is_decided cube c) f in undecided cube c p.1 h

below_more : (m c : ℕ) (xs : List ℕ) → c < m → ((d : ℕ) → Has d xs → d < m) → (d : ℕ) → Has d (c ∷ xs) → d < m
below_more m c xs lt h d (inl same) = omega (arith, same, lt)
below_more m c xs lt h d (inr k) = h d k

pub cube_more : (m : ℕ) (cube : Cube) (c : ℕ) (side : Side) → IsCube m cube → c < m → is_decided cube c ≡ false → IsCube m ((c, side) ∷ cube)
cube_more m cube c side k lt f = record { apart = (undecided cube c f, k.apart); below = below_more m c (choices_of cube) lt k.below }

length_choices : (cube : Cube) → length (choices_of cube) ≡ length cube
length_choices [] = refl
length_choices (e ∷ cube) = ap suc (length_choices cube)

pub cube_short : (m : ℕ) (cube : Cube) → IsCube m cube → length cube ≤ m
cube_short m cube k =
    let few = length-le_from_distinct_below (choices_of cube) m (IsDistinct-from_Apart (choices_of cube) k.apart) (λ q t. k.below q (Has-from_any q (choices_of cube) t)) in
    omega (arith, few, length_choices cube)

-- what a split asks
pub record Splits (s : State) (cube : Cube) (c : ℕ) : Type 0 where
  pub below : c < length s.polygraph.choices
  pub free : is_decided cube c ≡ false

pub splits_of : (s : State) (cube : Cube) (c : ℕ) → can_split s cube c ≡ true → Splits s cube c
splits_of s cube c t =
    let p = and_parts (is_choice s c) (not (is_decided cube c)) t in
    record { below = ltb-true c (length s.polygraph.choices) p.0; free = not-true (is_decided cube c) p.1 }

-- ---- how many nodes may stand in the place of each
-- the nodes of a whole tree for k choices
pub whole : ℕ → ℕ
whole zero = 1
whole (suc k) = 1 + whole k + whole k

pub whole_power : (k : ℕ) → whole k + 1 ≡ 2 ^ (k + 1)
unfolding whole
whole_power zero = refl
whole_power (suc k) =
    let e = whole_power k in
    let p : 2 ^ (suc k + 1) ≡ 2 ^ (k + 1) * 2 = (let z : suc k + 1 ≡ suc (k + 1) = omega arith in ap (λ n. 2 ^ n) z ∙ pow-suc 2 (k + 1)) in
    omega (arith, e, p)

whole_some : (k : ℕ) → 1 ≤ whole k
unfolding whole
whole_some zero = omega arith
whole_some (suc k) = omega arith

-- a split node stands for itself, and each other one for a whole tree of the choices that its cube leaves open
pub weight : ℕ → Node → ℕ
weight m x = cond (is_split x.mark) 1 (whole (m - length x.cube))

pub weights : ℕ → List Node → ℕ
weights m [] = 0
weights m (x ∷ xs) = weight m x + weights m xs

weight_some : (m : ℕ) (x : Node) → 1 ≤ weight m x
unfolding weight
weight_some m x = some (is_split x.mark)
  where
    some : (b : Bool) → 1 ≤ cond b 1 (whole (m - length x.cube))
    some true = omega arith
    some false = whole_some (m - length x.cube)

pub weight_unsplit : (m : ℕ) (x : Node) → is_split x.mark ≡ false → weight m x ≡ whole (m - length x.cube)
unfolding weight
weight_unsplit m x f = ap (λ b. cond b 1 (whole (m - length x.cube))) f

pub few_nodes : (m : ℕ) (xs : List Node) → length xs ≤ weights m xs
unfolding weights
few_nodes m [] = omega arith
few_nodes m (x ∷ xs) = let a = weight_some m x in let b = few_nodes m xs in omega (arith, a, b)

pub weights_set : (m : ℕ) (xs : List Node) (id : ℕ) (x y : Node) → slice_get xs id ≡ Some x → weights m (slice_set xs id y) + weight m x ≡ weights m xs + weight m y
unfolding weights
weights_set m [] id x y e = absurd (none-some x e)
weights_set m (z ∷ zs) zero x y e =
    let w = ap (weight m) (same_Some z x e) in omega (arith, w)
weights_set m (z ∷ zs) (suc id) x y e =
    let r = weights_set m zs id x y e in omega (arith, r)

pub weights_two : (m : ℕ) (xs : List Node) (a b : Node) → weights m (xs ++ a ∷ b ∷ []) ≡ weights m xs + weight m a + weight m b
unfolding weights
weights_two m [] a b = omega arith
weights_two m (z ∷ zs) a b = let r = weights_two m zs a b in omega (arith, r)

-- marks that are no splits leave the weights as they are
pub weights_noted : (m : ℕ) (xs : List Node) (id : ℕ) (x : Node) (mark : CubeState) → slice_get xs id ≡ Some x → is_split x.mark ≡ false → is_split mark ≡ false → weights m (slice_set xs id (marked x mark)) ≡ weights m xs
weights_noted m xs id x mark e f g =
    let r = weights_set m xs id x (marked x mark) e in
    let a = weight_unsplit m x f in
    let b = weight_unsplit m (marked x mark) g in
    omega (arith, r, a, b)

-- and so does a split with its two children
pub weights_divided : (m : ℕ) (xs : List Node) (id c : ℕ) (x : Node) → slice_get xs id ≡ Some x → is_split x.mark ≡ false → length x.cube < m
    → weights m (slice_set xs id (marked x (Divided c)) ++ child id x.cube c One ∷ child id x.cube c Two ∷ []) ≡ weights m xs
unfolding weight is_split whole
weights_divided m xs id c x e f lt =
    let ys = slice_set xs id (marked x (Divided c)) in
    let r = weights_set m xs id x (marked x (Divided c)) e in
    let t = weights_two m ys (child id x.cube c One) (child id x.cube c Two) in
    let a : weight m x ≡ whole (m - length x.cube) = weight_unsplit m x f in
    let step : m - length x.cube ≡ suc (m - suc (length x.cube)) = omega (arith, lt) in
    let b : whole (m - length x.cube) ≡ 1 + whole (m - suc (length x.cube)) + whole (m - suc (length x.cube)) = ap whole step in
    let one : weight m (child id x.cube c One) ≡ whole (m - suc (length x.cube)) = refl in
    let two : weight m (child id x.cube c Two) ≡ whole (m - suc (length x.cube)) = refl in
    let here : weight m (marked x (Divided c)) ≡ 1 = refl in
    omega (arith, r, t, a, b, one, two, here)

-- ---- states
pub record Grown (p : Polygraph) (budget : ℕ) (s : State) : Type 0 where
  pub same : s.polygraph ≡ p
  pub limit : s.budget ≡ budget
  pub within : s.closed ≤ budget
  pub count : length s.nodes ≤ 2 * s.closed + 1
  pub cubes : AllByRecursion (λ x. IsCube (length p.choices) x.cube) s.nodes
  pub weighs : weights (length p.choices) s.nodes ≡ whole (length p.choices)

pub grown_opening : (p : Polygraph) (budget : ℕ) → Grown p budget (opening_state p budget)
unfolding weights weight is_split
grown_opening p budget = record {
  same = refl;
  limit = refl;
  within = omega arith;
  count = omega arith;
  cubes = (cube_opening (length p.choices), tt);
  weighs = (let z : length p.choices - 0 ≡ length p.choices = omega arith in let e = ap whole z in omega (arith, e));
}

-- a machine that is not finished has budget left
pub budget_left : (p : Polygraph) (budget : ℕ) (s : State) → Grown p budget s → is_finished s ≡ false → s.closed + 1 ≤ budget
budget_left p budget s g going =
    let a = or_parts (has_solved s.nodes) (eqb s.closed s.budget || not (has_live s.nodes)) going in
    let b = or_parts (eqb s.closed s.budget) (not (has_live s.nodes)) a.1 in
    let ne : s.closed ≡ budget → ⊥ = λ e. eqb-false s.closed s.budget b.0 (e ∙ sym g.limit) in
    omega (arith, g.within, ne)

grown_noted : (p : Polygraph) (budget : ℕ) (s : State) → Grown p budget s → (id : ℕ) (x : Node) (mark : CubeState) → slice_get s.nodes id ≡ Some x → is_split x.mark ≡ false → is_split mark ≡ false → Grown p budget (noted s id x mark)
grown_noted p budget s g id x mark e f h = record {
  same = g.same;
  limit = g.limit;
  within = g.within;
  count = (let l = length_set s.nodes id (marked x mark) in let n = g.count in omega (arith, l, n));
  cubes = each_set (λ (y : Node). IsCube (length p.choices) y.cube) s.nodes id (marked x mark) g.cubes (each_at (λ (y : Node). IsCube (length p.choices) y.cube) s.nodes id x g.cubes e);
  weighs = weights_noted (length p.choices) s.nodes id x mark e f h ∙ g.weighs;
}

grown_counted : (p : Polygraph) (budget : ℕ) (s : State) → Grown p budget s → is_finished s ≡ false → (id : ℕ) (x : Node) (mark : CubeState) → slice_get s.nodes id ≡ Some x → is_split x.mark ≡ false → is_split mark ≡ false → Grown p budget (counted s id x mark)
grown_counted p budget s g going id x mark e f h =
    let n = grown_noted p budget s g id x mark e f h in
    record {
      same = n.same;
      limit = n.limit;
      within = budget_left p budget s g going;
      count = (let k = n.count in omega (arith, k));
      cubes = n.cubes;
      weighs = n.weighs;
    }

grown_divided : (p : Polygraph) (budget : ℕ) (s : State) → Grown p budget s → is_finished s ≡ false → (id c : ℕ) (x : Node) → slice_get s.nodes id ≡ Some x → is_split x.mark ≡ false → can_split s x.cube c ≡ true → Grown p budget (divided s id x c)
grown_divided p budget s g going id c x e f can =
    let m = length p.choices in
    let K : Node → Type 0 = λ y. IsCube m y.cube in
    let ys = slice_set s.nodes id (marked x (Divided c)) in
    let cube = each_at K s.nodes id x g.cubes e in
    let q = splits_of s x.cube c can in
    let lt : c < m = subst (λ (r : Polygraph). c < length r.choices) g.same q.below in
    let one = cube_more m x.cube c One cube lt q.free in
    let two = cube_more m x.cube c Two cube lt q.free in
    record {
      same = g.same;
      limit = g.limit;
      within = budget_left p budget s g going;
      count = (let l = length_set s.nodes id (marked x (Divided c)) in let t = length_two ys (child id x.cube c One) (child id x.cube c Two) in let n = g.count in omega (arith, l, t, n));
      cubes = each_from_append K ys (child id x.cube c One ∷ child id x.cube c Two ∷ []) (each_set K s.nodes id (marked x (Divided c)) g.cubes cube) (one, (two, tt));
      weighs = weights_divided m s.nodes id c x e f (let short = cube_short m ((c, One) ∷ x.cube) one in omega (arith, short)) ∙ g.weighs;
    }

pub grown_next : (p : Polygraph) (budget : ℕ) (s : State) (seat : ℕ) (event : CubeEvent) → Grown p budget s → Grown p budget (next_of s seat event)
unfolding is_split
grown_next p budget s seat event g = ways (λ t r. Grown p budget t) s seat event (record {
  stays = λ r _. g;
  holds = λ id x e o _. grown_noted p budget s g id x (Held seat) e (open_unsplit x.mark o) refl;
  opens = λ id x e h. grown_noted p budget s g id x Open e (held_unsplit seat x.mark h) refl;
  splits = λ id c x e h _ going can. grown_divided p budget s g going id c x e (held_unsplit seat x.mark h) can;
  refutes = λ id line x e h _ going _. grown_counted p budget s g going id x Refuted e (held_unsplit seat x.mark h) refl;
  solves = λ id order x e h _ going _. grown_counted p budget s g going id x Ended e (held_unsplit seat x.mark h) refl;
})

pub grown_after : (p : Polygraph) (budget : ℕ) (s : State) → Grown p budget s → (history : List (Entry CubeEvent CubeReply)) → Grown p budget (replay next_of s history)
grown_after p budget s g [] = g
grown_after p budget s g (x ∷ xs) = grown_after p budget (next_of s x.seat x.event) (grown_next p budget s x.seat x.event g) xs

-- ---- a finished machine
solved_finished : (s : State) → has_solved s.nodes ≡ true → is_finished s ≡ true
solved_finished s t = or_left (has_solved s.nodes) (eqb s.closed s.budget || not (has_live s.nodes)) t

finished_opened : (s : State) (seat id : ℕ) (x : Node) → slice_get s.nodes id ≡ Some x → is_held_by seat x.mark ≡ true → is_finished s ≡ true → is_finished (noted s id x Open) ≡ true
finished_opened s seat id x e h t = elim (or_cases (has_solved s.nodes) (eqb s.closed s.budget || not (has_live s.nodes)) t) [
  | inl solved ↦ solved_finished (noted s id x Open) (any_kept (λ (y : Node). is_solved y.mark) s.nodes id x (marked x Open) e (held_unsolved seat x.mark h) solved)
  | inr rest ↦ (elim (or_cases (eqb s.closed s.budget) (not (has_live s.nodes)) rest) [
    | inl spent ↦ or_right (has_solved (slice_set s.nodes id (marked x Open))) (eqb s.closed s.budget || not (has_live (slice_set s.nodes id (marked x Open))))
        (or_left (eqb s.closed s.budget) (not (has_live (slice_set s.nodes id (marked x Open)))) spent)
    | inr none ↦ absurd (false≢true (sym (not-true (has_live s.nodes) none) ∙ any_at (λ (y : Node). is_open y.mark || is_held y.mark) s.nodes id x e (held_live seat x.mark h)))
  ])
]

finished_next : (s : State) (seat : ℕ) (event : CubeEvent) → is_finished s ≡ true → is_finished (next_of s seat event) ≡ true
finished_next s seat event t =
    let no : is_finished s ≡ false → ⊥ = λ f. false≢true (sym f ∙ t) in
    ways (λ u r. is_finished u ≡ true) s seat event (record {
      stays = λ r _. t;
      holds = λ id x e o going. absurd (no going);
      opens = λ id x e h. finished_opened s seat id x e h t;
      splits = λ id c x e h _ going can. absurd (no going);
      refutes = λ id line x e h _ going _. absurd (no going);
      solves = λ id order x e h _ going _. absurd (no going);
    })

pub finished_after : (s : State) (history : List (Entry CubeEvent CubeReply)) → is_finished s ≡ true → is_finished (replay next_of s history) ≡ true
finished_after s [] t = t
finished_after s (x ∷ xs) t = finished_after (next_of s x.seat x.event) xs (finished_next s x.seat x.event t)
