-- The closed nodes are as many as are counted, and the solved ones were solved by steps.
use Rattle.cube_laws.proofs.Prelude.{◌≡◌, ℕ, zero, suc, ◌+◌, ◌-◌, ◌^◌, ◌<◌, ◌≤◌, Bool, true, false, cond, ◌||◌, List, [], ◌∷◌, ◌++◌, length, Option, None, Some, refl, sym, ap, ◌∙◌, inl, inr, arith, slice_get, slice_set, list_any}
use Rattle.cube_laws.proofs.Prelude.{false≢true, or_cases, same_Some, Polygraph, One, Two, Entry, IsLegal, replay, Node, State, opening_state, is_open, is_solved, is_held, has_solved, has_live, node_held, last_open, is_open_at, is_finished}
use Rattle.cube_laws.proofs.Prelude.{cube_at, can_split, is_cycle, child, claim_reply, any_reply, split_reply, refute_reply, next_of, reply_of, CubeState, Open, Held, Split as Divided, Refuted, Solved as Ended, CubeEvent, Claim, TakeAny}
use Rattle.cube_laws.proofs.Prelude.{Refute, Solve, Release, CubeReply, Finished, HasCube, NotOpen, NoneNow, NoCube, BadChoice, Children, BadCycle, Closed, BadOrder, Released, edges_under, is_closing, is_solving, solves}
use Rattle.std.proofs.Math.Bool.{or-false, or-true, or_assoc}
use Rattle.std.proofs.lemmas.List.Folds.{list_any-append}
use Rattle.cube_laws.specs.declared.messages.CubeEvent.TheVariants.{Split}
use Rattle.cube_laws.specs.declared.messages.CubeReply.TheVariants.{Cube as Given, Solved}
use Rattle.cube_laws.proofs.Nodes.{none-some}
use Rattle.cube_laws.proofs.Ways.{marked, ways}
use Rattle.cube_laws.proofs.Closings.{is_shut, open_not_shut, held_not_shut}
use Rattle.cube_laws.proofs.Grown.{held_unsolved, grown_opening, grown_after, few_nodes, whole_power}

-- ---- how many nodes are closed
one_if : Bool → ℕ
one_if true = 1
one_if false = 0

shut_count : List Node → ℕ
shut_count [] = 0
shut_count (x ∷ xs) = one_if (is_shut x.mark) + shut_count xs

count_set : (xs : List Node) (id : ℕ) (x y : Node) → slice_get xs id ≡ Some x → shut_count (slice_set xs id y) + one_if (is_shut x.mark) ≡ shut_count xs + one_if (is_shut y.mark)
unfolding shut_count
count_set [] id x y e = absurd (none-some x e)
count_set (z ∷ zs) zero x y e = let w = ap (λ (n : Node). one_if (is_shut n.mark)) (same_Some z x e) in omega (arith, w)
count_set (z ∷ zs) (suc id) x y e = let r = count_set zs id x y e in omega (arith, r)

count_two : (xs : List Node) (a b : Node) → is_shut a.mark ≡ false → is_shut b.mark ≡ false → shut_count (xs ++ a ∷ b ∷ []) ≡ shut_count xs
unfolding shut_count one_if
count_two [] a b f g = (λ i. one_if (f i) + (one_if (g i) + 0))
count_two (z ∷ zs) a b f g = ap (λ n. one_if (is_shut z.mark) + n) (count_two zs a b f g)

-- another mark that is closed as little, and a closed one where it was not closed
count_same : (xs : List Node) (id : ℕ) (x : Node) (mark : CubeState) → slice_get xs id ≡ Some x → is_shut x.mark ≡ false → is_shut mark ≡ false → shut_count (slice_set xs id (marked x mark)) ≡ shut_count xs
count_same xs id x mark e f g =
    let r = count_set xs id x (marked x mark) e in
    let a = ap one_if f in let b = ap one_if g in omega (arith, r, a, b)

count_more : (xs : List Node) (id : ℕ) (x : Node) (mark : CubeState) → slice_get xs id ≡ Some x → is_shut x.mark ≡ false → is_shut mark ≡ true → shut_count (slice_set xs id (marked x mark)) ≡ shut_count xs + 1
unfolding one_if
count_more xs id x mark e f g =
    let r = count_set xs id x (marked x mark) e in
    let a : one_if (is_shut x.mark) ≡ 0 = ap one_if f in let b : one_if (is_shut mark) ≡ 1 = ap one_if g in omega (arith, r, a, b)

abbrev IsCounted : State → Type 0
IsCounted s = s.closed ≡ shut_count s.nodes

counted_next : (s : State) (seat : ℕ) (event : CubeEvent) → IsCounted s → IsCounted (next_of s seat event)
counted_next s seat event k = ways (λ t r. IsCounted t) s seat event (record {
  stays = λ r _. k;
  holds = λ id x e o _. k ∙ sym (count_same s.nodes id x (Held seat) e (open_not_shut x.mark o) refl);
  opens = λ id x e h. k ∙ sym (count_same s.nodes id x Open e (held_not_shut seat x.mark h) refl);
  splits = λ id c x e h _ going can. ap (λ n. n + 1) k ∙ sym (count_two (slice_set s.nodes id (marked x (Divided c))) (child id x.cube c One) (child id x.cube c Two) refl refl ∙ count_more s.nodes id x (Divided c) e (held_not_shut seat x.mark h) refl);
  refutes = λ id line x e h _ going _. ap (λ n. n + 1) k ∙ sym (count_more s.nodes id x Refuted e (held_not_shut seat x.mark h) refl);
  solves = λ id order x e h _ going _. ap (λ n. n + 1) k ∙ sym (count_more s.nodes id x Ended e (held_not_shut seat x.mark h) refl);
})

counted_after : (s : State) → IsCounted s → (history : List (Entry CubeEvent CubeReply)) → IsCounted (replay next_of s history)
counted_after s k [] = k
counted_after s k (x ∷ xs) = counted_after (next_of s x.seat x.event) (counted_next s x.seat x.event k) xs

counted_opening : (p : Polygraph) (budget : ℕ) → IsCounted (opening_state p budget)
unfolding shut_count one_if
counted_opening p budget = refl

live_not_shut : (m : CubeState) → (is_open m || is_held m) ≡ true → is_shut m ≡ false
live_not_shut Open t = refl
live_not_shut (Held seat) t = refl
live_not_shut (Divided c) t = absurd (false≢true t)
live_not_shut Refuted t = absurd (false≢true t)
live_not_shut Ended t = absurd (false≢true t)

one_at_most : (b : Bool) → one_if b ≤ 1
unfolding one_if
one_at_most true = omega arith
one_at_most false = omega arith

count_most : (xs : List Node) → shut_count xs ≤ length xs
unfolding shut_count
count_most [] = omega arith
count_most (x ∷ xs) = let a = one_at_most (is_shut x.mark) in let b = count_most xs in omega (arith, a, b)

count_live : (xs : List Node) → has_live xs ≡ true → shut_count xs < length xs
unfolding shut_count one_if
count_live [] t = absurd (false≢true t)
count_live (x ∷ xs) t = elim (or_cases (is_open x.mark || is_held x.mark) (has_live xs) t) [
  | inl here ↦ (let a : one_if (is_shut x.mark) ≡ 0 = ap one_if (live_not_shut x.mark here) in let b = count_most xs in omega (arith, a, b))
  | inr there ↦ (let a = one_at_most (is_shut x.mark) in let b = count_live xs there in omega (arith, a, b))
]

pub budget_lasts : (p : Polygraph) (budget : ℕ) (history : List (Entry CubeEvent CubeReply)) → 2 ^ (length p.choices + 1) - 1 ≤ budget → has_live (replay next_of (opening_state p budget) history).nodes ≡ true → (replay next_of (opening_state p budget) history).closed < budget
budget_lasts p budget history large live =
    let s = replay next_of (opening_state p budget) history in
    let g = grown_after p budget (opening_state p budget) (grown_opening p budget) history in
    let few = few_nodes (length p.choices) s.nodes in
    let w = g.weighs in
    let e = whole_power (length p.choices) in
    let count = counted_after (opening_state p budget) (counted_opening p budget) history in
    let fewer = count_live s.nodes live in
    omega (arith, large, few, w, e, count, fewer)

-- ---- solved nodes

any_marked : (test : Node → Bool) (xs : List Node) (id : ℕ) (x y : Node) → slice_get xs id ≡ Some x → test y ≡ test x → list_any test (slice_set xs id y) ≡ list_any test xs
any_marked test [] id x y e f = absurd (none-some x e)
any_marked test (z ∷ zs) zero x y e f = ap (λ b. b || list_any test zs) (f ∙ ap test (sym (same_Some z x e)))
any_marked test (z ∷ zs) (suc id) x y e f = ap (λ b. test z || b) (any_marked test zs id x y e f)

any_put : (test : Node → Bool) (xs : List Node) (id : ℕ) (x y : Node) → slice_get xs id ≡ Some x → test y ≡ true → list_any test (slice_set xs id y) ≡ true
any_put test [] id x y e f = absurd (none-some x e)
any_put test (z ∷ zs) zero x y e f = ap (λ b. b || list_any test zs) f
any_put test (z ∷ zs) (suc id) x y e f = ap (λ b. test z || b) (any_put test zs id x y e f) ∙ or-true (test z)

quiet : (r : CubeReply) → is_closing r ≡ false → is_solving r ≡ false
quiet Finished f = refl
quiet HasCube f = refl
quiet NotOpen f = refl
quiet NoneNow f = refl
quiet (Given id) f = refl
quiet NoCube f = refl
quiet BadChoice f = refl
quiet (Children a b) f = absurd (false≢true (sym f))
quiet BadCycle f = refl
quiet Closed f = refl
quiet BadOrder f = refl
quiet Solved f = absurd (false≢true (sym f))
quiet Released f = refl

pub open_unsolved : (m : CubeState) → is_open m ≡ true → is_solved m ≡ false
open_unsolved Open t = refl
open_unsolved (Held seat) t = refl
open_unsolved (Divided c) t = refl
open_unsolved Refuted t = refl
open_unsolved Ended t = absurd (false≢true t)

abbrev Solves : State → State → CubeReply → Type 0
Solves s t r = has_solved t.nodes ≡ (has_solved s.nodes || is_solving r)

solved_marked : (s : State) (id : ℕ) (x : Node) (mark : CubeState) → slice_get s.nodes id ≡ Some x → is_solved x.mark ≡ false → is_solved mark ≡ false → has_solved (slice_set s.nodes id (marked x mark)) ≡ (has_solved s.nodes || false)
solved_marked s id x mark e f g = any_marked (λ (y : Node). is_solved y.mark) s.nodes id x (marked x mark) e (g ∙ sym f) ∙ sym (or-false (has_solved s.nodes))

solved_next : (s : State) (seat : ℕ) (event : CubeEvent) → Solves s (next_of s seat event) (reply_of s seat event)
solved_next s seat event = ways (λ t r. Solves s t r) s seat event (record {
  stays = λ r f. sym (ap (λ b. has_solved s.nodes || b) (quiet r f) ∙ or-false (has_solved s.nodes));
  holds = λ id x e o _. solved_marked s id x (Held seat) e (open_unsolved x.mark o) refl;
  opens = λ id x e h. solved_marked s id x Open e (held_unsolved seat x.mark h) refl;
  splits = λ id c x e h _ going can. list_any-append (λ (y : Node). is_solved y.mark) (slice_set s.nodes id (marked x (Divided c))) (child id x.cube c One ∷ child id x.cube c Two ∷ [])
      ∙ or-false (has_solved (slice_set s.nodes id (marked x (Divided c))))
      ∙ solved_marked s id x (Divided c) e (held_unsolved seat x.mark h) refl;
  refutes = λ id line x e h _ going _. solved_marked s id x Refuted e (held_unsolved seat x.mark h) refl;
  solves = λ id order x e h _ going _. any_put (λ (y : Node). is_solved y.mark) s.nodes id x (marked x Ended) e refl ∙ sym (or-true (has_solved s.nodes));
})

-- a reply that says so answers what asked for it
abbrev IsQuiet : CubeReply → Type 0
IsQuiet r = is_solving r ≡ false

unless : (b : Bool) (x y : CubeReply) → IsQuiet x → IsQuiet y → IsQuiet (cond b x y)
unless true x y p q = p
unless false x y p q = q

quiet_claim : (s : State) (id : ℕ) (h : Option ℕ) → IsQuiet (claim_reply s id h)
quiet_claim s id None = unless (is_open_at s id) (Given id) NotOpen refl refl
quiet_claim s id (Some k) = refl

quiet_any : (h next : Option ℕ) → IsQuiet (any_reply h next)
quiet_any None None = refl
quiet_any None (Some id) = refl
quiet_any (Some k) next = refl

quiet_split : (s : State) (c : ℕ) (h : Option ℕ) → IsQuiet (split_reply s c h)
quiet_split s c None = refl
quiet_split s c (Some id) = unless (can_split s (cube_at s id) c) (Children (length s.nodes) (length s.nodes + 1)) BadChoice refl refl

quiet_refute : (s : State) (line : List ℕ) (h : Option ℕ) → IsQuiet (refute_reply s line h)
quiet_refute s line None = refl
quiet_refute s line (Some id) = unless (is_cycle (edges_under s.polygraph (cube_at s id)) line) Closed BadCycle refl refl

solved_by : (s : State) (seat : ℕ) (event : CubeEvent) → is_solving (reply_of s seat event) ≡ solves event (reply_of s seat event)
unfolding reply_of
solved_by s seat (Claim id) = unless (is_finished s) Finished (claim_reply s id (node_held s seat)) refl (quiet_claim s id (node_held s seat))
solved_by s seat TakeAny = unless (is_finished s) Finished (any_reply (node_held s seat) (last_open s)) refl (quiet_any (node_held s seat) (last_open s))
solved_by s seat (Split c) = unless (is_finished s) Finished (split_reply s c (node_held s seat)) refl (quiet_split s c (node_held s seat))
solved_by s seat (Refute line) = unless (is_finished s) Finished (refute_reply s line (node_held s seat)) refl (quiet_refute s line (node_held s seat))
solved_by s seat (Solve order) = refl
solved_by s seat Release = refl

solved_from : (s : State) (history : List (Entry CubeEvent CubeReply)) → IsLegal next_of reply_of s history → has_solved (replay next_of s history).nodes ≡ (has_solved s.nodes || list_any (λ x. solves x.event x.reply) history)
solved_from s [] legal = sym (or-false (has_solved s.nodes))
solved_from s (x ∷ xs) legal =
    let next = next_of s x.seat x.event in
    let rest = list_any (λ (y : Entry CubeEvent CubeReply). solves y.event y.reply) xs in
    let step = solved_next s x.seat x.event ∙ ap (λ b. has_solved s.nodes || b) (solved_by s x.seat x.event ∙ ap (solves x.event) (sym legal.0)) in
    solved_from next xs legal.1 ∙ ap (λ b. b || rest) step ∙ or_assoc (has_solved s.nodes) (solves x.event x.reply) rest

pub solved_before : (p : Polygraph) (budget : ℕ) (history : List (Entry CubeEvent CubeReply)) → IsLegal next_of reply_of (opening_state p budget) history → has_solved (replay next_of (opening_state p budget) history).nodes ≡ list_any (λ x. solves x.event x.reply) history
solved_before p budget history legal = solved_from (opening_state p budget) history legal
