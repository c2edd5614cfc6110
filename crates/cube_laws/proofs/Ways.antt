-- What a step can do: nothing, or one of six things.
use Rattle.cube_laws.proofs.Prelude.{◌≡◌, ℕ, ◌+◌, Bool, true, false, cond, List, [], ◌∷◌, ◌++◌, length, Option, None, Some, refl, sym, ap, subst, slice_get, slice_set, option_map_or, One, Two, Cube, edges_under, Node, State, is_open}
use Rattle.cube_laws.proofs.Prelude.{is_held_by, node_held, last_open, cube_at, is_open_at, is_finished, with_mark, can_split, is_cycle, is_solution, claim_reply, any_reply, split_reply, refute_reply, solve_reply, reply_of, child}
use Rattle.cube_laws.proofs.Prelude.{closed_by, split_at, held_at, opened_at, claimed, taken, held_where, split_where, refuted_where, solved_where, next_of, CubeState, Open, Held, Split as Divided, Refuted, Solved as Ended, CubeEvent}
use Rattle.cube_laws.proofs.Prelude.{Claim, TakeAny, Refute, Solve, Release, CubeReply, Finished, HasCube, NotOpen, NoneNow, NoCube, BadChoice, Children, BadCycle, Closed, BadOrder, Released, is_closing}
use Rattle.cube_laws.specs.declared.messages.CubeEvent.TheVariants.{Split}
use Rattle.cube_laws.specs.declared.messages.CubeReply.TheVariants.{Cube as Given, Solved}
use Rattle.cube_laws.proofs.Nodes.{Marked, found_held, found_open, found_first, tested_open}

-- ---- states by the node that is written
abbrev pub marked : Node → CubeState → Node
marked x mark = record { parent = x.parent; cube = x.cube; mark = mark }

-- the node is marked
abbrev pub noted : State → ℕ → Node → CubeState → State
noted s id x mark = record { polygraph = s.polygraph; nodes = slice_set s.nodes id (marked x mark); closed = s.closed; budget = s.budget }

-- the node is marked, and counted
abbrev pub counted : State → ℕ → Node → CubeState → State
counted s id x mark = record { polygraph = s.polygraph; nodes = slice_set s.nodes id (marked x mark); closed = s.closed + 1; budget = s.budget }

-- the node is split
abbrev pub divided : State → ℕ → Node → ℕ → State
divided s id x c = record { polygraph = s.polygraph; nodes = slice_set s.nodes id (marked x (Divided c)) ++ child id x.cube c One ∷ child id x.cube c Two ∷ []; closed = s.closed + 1; budget = s.budget }

-- ---- the six things, and what a fact of the next state and the reply owes to each
pub record Ways (P : State → CubeReply → Type 0) (s : State) (seat : ℕ) : Type 0 where
  pub stays : (r : CubeReply) → is_closing r ≡ false → P s r
  pub holds : (id : ℕ) (x : Node) → slice_get s.nodes id ≡ Some x → is_open x.mark ≡ true → is_finished s ≡ false → P (noted s id x (Held seat)) (Given id)
  pub opens : (id : ℕ) (x : Node) → slice_get s.nodes id ≡ Some x → is_held_by seat x.mark ≡ true → P (noted s id x Open) Released
  pub splits : (id c : ℕ) (x : Node) → slice_get s.nodes id ≡ Some x → is_held_by seat x.mark ≡ true → node_held s seat ≡ Some id → is_finished s ≡ false → can_split s x.cube c ≡ true → P (divided s id x c) (Children (length s.nodes) (length s.nodes + 1))
  pub refutes : (id : ℕ) (line : List ℕ) (x : Node) → slice_get s.nodes id ≡ Some x → is_held_by seat x.mark ≡ true → node_held s seat ≡ Some id → is_finished s ≡ false → is_cycle (edges_under s.polygraph x.cube) line ≡ true → P (counted s id x Refuted) Closed
  pub solves : (id : ℕ) (order : List ℕ) (x : Node) → slice_get s.nodes id ≡ Some x → is_held_by seat x.mark ≡ true → node_held s seat ≡ Some id → is_finished s ≡ false → is_solution s.polygraph x.cube order ≡ true → P (counted s id x Ended) Solved

-- ---- the state's words at a node that is there

mark_is : (nodes : List Node) (id : ℕ) (x : Node) (mark : CubeState) → slice_get nodes id ≡ Some x → with_mark nodes id mark ≡ slice_set nodes id (marked x mark)
mark_is nodes id x mark e = ap (λ (o : Option Node). option_map_or (λ (y : Node). slice_set nodes id (marked y mark)) o nodes) e

pub cube_is : (s : State) (id : ℕ) (x : Node) → slice_get s.nodes id ≡ Some x → cube_at s id ≡ x.cube
cube_is s id x e = ap (λ (o : Option Node). option_map_or (λ (y : Node). y.cube) o []) e

held_is : (s : State) (seat id : ℕ) (x : Node) → slice_get s.nodes id ≡ Some x → held_at s seat id ≡ noted s id x (Held seat)
held_is s seat id x e = λ i. record { polygraph = s.polygraph; nodes = mark_is s.nodes id x (Held seat) e i; closed = s.closed; budget = s.budget }

opened_is : (s : State) (id : ℕ) (x : Node) → slice_get s.nodes id ≡ Some x → opened_at s (Some id) ≡ noted s id x Open
opened_is s id x e = λ i. record { polygraph = s.polygraph; nodes = mark_is s.nodes id x Open e i; closed = s.closed; budget = s.budget }

closed_is : (s : State) (id : ℕ) (x : Node) (mark : CubeState) → slice_get s.nodes id ≡ Some x → closed_by s id mark ≡ counted s id x mark
closed_is s id x mark e = λ i. record { polygraph = s.polygraph; nodes = mark_is s.nodes id x mark e i; closed = s.closed + 1; budget = s.budget }

split_is : (s : State) (id c : ℕ) (x : Node) → slice_get s.nodes id ≡ Some x → split_at s id c ≡ divided s id x c
split_is s id c x e = λ i. record {
  polygraph = s.polygraph;
  nodes = mark_is s.nodes id x (Divided c) e i ++ child id (cube_is s id x e i) c One ∷ child id (cube_is s id x e i) c Two ∷ [];
  closed = s.closed + 1;
  budget = s.budget;
}

-- ---- claims
claim_open : (P : State → CubeReply → Type 0) (s : State) (seat : ℕ) → Ways P s seat → is_finished s ≡ false → (id : ℕ) (b : Bool) → is_open_at s id ≡ b → P (held_where s seat (cond b (Some id) None)) (cond b (Given id) NotOpen)
claim_open P s seat w going id true e =
    let m = tested_open s.nodes id (slice_get s.nodes id) refl e in
    subst (λ (t : State). P t (Given id)) (sym (held_is s seat id m.node m.at)) (w.holds id m.node m.at m.passes going)
claim_open P s seat w going id false e = w.stays NotOpen refl

claim_held : (P : State → CubeReply → Type 0) (s : State) (seat : ℕ) → Ways P s seat → is_finished s ≡ false → (id : ℕ) (h : Option ℕ) → P (held_where s seat (claimed s id h)) (claim_reply s id h)
claim_held P s seat w going id None = claim_open P s seat w going id (is_open_at s id) refl
claim_held P s seat w going id (Some k) = w.stays HasCube refl

claim_way : (P : State → CubeReply → Type 0) (s : State) (seat : ℕ) → Ways P s seat → (id : ℕ) (b : Bool) → is_finished s ≡ b → P (cond b s (held_where s seat (claimed s id (node_held s seat)))) (cond b Finished (claim_reply s id (node_held s seat)))
claim_way P s seat w id true e = w.stays Finished refl
claim_way P s seat w id false e = claim_held P s seat w e id (node_held s seat)

-- ---- requests for any
any_held : (P : State → CubeReply → Type 0) (s : State) (seat : ℕ) → Ways P s seat → is_finished s ≡ false → (h next : Option ℕ) → last_open s ≡ next → P (held_where s seat (taken h next)) (any_reply h next)
any_held P s seat w going (Some k) next e = w.stays HasCube refl
any_held P s seat w going None None e = w.stays NoneNow refl
any_held P s seat w going None (Some id) e =
    let m = found_first is_open s.nodes id (found_open 0 id s.nodes e) in
    subst (λ (t : State). P t (Given id)) (sym (held_is s seat id m.node m.at)) (w.holds id m.node m.at m.passes going)

any_way : (P : State → CubeReply → Type 0) (s : State) (seat : ℕ) → Ways P s seat → (b : Bool) → is_finished s ≡ b → P (cond b s (held_where s seat (taken (node_held s seat) (last_open s)))) (cond b Finished (any_reply (node_held s seat) (last_open s)))
any_way P s seat w true e = w.stays Finished refl
any_way P s seat w false e = any_held P s seat w e (node_held s seat) (last_open s) refl

-- ---- the node that the seat holds
pub held_node : (s : State) (seat id : ℕ) → node_held s seat ≡ Some id → Marked (is_held_by seat) s.nodes id
held_node s seat id e = found_first (is_held_by seat) s.nodes id (found_held seat 0 id s.nodes e)

-- ---- splits
split_tested : (P : State → CubeReply → Type 0) (s : State) (seat : ℕ) → Ways P s seat → is_finished s ≡ false → (c id : ℕ) → node_held s seat ≡ Some id → (b : Bool) → can_split s (cube_at s id) c ≡ b
    → P (cond b (split_at s id c) s) (cond b (Children (length s.nodes) (length s.nodes + 1)) BadChoice)
split_tested P s seat w going c id h true t =
    let m = held_node s seat id h in
    subst (λ (n : State). P n (Children (length s.nodes) (length s.nodes + 1))) (sym (split_is s id c m.node m.at))
    (w.splits id c m.node m.at m.passes h going (subst (λ (d : Cube). can_split s d c ≡ true) (cube_is s id m.node m.at) t))
split_tested P s seat w going c id h false t = w.stays BadChoice refl

split_held : (P : State → CubeReply → Type 0) (s : State) (seat : ℕ) → Ways P s seat → is_finished s ≡ false → (c : ℕ) (h : Option ℕ) → node_held s seat ≡ h → P (split_where s c h) (split_reply s c h)
split_held P s seat w going c None e = w.stays NoCube refl
split_held P s seat w going c (Some id) e = split_tested P s seat w going c id e (can_split s (cube_at s id) c) refl

split_way : (P : State → CubeReply → Type 0) (s : State) (seat : ℕ) → Ways P s seat → (c : ℕ) (b : Bool) → is_finished s ≡ b → P (cond b s (split_where s c (node_held s seat))) (cond b Finished (split_reply s c (node_held s seat)))
split_way P s seat w c true e = w.stays Finished refl
split_way P s seat w c false e = split_held P s seat w e c (node_held s seat) refl

-- ---- refutations
refute_tested : (P : State → CubeReply → Type 0) (s : State) (seat : ℕ) → Ways P s seat → is_finished s ≡ false → (line : List ℕ) (id : ℕ) → node_held s seat ≡ Some id → (b : Bool) → is_cycle (edges_under s.polygraph (cube_at s id)) line ≡ b
    → P (cond b (closed_by s id Refuted) s) (cond b Closed BadCycle)
refute_tested P s seat w going line id h true t =
    let m = held_node s seat id h in
    subst (λ (n : State). P n Closed) (sym (closed_is s id m.node Refuted m.at))
    (w.refutes id line m.node m.at m.passes h going (subst (λ (d : Cube). is_cycle (edges_under s.polygraph d) line ≡ true) (cube_is s id m.node m.at) t))
refute_tested P s seat w going line id h false t = w.stays BadCycle refl

refute_held : (P : State → CubeReply → Type 0) (s : State) (seat : ℕ) → Ways P s seat → is_finished s ≡ false → (line : List ℕ) (h : Option ℕ) → node_held s seat ≡ h → P (refuted_where s line h) (refute_reply s line h)
refute_held P s seat w going line None e = w.stays NoCube refl
refute_held P s seat w going line (Some id) e = refute_tested P s seat w going line id e (is_cycle (edges_under s.polygraph (cube_at s id)) line) refl

refute_way : (P : State → CubeReply → Type 0) (s : State) (seat : ℕ) → Ways P s seat → (line : List ℕ) (b : Bool) → is_finished s ≡ b → P (cond b s (refuted_where s line (node_held s seat))) (cond b Finished (refute_reply s line (node_held s seat)))
refute_way P s seat w line true e = w.stays Finished refl
refute_way P s seat w line false e = refute_held P s seat w e line (node_held s seat) refl

-- ---- solutions
solve_tested : (P : State → CubeReply → Type 0) (s : State) (seat : ℕ) → Ways P s seat → is_finished s ≡ false → (order : List ℕ) (id : ℕ) → node_held s seat ≡ Some id → (b : Bool) → is_solution s.polygraph (cube_at s id) order ≡ b
    → P (cond b (closed_by s id Ended) s) (cond b Solved BadOrder)
solve_tested P s seat w going order id h true t =
    let m = held_node s seat id h in
    subst (λ (n : State). P n Solved) (sym (closed_is s id m.node Ended m.at))
    (w.solves id order m.node m.at m.passes h going (subst (λ (d : Cube). is_solution s.polygraph d order ≡ true) (cube_is s id m.node m.at) t))
solve_tested P s seat w going order id h false t = w.stays BadOrder refl

solve_held : (P : State → CubeReply → Type 0) (s : State) (seat : ℕ) → Ways P s seat → is_finished s ≡ false → (order : List ℕ) (h : Option ℕ) → node_held s seat ≡ h → P (solved_where s order h) (solve_reply s order h)
solve_held P s seat w going order None e = w.stays NoCube refl
solve_held P s seat w going order (Some id) e = solve_tested P s seat w going order id e (is_solution s.polygraph (cube_at s id) order) refl

solve_way : (P : State → CubeReply → Type 0) (s : State) (seat : ℕ) → Ways P s seat → (order : List ℕ) (b : Bool) → is_finished s ≡ b → P (cond b s (solved_where s order (node_held s seat))) (cond b Finished (solve_reply s order (node_held s seat)))
solve_way P s seat w order true e = w.stays Finished refl
solve_way P s seat w order false e = solve_held P s seat w e order (node_held s seat) refl

-- ---- releases
release_way : (P : State → CubeReply → Type 0) (s : State) (seat : ℕ) → Ways P s seat → (h : Option ℕ) → node_held s seat ≡ h → P (opened_at s h) Released
release_way P s seat w None e = w.stays Released refl
release_way P s seat w (Some id) e =
    let m = held_node s seat id e in
    subst (λ (n : State). P n Released) (sym (opened_is s id m.node m.at)) (w.opens id m.node m.at m.passes)

-- ---- each step
pub ways : (P : State → CubeReply → Type 0) (s : State) (seat : ℕ) (event : CubeEvent) → Ways P s seat → P (next_of s seat event) (reply_of s seat event)
unfolding next_of reply_of
ways P s seat (Claim id) w = claim_way P s seat w id (is_finished s) refl
ways P s seat TakeAny w = any_way P s seat w (is_finished s) refl
ways P s seat (Split c) w = split_way P s seat w c (is_finished s) refl
ways P s seat (Refute line) w = refute_way P s seat w line (is_finished s) refl
ways P s seat (Solve order) w = solve_way P s seat w order (is_finished s) refl
ways P s seat Release w = release_way P s seat w (node_held s seat) refl
