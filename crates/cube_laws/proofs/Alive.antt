-- An order that fits keeps the cube of some node that is neither split nor refuted; and what solves a node fits.
use Rattle.cube_laws.proofs.Prelude.{◌≡◌, ◌⊎◌, ℕ, suc, ◌<◌, Bool, true, false, cond, ◌||◌, not, List, [], ◌∷◌, ◌++◌, length, Option, None, Some, refl, sym, ap, ◌∙◌, subst, inl, inr, slice_get, slice_set, slice_index, false≢true, cases_eq}
use Rattle.cube_laws.proofs.Prelude.{and_parts, not-true, get_put, Choice, Polygraph, KeepsOne, Fits, One, Two, Entry, IsLegal, replay, Cube, edges_under, Node, State, root, is_open, is_solved, is_held, has_solved, has_live, is_finished}
use Rattle.cube_laws.proofs.Prelude.{is_exhausted, node_held, is_cycle, is_solution, cube_at, child, solve_reply, next_of, reply_of, CubeState, Open, Held, Split as Divided, Refuted, Solved as Ended, CubeEvent, Claim, TakeAny, Refute}
use Rattle.cube_laws.proofs.Prelude.{Solve, Release, CubeReply, Finished, NoCube, BadOrder, SolvesRightly, EachSolvesRightly}
use Rattle.reach_laws.proofs.Walks.{no_cycle_kept}
use Rattle.known_graph.proofs.Tested.{walk_of}
use Rattle.cube_laws.specs.declared.messages.CubeEvent.TheVariants.{Split}
use Rattle.cube_laws.specs.declared.messages.CubeReply.TheVariants.{Solved}
use Rattle.cube_laws.proofs.Nodes.{one_value, get_other, get_front, get_first, get_second, get_below, each_at, any_at}
use Rattle.cube_laws.proofs.Ways.{marked, ways}
use Rattle.cube_laws.proofs.Grown.{Grown, grown_next, splits_of}
use Rattle.cube_laws.proofs.Fits.{KeepsCube, cube_kept, cube_opening, cube_split, solution_fits}

-- ---- marks
-- neither split nor refuted
abbrev pub is_going : CubeState → Bool
is_going Open = true
is_going (Held seat) = true
is_going (Divided c) = false
is_going Refuted = false
is_going Ended = true

-- ---- a node that the order keeps
pub record Alive (p : Polygraph) (order : List ℕ) (nodes : List Node) : Type 0 where
  pub id : ℕ
  pub node : Node
  pub at : slice_get nodes id ≡ Some node
  pub going : is_going node.mark ≡ true
  pub keeps : KeepsCube p order node.cube

pub alive_opening : (p : Polygraph) (order : List ℕ) → Alive p order (root ∷ [])
alive_opening p order = record { id = 0; node = root; at = refl; going = refl; keeps = cube_opening p order }

-- where another node is written, or this one with a mark that goes on
alive_set : (p : Polygraph) (order : List ℕ) (nodes : List Node) → Alive p order nodes → (id : ℕ) (x : Node) (mark : CubeState) → slice_get nodes id ≡ Some x → (is_going mark ≡ true) ⊎ (KeepsCube p order x.cube → ⊥) → Alive p order (slice_set nodes id (marked x mark))
alive_set p order nodes a id x mark e why = elim (cases_eq a.id id) [
  | inl same ↦ (
      let here : a.node ≡ x = one_value (slice_get nodes id) a.node x (subst (λ k. slice_get nodes k ≡ Some a.node) same a.at) e in
      let kept : KeepsCube p order x.cube = subst (λ (y : Node). KeepsCube p order y.cube) here a.keeps in
      elim why [
        | inl going ↦ record { id = id; node = marked x mark; at = get_put nodes id x (marked x mark) e; going = going; keeps = kept }
        | inr none ↦ absurd (none kept)
      ])
  | inr apart ↦ record { id = a.id; node = a.node; at = get_other nodes id a.id a.node (marked x mark) apart a.at; going = a.going; keeps = a.keeps }
]

-- a cube of which the edges have a cycle is kept by no order
pub no_cycle : (p : Polygraph) (order : List ℕ) → Fits p order → (cube : Cube) (line : List ℕ) → is_cycle (edges_under p cube) line ≡ true → KeepsCube p order cube → ⊥
no_cycle p order f cube line t k =
    let v = slice_index line 0 in
    let w = walk_of (edges_under p cube) line v v t in
    no_cycle_kept order (edges_under p cube) (cube_kept p order cube f.known k) (v, (w.inner, w.steps))

-- of a split node that the order keeps, it keeps the child whose side it keeps
alive_child : (p : Polygraph) (order : List ℕ) (nodes : List Node) (id c : ℕ) (x : Node) (h : Choice) → slice_get p.choices c ≡ Some h → KeepsOne order h → KeepsCube p order x.cube → Alive p order (nodes ++ child id x.cube c One ∷ child id x.cube c Two ∷ [])
alive_child p order nodes id c x h at (inl one) k = record {
  id = length nodes;
  node = child id x.cube c One;
  at = get_first nodes (child id x.cube c One) (child id x.cube c Two);
  going = refl;
  keeps = cube_split p order x.cube c One h at one k;
}
alive_child p order nodes id c x h at (inr two) k = record {
  id = suc (length nodes);
  node = child id x.cube c Two;
  at = get_second nodes (child id x.cube c One) (child id x.cube c Two);
  going = refl;
  keeps = cube_split p order x.cube c Two h at two k;
}

alive_split : (p : Polygraph) (order : List ℕ) → Fits p order → (nodes : List Node) → Alive p order nodes → (id c : ℕ) (x : Node) → slice_get nodes id ≡ Some x → c < length p.choices → Alive p order (slice_set nodes id (marked x (Divided c)) ++ child id x.cube c One ∷ child id x.cube c Two ∷ [])
alive_split p order f nodes a id c x e lt =
    let ys = slice_set nodes id (marked x (Divided c)) in
    let two = child id x.cube c One ∷ child id x.cube c Two ∷ [] in
    elim (cases_eq a.id id) [
      | inl same ↦ (
          let here : a.node ≡ x = one_value (slice_get nodes id) a.node x (subst (λ k. slice_get nodes k ≡ Some a.node) same a.at) e in
          let kept : KeepsCube p order x.cube = subst (λ (y : Node). KeepsCube p order y.cube) here a.keeps in
          let h = get_below p.choices c lt in
          alive_child p order ys id c x h.0 h.1 (each_at (KeepsOne order) p.choices c h.0 f.choices h.1) kept)
      | inr apart ↦ record { id = a.id; node = a.node; at = get_front ys two a.id a.node (get_other nodes id a.id a.node (marked x (Divided c)) apart a.at); going = a.going; keeps = a.keeps }
    ]

alive_next : (p : Polygraph) (budget : ℕ) (order : List ℕ) → Fits p order → (s : State) (seat : ℕ) (event : CubeEvent) → Grown p budget s → Alive p order s.nodes → Alive p order (next_of s seat event).nodes
alive_next p budget order f s seat event g a = ways (λ t r. Alive p order t.nodes) s seat event (record {
  stays = λ r _. a;
  holds = λ id x e o _. alive_set p order s.nodes a id x (Held seat) e (inl refl);
  opens = λ id x e h. alive_set p order s.nodes a id x Open e (inl refl);
  splits = λ id c x e h _ going can. alive_split p order f s.nodes a id c x e (subst (λ (q : Polygraph). c < length q.choices) g.same (splits_of s x.cube c can).below);
  refutes = λ id line x e h _ going cycle. alive_set p order s.nodes a id x Refuted e (inr (no_cycle p order f x.cube line (subst (λ (q : Polygraph). is_cycle (edges_under q x.cube) line ≡ true) g.same cycle)));
  solves = λ id order2 x e h _ going _. alive_set p order s.nodes a id x Ended e (inl refl);
})

pub alive_after : (p : Polygraph) (budget : ℕ) (order : List ℕ) → Fits p order → (s : State) → Grown p budget s → Alive p order s.nodes → (history : List (Entry CubeEvent CubeReply)) → Alive p order (replay next_of s history).nodes
alive_after p budget order f s g a [] = a
alive_after p budget order f s g a (x ∷ xs) =
    alive_after p budget order f (next_of s x.seat x.event) (grown_next p budget s x.seat x.event g) (alive_next p budget order f s x.seat x.event g a) xs

-- ---- where every cube is refuted there is none
going_cases : (m : CubeState) → is_going m ≡ true → (is_solved m ≡ true) ⊎ ((is_open m || is_held m) ≡ true)
going_cases Open t = inr refl
going_cases (Held seat) t = inr refl
going_cases (Divided c) t = absurd (false≢true t)
going_cases Refuted t = absurd (false≢true t)
going_cases Ended t = inl refl

pub none_alive : (p : Polygraph) (order : List ℕ) (s : State) → is_exhausted s ≡ true → Alive p order s.nodes → ⊥
none_alive p order s t a =
    let q = and_parts (not (has_solved s.nodes)) (not (has_live s.nodes)) t in
    elim (going_cases a.node.mark a.going) [
      | inl solved ↦ false≢true (sym (not-true (has_solved s.nodes) q.0) ∙ any_at (λ (y : Node). is_solved y.mark) s.nodes a.id a.node a.at solved)
      | inr live ↦ false≢true (sym (not-true (has_live s.nodes) q.1) ∙ any_at (λ (y : Node). is_open y.mark || is_held y.mark) s.nodes a.id a.node a.at live)
    ]

-- ---- solving orders
is_ended : CubeReply → Bool
is_ended Finished = false
is_ended NoCube = false
is_ended BadOrder = false
is_ended Solved = true
is_ended r = false

not_solved : (r : CubeReply) → is_ended r ≡ false → r ≡ Solved → ⊥
unfolding is_ended
not_solved r f e = false≢true (sym f ∙ ap is_ended e)

solved_tested : (p : Polygraph) (cube : Cube) (order : List ℕ) (b : Bool) → is_solution p cube order ≡ b → cond b Solved BadOrder ≡ Solved → Fits p order
unfolding is_ended
solved_tested p cube order true t e = solution_fits p cube order t
solved_tested p cube order false t e = absurd (not_solved BadOrder refl e)

solved_held : (s : State) (order : List ℕ) (h : Option ℕ) → solve_reply s order h ≡ Solved → Fits s.polygraph order
unfolding is_ended
solved_held s order None e = absurd (not_solved NoCube refl e)
solved_held s order (Some id) e = solved_tested s.polygraph (cube_at s id) order (is_solution s.polygraph (cube_at s id) order) refl e

solved_going : (s : State) (seat : ℕ) (order : List ℕ) (b : Bool) → cond b Finished (solve_reply s order (node_held s seat)) ≡ Solved → Fits s.polygraph order
unfolding is_ended
solved_going s seat order true e = absurd (not_solved Finished refl e)
solved_going s seat order false e = solved_held s order (node_held s seat) e

solves_rightly : (p : Polygraph) (s : State) → s.polygraph ≡ p → (seat : ℕ) (event : CubeEvent) → SolvesRightly p event (reply_of s seat event)
unfolding reply_of
solves_rightly p s same seat (Claim id) = tt
solves_rightly p s same seat TakeAny = tt
solves_rightly p s same seat (Split c) = tt
solves_rightly p s same seat (Refute line) = tt
solves_rightly p s same seat (Solve order) = λ e. subst (λ (q : Polygraph). Fits q order) same (solved_going s seat order (is_finished s) e)
solves_rightly p s same seat Release = tt

pub each_solves_rightly : (p : Polygraph) (budget : ℕ) (s : State) → Grown p budget s → (history : List (Entry CubeEvent CubeReply)) → IsLegal next_of reply_of s history → EachSolvesRightly p history
each_solves_rightly p budget s g [] legal = tt
each_solves_rightly p budget s g (x ∷ xs) legal = (
  subst (SolvesRightly p x.event) (sym legal.0) (solves_rightly p s g.same x.seat x.event),
  each_solves_rightly p budget (next_of s x.seat x.event) (grown_next p budget s x.seat x.event g) xs legal.1,
)
