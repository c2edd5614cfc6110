-- The tree that a history grows, step by step.
use Rattle.branch_search.proofs.Prelude.{◌≡◌, ◌⊎◌, ℕ, ◌+◌, ◌<◌, Bool, true, false, not, ◌||◌, List, [], ◌∷◌, ◌++◌, length, Option, Some, None, refl, sym, ap, ◌∙◌, subst, inl, inr, arith, slice_get, slice_set, slice_index_or, if◌then◌else◌}
use Rattle.branch_search.proofs.Prelude.{and_parts, not-true, ltb-true, get_or-set_same, get_or-set_other, same_Some, Polygraph, Side, One, Two, Entry, IsLegal, replay, Cube, is_decided, edges_under, Node, State, is_open, is_held}
use Rattle.branch_search.proofs.Prelude.{is_solved, is_cycle, is_solution, is_finished, is_exhausted, is_open_at, is_choice, can_split, node_held, last_open, has_solved, has_live, cube_at, with_mark, claim_reply, any_reply, split_reply}
use Rattle.branch_search.proofs.Prelude.{refute_reply, solve_reply, reply_of, next_of, claimed, taken, held_where, split_where, refuted_where, solved_where, opened_at, held_at, closed_by, split_at, is_closing, CubeState, Open, Held}
use Rattle.branch_search.proofs.Prelude.{Refuted, Solved as Ended, CubeEvent, Claim, TakeAny, Split, Refute, Solve, Release, CubeReply, Finished, HasCube, NotOpen, NoneNow, NoCube, BadChoice, Children, BadCycle, Closed, BadOrder, Released}
use Rattle.branch_search.proofs.Prelude.{CubeDecision, Growth, Leaf, Inner, TreeNode, held_after, bud, sprout, with_growth, grown, cubes_after, cube_of, IsChild, IsSplit, IsBelow, IsRoot, IsRefutationTree, within, there, map_some, some_map}
use Rattle.branch_search.proofs.Prelude.{map_length, map_append, or_map, any_false}
use Rattle.cube_laws.specs.declared.messages.CubeState.TheVariants.{Split as Divided}
use Rattle.cube_laws.specs.declared.messages.CubeReply.TheVariants.{Cube as Given, Solved}
use Rattle.cube_laws.proofs.Growths.{leaf_is, choice_is, first_is, second_is, leaf_or_inner}
use Rattle.branch_search.proofs.Boughs.{IsLive, live_open, live_held, live_ended, IsChildAt, HasChildren, IsGrown, grown_marked, grown_refuted, grown_split}
use Rattle.branch_search.proofs.Seated.{marks_of, cubes_in, marks_with, cubes_with, held_is, last_is_open, claimed_is_open, Tied, Others, tied_same, tied_given, tied_left, tied_more}
use Rattle.branch_search.proofs.Cubed.{parents_of, decisions_of, growths_of, growths_with, parents_with, decisions_with, cubes_same, cubes_append, cubes_split}
use Rattle.branch_search.proofs.Grown.{grown_open, grown_closed}

-- the nodes are the tree of the state, and the table says which seat holds which
pub record IsTree (p : Polygraph) (s : State) (nodes : List TreeNode) (h : ℕ → Option ℕ) : Type 0 where
  pub poly : s.polygraph ≡ p
  pub cubes : cubes_in s.nodes ≡ cubes_after [] nodes
  pub boughs : IsGrown p (cubes_in s.nodes) (marks_of s.nodes) (parents_of nodes) (decisions_of nodes) (growths_of nodes)
  pub tied : Tied (marks_of s.nodes) h

module _ (p : Polygraph) (s : State) (nodes : List TreeNode) (h now : ℕ → Option ℕ) (seat : ℕ) (low : seat < 17) (t : IsTree p s nodes h) (others : Others h now seat) where
  mark_of : (id : ℕ) → h seat ≡ Some id → slice_get (marks_of s.nodes) id ≡ Some (Held seat)
  mark_of id held = (t.tied seat id low).to held

  -- the node of the state, and of the tree, with this mark
  state_node : (id : ℕ) (m : CubeState) → slice_get (marks_of s.nodes) id ≡ Some m → (n : Node) × (slice_get s.nodes id ≡ Some n)
  state_node id m e = let r = some_map (λ (x : Node). x.mark) s.nodes id m e in (r.0, r.1)

  tree_node : (id : ℕ) (m : CubeState) → slice_get (marks_of s.nodes) id ≡ Some m → (n : TreeNode) × (slice_get nodes id ≡ Some n)
  tree_node id m e =
      let lt = within (marks_of s.nodes) id m e in let same = t.boughs.growths in
      let g = there (growths_of nodes) id (omega (arith, lt, same)) in
      let r = some_map (λ (x : TreeNode). x.growth) nodes id g.0 g.1 in (r.0, r.1)

  quiet : (e : CubeEvent) (r q : CubeReply) → r ≡ q → is_closing q ≡ false → held_after (h seat) q ≡ h seat → now seat ≡ held_after (h seat) r → IsTree p s (grown nodes (h seat) e r) now
  quiet e r q is c same here =
      subst (λ ns. IsTree p s ns now) (sym (grown_open nodes (h seat) e r (ap is_closing is ∙ c)))
      (record { poly = t.poly; cubes = t.cubes; boughs = t.boughs; tied = tied_same (marks_of s.nodes) h now seat t.tied others (here ∙ ap (held_after (h seat)) is ∙ same) })

  -- a node has another mark, and is neither split nor refuted
  marked : (id closed : ℕ) (old m : CubeState) → slice_get (marks_of s.nodes) id ≡ Some old → IsLive old → IsLive m → Tied (slice_set (marks_of s.nodes) id m) now
      → IsTree p (record { polygraph = s.polygraph; nodes = with_mark s.nodes id m; closed = closed; budget = s.budget }) nodes now
  marked id closed old m at live fresh tied =
      let n = state_node id old at in
      let ms = marks_with s.nodes id m n.0 n.1 in
      let cs = cubes_with s.nodes id m n.0 n.1 in
      record {
        poly = t.poly;
        cubes = cs ∙ t.cubes;
        boughs = subst (λ (z : List Cube × List CubeState). IsGrown p z.0 z.1 (parents_of nodes) (decisions_of nodes) (growths_of nodes)) (λ i. (sym cs i, sym ms i))
            (grown_marked p (cubes_in s.nodes) (marks_of s.nodes) (parents_of nodes) (decisions_of nodes) (growths_of nodes) id old at live t.boughs m fresh);
        tied = subst (λ l. Tied l now) (sym ms) tied;
      }

  give : (id : ℕ) (e : CubeEvent) (r : CubeReply) → h seat ≡ None → slice_get (marks_of s.nodes) id ≡ Some Open → r ≡ Given id → now seat ≡ held_after (h seat) r → IsTree p (held_at s seat id) (grown nodes (h seat) e r) now
  give id e r none at is here =
      subst (λ ns. IsTree p (held_at s seat id) ns now) (sym (grown_open nodes (h seat) e r (ap is_closing is)))
      (marked id s.closed Open (Held seat) at live_open (live_held seat) (tied_given (marks_of s.nodes) h now seat id low t.tied others at none (here ∙ ap (held_after (h seat)) is)))

  not_held : (m : CubeState) → m ≡ Open ⊎ (m ≡ Ended ⊎ (m ≡ Refuted ⊎ ((c : ℕ) × (m ≡ Divided c)))) → (k : ℕ) → m ≡ Held k → ⊥
  not_held m f k e = elim f [
    | inl a ↦ (let x : Open ≡ Held k = sym a ∙ e in cc)
    | inr b ↦ elim b [
      | inl a ↦ (let x : Ended ≡ Held k = sym a ∙ e in cc)
      | inr d ↦ elim d [
        | inl a ↦ (let x : Refuted ≡ Held k = sym a ∙ e in cc)
        | inr g ↦ (let x : Divided g.0 ≡ Held k = sym g.1 ∙ e in cc)
      ]
    ]
  ]

  release : (o : Option ℕ) (r : CubeReply) → o ≡ h seat → r ≡ Released → now seat ≡ held_after (h seat) r → IsTree p (opened_at s o) (grown nodes (h seat) Release r) now
  release None r is e here = quiet Release r Released e refl is here
  release (Some id) r is e here =
      subst (λ ns. IsTree p (opened_at s (Some id)) ns now) (sym (grown_open nodes (h seat) Release r (ap is_closing e)))
      (marked id s.closed (Held seat) Open (mark_of id (sym is)) (live_held seat) live_open
      (tied_left (marks_of s.nodes) h now seat id Open low t.tied others (sym is) (not_held Open (inl refl)) (here ∙ ap (held_after (h seat)) e)))

  claim_where : (id : ℕ) (r : CubeReply) (b : Bool) → is_open_at s id ≡ b → h seat ≡ None → r ≡ (if b then Given id else NotOpen) → now seat ≡ held_after (h seat) r → IsTree p (held_where s seat (if b then Some id else None)) (grown nodes (h seat) (Claim id) r) now
  claim_where id r true at none e here = give id (Claim id) r none (claimed_is_open s id at) e here
  claim_where id r false at none e here = quiet (Claim id) r NotOpen e refl refl here

  claim : (id : ℕ) (r : CubeReply) (b : Bool) (o : Option ℕ) → o ≡ h seat → r ≡ (if b then Finished else claim_reply s id o) → now seat ≡ held_after (h seat) r → IsTree p (if b then s else held_where s seat (claimed s id o)) (grown nodes (h seat) (Claim id) r) now
  claim id r true o is e here = quiet (Claim id) r Finished e refl refl here
  claim id r false (Some x) is e here = quiet (Claim id) r HasCube e refl refl here
  claim id r false None is e here = claim_where id r (is_open_at s id) refl (sym is) e here

  take_any : (r : CubeReply) (b : Bool) (o q : Option ℕ) → o ≡ h seat → last_open s ≡ q → r ≡ (if b then Finished else any_reply o q) → now seat ≡ held_after (h seat) r → IsTree p (if b then s else held_where s seat (taken o q)) (grown nodes (h seat) TakeAny r) now
  take_any r true o q is at e here = quiet TakeAny r Finished e refl refl here
  take_any r false (Some x) q is at e here = quiet TakeAny r HasCube e refl refl here
  take_any r false None None is at e here = quiet TakeAny r NoneNow e refl refl here
  take_any r false None (Some id) is at e here = give id TakeAny r (sym is) (last_is_open s.nodes id at) e here

  solve_where : (order : List ℕ) (id : ℕ) (r : CubeReply) (b : Bool) → h seat ≡ Some id → r ≡ (if b then Solved else BadOrder) → now seat ≡ held_after (h seat) r → IsTree p (if b then closed_by s id Ended else s) (grown nodes (h seat) (Solve order) r) now
  solve_where order id r true held e here =
      subst (λ ns. IsTree p (closed_by s id Ended) ns now) (sym (grown_closed nodes (h seat) id (Solve order) r (ap is_closing e) held))
      (marked id (s.closed + 1) (Held seat) Ended (mark_of id held) (live_held seat) live_ended
      (tied_left (marks_of s.nodes) h now seat id Ended low t.tied others held (not_held Ended (inr (inl refl))) (here ∙ ap (held_after (h seat)) e)))
  solve_where order id r false held e here = quiet (Solve order) r BadOrder e refl refl here

  solve : (order : List ℕ) (r : CubeReply) (b : Bool) (o : Option ℕ) → o ≡ h seat → r ≡ (if b then Finished else solve_reply s order o) → now seat ≡ held_after (h seat) r → IsTree p (if b then s else solved_where s order o) (grown nodes (h seat) (Solve order) r) now
  solve order r true o is e here = quiet (Solve order) r Finished e refl refl here
  solve order r false None is e here = quiet (Solve order) r NoCube e refl refl here
  solve order r false (Some id) is e here = solve_where order id r (is_solution s.polygraph (cube_at s id) order) (sym is) e here

  cube_is : (id : ℕ) → cube_at s id ≡ slice_index_or (cubes_in s.nodes) id []
  cube_is id = or_map (λ (x : Node). x.cube) s.nodes id []

  -- refuted
  refute_tree : (line : List ℕ) (id : ℕ) → h seat ≡ Some id → now seat ≡ None → is_cycle (edges_under s.polygraph (cube_at s id)) line ≡ true → IsTree p (closed_by s id Refuted) (with_growth nodes id (Leaf line)) now
  refute_tree line id held none cycle =
      let at = mark_of id held in
      let n = state_node id (Held seat) at in
      let x = tree_node id (Held seat) at in
      let ms = marks_with s.nodes id Refuted n.0 n.1 in
      let cs = cubes_with s.nodes id Refuted n.0 n.1 in
      let ps = parents_with nodes id (Leaf line) x.0 x.1 in
      let ds = decisions_with nodes id (Leaf line) x.0 x.1 in
      let gs = growths_with nodes id (Leaf line) x.0 x.1 in
      let poly = t.poly in
      let cube = cube_is id in
      let here : is_cycle (edges_under p (slice_index_or (cubes_in s.nodes) id [])) line ≡ true = subst (λ (z : Polygraph × Cube). is_cycle (edges_under z.0 z.1) line ≡ true) (λ i. (poly i, cube i)) cycle in
      record {
        poly = t.poly;
        cubes = cs ∙ t.cubes ∙ cubes_same [] nodes (with_growth nodes id (Leaf line)) (sym ps) (sym ds);
        boughs = subst (λ (z : List Cube × List CubeState × List ℕ × List (Option CubeDecision) × List Growth). IsGrown p z.0 z.1 z.2 z.3 z.4) (λ i. (sym cs i, sym ms i, sym ps i, sym ds i, sym gs i))
            (grown_refuted p (cubes_in s.nodes) (marks_of s.nodes) (parents_of nodes) (decisions_of nodes) (growths_of nodes) id (Held seat) at (live_held seat) t.boughs line here);
        tied = subst (λ l. Tied l now) (sym ms) (tied_left (marks_of s.nodes) h now seat id Refuted low t.tied others held (not_held Refuted (inr (inr (inl refl)))) none);
      }

  refute_where : (line : List ℕ) (id : ℕ) (r : CubeReply) (b : Bool) → is_cycle (edges_under s.polygraph (cube_at s id)) line ≡ b → h seat ≡ Some id → r ≡ (if b then Closed else BadCycle) → now seat ≡ held_after (h seat) r → IsTree p (if b then closed_by s id Refuted else s) (grown nodes (h seat) (Refute line) r) now
  refute_where line id r true cycle held e here =
      subst (λ ns. IsTree p (closed_by s id Refuted) ns now) (sym (grown_closed nodes (h seat) id (Refute line) r (ap is_closing e) held))
      (refute_tree line id held (here ∙ ap (held_after (h seat)) e) cycle)
  refute_where line id r false cycle held e here = quiet (Refute line) r BadCycle e refl refl here

  refute : (line : List ℕ) (r : CubeReply) (b : Bool) (o : Option ℕ) → o ≡ h seat → r ≡ (if b then Finished else refute_reply s line o) → now seat ≡ held_after (h seat) r → IsTree p (if b then s else refuted_where s line o) (grown nodes (h seat) (Refute line) r) now
  refute line r true o is e here = quiet (Refute line) r Finished e refl refl here
  refute line r false None is e here = quiet (Refute line) r NoCube e refl refl here
  refute line r false (Some id) is e here = refute_where line id r (is_cycle (edges_under s.polygraph (cube_at s id)) line) refl (sym is) e here

  -- split
  split_tree : (c id : ℕ) → h seat ≡ Some id → now seat ≡ None → can_split s (cube_at s id) c ≡ true → IsTree p (split_at s id c) (with_growth nodes id (Inner c (length nodes) (length nodes + 1)) ++ sprout id c One ∷ sprout id c Two ∷ []) now
  split_tree c id held none can =
      let at = mark_of id held in
      let n = state_node id (Held seat) at in
      let x = tree_node id (Held seat) at in
      let one : Cube = (c, One) ∷ cube_at s id in
      let two : Cube = (c, Two) ∷ cube_at s id in
      let two_nodes : List Node = record { parent = id; cube = one; mark = Open } ∷ record { parent = id; cube = two; mark = Open } ∷ [] in
      let grown_so = Inner c (length nodes) (length nodes + 1) in
      let old = with_growth nodes id grown_so in
      let sprouts = sprout id c One ∷ sprout id c Two ∷ [] in
      let ms = map_append (λ (y : Node). y.mark) (with_mark s.nodes id (Divided c)) two_nodes ∙ ap (λ l. l ++ Open ∷ Open ∷ []) (marks_with s.nodes id (Divided c) n.0 n.1) in
      let cs = map_append (λ (y : Node). y.cube) (with_mark s.nodes id (Divided c)) two_nodes ∙ ap (λ l. l ++ one ∷ two ∷ []) (cubes_with s.nodes id (Divided c) n.0 n.1) in
      let ps = map_append (λ (y : TreeNode). y.parent) old sprouts ∙ ap (λ l. l ++ id ∷ id ∷ []) (parents_with nodes id grown_so x.0 x.1) in
      let ds = map_append (λ (y : TreeNode). y.decision) old sprouts ∙ ap (λ l. l ++ Some (record { choice = c; side = One }) ∷ Some (record { choice = c; side = Two }) ∷ []) (decisions_with nodes id grown_so x.0 x.1) in
      let gs = map_append (λ (y : TreeNode). y.growth) old sprouts ∙ ap (λ l. l ++ bud ∷ bud ∷ []) (growths_with nodes id grown_so x.0 x.1) in
      let both = and_parts (is_choice s c) (not (is_decided (cube_at s id) c)) can in
      let choice : c < length p.choices = subst (λ (z : Polygraph). c < length z.choices) t.poly (ltb-true c (length s.polygraph.choices) both.0) in
      let undecided : is_decided (slice_index_or (cubes_in s.nodes) id []) c ≡ false = ap (λ (k : Cube). is_decided k c) (sym (cube_is id)) ∙ not-true (is_decided (cube_at s id) c) both.1 in
      let lt = within (marks_of s.nodes) id (Held seat) at in
      let many = t.boughs.cubes in
      let after : cubes_after [] old ≡ cubes_in s.nodes = cubes_same [] old nodes (parents_with nodes id grown_so x.0 x.1) (decisions_with nodes id grown_so x.0 x.1) ∙ sym t.cubes in
      record {
        poly = t.poly;
        cubes = cs ∙ sym (cubes_append [] old sprouts ∙ ap (λ (l : List Cube). cubes_after l sprouts) after ∙ cubes_split (cubes_in s.nodes) id c (cube_at s id) (omega (arith, lt, many)) (sym (cube_is id)));
        boughs = subst (λ (z : List Cube × List CubeState × List ℕ × List (Option CubeDecision) × List Growth). IsGrown p z.0 z.1 z.2 z.3 z.4) (λ i. (sym cs i, sym ms i, sym ps i, sym ds i, sym gs i))
            (grown_split p (cubes_in s.nodes) (marks_of s.nodes) (parents_of nodes) (decisions_of nodes) (growths_of nodes) id (Held seat) at (live_held seat) t.boughs c choice undecided one two (length nodes) (sym (map_length (λ (y : TreeNode). y.growth) nodes) ∙ t.boughs.growths));
        tied = subst (λ l. Tied l now) (sym ms)
            (tied_more (slice_set (marks_of s.nodes) id (Divided c)) now (tied_left (marks_of s.nodes) h now seat id (Divided c) low t.tied others held (not_held (Divided c) (inr (inr (inr (c, refl))))) none));
      }

  split_in : (c id : ℕ) (r : CubeReply) (b : Bool) → can_split s (cube_at s id) c ≡ b → h seat ≡ Some id → r ≡ (if b then Children (length s.nodes) (length s.nodes + 1) else BadChoice) → now seat ≡ held_after (h seat) r → IsTree p (if b then split_at s id c else s) (grown nodes (h seat) (Split c) r) now
  split_in c id r true can held e here =
      subst (λ ns. IsTree p (split_at s id c) ns now) (sym (grown_closed nodes (h seat) id (Split c) r (ap is_closing e) held))
      (split_tree c id held (here ∙ ap (held_after (h seat)) e) can)
  split_in c id r false can held e here = quiet (Split c) r BadChoice e refl refl here

  split : (c : ℕ) (r : CubeReply) (b : Bool) (o : Option ℕ) → o ≡ h seat → r ≡ (if b then Finished else split_reply s c o) → now seat ≡ held_after (h seat) r → IsTree p (if b then s else split_where s c o) (grown nodes (h seat) (Split c) r) now
  split c r true o is e here = quiet (Split c) r Finished e refl refl here
  split c r false None is e here = quiet (Split c) r NoCube e refl refl here
  split c r false (Some id) is e here = split_in c id r (can_split s (cube_at s id) c) refl (sym is) e here

  pub stepped : (e : CubeEvent) (r : CubeReply) → r ≡ reply_of s seat e → now seat ≡ held_after (h seat) r → IsTree p (next_of s seat e) (grown nodes (h seat) e r) now
  unfolding next_of reply_of
  stepped (Claim id) r is here = claim id r (is_finished s) (node_held s seat) (held_is s.nodes h seat low t.tied) is here
  stepped TakeAny r is here = take_any r (is_finished s) (node_held s seat) (last_open s) (held_is s.nodes h seat low t.tied) refl is here
  stepped (Split c) r is here = split c r (is_finished s) (node_held s seat) (held_is s.nodes h seat low t.tied) is here
  stepped (Refute line) r is here = refute line r (is_finished s) (node_held s seat) (held_is s.nodes h seat low t.tied) is here
  stepped (Solve order) r is here = solve order r (is_finished s) (node_held s seat) (held_is s.nodes h seat low t.tied) is here
  stepped Release r is here = release (node_held s seat) r (held_is s.nodes h seat low t.tied) is here

-- ---- all steps of a history
abbrev pub table : List (Option ℕ) → ℕ → Option ℕ
table held k = slice_index_or held k None

pub record Standing (p : Polygraph) (last : State) (nodes : List TreeNode) (held : List (Option ℕ)) (rest : List (Entry CubeEvent CubeReply)) : Type 0 where
  pub now : State
  pub tree : IsTree p now nodes (table held)
  pub legal : IsLegal next_of reply_of now rest
  pub ends : replay next_of now rest ≡ last

pub standing_step : (p : Polygraph) (last : State) (nodes after : List TreeNode) (held moved : List (Option ℕ)) (x : Entry CubeEvent CubeReply) (rest : List (Entry CubeEvent CubeReply)) → length held ≡ 17 → x.seat < 17
    → after ≡ grown nodes (table held x.seat) x.event x.reply → moved ≡ slice_set held x.seat (held_after (table held x.seat) x.reply)
    → Standing p last nodes held (x ∷ rest) → Standing p last after moved rest
standing_step p last nodes after held moved x rest size low made put st = record {
  now = next_of st.now x.seat x.event;
  tree = subst (λ ns. IsTree p (next_of st.now x.seat x.event) ns (table moved)) (sym made)
      (stepped p st.now nodes (table held) (table moved) x.seat low st.tree
      (λ k ne. ap (λ l. table l k) put ∙ get_or-set_other held x.seat k (held_after (table held x.seat) x.reply) None ne)
      x.event x.reply st.legal.0
      (ap (λ l. table l x.seat) put ∙ get_or-set_same held x.seat (held_after (table held x.seat) x.reply) None (omega (arith, low, size))));
  legal = st.legal.1;
  ends = st.ends;
}

-- ---- where no node is left
abbrev IsDone : CubeState → Type 0
IsDone m = (m ≡ Refuted) ⊎ ((c : ℕ) × (m ≡ Divided c))

done_by : (m : CubeState) → is_solved m ≡ false → (is_open m || is_held m) ≡ false → IsDone m
done_by (Divided c) a b = inr (c, refl)
done_by Refuted a b = inl refl
done_by _ a b = absurd (cc)

all_done : (s : State) → is_exhausted s ≡ true → (i : ℕ) (m : CubeState) → slice_get (marks_of s.nodes) i ≡ Some m → IsDone m
all_done s ex i m at =
    let parts = and_parts (not (has_solved s.nodes)) (not (has_live s.nodes)) ex in
    let n = some_map (λ (x : Node). x.mark) s.nodes i m at in
    subst IsDone n.2
    (done_by n.0.mark
    (any_false (λ (x : Node). is_solved x.mark) s.nodes i n.0 (not-true (has_solved s.nodes) parts.0) n.1)
    (any_false (λ (x : Node). is_open x.mark || is_held x.mark) s.nodes i n.0 (not-true (has_live s.nodes) parts.1) n.1))

module _ (p : Polygraph) (s : State) (nodes : List TreeNode) (h : ℕ → Option ℕ) (t : IsTree p s nodes h) (ex : is_exhausted s ≡ true) where
  mark_at : (i : ℕ) (x : TreeNode) → slice_get nodes i ≡ Some x → (m : CubeState) × (slice_get (marks_of s.nodes) i ≡ Some m)
  mark_at i x e =
      let lt = within (growths_of nodes) i x.growth (map_some (λ (y : TreeNode). y.growth) nodes i x e) in let same = t.boughs.growths in
      there (marks_of s.nodes) i (omega (arith, lt, same))

  child_of : (i c : ℕ) (side : Side) (j : ℕ) → IsChildAt (parents_of nodes) (decisions_of nodes) i c side j → IsChild nodes i c side j
  child_of i c side j k =
      let n = some_map (λ (y : TreeNode). y.parent) nodes j i k.parent in
      record { node = n.0; here = n.1; later = k.later; parent = n.2; decision = same_Some n.0.decision (Some (record { choice = c; side = side })) (sym (map_some (λ (y : TreeNode). y.decision) nodes j n.0 n.1) ∙ k.decision) }

  cube_same : (i : ℕ) → slice_index_or (cubes_in s.nodes) i [] ≡ cube_of nodes i
  cube_same i = ap (λ l. slice_index_or l i []) t.cubes

  growth_is : (i : ℕ) (x : TreeNode) (g : Growth) → slice_get nodes i ≡ Some x → slice_get (growths_of nodes) i ≡ Some g → x.growth ≡ g
  growth_is i x g e f = same_Some x.growth g (sym (map_some (λ (y : TreeNode). y.growth) nodes i x e) ∙ f)

  leaf_at : (i : ℕ) (x : TreeNode) (line : List ℕ) → slice_get nodes i ≡ Some x → x.growth ≡ Leaf line → is_cycle (edges_under p (cube_of nodes i)) line ≡ true
  leaf_at i x line e f =
      let m = mark_at i x e in
      elim (all_done s ex i m.0 m.1) [
        | inl a ↦ (let k = t.boughs.leaves i (m.1 ∙ ap Some a) in
            let same : line ≡ k.line = leaf_is line k.line (sym f ∙ growth_is i x (Leaf k.line) e k.here) in
            let cube = cube_same i in
            ap (λ (z : Cube × List ℕ). is_cycle (edges_under p z.0) z.1) (λ j. (sym cube j, same j)) ∙ k.cycle)
        | inr b ↦ (let k = t.boughs.inner i b.0 (m.1 ∙ ap Some b.1) in absurd (leaf_or_inner line b.0 k.first k.second (sym f ∙ growth_is i x (Inner b.0 k.first k.second) e k.growth)))
      ]

  split_of : (i c : ℕ) (k : HasChildren p (cubes_in s.nodes) (parents_of nodes) (decisions_of nodes) (growths_of nodes) i c) → IsSplit p nodes i c k.first k.second
  split_of i c k = record {
    choice = k.choice;
    undecided = ap (λ (z : Cube). is_decided z c) (sym (cube_same i)) ∙ k.undecided;
    one = child_of i c One k.first k.one;
    two = child_of i c Two k.second k.two;
    only = λ j x lt e same. k.only j lt (map_some (λ (y : TreeNode). y.parent) nodes j x e ∙ ap Some same);
  }

  inner_at : (i : ℕ) (x : TreeNode) (c first second : ℕ) → slice_get nodes i ≡ Some x → x.growth ≡ Inner c first second → IsSplit p nodes i c first second
  inner_at i x c first second e f =
      let m = mark_at i x e in
      elim (all_done s ex i m.0 m.1) [
        | inl a ↦ (let k = t.boughs.leaves i (m.1 ∙ ap Some a) in absurd (leaf_or_inner k.line c first second (sym (growth_is i x (Leaf k.line) e k.here) ∙ f)))
        | inr b ↦ (let k = t.boughs.inner i b.0 (m.1 ∙ ap Some b.1) in
            let same = sym (growth_is i x (Inner b.0 k.first k.second) e k.growth) ∙ f in
            let one = choice_is b.0 c k.first k.second first second same in
            let two = first_is b.0 c k.first k.second first second same in
            let three = second_is b.0 c k.first k.second first second same in
            subst (λ (z : ℕ × ℕ × ℕ). IsSplit p nodes i z.0 z.1 z.2) (λ j. (one j, two j, three j)) (split_of i b.0 k))
      ]

  below_at : (i : ℕ) (x : TreeNode) → 0 < i → slice_get nodes i ≡ Some x → IsBelow nodes i x
  below_at i x lt e =
      let u = t.boughs.below i x.parent lt (map_some (λ (y : TreeNode). y.parent) nodes i x e) in
      let k = t.boughs.inner x.parent u.choice u.split in
      let n = some_map (λ (y : TreeNode). y.growth) nodes x.parent (Inner u.choice k.first k.second) k.growth in
      record { before = u.before; parent = n.0; here = n.1; choice = u.choice; first = k.first; second = k.second; split = n.2 }

  root_at : IsRoot nodes
  root_at =
      let n = some_map (λ (y : TreeNode). y.parent) nodes 0 0 t.boughs.root_parent in
      record { node = n.0; here = n.1; parent = n.2; decision = same_Some n.0.decision None (sym (map_some (λ (y : TreeNode). y.decision) nodes 0 n.0 n.1) ∙ t.boughs.root_decision) }

  pub refutation : IsRefutationTree p nodes
  refutation = record { root = root_at; below = below_at; leaves = leaf_at; inner = inner_at }

pub standing_last : (p : Polygraph) (last : State) (nodes : List TreeNode) (held : List (Option ℕ)) (rest : List (Entry CubeEvent CubeReply)) → length rest ≡ 0 → is_exhausted last ≡ true → Standing p last nodes held rest → IsRefutationTree p nodes
standing_last p last nodes held [] none ex st = refutation p st.now nodes (table held) st.tree (ap is_exhausted st.ends ∙ ex)
standing_last p last nodes held (x ∷ xs) none ex st = absurd (omega (arith, none))
