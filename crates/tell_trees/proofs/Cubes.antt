-- The orders that a ledger leaves open and that the cubes of a tree's nodes decide, and what the edges of a leaf's cycle rest on.
use Rattle.tell_trees.proofs.Prelude.{◌≡◌, ℕ, ◌+◌, Bool, true, false, cond, eqb, ◌&&◌, ◌||◌, List, [], ◌∷◌, map, refl, sym, ap, ◌∙◌, subst, length, inl, inr, arith, All, AllByRecursion, list_any, Contains, All-nil, All-cons, All-head}
use Rattle.tell_trees.proofs.Prelude.{All-tail, All-from_recursion, ClientSession, Choice, Edge, Polygraph, One, Two, log_of, ChainOrder, IsOrder, edges_in, AreOrdersOf, names_choice, unsettled_from, no_order, sided, order_at, slice_get}
use Rattle.tell_trees.proofs.Prelude.{slice_index, slice_index_or, get_or_from_slice_get, slice_get_within, behind, Side, TreeNode, cube_below, cube_of, IsChild, IsRefutationTree, Round, RoundView, round_view, RoundStands, AllStand}
use Rattle.tell_trees.proofs.Prelude.{AreEntries, kept_by, AreVisits, IsVisited}
use Rattle.std.proofs.Math.Bool.{or_assoc, or_comm, or-false}
use Rattle.list_lemmas.proofs.Bools.{either_way}
use Rattle.serializability.specs.Log.{Log}
use Rattle.serializability.specs.Reads.{IsClean}
use Rattle.serializability.proofs.Places.{each_from_append, each_of_map}
use Rattle.pruning_laws.specs.Forced.{open_from, edges_of}
use Rattle.pruning_laws.specs.Ledger.{Entry, same_side, sides_in}
use Rattle.prune_ledger.specs.Ledger.{kept_side, kept_after, side_of, edges_after}
use Rattle.prune_ledger.specs.Pruned.{posts_in, Remainder}
use Rattle.prune_ledger.specs.Pruned as pruned
use Rattle.prune_ledger.specs.declared.ledger.LedgerEntry.{LedgerEntry}
use Rattle.chain_laws.specs.Chains.{chain_choices}
use Rattle.reduction.specs.Outcome.{IsOpenHistory}
use Rattle.cube_machine.proofs.Flags.{some_side}
use Rattle.tell_steps.specs.Orders.{choice_of}
use Rattle.known_graph.proofs.Listed.{In, In-from_Contains, Contains-from_In}
use Rattle.known_graph.proofs.Tested.{walk_of}
use Rattle.prune_ledger.proofs.Sides.{side_is, choice_of_edge, kept_cases, no_kept}
use Rattle.cube_laws.specs.Cubes.{Cube}
use Rattle.cube_laws.proofs.Lists.{some_map, map_length}
use Rattle.cube_laws.proofs.Upward.{cube_under, cube_top}
use Rattle.tell_steps.proofs.Chosen.{turned_order}
use Rattle.tell_steps.proofs.Ledgers.{order_leads, Rests, AllRest, all_rest, round_stands}
use Rattle.tell_steps.proofs.Telling.{runs_stand, runs_round}
use Rattle.tell_trees.specs.Visits as visited

-- ---- a side is kept where an entry speaks of its choice
abbrev named_in : List Entry → ℕ → Bool
named_in entries c = list_any (λ e. eqb e.0 c) entries

kept_named : (kept : List Entry) (c : ℕ) → (sides_in kept c One || sides_in kept c Two) ≡ named_in kept c
kept_named [] c = refl
kept_named (e ∷ kept) c =
    either_way (eqb e.0 c && same_side e.1 One) (sides_in kept c One) (eqb e.0 c && same_side e.1 Two) (sides_in kept c Two)
    ∙ (λ i. some_side (eqb e.0 c) e.1 i || kept_named kept c i)

named_after : (kept : List Entry) (entries : List LedgerEntry) (c : ℕ) → named_in (kept_after kept (posts_in entries)) c ≡ (names_choice entries c || named_in kept c)
named_after kept [] c = refl
named_after kept (x ∷ xs) c =
    named_after (kept_side x.post ∷ kept) xs c
    ∙ sym (or_assoc (names_choice xs c) (eqb x.post.choice c) (named_in kept c))
    ∙ ap (λ b. b || named_in kept c) (or_comm (names_choice xs c) (eqb x.post.choice c))

settled_is : (entries : List LedgerEntry) (c : ℕ) → (sides_in (pruned.kept_by entries) c One || sides_in (pruned.kept_by entries) c Two) ≡ names_choice entries c
settled_is entries c = kept_named (pruned.kept_by entries) c ∙ named_after [] entries c ∙ or-false (names_choice entries c)

-- ---- the orders that are left
left_or : (log : Log) (b : Bool) (o : ChainOrder) (xs : List ChainOrder) (ys : List Choice) → IsOrder log o → AreOrdersOf log ys xs → AreOrdersOf log (cond b ys (choice_of log o ∷ ys)) (cond b xs (o ∷ xs))
left_or log true o xs ys h a = a
left_or log false o xs ys h a = record { sides = ap (λ l. choice_of log o ∷ l) a.sides; each = All-cons (IsOrder log) o xs h a.each }

left_from : (log : Log) (entries : List LedgerEntry) (c : ℕ) (os : List ChainOrder) → All (IsOrder log) os → AreOrdersOf log (open_from (sides_in (pruned.kept_by entries)) c (map (choice_of log) os)) (unsettled_from entries c os)
left_from log entries c [] a = record { sides = refl; each = All-nil (IsOrder log) }
left_from log entries c (o ∷ os) a =
    let xs = unsettled_from entries (c + 1) os in
    let ys = open_from (sides_in (pruned.kept_by entries)) (c + 1) (map (choice_of log) os) in
    subst (λ b. AreOrdersOf log (cond b ys (choice_of log o ∷ ys)) (cond (names_choice entries c) xs (o ∷ xs))) (sym (settled_is entries c))
    (left_or log (names_choice entries c) o xs ys (All-head (IsOrder log) o os a) (left_from log entries (c + 1) os (All-tail (IsOrder log) o os a)))

pub left_open : (ss : List ClientSession) (r : Remainder) → IsOpenHistory ss r → (entries : List LedgerEntry) → entries ≡ r.ledger.entries.items → (orders left : List ChainOrder) → map (choice_of (log_of ss)) orders ≡ chain_choices (log_of ss) → All (IsOrder (log_of ss)) orders
    → left ≡ unsettled_from entries 0 orders → AreOrdersOf (log_of ss) r.poly.choices left
left_open ss r h entries entries_are orders left same each is =
    let log = log_of ss in
    let choices = same ∙ sym h.unpruned.chained.choices in
    let left_is : open_from (sides_in (pruned.kept_by entries)) 0 (map (choice_of log) orders) ≡ r.poly.choices = (λ z. open_from (sides_in (pruned.kept_by (entries_are z))) 0 (choices z)) ∙ sym h.left.choices in
    subst (λ hs. AreOrdersOf log hs left) left_is (subst (AreOrdersOf log (open_from (sides_in (pruned.kept_by entries)) 0 (map (choice_of log) orders))) (sym is) (left_from log entries 0 orders each))

-- ---- cubes
module _ (p : Polygraph) (nodes : List TreeNode) (t : IsRefutationTree p nodes) where
  pub root_cube : cube_of nodes 0 ≡ []
  root_cube = let r = t.root in let decision = r.decision in cube_top nodes 0 r.node r.here (omega arith) ∙ ap (cube_below []) decision

  pub child_cube : (i c : ℕ) (side : Side) (j : ℕ) (k : IsChild nodes i c side j) → cube_of nodes j ≡ (c, side) ∷ cube_of nodes i
  child_cube i c side j k =
      let parent = k.parent in let decision = k.decision in let later = k.later in
      cube_under nodes j k.node k.here (omega (arith, parent, later)) ∙ (λ h. cube_below (cube_of nodes (parent h)) (decision h))

-- ---- the sides of a cube
edges_sided : (log : Log) (o : ChainOrder) (s : Side) → edges_of (choice_of log o) s ≡ edges_in log (sided s o)
edges_sided log o One = refl
edges_sided log o Two = refl

sided_order : (log : Log) (o : ChainOrder) (side : Side) → IsOrder log o → IsOrder log (sided side o)
sided_order log o One h = h
sided_order log o Two h = turned_order log o h

pub orders_count : (log : Log) (choices : List Choice) (orders : List ChainOrder) → AreOrdersOf log choices orders → length orders ≡ length choices
orders_count log choices orders h = sym (map_length (choice_of log) orders) ∙ ap length h.sides

-- ---- the ledger of what pruning left
pub ledger_shown : (ss : List ClientSession) (reduced : Remainder) → IsOpenHistory ss reduced → AreEntries ss reduced.ledger.entries.items
ledger_shown ss reduced left =
    let made = left.unpruned.chained in
    record { poly = left.poly; known = λ e. (made.known e).0; choices = made.choices; shown = left.left.ledger.shown }

-- ---- a leaf's cycle
-- a refutation tree of what pruning left of the sessions with this ledger, whose choices are between
-- these orders and their turned ones
pub record IsSearched (ss : List ClientSession) (entries : List LedgerEntry)
    (orders : List ChainOrder) (nodes : List TreeNode) : Type 0 where
  pub clean : IsClean (log_of ss)
  pub reduced : Remainder
  pub left : IsOpenHistory ss reduced
  pub entries_are : entries ≡ reduced.ledger.entries.items
  pub sides : AreOrdersOf (log_of ss) reduced.poly.choices orders
  pub shown : IsRefutationTree reduced.poly nodes

module _ (ss : List ClientSession) (entries : List LedgerEntry) (orders : List ChainOrder) (nodes : List TreeNode) (h : IsSearched ss entries orders nodes) where
  abbrev log : Log
  log = log_of ss

  abbrev p : Polygraph
  p = h.reduced.poly

  side_has : (d : Entry) (e : Edge) → In e (side_of p.choices d.0 d.1) → Contains (edges_in log (order_at orders d)) e
  side_has d e i =
      let g = choice_of_edge p.choices d.0 d.1 e i in
      let r = some_map (choice_of log) orders d.0 g.choice (ap (λ (cs : List Choice). slice_get cs d.0) h.sides.sides ∙ g.at) in
      let same : side_of p.choices d.0 d.1 ≡ edges_in log (order_at orders d) =
      side_is p.choices d.0 g.choice d.1 g.at ∙ ap (λ (z : Choice). edges_of z d.1) (sym r.2) ∙ edges_sided log r.0 d.1 ∙ ap (λ (z : ChainOrder). edges_in log (sided d.1 z)) (sym (get_or_from_slice_get orders d.0 r.0 no_order r.1)) in
      Contains-from_In (edges_in log (order_at orders d)) e (subst (In e) same i)

  sided_at : (d : Entry) (e : Edge) → In e (side_of p.choices d.0 d.1) → IsOrder log (order_at orders d)
  sided_at d e i =
      let g = choice_of_edge p.choices d.0 d.1 e i in
      sided_order log (slice_index_or orders d.0 no_order) d.1 (h.sides.each d.0 no_order (omega (arith, slice_get_within p.choices d.0 g.choice g.at, orders_count log p.choices orders h.sides)))

  known_rests : (e : Edge) → Contains p.known e → Rests ss (kept_by ss entries) [] e
  unfolding ledger_shown
  known_rests e c =
      let all = ledger_shown ss h.reduced h.left in
      all_rest ss all.poly (record { clean = h.clean; known = all.known; choices = all.choices }) [] (posts_in entries) e (subst (λ es. Contains (edges_after all.poly (pruned.kept_by es)) e) (sym h.entries_are) ((h.left.left.known e).0 c))

  cube_rests : (cube : Cube) → AllRest ss (kept_by ss entries) (map (order_at orders) cube) (edges_after p cube)
  cube_rests cube e c = in_cube cube (In-from_Contains (edges_after p cube) e c)
    where
      in_cube : (cube : Cube) → In e (edges_after p cube) → Rests ss (kept_by ss entries) (map (order_at orders) cube) e
      in_cube [] i = known_rests e (Contains-from_In p.known e (no_kept p e i))
      in_cube (d ∷ cube) i = elim (kept_cases p cube d e i) [
        | inl a ↦
            let r = in_cube cube a in
            record {
              second = r.second;
              has = λ lo none. elim (r.has lo none) [
                | inl o ↦ inl o
                | inr o ↦ inr (record { order = o.order; among = behind (order_at orders d) (map (order_at orders) cube) o.order o.among; has = o.has })
              ];
            }
        | inr b ↦
            let has = side_has d e b in
            record {
              second = order_leads ss (order_at orders d) (sided_at d e b) e has;
              has = λ lo none. inr (record { order = order_at orders d; among = (0, omega arith, refl); has = has });
            }
      ]

  abbrev AllRounds : List RoundView → Type 0
  AllRounds = AllByRecursion (RoundStands ss (kept_by ss entries))

  visits_stand : {decided : List ChainOrder} {i n k : ℕ} {rs : List RoundView} → IsVisited ss orders nodes i decided n k rs → decided ≡ map (order_at orders) (cube_of nodes i) → All (IsOrder log) decided → AllRounds rs
  visits_stand (visited.leaf i decided n line lt g) is all =
      let start = slice_index line 0 in
      let edges = edges_after p (cube_of nodes i) in
      let rest = subst (λ os. AllRest ss (kept_by ss entries) os edges) (sym is) (cube_rests (cube_of nodes i)) in
      let l = round_stands ss (kept_by ss entries) decided edges rest line (start, walk_of edges line start start (h.shown.leaves i g.node line g.here g.is)) in
      (record { decided = all; round = runs_round ss line l.0; rests = runs_stand ss (kept_by ss entries) decided line l.1 }, tt)
  visits_stand (visited.split i decided n m k c first second one two g lt a b) is all =
      let s = h.shown.inner i g.node c first second g.here g.is in
      let more : (side : Side) → All (IsOrder log) (order_at orders (c, side) ∷ decided) = λ side. All-cons (IsOrder log) (order_at orders (c, side)) decided (sided_order log (slice_index_or orders c no_order) side (h.sides.each c no_order lt)) all in
      let below : (side : Side) (j : ℕ) → IsChild nodes i c side j → order_at orders (c, side) ∷ decided ≡ map (order_at orders) (cube_of nodes j) = λ side j child. ap (λ os. order_at orders (c, side) ∷ os) is ∙ sym (ap (map (order_at orders)) (child_cube p nodes h.shown i c side j child)) in
      (record { decided = all; round = tt; rests = tt }, each_from_append (RoundStands ss (kept_by ss entries)) one two (visits_stand a (below One first s.one) (more One)) (visits_stand b (below Two second s.two) (more Two)))
  visits_stand (visited.left_out i decided) is all = (record { decided = all; round = tt; rests = tt }, tt)

  pub rounds_stand : (rounds : List Round) → AreVisits ss orders nodes (map round_view rounds) → AllStand ss (kept_by ss entries) rounds
  rounds_stand rounds v =
      let none = All-nil (IsOrder log) in
      All-from_recursion (λ (r : Round). RoundStands ss (kept_by ss entries) (round_view r)) rounds
      (each_of_map (RoundStands ss (kept_by ss entries)) round_view rounds (subst AllRounds (sym v.whole) (record { decided = none; round = tt; rests = tt }, visits_stand v.visited (sym (ap (map (order_at orders)) (root_cube p nodes h.shown))) none)))
