-- As many cycles are told of a tree as it has leaves, and what is told holds in each serial order.
use Rattle.std.proofs.Common.{◌≡◌, ℕ, ◌+◌, List, [], ◌∷◌, ◌++◌, Bool, true, false, cond, ap, refl, arith, ◌≢◌, ◌⊎◌, ◌<◌, sym, subst, inl, inr, zero, suc, Option, Some, None, ◌∙◌, append_assoc}
use Rattle.std.specs.Prelude.{nat_lt, map}
use Rattle.session_log.specs.Text.{ClientSession}
use Rattle.serializability.specs.Polygraph.{Choice, Keeps, KeepsOne, all_keys, Edge, committed}
use Rattle.cube_laws.specs.declared.tree.TreeNode.{TreeNode}
use Rattle.tell_proposals.specs.declared.proposal.Step.{Step}
use Rattle.tell_reasons.specs.declared.why.ChainOrder.{ChainOrder}
use Rattle.tell_steps.specs.Steps as told
use Rattle.tell_steps.specs.Steps.{turned, IsLineTold, IsOrder, edges_in, Follows, IsWhy}
use Rattle.tell_steps.specs.Ledgers.{orders_of}
use Rattle.tell_steps.specs.Told.{IsRoundTold, AreStepsTold}
use Rattle.tell_steps.specs.Rounds.{RoundView, AreRoundsTold, IsDeadTold}
use Rattle.tell_steps.specs.declared.item.Item.{Item}
use Rattle.tell_steps.specs.declared.item.Item.TheVariants as item
use Rattle.tell_trees.specs.Orders.{no_order, order_at}
use Rattle.tell_trees.specs.Trees.{leaves_items, IsTreeTold, told_leaves}
use Rattle.tell_trees.specs.Visits as visits
use Rattle.tell_trees.specs.Visits.{leaf_count, IsVisited, decision_items, round_at}
use Rattle.tell_laws.specs.Counts.{cycles_in}
use Rattle.std.specs.List.{All, Contains, AllByRecursion}
use Rattle.std.proofs.lemmas.List.{append-nil}
use Rattle.serializability.specs.Log.{Log}
use Rattle.serializability.specs.Replay.{IsSerial, Before}
use Rattle.serializability.specs.Reads.{IsClean}
use Rattle.serializability.specs.Pairs.{pairs_of}
use Rattle.serializability.proofs.Places.{each_of_range, each_of_flat_map, each_of_map, each_from_append, each_from_range, each_from_filter}
use Rattle.serializability.proofs.EachPair.{each_pair_of}
use Rattle.serializability.proofs.Serial.{serial_fits, arcs_kept, source_within, arc_from_read}
use Rattle.serializability.proofs.Sources.{reads_from_source}
use Rattle.reach_laws.proofs.Walks.{each_contained}
use Rattle.chain_laws.specs.Chains.{heads, tail, readers, edges_to, chain_first, chain_choice, is_head}
use Rattle.chain_laws.proofs.Walks.{Head}
use Rattle.chain_laws.proofs.Coalesced.{chains_fit, each_from_readers}
use Rattle.std.proofs.lemmas.Bool.{cases_order}
use Rattle.list_lemmas.proofs.Elements.{contains_at}
use Rattle.log_definitions.specs.Serial.{IsSerialOrder}
use Rattle.log_definitions.specs.Numbers.{IsWellFormedList, log_of}
use Rattle.log_definitions.proofs.Renaming.{serial_numbered}
use Rattle.reason_laws.proofs.Kept.{serial, session_kept, read_kept, overwritten_kept, initial_kept, ended_kept}
use Rattle.pruning_laws.specs.declared.side.Side.TheVariants.{One}
use Rattle.reasons.specs.Given.{IsReason}
use Rattle.reasons.specs.Runs.{without_runs}
use Rattle.reasons.specs.declared.reason.Reason.{Reason}
use Rattle.reasons.specs.declared.reason.Reason.TheVariants as reason
use Rattle.tell_reasons.specs.declared.why.Why.{Why}
use Rattle.tell_reasons.specs.declared.why.Why.TheVariants.{Known, Forced, Chosen}
use Rattle.tell_trees.specs.declared.TheConstants.{MAX_LEAVES}

-- ---- how many cycles are told
joined : (front back : List Item) → cycles_in (front ++ back) ≡ cycles_in front + cycles_in back
joined [] back = omega arith
joined (i ∷ front) back = omega (arith, joined front back)

of_line : (ss : List ClientSession) (steps decided : List ChainOrder) (line : List ℕ) (items : List Item) → IsLineTold ss steps decided line items → cycles_in items ≡ 0
of_line ss steps decided line items (told.ends v) = refl
of_line ss steps decided line items (told.goes a b rest w more why h) = omega (arith, of_line ss steps decided (b ∷ rest) more h)

of_steps : (ss : List ClientSession) (earlier : List ChainOrder) (steps : List Step) (items : List Item) → AreStepsTold ss earlier steps items → cycles_in items ≡ 0
of_steps ss earlier [] items t = ap cycles_in t
of_steps ss earlier (s ∷ steps) items t =
    omega (arith, ap cycles_in t.4, joined t.0 t.1, ap cycles_in t.2.whole, of_line ss earlier [] s.walk.items t.2.against t.2.line, of_steps ss (earlier ++ s.order ∷ []) steps t.1 t.3)

of_cycle : (ss : List ClientSession) (steps decided : List ChainOrder) (line : List ℕ) (items : List Item) → IsRoundTold ss steps decided line items → cycles_in items ≡ 1
of_cycle ss steps decided line items h = omega (arith, ap cycles_in h.whole, of_line ss steps decided line h.edges h.told)

of_leaves : (count : ℕ) (more : Bool) → cycles_in (cond more (item.Leaves count ∷ []) []) ≡ 0
of_leaves count true = refl
of_leaves count false = refl

-- rounds, of which the first ones and the others are told one behind the other
told_split : (ss : List ClientSession) (steps : List ChainOrder) (xs ys : List RoundView) (items : List Item) → AreRoundsTold ss steps (xs ++ ys) items → (front : List Item) × (back : List Item) × AreRoundsTold ss steps xs front × AreRoundsTold ss steps ys back × (items ≡ front ++ back)
told_split ss steps [] ys items h = ([], items, refl, h, refl)
told_split ss steps (x ∷ xs) ys items h =
    let r = told_split ss steps xs ys h.1 h.3 in
    (h.0 ++ r.0, r.1, (h.0, r.0, h.2, r.2, refl), r.3, h.4 ∙ ap (λ l. h.0 ++ l) r.4 ∙ sym (append_assoc h.0 r.0 r.1))

of_decision : (decided : List ChainOrder) → cycles_in (decision_items decided) ≡ 0
of_decision [] = refl
of_decision (o ∷ above) = refl

of_round : (ss : List ClientSession) (steps decided : List ChainOrder) (line : Option (List ℕ)) (rs : List RoundView) (items : List Item) (h : AreRoundsTold ss steps (round_at decided line ∷ rs) items) → cycles_in items ≡ cycles_in h.2.cycle + cycles_in h.1
of_round ss steps decided line rs items h = omega (arith, ap cycles_in h.4, joined h.0 h.1, ap cycles_in h.2.whole, joined (decision_items decided) h.2.cycle, of_decision decided)

of_visits : (ss : List ClientSession) (steps orders : List ChainOrder) (nodes : List TreeNode) {decided : List ChainOrder} {i n k : ℕ} {rs : List RoundView} → IsVisited ss orders nodes i decided n k rs → (items : List Item) → AreRoundsTold ss steps rs items → n + cycles_in items ≡ k
of_visits ss steps orders nodes (visits.leaf i decided n line lt g) items h =
    omega (arith, of_round ss steps decided (Some (without_runs ss line)) [] items h, ap cycles_in h.3, of_cycle ss steps decided (without_runs ss line) h.2.cycle h.2.leaf)
of_visits ss steps orders nodes (visits.split i decided n m k c first second one two g lt a b) items h =
    let parts = told_split ss steps one two h.1 h.3 in
    omega (arith, of_round ss steps decided None (one ++ two) items h, ap cycles_in h.2.leaf, ap cycles_in parts.4, joined parts.0 parts.1, of_visits ss steps orders nodes a parts.0 parts.2, of_visits ss steps orders nodes b parts.1 parts.3)
of_visits ss steps orders nodes (visits.left_out i decided) items h = omega (arith, of_round ss steps decided None [] items h, ap cycles_in h.2.leaf, ap cycles_in h.3)

pub cycles_are_leaves : (ss : List ClientSession) (choices : List Choice) (nodes : List TreeNode) (items : List Item) → IsTreeTold ss choices nodes items → cycles_in items ≡ told_leaves (leaf_count nodes)
cycles_are_leaves ss choices nodes items t =
    let leaves = leaf_count nodes in
    let all = t.told.told in
    let h = subst (λ rs. AreRoundsTold ss (orders_of t.told.steps) rs all.after) t.visits.whole all.rounds_told in
    let front = ap cycles_in h.2.whole ∙ joined (leaves_items leaves) h.2.cycle in
    omega (arith, t.count, ap cycles_in all.whole, joined all.before all.after, ap cycles_in h.4, joined h.0 h.1, front, ap cycles_in h.2.leaf, of_steps ss [] t.told.steps all.before all.walks, of_leaves leaves (nat_lt 1 leaves), of_visits ss (orders_of t.told.steps) t.orders nodes t.visits.visited h.1 h.3)

-- ---- of two chains of a key, a serial order has the one before the other
either_chain_first : (log : Log) → IsClean log → (order : List ℕ) → IsSerial log order → (x a b : ℕ) → x < log.keys → Contains (heads log x) a → Contains (heads log x) b → a ≢ b → Keeps order (chain_first log x a b) ⊎ Keeps order (chain_first log x b a)
either_chain_first log clean order serial x a b key one two apart =
    let fits = chains_fit log clean order (serial_fits log clean order serial) in
    let of_key = each_of_range (λ y. AllByRecursion (KeepsOne order) (map (chain_choice log y) (pairs_of (heads log y)))) 0 log.keys
    (each_of_flat_map (KeepsOne order) (λ y. map (chain_choice log y) (pairs_of (heads log y))) (all_keys log) fits.choices) x (omega arith) (omega (arith, key)) in
    let head : (v : ℕ) → Contains (heads log x) v → Head log x v = λ v. each_contained (Head log x) (heads log x) v
    (each_from_filter (Head log x) (is_head log x) (committed log) (each_from_range (λ u. is_head log x u ≡ true → Head log x u) 1 log.nodes (λ u lo hi t. record { low = omega arith; high = omega arith; test = t }))) in
    let ahead : (u v : ℕ) → Head log x u → Head log x v → u < v → KeepsOne order (chain_choice log x (u, v)) = λ u v h k lt.
    each_pair_of (λ p. KeepsOne order (chain_choice log x p)) (is_head log x) 1 log.nodes (each_of_map (KeepsOne order) (chain_choice log x) (pairs_of (heads log x)) of_key) u v (omega (arith, h.low)) lt (omega (arith, k.high)) h.test k.test in
    elim (cases_order a b) [
      | inl e ↦ absurd (apart e)
      | inr o ↦ elim o [
        | inl lt ↦ ahead a b (head a one) (head b two) lt
        | inr lt ↦ elim (ahead b a (head b two) (head a one) lt) [ inl k ↦ inr k | inr k ↦ inl k ]
      ]
    ]

-- where a chain stands before another head, so does its last writer
edges_last : (order : List ℕ) (t b : ℕ) (rs : List ℕ) → AllByRecursion (λ r. Before order t r) rs → Keeps order (edges_to t b rs) → Before order t b
edges_last order t b [] behind k = k.0
edges_last order t b (r ∷ rs) behind k = omega (arith, behind.0, k.0)

tail_first : (log : Log) → IsClean log → (order : List ℕ) → IsSerial log order → (x a b : ℕ) → x < log.keys → Keeps order (chain_first log x a b) → Before order (tail log x a) b
tail_first log clean order serial x a b key k =
    let t = tail log x a in
    let arcs = arcs_kept log order (serial_fits log clean order serial).known in
    edges_last order t b (readers log x t)
    (each_from_readers log x t (λ r. Before order t r) (λ r lo hi from. arcs t r (source_within log clean r x t lo hi from) hi (arc_from_read log r t lo (reads_from_source log r x t key from)))) k

-- ---- in a serial order
module _ (ss : List ClientSession) (order : List ℕ) (well : IsWellFormedList ss) (is : IsSerialOrder ss order) where
  abbrev log : Log
  log = log_of ss

  -- the order has all edges of each of these orders of chains
  abbrev AreKept : List ChainOrder → Type 0
  AreKept orders = AllByRecursion (λ o. Keeps order (edges_in log o)) orders

  clean : IsClean log
  clean = (serial ss order well is).clean

  one_way : (o : ChainOrder) → IsOrder log o → Keeps order (edges_in log o) ⊎ Keeps order (edges_in log (turned o))
  one_way o h = either_chain_first log clean order (serial_numbered ss order is) o.key o.first o.second h.key_of h.one h.two h.apart

  -- ---- edges
  edge_of : (o : ChainOrder) (a b : ℕ) → Keeps order (edges_in log o) → Contains (edges_in log o) (a, b) → Before order a b
  edge_of o a b = each_contained (λ (e : Edge). Before order e.0 e.1) (edges_in log o) (a, b)

  edge_among : (orders : List ChainOrder) (o : ChainOrder) (a b : ℕ) → AreKept orders → Contains orders o → Contains (edges_in log o) (a, b) → Before order a b
  edge_among orders o a b kept among = edge_of o a b (each_contained (λ o. Keeps order (edges_in log o)) orders o kept among)

  reason_before : (a b : ℕ) (r : Reason) → IsReason ss a b r → Before order a b
  reason_before a b reason.Session h = session_kept ss order well is a b h
  reason_before a b (reason.Read written read) h = read_kept ss order well is a written b read h
  reason_before a b (reason.Overwritten read overwrites) h = overwritten_kept ss order well is a read b overwrites h
  reason_before a b (reason.Initial read begins) h = initial_kept ss order well is a read b begins h
  reason_before a b reason.Moments h = ended_kept ss order well is a b h

  -- ---- lines
  module _ (steps decided : List ChainOrder) (ks : AreKept steps) (kd : AreKept decided) where
    why_before : (a b : ℕ) (w : Why) → IsWhy ss steps decided a b w → Before order a b
    why_before a b (Known r) h = reason_before a b r h.0
    why_before a b (Forced zero o) h = absurd h
    why_before a b (Forced (suc k) o) h = edge_among steps o a b ks (contains_at steps k o h.1.at) h.1.has
    why_before a b (Chosen o) h = edge_among decided o a b kd h.2 h.3

    pub line_before : (u v : ℕ) (inner : List ℕ) (items : List Item) → IsLineTold ss steps decided (u ∷ (inner ++ v ∷ [])) items → Before order u v
    line_before u v [] items (told.goes a b rest w more why h) = why_before u v w why
    line_before u v (x ∷ inner) items (told.goes a b rest w more why h) = omega (arith, why_before u x w why, line_before x v inner more h)

    pub cycle_refuted : (line : List ℕ) (items : List Item) → IsRoundTold ss steps decided line items → ⊥
    cycle_refuted line items h =
        let ends = h.round.ends in
        (let round = line_before h.round.start h.round.start ends.inner h.edges (subst (λ l. IsLineTold ss steps decided l h.edges) ends.shape h.told) in omega (arith, round))

  -- ---- steps
  -- what follows from an order that is kept
  followed : (o : ChainOrder) → o.key < log.keys → (u v : ℕ) → Keeps order (edges_in log o) → Follows log o (u, v) → Before order u v
  followed o key u v k (inl c) = edge_of o u v k c
  followed o key u v k (inr e) = subst (λ (d : Edge). Before order d.0 d.1) (sym e) (tail_first log clean order (serial_numbered ss order is) o.key o.first o.second key k)

  -- the order goes against the other way round, so it has this one
  step_kept : (o : ChainOrder) → IsOrder log o → (u v : ℕ) → Follows log (turned o) (u, v) → Before order v u → Keeps order (edges_in log o)
  step_kept o h u v has against = elim (one_way o h) [
    | inl k ↦ k
    | inr k ↦ absurd (omega (arith, against, followed (turned o) h.key_of u v k has))
  ]

  steps_kept : (earlier : List ChainOrder) (steps : List Step) (items : List Item) → AreStepsTold ss earlier steps items → AreKept earlier → AreKept (earlier ++ orders_of steps)
  steps_kept earlier [] items t kept = subst AreKept (sym (append-nil earlier)) kept
  steps_kept earlier (s ∷ steps) items t kept =
      let is = t.2.right in
      let against = line_before earlier [] kept tt t.2.edge.1 t.2.edge.0 is.ends.inner t.2.against (subst (λ l. IsLineTold ss earlier [] l t.2.against) is.ends.shape t.2.line) in
      let own = step_kept s.order is.two_chains t.2.edge.0 t.2.edge.1 is.refuted against in
      subst AreKept (append_assoc earlier (s.order ∷ []) (orders_of steps))
      (steps_kept (earlier ++ s.order ∷ []) steps t.1 t.3 (each_from_append (λ o. Keeps order (edges_in log o)) earlier (s.order ∷ []) kept (own, tt)))

  pub steps_stand : (steps : List Step) (items : List Item) → AreStepsTold ss [] steps items → (o : ChainOrder) → Contains (orders_of steps) o → (a b : ℕ) → Contains (edges_in log o) (a, b) → Before order a b
  steps_stand steps items t o among a b = edge_among (orders_of steps) o a b (steps_kept [] steps items t tt) among

  pub dead_refuted : (items : List Item) → IsDeadTold ss items → ⊥
  dead_refuted items t =
      let all = t.told.told in
      cycle_refuted (orders_of t.told.steps) [] (steps_kept [] t.told.steps all.before all.walks tt) tt t.line all.rounds_told.2.cycle all.rounds_told.2.leaf

  -- ---- cubes
  visits_refuted : (steps : List ChainOrder) → AreKept steps → (orders : List ChainOrder) → All (IsOrder log) orders → (nodes : List TreeNode) {decided : List ChainOrder} {i n k : ℕ} {rs : List RoundView} → IsVisited ss orders nodes i decided n k rs → (items : List Item) → AreRoundsTold ss steps rs items → AreKept decided → k < MAX_LEAVES → ⊥
  visits_refuted steps ks orders each nodes (visits.leaf i decided n line lt g) items h kept few = cycle_refuted steps decided ks kept (without_runs ss line) h.2.cycle h.2.leaf
  visits_refuted steps ks orders each nodes (visits.split i decided n m k c first second one two g lt va vb) items h kept few =
      let parts = told_split ss steps one two h.1 h.3 in
      let first_few : m < MAX_LEAVES = omega (arith, few, of_visits ss steps orders nodes vb parts.1 parts.3) in
      elim (one_way (order_at orders (c, One)) (each c no_order lt)) [
        | inl a ↦ visits_refuted steps ks orders each nodes va parts.0 parts.2 (a, kept) first_few
        | inr a ↦ visits_refuted steps ks orders each nodes vb parts.1 parts.3 (a, kept) few
      ]
  visits_refuted steps ks orders each nodes (visits.left_out i decided) items h kept few = absurd (omega (arith, few))

  pub tree_refuted : (choices : List Choice) (nodes : List TreeNode) (items : List Item) (t : IsTreeTold ss choices nodes items) → leaf_count nodes < MAX_LEAVES → ⊥
  tree_refuted choices nodes items t less =
      let all = t.told.told in
      let few : t.visits.last < MAX_LEAVES = omega (arith, t.count, less) in
      let h = subst (λ rs. AreRoundsTold ss (orders_of t.told.steps) rs all.after) t.visits.whole all.rounds_told in
      visits_refuted (orders_of t.told.steps) (steps_kept [] t.told.steps all.before all.walks tt) t.orders t.sides.each nodes t.visits.visited h.1 h.3 tt few
