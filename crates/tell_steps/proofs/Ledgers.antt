-- What a dead ledger of the chains' polygraph keeps, and what its walks and its cycle rest on.
use Rattle.tell_steps.proofs.Prelude.{◌≡◌, ◌⊎◌, ℕ, zero, suc, ◌+◌, ◌<◌, true, List, [], ◌∷◌, ◌++◌, length, get_or, Option, None, Some, refl, sym, ap, ◌∙◌, subst, inl, inr, arith, append_assoc, map, slice_get, unwrap_or, AllByRecursion}
use Rattle.tell_steps.proofs.Prelude.{Contains, flat_map, append-nil, All-contains, Contains-append_cases, Contains-append_left, Contains-push, contains_at, ClientSession, Log, Edge, Choice, Polygraph, arcs, all_keys, all_nodes, committed}
use Rattle.tell_steps.proofs.Prelude.{each_from_range, each_from_filter, each_from_map, each_from_flat_map, each_from_append, Walk, IsCycle, each_contained, In, In-from_Contains, Contains-from_In, heads, is_head, next, readers, tail}
use Rattle.tell_steps.proofs.Prelude.{edges_to, chain_first, inner_at, inner_edges, initial_first, chain_polygraph, chain_choices, HaveNone, log_of, side_of, kept_side, kept_after, edges_after, IsShown, AreShown, posts_in, Step, ChainOrder}
use Rattle.tell_steps.proofs.Prelude.{turned, edges_in, IsOrder, choice_of, orders_in, kept_of, kept_order, step_view, shown_by, IsBetween, OneHas, Stands, LineStands, IsRound, AreEntries, kept_by, IsStep, IsClosed, AreBuilt}
use Rattle.serializability.specs.Reads.{IsClean}
use Rattle.serializability.proofs.Serial.{each_from_arcs, arc_cases}
use Rattle.chain_laws.proofs.Walks.{next_is}
use Rattle.reason_laws.proofs.Found.{arc_reason, inner_reason, initial_reason}
use Rattle.pruning_laws.specs.declared.side.Side.{Side}
use Rattle.pruning_laws.specs.declared.side.Side.TheVariants.{One, Two}
use Rattle.pruning_laws.specs.Forced.{edges_of, other}
use Rattle.pruning_laws.specs.Ledger.{Entry}
use Rattle.prune_ledger.specs.Posted.{Posted}
use Rattle.prune_ledger.specs.declared.ledger.LedgerEntry.{LedgerEntry}
use Rattle.prune_ledger.proofs.Sides.{side_is, choice_of_edge, kept_cases, no_kept}
use Rattle.tell_steps.specs.Ledgers as needed
use Rattle.tell_steps.proofs.Chosen.{choices_are, all_orders, turned_order}

-- ---- lists by place
pub get_map : {X Y : Type 0} (f : X → Y) (xs : List X) (k : ℕ) (y : Y) → slice_get (map f xs) k ≡ Some y → (x : X) × ((slice_get xs k ≡ Some x) × (f x ≡ y))
get_map f [] k y e = absurd (cc)
get_map f (x ∷ xs) zero y e = let same : f x ≡ y = cc in (x, (refl, same))
get_map f (x ∷ xs) (suc k) y e = get_map f xs k y e

-- ---- where edges lead
each_const : {X : Type 0} (Q : Type 0) → Q → (xs : List X) → AllByRecursion (λ x. Q) xs
each_const Q q [] = tt
each_const Q q (x ∷ xs) = (q, each_const Q q xs)

pub to_target : (P : ℕ → Type 0) (t b : ℕ) → P b → (rs : List ℕ) → AllByRecursion (λ (e : Edge). P e.1) (edges_to t b rs)
to_target P t b p [] = (p, tt)
to_target P t b p (r ∷ rs) = (p, each_from_map (λ (e : Edge). P e.1) (λ q. (q, b)) rs (each_const (P b) p rs))

pub head_between : (ss : List ClientSession) (x v : ℕ) → Contains (heads (log_of ss) x) v → IsBetween ss v
head_between ss x v c =
    each_contained (IsBetween ss) (heads (log_of ss) x) v
    (each_from_filter (IsBetween ss) (is_head (log_of ss) x) (committed (log_of ss))
    (each_from_range (λ u. is_head (log_of ss) x u ≡ true → IsBetween ss u) 1 (log_of ss).nodes (λ u lo hi t. record { low = omega (arith, lo); high = omega (arith, hi) }))) c

inner_leads : (ss : List ClientSession) (x w : ℕ) (o : Option ℕ) → next (log_of ss) x w ≡ o → AllByRecursion (λ (e : Edge). IsBetween ss e.1) (inner_at (log_of ss) x w o)
inner_leads ss x w None e = tt
inner_leads ss x w (Some v) e =
    let n = next_is (log_of ss) x w v e in
    let here : IsBetween ss v = record { low = n.low; high = n.high } in
    each_from_map (λ (d : Edge). IsBetween ss d.1) (λ r. (r, v)) _ (each_const (IsBetween ss v) here _)

known_lead : (ss : List ClientSession) → AllByRecursion (λ (e : Edge). IsBetween ss e.1) (chain_polygraph (log_of ss)).known
known_lead ss =
    let log = log_of ss in
    let P : Edge → Type 0 = λ e. IsBetween ss e.1 in
    each_from_append P (arcs log ++ inner_edges log) (initial_first log)
    (each_from_append P (arcs log) (inner_edges log)
    (each_from_arcs log P (λ u v hu hv t. record { low = (arc_cases log u v t).0; high = hv }))
    (each_from_flat_map P (λ x. flat_map (λ w. inner_at log x w (next log x w)) (all_nodes log)) (all_keys log)
    (each_from_range (λ x. AllByRecursion P (flat_map (λ w. inner_at log x w (next log x w)) (all_nodes log))) 0 log.keys (λ x lo hi.
    each_from_flat_map P (λ w. inner_at log x w (next log x w)) (all_nodes log)
    (each_from_range (λ w. AllByRecursion P (inner_at log x w (next log x w))) 0 (log.nodes + 1) (λ w lo' hi'. inner_leads ss x w (next log x w) refl))))))
    (each_from_flat_map P (λ x. flat_map (chain_first log x 0) (heads log x)) (all_keys log)
    (each_from_range (λ x. AllByRecursion P (flat_map (chain_first log x 0) (heads log x))) 0 log.keys (λ x lo hi.
    each_from_flat_map P (chain_first log x 0) (heads log x)
    (each_from_filter (λ h. AllByRecursion P (chain_first log x 0 h)) (is_head log x) (committed log)
    (each_from_range (λ h. is_head log x h ≡ true → AllByRecursion P (chain_first log x 0 h)) 1 log.nodes (λ h lo' hi' t.
    (let here : IsBetween ss h = record { low = omega (arith, lo'); high = omega (arith, hi') } in
    to_target (IsBetween ss) (tail log x 0) h here (readers log x (tail log x 0)))))))))

known_leads : (ss : List ClientSession) (e : Edge) → Contains (chain_polygraph (log_of ss)).known e → IsBetween ss e.1
known_leads ss e c = each_contained (λ (d : Edge). IsBetween ss d.1) (chain_polygraph (log_of ss)).known e (known_lead ss) c

-- an order's edges lead to the head of its second chain
pub order_leads : (ss : List ClientSession) (o : ChainOrder) → IsOrder (log_of ss) o → (e : Edge) → Contains (edges_in (log_of ss) o) e → IsBetween ss e.1
order_leads ss o h e c =
    each_contained (λ (d : Edge). IsBetween ss d.1) (edges_in (log_of ss) o) e
    (to_target (IsBetween ss) (tail (log_of ss) o.key o.first) o.second (head_between ss o.key o.second h.two) (readers (log_of ss) o.key (tail (log_of ss) o.key o.first))) c

-- ---- known edges have reasons
arc_not : (ss : List ClientSession) → IsClean (log_of ss) → (a b : ℕ) → 0 < a → Contains (arcs (log_of ss)) (a, b) → HaveNone ss a b → ⊥
arc_not ss clean a b lo c none = elim (arc_reason ss clean a b lo c) [
  | inl s ↦ none.session s
  | inr t ↦ (elim t [ inl r ↦ none.read r.0 r.1.0 r.1.1 | inr m ↦ none.moments m ])
]

known_not : (ss : List ClientSession) → IsClean (log_of ss) → (a b : ℕ) → 0 < a → Contains (chain_polygraph (log_of ss)).known (a, b) → HaveNone ss a b → ⊥
known_not ss clean a b lo c none =
    let log = log_of ss in
    elim (Contains-append_cases (arcs log ++ inner_edges log) (initial_first log) (a, b) c) [
      | inl d ↦ (elim (Contains-append_cases (arcs log) (inner_edges log) (a, b) d) [
        | inl f ↦ arc_not ss clean a b lo f none
        | inr f ↦ (let r = inner_reason ss clean a b lo f in none.overwritten r.0 r.1.0 r.1.1)
      ])
      | inr d ↦ (let r = initial_reason ss clean a b lo d in none.initial r.0 r.1.0 r.1.1)
    ]

-- ---- the orders that posts keep
abbrev orders_of : List ClientSession → List ChainOrder
orders_of ss = orders_in (log_of ss)

keeps_by : (log : Log) (o : ChainOrder) (s : Side) → edges_of (choice_of log o) (other s) ≡ edges_in log (kept_of s o)
keeps_by log o One = refl
keeps_by log o Two = refl

refuses_by : (log : Log) (o : ChainOrder) (s : Side) → edges_of (choice_of log o) s ≡ edges_in log (turned (kept_of s o))
refuses_by log o One = refl
refuses_by log o Two = refl

kept_two : (log : Log) (o : ChainOrder) (s : Side) → IsOrder log o → IsOrder log (kept_of s o)
kept_two log o One h = turned_order log o h
kept_two log o Two h = h

abbrev pub order_by : List ClientSession → Posted → ChainOrder
order_by ss q = kept_order (orders_of ss) q

record PostKeeps (ss : List ClientSession) (p : Polygraph) (q : Posted) : Type 0 where
  pub two_chains : IsOrder (log_of ss) (order_by ss q)
  pub keeps : side_of p.choices q.choice (other q.side) ≡ edges_in (log_of ss) (order_by ss q)
  pub refuses : side_of p.choices q.choice q.side ≡ edges_in (log_of ss) (turned (order_by ss q))

post_keeps : (ss : List ClientSession) (p : Polygraph) → p.choices ≡ chain_choices (log_of ss) → (q : Posted) (s : Side) (x : Edge) → In x (side_of p.choices q.choice s) → PostKeeps ss p q
post_keeps ss p e q s x i =
    let log = log_of ss in
    let g = choice_of_edge p.choices q.choice s x i in
    let r = get_map (choice_of log) (orders_of ss) q.choice g.choice (ap (λ (hs : List Choice). slice_get hs q.choice) (choices_are log ∙ sym e) ∙ g.at) in
    let o = r.0 in
    let at : slice_get p.choices q.choice ≡ Some (choice_of log o) = g.at ∙ ap Some (sym r.1.1) in
    let two_chains = All-contains (IsOrder log) (orders_of ss) o (all_orders log) (contains_at (orders_of ss) q.choice o r.1.0) in
    let is : order_by ss q ≡ kept_of q.side o = ap (λ z. kept_of q.side (unwrap_or z (record { key = 0; first = 0; second = 0 }))) r.1.0 in
    record {
      two_chains = subst (IsOrder log) (sym is) (kept_two log o q.side two_chains);
      keeps = side_is p.choices q.choice (choice_of log o) (other q.side) at ∙ keeps_by log o q.side ∙ ap (edges_in log) (sym is);
      refuses = side_is p.choices q.choice (choice_of log o) q.side at ∙ refuses_by log o q.side ∙ ap (λ z. edges_in log (turned z)) (sym is);
    }

-- ---- what edges rest on
-- the edge leads to a node other than node 0; and where it comes from one, and the log shows no reason
-- of it, a step or a decided order has it
pub record Rests (ss : List ClientSession) (steps decided : List ChainOrder) (e : Edge) : Type 0 where
  pub second : IsBetween ss e.1
  pub has : 0 < e.0 → HaveNone ss e.0 e.1 → OneHas ss steps e ⊎ OneHas ss decided e

abbrev pub AllRest : List ClientSession → List ChainOrder → List ChainOrder → List Edge → Type 0
AllRest ss steps decided edges = (e : Edge) → Contains edges e → Rests ss steps decided e

pub record Given (ss : List ClientSession) (p : Polygraph) : Type 0 where
  pub clean : IsClean (log_of ss)
  pub known : (e : Edge) → Contains p.known e → Contains (chain_polygraph (log_of ss)).known e
  pub choices : p.choices ≡ chain_choices (log_of ss)

pub known_rest : (ss : List ClientSession) → IsClean (log_of ss) → (steps decided : List ChainOrder) → AllRest ss steps decided (chain_polygraph (log_of ss)).known
known_rest ss clean steps decided e c = record { second = known_leads ss e c; has = λ lo none. absurd (known_not ss clean e.0 e.1 lo c none) }

-- what a post keeps, and what posts keep
rest_more : (ss : List ClientSession) (p : Polygraph) → Given ss p → (decided : List ChainOrder) (q : Posted) (kept : List Entry) (earlier : List ChainOrder) → AllRest ss earlier decided (edges_after p kept) → AllRest ss (earlier ++ order_by ss q ∷ []) decided (edges_after p (kept_side q ∷ kept))
rest_more ss p g decided q kept earlier h e c = elim (kept_cases p kept (kept_side q) e (In-from_Contains (edges_after p (kept_side q ∷ kept)) e c)) [
  | inl i ↦
      let r = h e (Contains-from_In (edges_after p kept) e i) in
      record {
        second = r.second;
        has = λ lo none. elim (r.has lo none) [
          | inl o ↦ inl (record { order = o.order; among = Contains-append_left earlier (order_by ss q ∷ []) o.order o.among; has = o.has })
          | inr o ↦ inr o
        ];
      }
  | inr i ↦
      let k = post_keeps ss p g.choices q (other q.side) e i in
      let has = Contains-from_In (edges_in (log_of ss) (order_by ss q)) e (subst (In e) k.keeps i) in
      record {
        second = order_leads ss (order_by ss q) k.two_chains e has;
        has = λ lo none. inl (record { order = order_by ss q; among = Contains-push earlier (order_by ss q); has = has });
      }
]

rest_after : (ss : List ClientSession) (p : Polygraph) → Given ss p → (decided : List ChainOrder) (qs : List Posted) (kept : List Entry) (earlier : List ChainOrder) → AllRest ss earlier decided (edges_after p kept)
    → AllRest ss (earlier ++ map (order_by ss) qs) decided (edges_after p (kept_after kept qs))
rest_after ss p g decided [] kept earlier h = subst (λ os. AllRest ss os decided (edges_after p kept)) (sym (append-nil earlier)) h
rest_after ss p g decided (q ∷ qs) kept earlier h =
    subst (λ os. AllRest ss os decided (edges_after p (kept_after (kept_side q ∷ kept) qs))) (append_assoc earlier (order_by ss q ∷ []) (map (order_by ss) qs)) (rest_after ss p g decided qs (kept_side q ∷ kept) (earlier ++ order_by ss q ∷ []) (rest_more ss p g decided q kept earlier h))

none_rest : (ss : List ClientSession) (p : Polygraph) → Given ss p → (decided : List ChainOrder) → AllRest ss [] decided (edges_after p [])
none_rest ss p g decided e c = known_rest ss g.clean [] decided e (g.known e (Contains-from_In p.known e (no_kept p e (In-from_Contains (edges_after p []) e c))))

pub all_rest : (ss : List ClientSession) (p : Polygraph) → Given ss p → (decided : List ChainOrder) (qs : List Posted) → AllRest ss (map (order_by ss) qs) decided (edges_after p (kept_after [] qs))
all_rest ss p g decided qs = rest_after ss p g decided qs [] [] (none_rest ss p g decided)

-- ---- lines
line_cons : (ss : List ClientSession) (steps decided : List ChainOrder) (u w : ℕ) (rest : List ℕ) → Stands ss steps decided u w → ((i : ℕ) → i + 1 < length (w ∷ rest) → Stands ss steps decided (get_or (w ∷ rest) i 0) (get_or (w ∷ rest) (i + 1) 0)) → LineStands ss steps decided (u ∷ w ∷ rest)
line_cons ss steps decided u w rest r h = record { some = omega arith; each = each_of }
  where
    each_of : (i : ℕ) → i + 1 < length (u ∷ w ∷ rest) → Stands ss steps decided (get_or (u ∷ w ∷ rest) i 0) (get_or (u ∷ w ∷ rest) (i + 1) 0)
    each_of zero lt = r
    each_of (suc i) lt =
        let e : suc (i + 1) ≡ suc i + 1 = omega arith in
        subst (λ k. Stands ss steps decided (get_or (w ∷ rest) i 0) (get_or (u ∷ w ∷ rest) k 0)) e (h i (omega (arith, lt)))

walk_stands : (ss : List ClientSession) (steps decided : List ChainOrder) (edges : List Edge) → AllRest ss steps decided edges → (ws : List ℕ) (u v : ℕ) → IsBetween ss u → Walk edges u ws v → LineStands ss steps decided (u ∷ (ws ++ v ∷ []))
walk_stands ss steps decided edges each [] u v h w = let r = each (u, v) w in line_cons ss steps decided u v [] (record { first = h; second = r.second; has = r.has h.low }) (λ i lt. absurd (omega (arith, lt)))
walk_stands ss steps decided edges each (x ∷ ws) u v h w =
    let r = each (u, x) w.0 in
    line_cons ss steps decided u x (ws ++ v ∷ []) (record { first = h; second = r.second; has = r.has h.low }) (walk_stands ss steps decided edges each ws x v r.second w.1).each

walk_end : (edges : List Edge) (ws : List ℕ) (u v : ℕ) → Walk edges u ws v → (a : ℕ) × Contains edges (a, v)
walk_end edges [] u v w = (u, w)
walk_end edges (x ∷ ws) u v w = walk_end edges ws x v w.1

-- a cycle of such edges
pub round_stands : (ss : List ClientSession) (steps decided : List ChainOrder) (edges : List Edge) → AllRest ss steps decided edges → (line : List ℕ) → IsCycle edges line → IsRound line × LineStands ss steps decided line
round_stands ss steps decided edges each line c =
    let w = c.1 in
    let last = walk_end edges w.inner c.0 c.0 w.steps in (
      record { start = c.0; ends = record { inner = w.inner; shape = w.shape } },
      subst (LineStands ss steps decided) (sym w.shape) (walk_stands ss steps decided edges each w.inner c.0 c.0 (each (last.0, c.0) last.1).second w.steps),
    )

pub known_closed : (ss : List ClientSession) → IsClean (log_of ss) → (line : List ℕ) → IsCycle (chain_polygraph (log_of ss)).known line → IsClosed ss [] line
known_closed ss clean line c = let r = round_stands ss [] [] (chain_polygraph (log_of ss)).known (known_rest ss clean [] []) line c in record { round = r.0; rests = r.1 }

-- ---- the steps of entries
given_of : (ss : List ClientSession) (entries : List LedgerEntry) → IsClean (log_of ss) → (d : AreEntries ss entries) → Given ss d.poly
given_of ss entries clean d = record { clean = clean; known = d.known; choices = d.choices }

-- the step that a post shows
step_of : (ss : List ClientSession) (p : Polygraph) → Given ss p → (kept : List Entry) (earlier : List ChainOrder) → AllRest ss earlier [] (edges_after p kept) → (q : Posted) → IsShown p kept q → (s : Step) → step_view s ≡ shown_by (orders_of ss) q → IsStep ss earlier s
step_of ss p g kept earlier rest q sh s is =
    let log = log_of ss in
    let o = order_by ss q in
    let inside = In-from_Contains (side_of p.choices q.choice q.side) q.edge sh.within in
    let keeps = post_keeps ss p g.choices q q.side q.edge inside in
    let refuted : Contains (edges_in log (turned o)) q.edge = Contains-from_In (edges_in log (turned o)) q.edge (subst (In q.edge) keeps.refuses inside) in
    let start : IsBetween ss q.edge.1 = order_leads ss (turned o) (turned_order log o keeps.two_chains) q.edge refuted in
    let order : o ≡ s.order = sym (ap (λ (v : ChainOrder × List ℕ). v.0) is) in
    let walk_is : s.walk.items ≡ q.edge.1 ∷ (sh.walk.inner ++ q.edge.0 ∷ []) = ap (λ (v : ChainOrder × List ℕ). v.1) is ∙ sh.walk.shape in
    record {
      edge = q.edge;
      two_chains = subst (IsOrder log) order keeps.two_chains;
      refuted = subst (λ z. Contains (edges_in log (turned z)) q.edge) order refuted;
      ends = record { inner = sh.walk.inner; shape = walk_is };
      rests = subst (LineStands ss earlier []) (sym walk_is) (walk_stands ss earlier [] (edges_after p kept) rest sh.walk.inner q.edge.1 q.edge.0 start sh.walk.steps);
    }

built_by : (ss : List ClientSession) (p : Polygraph) → Given ss p → (qs : List Posted) (kept : List Entry) (earlier : List ChainOrder) → AllRest ss earlier [] (edges_after p kept) → AreShown p kept qs → (steps : List Step) → map step_view steps ≡ map (shown_by (orders_of ss)) qs
    → AreBuilt ss earlier steps × (needed.orders_of steps ≡ map (order_by ss) qs)
built_by ss p g [] kept earlier rest sh [] is = (tt, refl)
built_by ss p g [] kept earlier rest sh (s ∷ steps) is = absurd (cc)
built_by ss p g (q ∷ qs) kept earlier rest sh [] is = absurd (cc)
built_by ss p g (q ∷ qs) kept earlier rest sh (s ∷ steps) is =
    let here : step_view s ≡ shown_by (orders_of ss) q = cc in
    let order : s.order ≡ order_by ss q = ap (λ (v : ChainOrder × List ℕ). v.0) here in
    let r = built_by ss p g qs (kept_side q ∷ kept) (earlier ++ order_by ss q ∷ []) (rest_more ss p g [] q kept earlier rest) sh.1 steps (cc) in
    ((step_of ss p g kept earlier rest q sh.0 s here, subst (λ o. AreBuilt ss (earlier ++ o ∷ []) steps) (sym order) r.0), ap (λ o. o ∷ needed.orders_of steps) order ∙ ap (λ os. order_by ss q ∷ os) r.1)

-- the steps that entries show
pub steps_of : (ss : List ClientSession) (entries : List LedgerEntry) → IsClean (log_of ss) → AreEntries ss entries → (orders : List ChainOrder) → orders ≡ orders_of ss → (steps : List Step) → map step_view steps ≡ map (shown_by orders) (posts_in entries)
    → AreBuilt ss [] steps × (needed.orders_of steps ≡ kept_by ss entries)
steps_of ss entries clean d orders orders_are steps is =
    let g = given_of ss entries clean d in
    built_by ss d.poly g (posts_in entries) [] [] (none_rest ss d.poly g []) d.shown steps (is ∙ ap (λ os. map (shown_by os) (posts_in entries)) orders_are)

-- ---- its cycle
pub dead_closed : (ss : List ClientSession) (entries : List LedgerEntry) → IsClean (log_of ss) → (d : AreEntries ss entries) → (line : List ℕ) → IsCycle (edges_after d.poly (kept_after [] (posts_in entries))) line → IsClosed ss (kept_by ss entries) line
dead_closed ss entries clean d line c =
    let posts = posts_in entries in
    let r = round_stands ss (kept_by ss entries) [] (edges_after d.poly (kept_after [] posts)) (all_rest ss d.poly (given_of ss entries clean d) [] posts) line c in
    record { round = r.0; rests = r.1 }
