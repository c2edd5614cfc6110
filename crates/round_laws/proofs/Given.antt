-- What a seam gives for the nodes of two rounds.
use Rattle.round_laws.proofs.Prelude.{◌≡◌, ◌≢◌, ℕ, ◌<◌, ◌≤◌, Bool, true, false, eqb, not, List, [], ◌∷◌, ◌++◌, map, refl, sym, ap, ◌∙◌, subst, inl, inr, arith, eq-eqb, eqb-true, ◌↔◌, nat_le, filter, AllByRecursion, Contains, bytes_eq}
use Rattle.round_laws.proofs.Prelude.{cases_Bool, false≢true, and_parts, and_from, bytes_eq-Decides, behind, mapped, ClientSession, is_write, Op, Read, Write, Has, Apart, Apart-from_IsDistinct, ops_in, written, Committed, Map, initial, set}
use Rattle.round_laws.proofs.Prelude.{Replays, Has-written, IsLearnt, IsSoundLog, IsLearntLog, of_kept, kept, of_mapped, op_of_node, first_or_behind, test_le, after, had_or_written, Alone, nodes_of, in_order, ops_of_nodes, committed_within}
use Rattle.round_laws.proofs.Prelude.{one_writer, all_writes, AreLearnt, numbers_of, split, snapshot_reads, snapshot_reads_behind, is_in, Keeper, Leads, itself, by_session, by_read, is_fence, is_value, bare, bare_node, map_behind, values}
use Rattle.round_laws.proofs.Comes.{Comes}
use Rattle.round_laws.proofs.Comes as comes
use Rattle.round_laws.proofs.Joined.{placed, opens_at, bare_at, bare_nodes, one_at, not_true}

-- ---- reads from the snapshot are reads
pub reads_within : (ops : List Op) (written : List (List ℕ)) (o : Op) → Contains (snapshot_reads_behind written ops) o → Contains ops o
reads_within [] written o c = c
reads_within (Write key wid ∷ ops) written o c = behind (Write key wid) ops o (reads_within ops (key ∷ written) o c)
reads_within (Read key wid ∷ ops) written o c = elim (cases_Bool (is_in written key)) [
  | inl e ↦ behind (Read key wid) ops o (reads_within ops written o (rw e at c))
  | inr e ↦
      let d : Contains (Read key wid ∷ snapshot_reads_behind written ops) o = rw e at c in
      elim (first_or_behind (Read key wid) (snapshot_reads_behind written ops) o d) [
        | inl same ↦ (0, omega arith, same)
        | inr f ↦ behind (Read key wid) ops o (reads_within ops written o f)
      ]
]

pub comes_of : (nodes : List Committed) (a b : Committed) → Leads nodes a b → Comes nodes a b
comes_of nodes a b (itself _) = comes.itself a
comes_of nodes a c (by_session _ b _ e s lt k) = comes.by_session a b c e s lt (comes_of nodes b c k)
comes_of nodes a c (by_read _ b _ key wid e w r k) = comes.by_read a b c key wid e w (reads_within b.ops [] (Read key wid) r) (comes_of nodes b c k)

-- nodes that do as much, in as many sessions
pub record Leading (nodes others : List Committed) (f : Committed → Committed) : Type 0 where
  pub has : (a : Committed) → Contains nodes a → Contains others (f a)
  pub session : (a b : Committed) → Contains nodes a → Contains nodes b → a.session ≡ b.session → (f a).session ≡ (f b).session
  pub place : (a b : Committed) → Contains nodes a → Contains nodes b → a.session ≡ b.session → a.place < b.place → (f a).place < (f b).place
  pub writes : (a : Committed) (key : List ℕ) (wid : ℕ) → Contains nodes a → Contains a.ops (Write key wid) → Contains (f a).ops (Write key wid)
  pub reads : (a : Committed) (key : List ℕ) (wid : ℕ) → Contains nodes a → Contains (snapshot_reads a.ops) (Read key wid) → Contains (snapshot_reads (f a).ops) (Read key wid)

pub leads_carried : (nodes others : List Committed) (f : Committed → Committed) → Leading nodes others f → (a c : Committed) → Contains nodes a → Leads nodes a c → Leads others (f a) (f c)
leads_carried nodes others f h a c d (itself _) = itself (f a)
leads_carried nodes others f h a c d (by_session _ b _ e s lt k) = by_session (f a) (f b) (f c) (h.has b e) (h.session a b d e s) (h.place a b d e s lt) (leads_carried nodes others f h b c e k)
leads_carried nodes others f h a c d (by_read _ b _ key wid e w r k) = by_read (f a) (f b) (f c) key wid (h.has b e) (h.writes a key wid d w) (h.reads b key wid e r) (leads_carried nodes others f h b c e k)

pub leads_wider : (nodes others : List Committed) → ((a : Committed) → Contains nodes a → Contains others a) → (a c : Committed) → Leads nodes a c → Leads others a c
leads_wider nodes others sub a c (itself _) = itself a
leads_wider nodes others sub a c (by_session _ b _ e s lt k) = by_session a b c (sub b e) s lt (leads_wider nodes others sub b c k)
leads_wider nodes others sub a c (by_read _ b _ key wid e w r k) = by_read a b c key wid (sub b e) w r (leads_wider nodes others sub b c k)

-- ---- identities of a sound log
pub alone_of : (ss : List ClientSession) → IsSoundLog ss → Alone initial (nodes_of ss) (nodes_of ss)
alone_of ss sound a b key wid c d v w = (one_writer ss (all_writes ss sound) a b wid c d (Has-written a.ops key wid v) (Has-written b.ops key wid w), λ e. nonzero (sym e))
  where
    has : Has wid (written (ops_in ss))
    has = Has-written (ops_in ss) key wid (committed_within ss (Write key wid) (subst (λ l. Contains l (Write key wid)) (ops_of_nodes ss) (op_of_node (nodes_of ss) a (Write key wid) c v)))

    nonzero : wid ≢ 0
    nonzero e = (Apart-from_IsDistinct (0 ∷ written (ops_in ss)) sound.writes).0 (subst (λ n. Has n (written (ops_in ss))) e has)

pub alone_where : (from : Map) (xs ys : List Committed) → ((n : Committed) → Contains ys n → Contains xs n) → Alone from xs xs → Alone from ys ys
alone_where from xs ys sub h a b key wid c d v w = h a b key wid (sub a c) (sub b d) v w

pub apart_of : (ss : List ClientSession) → IsSoundLog ss → Apart (numbers_of ss)
apart_of ss sound = Apart-from_IsDistinct (numbers_of ss) sound.sessions

pub learnt_of : (ss : List ClientSession) → IsLearntLog ss → AreLearnt ss
learnt_of ss learnt = split IsLearnt ss learnt

-- ---- the nodes of the second
abbrev pub rest_nodes : Keeper → List ClientSession → List Committed
rest_nodes keeper ss = filter (λ n. not (opens_at keeper 1 n)) (nodes_of ss)

pub is_opening : (keeper : Keeper) (ss : List ClientSession) → IsSoundLog ss → (o : Committed) → Contains (nodes_of ss) o → o.session ≡ keeper.session → o.place ≡ 1 → (n : Committed) → Contains (nodes_of ss) n → opens_at keeper 1 n ≡ true → n ≡ o
is_opening keeper ss sound o c s p n d e =
    let t = and_parts (eqb n.session keeper.session) (nat_le n.place 1) e in
    let le = test_le n.place 1 t.1 in
    let lo = placed ss n d in
    one_at (nodes_of ss) (in_order ss (apart_of ss sound)) n o d c (eqb-true n.session keeper.session t.0 ∙ sym s) (omega (arith, le, lo, p))

pub opens_where : (keeper : Keeper) (k : ℕ) (o : Committed) → o.session ≡ keeper.session → o.place ≤ k → opens_at keeper k o ≡ true
opens_where keeper k o s le = and_from (eqb o.session keeper.session) (nat_le o.place k) (eq-eqb o.session keeper.session s) (le_true o.place k le)
  where
    le_true : (m n : ℕ) → m ≤ n → nat_le m n ≡ true
    le_true m n h = grind arith

pub second_nodes : (keeper : Keeper) (ss : List ClientSession) → IsSoundLog ss → (o : Committed) → Contains (nodes_of ss) o → o.session ≡ keeper.session → o.place ≡ 1 → (n : Committed) → (Contains (nodes_of ss) n ↔ Contains ((o ∷ []) ++ rest_nodes keeper ss) n)
second_nodes keeper ss sound o c s p n = (to, from)
  where
    to : Contains (nodes_of ss) n → Contains ((o ∷ []) ++ rest_nodes keeper ss) n
    to d = elim (cases_Bool (opens_at keeper 1 n)) [
      | inl e ↦ (0, omega arith, sym (is_opening keeper ss sound o c s p n d e))
      | inr e ↦ behind o (rest_nodes keeper ss) n (kept (λ (m : Committed). not (opens_at keeper 1 m)) (nodes_of ss) n d (ap not e))
    ]

    from : Contains ((o ∷ []) ++ rest_nodes keeper ss) n → Contains (nodes_of ss) n
    from d = elim (first_or_behind o (rest_nodes keeper ss) n d) [
      | inl e ↦ subst (Contains (nodes_of ss)) e c
      | inr e ↦ (of_kept (λ (m : Committed). not (opens_at keeper 1 m)) (nodes_of ss) n e).0
    ]

pub bare_set : (keeper : Keeper) (ss : List ClientSession) → IsSoundLog ss → (o : Committed) → Contains (nodes_of ss) o → o.session ≡ keeper.session → o.place ≡ 1 → (n : Committed) → (Contains (nodes_of (bare keeper ss)) n ↔ Contains ((bare_node keeper o ∷ []) ++ rest_nodes keeper ss) n)
bare_set keeper ss sound o c s p n = (to, from)
  where
    late : Committed → Bool
    late m = not (opens_at keeper 1 m)

    le : o.place ≤ 1
    le = omega (arith, p)

    to : Contains (nodes_of (bare keeper ss)) n → Contains ((bare_node keeper o ∷ []) ++ rest_nodes keeper ss) n
    to d =
        let m = of_mapped (bare_at keeper) (nodes_of ss) n (subst (λ l. Contains l n) (bare_nodes keeper ss) d) in
        elim (cases_Bool (opens_at keeper 1 m.0)) [
          | inl e ↦
              let is : bare_node keeper m.0 ≡ n = rw e at m.2 in
              (0, omega arith, ap (bare_node keeper) (sym (is_opening keeper ss sound o c s p m.0 m.1 e)) ∙ is)
          | inr e ↦
              let is : m.0 ≡ n = rw e at m.2 in
              behind (bare_node keeper o) (rest_nodes keeper ss) n (subst (Contains (rest_nodes keeper ss)) is (kept late (nodes_of ss) m.0 m.1 (ap not e)))
        ]

    in_bare : (m : Committed) → Contains (nodes_of ss) m → bare_at keeper m ≡ n → Contains (nodes_of (bare keeper ss)) n
    in_bare m d e = subst (λ l. Contains l n) (sym (bare_nodes keeper ss)) (subst (Contains (map (bare_at keeper) (nodes_of ss))) e (mapped (bare_at keeper) (nodes_of ss) m d))

    from : Contains ((bare_node keeper o ∷ []) ++ rest_nodes keeper ss) n → Contains (nodes_of (bare keeper ss)) n
    from d = elim (first_or_behind (bare_node keeper o) (rest_nodes keeper ss) n d) [
      | inl e ↦ let is : bare_at keeper o ≡ n = rw (opens_where keeper 1 o s le) e in in_bare o c is
      | inr e ↦
          let f = of_kept late (nodes_of ss) n e in
          let no : opens_at keeper 1 n ≡ false = not_true (opens_at keeper 1 n) f.1 in
          let is : bare_at keeper n ≡ n = rw no refl in
          in_bare n f.0 is
    ]

-- ---- what keys have behind an opening
writes_only : (p : Op → Bool) (ops : List Op) → AllByRecursion (λ o. is_write o ≡ true) ops → AllByRecursion (λ o. is_write o ≡ true) (filter p ops)
writes_only p [] h = tt
writes_only p (o ∷ ops) h = elim (cases_Bool (p o)) [
  | inl e ↦ rw e (h.0, writes_only p ops h.1)
  | inr e ↦ rw e (writes_only p ops h.1)
]

pub bare_writes : (keeper : Keeper) (o : Committed) → AllByRecursion (λ p. is_write p ≡ true) o.ops → AllByRecursion (λ p. is_write p ≡ true) (bare_node keeper o).ops
bare_writes keeper o h = writes_only (is_fence keeper) o.ops h

pub writes_replay : (m : Map) (ops : List Op) → AllByRecursion (λ o. is_write o ≡ true) ops → Replays m ops
writes_replay m [] h = tt
writes_replay m (Read key wid ∷ ops) h = absurd (false≢true h.0)
writes_replay m (Write key wid ∷ ops) h = writes_replay (set m key wid) ops h.1

after_all : (p : Op → Bool) (key : List ℕ) (ops : List Op) (m n : Map) → ((wid : ℕ) → p (Write key wid) ≡ true) → m key ≡ n key → after m (filter p ops) key ≡ after n ops key
after_all p key [] m n h e = e
after_all p key (Read k w ∷ ops) m n h e = elim (cases_Bool (p (Read k w))) [
  | inl t ↦ rw t (after_all p key ops m n h e)
  | inr t ↦ rw t (after_all p key ops m n h e)
]
after_all p key (Write k w ∷ ops) m n h e = elim (cases_Bool (p (Write k w))) [
  | inl t ↦ rw t (after_all p key ops (set m k w) (set n k w) h both)
  | inr f ↦ rw f (after_all p key ops m (set n k w) h (e ∙ sym (other f)))
]
  where
    both : set m k w key ≡ set n k w key
    both = elim (cases_Bool (bytes_eq k key)) [
      | inl s ↦ rw s refl
      | inr s ↦ rw s e
    ]

    other : p (Write k w) ≡ false → set n k w key ≡ n key
    other f = elim (cases_Bool (bytes_eq k key)) [
      | inl s ↦ absurd (false≢true (sym f ∙ ap (λ l. p (Write l w)) ((bytes_eq-Decides k key).0 s) ∙ h w))
      | inr s ↦ rw s refl
    ]

after_none : (p : Op → Bool) (key : List ℕ) (ops : List Op) (m : Map) → ((wid : ℕ) → p (Write key wid) ≡ false) → after m (filter p ops) key ≡ m key
after_none p key ops m h = elim (had_or_written (filter p ops) m key) [
  | inl e ↦ e
  | inr c ↦ absurd (false≢true (sym (h (after m (filter p ops) key)) ∙ (of_kept p ops (Write key (after m (filter p ops) key)) c).1))
]

pub values_then_fence : (keeper : Keeper) (ops : List Op) (key : List ℕ) → after (after initial (filter (is_value keeper) ops)) (filter (is_fence keeper) ops) key ≡ after initial ops key
values_then_fence keeper ops key = elim (cases_Bool (bytes_eq keeper.fence key)) [
  | inl e ↦ after_all (is_fence keeper) key ops (after initial (filter (is_value keeper) ops)) initial (λ wid. e) (after_none (is_value keeper) key ops initial (λ wid. ap not e))
  | inr e ↦ after_none (is_fence keeper) key ops (after initial (filter (is_value keeper) ops)) (λ wid. e) ∙ after_all (is_value keeper) key ops initial initial (λ wid. ap not e) refl
]

map_is : (m : Map) (ops : List Op) → map_behind m ops ≡ after m ops
map_is m [] = refl
map_is m (Read key wid ∷ ops) = map_is m ops
map_is m (Write key wid ∷ ops) = map_is (set m key wid) ops

pub values_are : (keeper : Keeper) (o : Committed) → values keeper o ≡ after initial (filter (is_value keeper) o.ops)
values_are keeper o = map_is initial (filter (is_value keeper) o.ops)

-- no other writes what keys held
pub new_values : (keeper : Keeper) (ss : List ClientSession) → IsSoundLog ss → (o : Committed) → Contains (nodes_of ss) o → o.session ≡ keeper.session → o.place ≡ 1 → (b : Committed) (key : List ℕ) (wid : ℕ) → Contains ((bare_node keeper o ∷ []) ++ rest_nodes keeper ss) b → Contains b.ops (Write key wid) → values keeper o key ≢ wid
new_values keeper ss sound o c s p b key wid d w e = elim (had_or_written vals initial key) [
  | inl had ↦ zero_never (sym had ∙ is)
  | inr k ↦ clash (of_kept (is_value keeper) o.ops (Write key wid) (subst (λ v. Contains vals (Write key v)) is k))
]
  where
    vals : List Op
    vals = filter (is_value keeper) o.ops

    is : after initial vals key ≡ wid
    is = sym (ap (λ (m : Map). m key) (values_are keeper o)) ∙ e

    late : Committed → Bool
    late m = not (opens_at keeper 1 m)

    alone : Alone initial (nodes_of ss) (nodes_of ss)
    alone = alone_of ss sound

    -- b writes it in the log, too
    writer : (n : Committed) × (Contains (nodes_of ss) n) × (Contains n.ops (Write key wid))
    writer = elim (first_or_behind (bare_node keeper o) (rest_nodes keeper ss) b d) [
      | inl same ↦ (o, c, (of_kept (is_fence keeper) o.ops (Write key wid) (subst (λ (n : Committed). Contains n.ops (Write key wid)) (sym same) w)).0)
      | inr f ↦ (b, (of_kept late (nodes_of ss) b f).0, w)
    ]

    zero_never : 0 ≢ wid
    zero_never z = (alone writer.0 writer.0 key wid writer.1 writer.1 writer.2 writer.2).1 z

    clash : Contains o.ops (Write key wid) × (is_value keeper (Write key wid) ≡ true) → ⊥
    clash v = elim (first_or_behind (bare_node keeper o) (rest_nodes keeper ss) b d) [
      | inl same ↦
          let f = (of_kept (is_fence keeper) o.ops (Write key wid) (subst (λ (n : Committed). Contains n.ops (Write key wid)) (sym same) w)).1 in
          false≢true (ap not (sym f) ∙ v.1)
      | inr f ↦
          let g = of_kept late (nodes_of ss) b f in
          let one : b ≡ o = (alone o b key wid c g.0 v.0 w).0 in
          let yes : opens_at keeper 1 b ≡ true = ap (opens_at keeper 1) one ∙ opens_where keeper 1 o s (omega (arith, p)) in
          false≢true (sym (not_true (opens_at keeper 1 b) g.1) ∙ yes)
    ]
