-- The law of two rounds for snapshot and prefix orders: that for serial orders, of the halves of their nodes.
use Rattle.round_laws.proofs.Prelude.{◌≡◌, ◌≢◌, ◌⊎◌, ℕ, ◌+◌, ◌*◌, ◌-◌, ◌<◌, ◌≤◌, Bool, true, false, eqb, not, List, [], ◌∷◌, ◌++◌, map, refl, sym, ap, ◌∙◌, subst, inl, inr, arith, append-nil, eqb-true, ◌↔◌, nat_le, filter, AllByRecursion}
use Rattle.round_laws.proofs.Prelude.{Contains, cases_Bool, false≢true, and_parts, flat_map-append, Contains-append_left, Contains-append_right, Contains-append_cases, behind, mapped, is_earlier, ClientSession, is_write, Op, Read, Write}
use Rattle.round_laws.proofs.Prelude.{Apart, ops_in, Committed, Map, initial, Replays, member, IsLearnt, Firsts, nodes_of, unshift, early, early_is, late_is, IsSoundLog, IsLearntLog, MayPrecede, IsLine, ops_along, of_kept, of_mapped}
use Rattle.round_laws.proofs.Prelude.{of_flat, op_of_node, NodeWith, node_with, first_or_behind, test_le, after, had_or_written, Alone, ops_of_nodes, committed_within, ordered_node, split as split_each, HasLine, line_where_same}
use Rattle.round_laws.proofs.Prelude.{line_where_order, snapshot_reads, HasPointOrder, Locks, AreFresh, start_ops, end_ops, start_node, end_node, both_nodes, split_nodes, Keeper, Leads, is_fence, is_value, bare_node, run_of_two, values}
use Rattle.round_laws.proofs.Prelude.{IsInTime, BothOfRun, RunOfBoth}
use Rattle.log_laws.proofs.Txns.{joined as join_each}
use Rattle.point_laws.specs.Split.{split}
use Rattle.point_laws.proofs.Parted.{by_test_learnt}
use Rattle.point_laws.proofs.Orders.{every, snapshot_by_split, never_later}
use Rattle.point_laws.proofs.Legal.{split_numbers}
use Rattle.round_laws.proofs.Comes.{Comes, by_session, itself, Carries, carried, wider, comes_trans, LeftAs}
use Rattle.round_laws.proofs.Two.{IsAlike, Rounds, rounds_of_whole, whole_of_rounds}
use Rattle.round_laws.proofs.Joined.{first_early, placed, cut_of, opens_at, not_true}
use Rattle.round_laws.proofs.Given.{reads_within, Leading, leads_carried, apart_of, rest_nodes, opens_where, second_nodes, bare_writes, values_then_fence, values_are}
use Rattle.round_laws.proofs.Serial.{Pair, pair_of, placed_second, closing_in, closing_opens, full, full_bare, full_rest, fills, rounds, may_precede}
use Rattle.round_laws.proofs.Names.{Names, fresh_where, some_names, start_writes, start_reads, end_writes, end_reads, end_has, halves, which_half, has_start, has_end, half_in, halves_within, alone_halves, ArePlaced, from_start, across, left_halves, halves_replay, halves_leave}
use Rattle.round_laws.proofs.Operations.{run_ops}

-- ---- a log has an order of points exactly where the halves of its nodes have a line
snapshot_line : (locks : Locks) (ss : List ClientSession) → IsSoundLog ss → IsLearntLog ss → AreFresh locks ss → (HasPointOrder locks.taken ss ↔ HasLine initial (halves locks (nodes_of ss)))
snapshot_line locks ss sound learnt fresh =
    let by_split = snapshot_by_split ss locks sound learnt fresh in
    let lines = line_where_order (split locks ss) (split_each IsLearnt (split locks ss) (by_test_learnt every locks ss learnt)) (subst Apart (sym (split_numbers every locks ss)) (apart_of ss sound)) in
    ((λ h. subst (HasLine initial) (split_nodes locks ss) (lines.0 (by_split.0 h))), λ l. by_split.1 (lines.1 (subst (HasLine initial) (sym (split_nodes locks ss)) l)))

-- ---- halves of nodes at their places in the whole
abbrev twice : Firsts → Firsts
twice cut n = 2 * cut n

start_unshifted : (locks : Locks) (cut : Firsts) (c : Committed) → 0 < c.place → unshift (twice cut) (start_node locks c) ≡ start_node locks (unshift cut c)
start_unshifted locks cut c lo = let same : (2 * c.place - 1) + 2 * cut c.session ≡ 2 * (c.place + cut c.session) - 1 = omega (arith, lo) in
    ap (λ p. record { session = c.session; place = p; ops = (start_node locks c).ops; begun = c.begun; ended = (start_node locks c).ended }) same

end_unshifted : (locks : Locks) (cut : Firsts) (c : Committed) → unshift (twice cut) (end_node locks c) ≡ end_node locks (unshift cut c)
end_unshifted locks cut c = let same : 2 * c.place + 2 * cut c.session ≡ 2 * (c.place + cut c.session) = omega arith in
    ap (λ p. record { session = c.session; place = p; ops = (end_node locks c).ops; begun = (end_node locks c).begun; ended = c.ended }) same

halves_unshifted : (locks : Locks) (cut : Firsts) (xs : List Committed) → ArePlaced xs → map (unshift (twice cut)) (halves locks xs) ≡ halves locks (map (unshift cut) xs)
halves_unshifted locks cut [] h = refl
halves_unshifted locks cut (x ∷ xs) h =
    ap (λ n. n ∷ unshift (twice cut) (end_node locks x) ∷ map (unshift (twice cut)) (halves locks xs)) (start_unshifted locks cut x (h x (0, omega arith, refl)))
    ∙ ap (λ n. start_node locks (unshift cut x) ∷ n ∷ map (unshift (twice cut)) (halves locks xs)) (end_unshifted locks cut x)
    ∙ ap (λ l. start_node locks (unshift cut x) ∷ end_node locks (unshift cut x) ∷ l) (halves_unshifted locks cut xs (λ n c. h n (behind x xs n c)))

-- where a half stands
record IsHalfAt (c n : Committed) : Type 0 where
  pub session : n.session ≡ c.session
  pub from : 2 * c.place ≤ n.place + 1
  pub to : n.place ≤ 2 * c.place

half_at : (locks : Locks) (c n : Committed) → Contains (both_nodes locks c) n → IsHalfAt c n
half_at locks c n d = elim (which_half locks c n d) [
  | inl e ↦ let p = ap (λ (n : Committed). n.place) e in record { session = ap (λ (n : Committed). n.session) e; from = omega (arith, p); to = omega (arith, p) }
  | inr e ↦ let p = ap (λ (n : Committed). n.place) e in record { session = ap (λ (n : Committed). n.session) e; from = omega (arith, p); to = omega (arith, p) }
]

shift_carries : (front xs : List Committed) (cut : Firsts) → Carries xs (front ++ map (unshift cut) xs) (unshift cut)
shift_carries front xs cut = record {
  has = λ a c. Contains-append_right front (map (unshift cut) xs) (unshift cut a) (mapped (unshift cut) xs a c);
  session = λ a b c d s. s;
  place = λ a b c d s lt. (let same : cut a.session ≡ cut b.session = ap cut s in omega (arith, same, lt));
  ops = λ a q c e. e;
}

-- ---- the opening itself in the place of the bare one
fills_leading : (keeper : Keeper) (first second : List ClientSession) (o : Committed) → Pair keeper first second o → Leading ((bare_node keeper o ∷ []) ++ rest_nodes keeper second) ((o ∷ []) ++ rest_nodes keeper second) (full keeper o)
fills_leading keeper first second o p = record {
  has = f.has;
  session = f.session;
  place = f.place;
  writes = λ a key wid c w. f.ops a (Write key wid) c w;
  reads = λ a key wid c r. elim (first_or_behind (bare_node keeper o) (rest_nodes keeper second) a c) [
    | inl e ↦ absurd (never (subst (λ (n : Committed). Contains (snapshot_reads n.ops) (Read key wid)) (sym e) r))
    | inr d ↦ subst (λ (n : Committed). Contains (snapshot_reads n.ops) (Read key wid)) (sym (full_rest keeper second o a d)) r
  ];
}
  where
    f : Carries ((bare_node keeper o ∷ []) ++ rest_nodes keeper second) ((o ∷ []) ++ rest_nodes keeper second) (full keeper o)
    f = fills keeper first second o p

    never : {key : List ℕ} {wid : ℕ} → Contains (snapshot_reads (bare_node keeper o).ops) (Read key wid) → ⊥
    never {key} {wid} c = false≢true (member (λ q. is_write q ≡ true) (bare_node keeper o).ops (Read key wid) (bare_writes keeper o p.writes) (reads_within (bare_node keeper o).ops [] (Read key wid) c))

-- ---- so the halves are two rounds
abbrev whole_ops : List ClientSession → List ClientSession → List Op
whole_ops first second = ops_in first ++ ops_in second

op_within : (ss : List ClientSession) (n : Committed) (o : Op) → Contains (nodes_of ss) n → Contains n.ops o → Contains (ops_in ss) o
op_within ss n o c d = committed_within ss o (subst (λ l. Contains l o) (ops_of_nodes ss) (op_of_node (nodes_of ss) n o c d))

only : (x n : Committed) → Contains (x ∷ []) n → x ≡ n
only x n c = elim (first_or_behind x [] n c) [
  | inl e ↦ e
  | inr d ↦ absurd (omega (arith, d.1))
]

in_one : (locks : Locks) (c n : Committed) → Contains (halves locks (c ∷ [])) n → Contains (both_nodes locks c) n
in_one locks c n d = let r = of_flat (both_nodes locks) (c ∷ []) n d in subst (λ m. Contains (both_nodes locks m) n) (sym (only c r.0 r.1)) r.2

in_halves : (keeper : Keeper) (first second : List ClientSession) (locks : Locks) (o : Committed) → Names locks (whole_ops first second) → Pair keeper first second o → Rounds (halves locks (nodes_of first)) (halves locks (o ∷ [])) (halves locks (bare_node keeper o ∷ [])) (halves locks (rest_nodes keeper second)) (values keeper o) (twice (cut_of first)) (early (twice (cut_of first))) (opens_at keeper 2)
in_halves keeper first second locks o names p = record {
  is_first = is_first;
  is_second = is_second;
  is_start = λ n c. starts n o p.session p.place (in_one locks o n c);
  is_bare = λ n c. starts n b p.session p.place (in_one locks b n c);
  is_rest = is_rest;
  alone = subst (λ l. Alone initial l l) (sym whole_is) (alone_halves locks all (first_nodes ++ map (unshift cut) both) names sub_whole plain.alone);
  alone_second = alone_halves locks all ((o ∷ []) ++ rest) names sub_second plain.alone_second;
  new = new;
  comes = before;
  comes_bare = λ x y c d. (let r = of_flat (both_nodes locks) rest y d in bare_first r.0 r.1 x y (in_one locks b x c) r.2);
  comes_start = λ x y c d. (let r = of_flat (both_nodes locks) rest y d in start_first r.0 r.1 x y (in_one locks o x c) r.2);
  held = held;
  opens = opens;
  line = one_line initial o p.place ordered (λ q c. op_within second o q p.has c) p.writes;
  bare_line = one_line (values keeper o) b p.place ordered (λ q c. op_within second o q p.has (of_kept (is_fence keeper) o.ops q c).0) (bare_writes keeper o p.writes);
  number = keeper.session;
  one = (p.session, (p.session, tt));
  one_bare = (p.session, (p.session, tt));
  alike = λ x c. elim (which_half locks b x (in_one locks b x c)) [
    | inl e ↦ (start_node locks o, has_start locks o, subst (λ m. IsAlike m (start_node locks o)) (sym e) (record { session = refl; place = refl; begun = refl; ended = refl }))
    | inr e ↦ (end_node locks o, has_end locks o, subst (λ m. IsAlike m (end_node locks o)) (sym e) (record { session = refl; place = refl; begun = refl; ended = refl }))
  ];
  alike_back = λ x c. elim (which_half locks o x (in_one locks o x c)) [
    | inl e ↦ (start_node locks b, has_start locks b, subst (λ m. IsAlike m (start_node locks b)) (sym e) (record { session = refl; place = refl; begun = refl; ended = refl }))
    | inr e ↦ (end_node locks b, has_end locks b, subst (λ m. IsAlike m (end_node locks b)) (sym e) (record { session = refl; place = refl; begun = refl; ended = refl }))
  ];
}
  where
    cut : Firsts
    cut = cut_of first

    b : Committed
    b = bare_node keeper o

    first_nodes : List Committed
    first_nodes = nodes_of first

    rest : List Committed
    rest = rest_nodes keeper second

    both : List Committed
    both = (b ∷ []) ++ rest

    all : List Op
    all = whole_ops first second

    plain : Rounds first_nodes (o ∷ []) (b ∷ []) rest (values keeper o) cut (early cut) (opens_at keeper 1)
    plain = rounds keeper first second o p

    later : List Committed
    later = map (unshift (twice cut)) (halves locks both)

    placed_both : ArePlaced both
    placed_both = placed_second keeper first second o p

    placed_first : ArePlaced first_nodes
    placed_first = placed first

    placed_full : ArePlaced ((o ∷ []) ++ rest)
    placed_full n c = placed second n ((second_nodes keeper second p.seam.sound_second o p.has p.session p.place n).1 c)

    ordered : is_earlier o.ended o.begun ≡ false
    ordered = ordered_node second p.seam.sound_second.ordered o p.has

    -- ---- their operations
    sub_first : (n : Committed) (q : Op) → Contains first_nodes n → Contains n.ops q → Contains all q
    sub_first n q c d = Contains-append_left (ops_in first) (ops_in second) q (op_within first n q c d)

    sub_second : (n : Committed) (q : Op) → Contains ((o ∷ []) ++ rest) n → Contains n.ops q → Contains all q
    sub_second n q c d = Contains-append_right (ops_in first) (ops_in second) q (op_within second n q ((second_nodes keeper second p.seam.sound_second o p.has p.session p.place n).1 c) d)

    sub_both : (n : Committed) (q : Op) → Contains both n → Contains n.ops q → Contains all q
    sub_both n q c d = elim (first_or_behind b rest n c) [
      | inl e ↦ sub_second o q (0, omega arith, refl) (of_kept (is_fence keeper) o.ops q (subst (λ (m : Committed). Contains m.ops q) (sym e) d)).0
      | inr f ↦ sub_second n q (behind o rest n f) d
    ]

    sub_whole : (n : Committed) (q : Op) → Contains (first_nodes ++ map (unshift cut) both) n → Contains n.ops q → Contains all q
    sub_whole n q c d = elim (Contains-append_cases first_nodes (map (unshift cut) both) n c) [
      | inl e ↦ sub_first n q e d
      | inr e ↦ let m = of_mapped (unshift cut) both n e in sub_both m.0 q m.1 (subst (λ (x : Committed). Contains x.ops q) (sym m.2) d)
    ]

    whole_is : halves locks first_nodes ++ later ≡ halves locks (first_nodes ++ map (unshift cut) both)
    whole_is = ap (λ l. halves locks first_nodes ++ l) (halves_unshifted locks cut both placed_both) ∙ sym (flat_map-append (both_nodes locks) first_nodes (map (unshift cut) both))

    -- ---- which are which
    is_first : (n : Committed) → Contains (halves locks first_nodes) n → early (twice cut) n ≡ true
    is_first n c =
        let r = of_flat (both_nodes locks) first_nodes n c in
        let at = half_at locks r.0 n r.2 in
        let le = first_early first (apart_of first p.seam.sound_first) r.0 r.1 in
        let same : cut n.session ≡ cut r.0.session = ap cut at.session in
        let hi = at.to in
        early_is (twice cut) n.session n refl (omega (arith, le, same, hi))

    is_second : (n : Committed) → Contains later n → early (twice cut) n ≡ false
    is_second n c =
        let m = of_mapped (unshift (twice cut)) (halves locks both) n c in
        let r = of_flat (both_nodes locks) both m.0 m.1 in
        let lo = placed_both r.0 r.1 in
        let at = (half_at locks r.0 m.0 r.2).from in
        subst (λ x. early (twice cut) x ≡ false) m.2 (late_is (twice cut) m.0.session (unshift (twice cut) m.0) refl (omega (arith, lo, at)))

    starts : (n c : Committed) → c.session ≡ keeper.session → c.place ≡ 1 → Contains (both_nodes locks c) n → opens_at keeper 2 n ≡ true
    starts n c s e d = let at = half_at locks c n d in let hi = at.to in opens_where keeper 2 n (at.session ∙ s) (omega (arith, hi, e))

    not_opening : (m : Committed) → Contains rest m → opens_at keeper 1 m ≡ false
    not_opening m c = not_true (opens_at keeper 1 m) (of_kept (λ (m : Committed). not (opens_at keeper 1 m)) (nodes_of second) m c).1

    is_rest : (n : Committed) → Contains (halves locks rest) n → opens_at keeper 2 n ≡ false
    is_rest n c =
        let r = of_flat (both_nodes locks) rest n c in
        let at = half_at locks r.0 n r.2 in
        elim (cases_Bool (opens_at keeper 2 n)) [
          | inr f ↦ f
          | inl t ↦
              let q = and_parts (eqb n.session keeper.session) (nat_le n.place 2) t in
              let hi = test_le n.place 2 q.1 in
              let lo = at.from in
              absurd (false≢true (sym (not_opening r.0 r.1) ∙ opens_where keeper 1 r.0 (sym at.session ∙ eqb-true n.session keeper.session q.0) (omega (arith, hi, lo))))
        ]

    -- ---- what they write
    new : (x : Committed) (key : List ℕ) (wid : ℕ) → Contains (halves locks both) x → Contains x.ops (Write key wid) → values keeper o key ≢ wid
    new x key wid c w =
        let r = of_flat (both_nodes locks) both x c in
        elim (which_half locks r.0 x r.2) [
          | inr e ↦ plain.new r.0 key wid r.1 (end_writes locks r.0.ops key wid (subst (λ (n : Committed). Contains n.ops (Write key wid)) e w))
          | inl e ↦
              let s = start_writes locks r.0.ops key wid (subst (λ (n : Committed). Contains n.ops (Write key wid)) e w) in
              let has = sub_both r.0 (Write s.named s.own) r.1 s.has in
              lock_free key wid s.named s.own has s.key_is s.identity_is
        ]
      where
        lock_free : (key : List ℕ) (wid : ℕ) (named : List ℕ) (own : ℕ) → Contains all (Write named own) → locks.key named ≡ key → locks.identity own ≡ wid → values keeper o key ≢ wid
        lock_free key wid named own has k i e = elim (had_or_written vals initial key) [
          | inl had ↦ names.nonzero named own has (i ∙ sym e ∙ ap (λ (m : Map). m key) (values_are keeper o) ∙ had)
          | inr d ↦ names.new_key (Write named own) (Write key (after initial vals key)) has (sub_second o (Write key (after initial vals key)) (0, omega arith, refl) (of_kept (is_value keeper) o.ops (Write key (after initial vals key)) d).0) k
        ]
          where
            vals : List Op
            vals = filter (is_value keeper) o.ops

    -- ---- what comes before what
    bare_first : (m : Committed) → Contains rest m → (x y : Committed) → Contains (both_nodes locks b) x → Contains (both_nodes locks m) y → Comes (halves locks both) x y
    bare_first m c x y d e = elim (across locks both placed_both b m (0, omega arith, refl) (behind b rest m c) (p.leads_opening m (behind b rest m c))) [
      | inl same ↦ absurd (false≢true (sym (not_opening m c) ∙ ap (opens_at keeper 1) (sym same) ∙ opens_where keeper 1 b p.session (let k = p.place in omega (arith, k))))
      | inr h ↦ h x y d e
    ]

    leads_full : (m : Committed) → Contains rest m → Leads ((o ∷ []) ++ rest) o m
    leads_full m c =
        let k = leads_carried both ((o ∷ []) ++ rest) (full keeper o) (fills_leading keeper first second o p) b m (0, omega arith, refl) (p.leads_opening m (behind b rest m c)) in
        subst (Leads ((o ∷ []) ++ rest) o) (full_rest keeper second o m c) (subst (λ n. Leads ((o ∷ []) ++ rest) n (full keeper o m)) (full_bare keeper first second o p) k)

    start_first : (m : Committed) → Contains rest m → (x y : Committed) → Contains (both_nodes locks o) x → Contains (both_nodes locks m) y → Comes (halves locks ((o ∷ []) ++ rest)) x y
    start_first m c x y d e = elim (across locks ((o ∷ []) ++ rest) placed_full o m (0, omega arith, refl) (behind o rest m c) (leads_full m c)) [
      | inl same ↦ absurd (false≢true (sym (not_opening m c) ∙ ap (opens_at keeper 1) (sym same) ∙ opens_where keeper 1 o p.session (let k = p.place in omega (arith, k))))
      | inr h ↦ h x y d e
    ]

    closing : Committed
    closing = p.seam.closed.closing

    has_closing : Contains first_nodes closing
    has_closing = closing_in keeper first second o p

    -- from a half of the first to one of its closing
    to_closing : (x : Committed) → Contains (halves locks first_nodes) x → (z : Committed) × (Contains (both_nodes locks closing) z) × (Comes (halves locks first_nodes) x z)
    to_closing x c =
        let r = of_flat (both_nodes locks) first_nodes x c in
        elim (across locks first_nodes placed_first r.0 closing r.1 has_closing (p.leads_closing r.0 r.1)) [
          | inl same ↦ (x, subst (λ n. Contains (both_nodes locks n) x) same r.2, itself x)
          | inr h ↦ (end_node locks closing, has_end locks closing, h x (end_node locks closing) r.2 (has_end locks closing))
        ]

    from_opening : (y : Committed) → Contains (halves locks both) y → Comes (halves locks both) (start_node locks b) y
    from_opening y c =
        let r = of_flat (both_nodes locks) both y c in
        elim (across locks both placed_both b r.0 (0, omega arith, refl) r.1 (p.leads_opening r.0 r.1)) [
          | inl same ↦ from_start locks both b y placed_both (0, omega arith, refl) (subst (λ n. Contains (both_nodes locks n) y) (sym same) r.2)
          | inr h ↦ h (start_node locks b) y (has_start locks b) r.2
        ]

    before : (x y : Committed) → Contains (halves locks first_nodes) x → Contains later y → Comes (halves locks first_nodes ++ later) x y
    before x y c d =
        let m = of_mapped (unshift (twice cut)) (halves locks both) y d in
        let z = to_closing x c in
        let whole = halves locks first_nodes ++ later in
        let start : Committed = unshift (twice cut) (start_node locks b) in
        let here : Contains (halves locks both) (start_node locks b) = (0, omega arith, refl) in
        let at = closing_opens keeper first second o p in
        let half = half_at locks closing z.0 z.1 in
        let one : Comes whole x z.0 = wider (halves locks first_nodes) whole (λ n. Contains-append_left (halves locks first_nodes) later n) x z.0 c z.2 in
        let lt : z.0.place < start.place = let k = at.1 in let e = p.place in let hi = half.to in omega (arith, k, e, hi) in
        let two : Comes whole z.0 start = by_session z.0 start start (Contains-append_right (halves locks first_nodes) later start (mapped (unshift (twice cut)) (halves locks both) (start_node locks b) here)) (half.session ∙ at.0) lt (itself start) in
        let three : Comes whole start y = subst (Comes whole start) m.2 (carried (halves locks both) whole (unshift (twice cut)) (shift_carries (halves locks first_nodes) (halves locks both) (twice cut)) (start_node locks b) m.0 here (from_opening m.0 m.1)) in
        comes_trans whole x z.0 y one (comes_trans whole z.0 start y two three)

    -- ---- what they read
    written_there : (nodes : List Committed) (key : List ℕ) (wid : ℕ) (c x : Committed) → Contains nodes c → Contains (both_nodes locks c) x → Contains x.ops (Write key wid) → Contains (ops_along (halves locks nodes)) (Write key wid)
    written_there nodes key wid c x d e w = op_of_node (halves locks nodes) x (Write key wid) (half_in locks nodes c x d e) w

    -- a read is one of the node's, or names what its start writes
    read_of : (nodes : List Committed) (key : List ℕ) (wid : ℕ) → Contains (ops_along (halves locks nodes)) (Read key wid) → Contains (ops_along (halves locks nodes)) (Write key wid) ⊎ ((c : Committed) × (Contains nodes c) × (Contains c.ops (Read key wid)))
    read_of nodes key wid r =
        let n : NodeWith (halves locks nodes) (Read key wid) = node_with (halves locks nodes) (Read key wid) r in
        let c = of_flat (both_nodes locks) nodes n.node n.has in
        elim (which_half locks c.0 n.node c.2) [
          | inl e ↦ inr (c.0, c.1, start_reads locks c.0.ops key wid (subst (λ (x : Committed). Contains x.ops (Read key wid)) e n.does))
          | inr e ↦ elim (end_reads locks c.0.ops key wid (subst (λ (x : Committed). Contains x.ops (Read key wid)) e n.does)) [
            | inl d ↦ inr (c.0, c.1, d)
            | inr w ↦ inl (written_there nodes key wid c.0 (start_node locks c.0) c.1 (has_start locks c.0) w)
          ]
        ]

    write_of : (nodes : List Committed) (key : List ℕ) (wid : ℕ) → Contains (ops_along nodes) (Write key wid) → Contains (ops_along (halves locks nodes)) (Write key wid)
    write_of nodes key wid w =
        let n : NodeWith nodes (Write key wid) = node_with nodes (Write key wid) w in
        written_there nodes key wid n.node (end_node locks n.node) n.has (has_end locks n.node) (end_has locks n.node.ops key wid n.does)

    held : (key : List ℕ) (wid : ℕ) → Contains (ops_along (halves locks both)) (Read key wid) → Contains (ops_along (halves locks both)) (Write key wid) ⊎ LeftAs (halves locks first_nodes) key (values keeper o key)
    held key wid r = elim (read_of both key wid r) [
      | inl w ↦ inl w
      | inr c ↦ elim (p.held key wid (op_of_node both c.0 (Read key wid) c.1 c.2)) [
        | inl w ↦ inl (write_of both key wid w)
        | inr l ↦ inr (left_halves locks all first_nodes names placed_first sub_first key (values keeper o key) (Read key wid) (sub_both c.0 (Read key wid) c.1 c.2) refl l)
      ]
    ]

    one_ops : (c : Committed) → ops_along (halves locks (c ∷ [])) ≡ start_ops locks c.ops ++ end_ops locks c.ops
    one_ops c = ap (λ l. start_ops locks c.ops ++ l) (append-nil (end_ops locks c.ops))

    opens : (key : List ℕ) (wid : ℕ) → Contains (ops_along (halves locks rest)) (Read key wid) → Contains (ops_along (halves locks rest)) (Write key wid) ⊎ (after (values keeper o) (ops_along (halves locks (b ∷ []))) key ≡ after initial (ops_along (halves locks (o ∷ []))) key)
    opens key wid r = elim (read_of rest key wid r) [
      | inl w ↦ inl w
      | inr c ↦
          let there : Contains all (Read key wid) = sub_both c.0 (Read key wid) (behind b rest c.0 c.1) c.2 in
          inr (
          ap (λ l. after (values keeper o) l key) (one_ops b)
          ∙ halves_leave locks all names (values keeper o) b.ops (λ q d. sub_both b q (0, omega arith, refl) d) key (Read key wid) there refl
          ∙ ap (λ (m : Map). after m b.ops key) (values_are keeper o)
          ∙ values_then_fence keeper o.ops key
          ∙ sym (halves_leave locks all names initial o.ops (λ q d. sub_second o q (0, omega arith, refl) d) key (Read key wid) there refl)
          ∙ ap (λ l. after initial l key) (sym (one_ops o)))
    ]

    one_line : (m : Map) (c : Committed) → c.place ≡ 1 → is_earlier c.ended c.begun ≡ false → ((q : Op) → Contains c.ops q → Contains (ops_in second) q) → AllByRecursion (λ q. is_write q ≡ true) c.ops → IsLine m (halves locks (c ∷ [])) (halves locks (c ∷ []))
    one_line m c e time sub writes = record {
      same = λ n. ((λ d. d), (λ d. d));
      kept = ((((λ s. omega (arith, e)), time), tt), (tt, tt));
      reads = subst (Replays m) (sym (one_ops c)) (halves_replay locks all names m c.ops (λ q d. Contains-append_right (ops_in first) (ops_in second) q (sub q d)) writes);
    }

-- ---- orders and lines
record Lines (keeper : Keeper) (first second : List ClientSession) (locks : Locks) (o : Committed) : Type 0 where
  pub run : HasPointOrder locks.taken (run_of_two keeper first second) ↔ HasLine initial (halves locks (nodes_of first) ++ map (unshift (twice (cut_of first))) (halves locks ((bare_node keeper o ∷ []) ++ rest_nodes keeper second)))
  pub one : HasPointOrder locks.taken first ↔ HasLine initial (halves locks (nodes_of first))
  pub two : HasPointOrder locks.taken second ↔ HasLine initial (halves locks ((o ∷ []) ++ rest_nodes keeper second))

lines : (keeper : Keeper) (first second : List ClientSession) (locks : Locks) (o : Committed) → Names locks (whole_ops first second) → Pair keeper first second o → Lines keeper first second locks o
lines keeper first second locks o names p = record {
  run = (
    (λ h. subst (HasLine initial) (sym whole_is) (line_where_same initial (halves locks (nodes_of run)) (halves locks whole) (λ n. (halves_within locks (nodes_of run) whole (λ m. (p.whole m).0) n, halves_within locks whole (nodes_of run) (λ m. (p.whole m).1) n)) (of_run.0 h))),
    (λ l. of_run.1 (line_where_same initial (halves locks whole) (halves locks (nodes_of run)) (λ n. (halves_within locks whole (nodes_of run) (λ m. (p.whole m).1) n, halves_within locks (nodes_of run) whole (λ m. (p.whole m).0) n)) (subst (HasLine initial) whole_is l))),
  );
  one = snapshot_line locks first p.seam.sound_first p.seam.learnt_first (fresh_where locks all first names (λ q c. Contains-append_left (ops_in first) (ops_in second) q c));
  two = (
    (λ h. line_where_same initial (halves locks (nodes_of second)) (halves locks full_nodes) (λ n. (halves_within locks (nodes_of second) full_nodes (λ m. (same m).0) n, halves_within locks full_nodes (nodes_of second) (λ m. (same m).1) n)) (of_second.0 h)),
    (λ l. of_second.1 (line_where_same initial (halves locks full_nodes) (halves locks (nodes_of second)) (λ n. (halves_within locks full_nodes (nodes_of second) (λ m. (same m).1) n, halves_within locks (nodes_of second) full_nodes (λ m. (same m).0) n)) l)),
  );
}
  where
    all : List Op
    all = whole_ops first second

    run : List ClientSession
    run = run_of_two keeper first second

    cut : Firsts
    cut = cut_of first

    both : List Committed
    both = (bare_node keeper o ∷ []) ++ rest_nodes keeper second

    full_nodes : List Committed
    full_nodes = (o ∷ []) ++ rest_nodes keeper second

    whole : List Committed
    whole = nodes_of first ++ map (unshift cut) both

    same : (n : Committed) → (Contains (nodes_of second) n ↔ Contains full_nodes n)
    same = second_nodes keeper second p.seam.sound_second o p.has p.session p.place

    whole_is : halves locks (nodes_of first) ++ map (unshift (twice cut)) (halves locks both) ≡ halves locks whole
    whole_is = ap (λ l. halves locks (nodes_of first) ++ l) (halves_unshifted locks cut both (placed_second keeper first second o p)) ∙ sym (flat_map-append (both_nodes locks) (nodes_of first) (map (unshift cut) both))

    of_run : HasPointOrder locks.taken run ↔ HasLine initial (halves locks (nodes_of run))
    of_run = snapshot_line locks run p.seam.sound (join_each IsLearnt run p.learnt) (fresh_where locks all run names (run_ops keeper first second))

    of_second : HasPointOrder locks.taken second ↔ HasLine initial (halves locks (nodes_of second))
    of_second = snapshot_line locks second p.seam.sound_second p.seam.learnt_second (fresh_where locks all second names (λ q c. Contains-append_right (ops_in first) (ops_in second) q c))

half_times : (locks : Locks) (a c x y : Committed) → Contains (both_nodes locks a) x → Contains (both_nodes locks c) y → is_earlier c.ended a.begun ≡ false → is_earlier y.ended x.begun ≡ false
half_times locks a c x y d e time = elim (which_half locks c y e) [
  | inl ey ↦ ap (λ (n : Committed). is_earlier n.ended x.begun) ey
  | inr ey ↦ elim (which_half locks a x d) [
    | inl ex ↦ ap (λ (n : Committed). is_earlier n.ended x.begun) ey ∙ ap (λ (n : Committed). is_earlier c.ended n.begun) ex ∙ time
    | inr ex ↦ ap (λ (n : Committed). is_earlier n.ended x.begun) ey ∙ ap (λ (n : Committed). is_earlier c.ended n.begun) ex ∙ never_later c.ended
  ]
]

apart : (keeper : Keeper) (first second : List ClientSession) (locks : Locks) (o : Committed) → Pair keeper first second o → IsInTime first second → (x y : Committed) → Contains (halves locks (nodes_of first)) x → Contains (map (unshift (twice (cut_of first))) (halves locks ((bare_node keeper o ∷ []) ++ rest_nodes keeper second))) y → MayPrecede x y
apart keeper first second locks o p time x y c d =
    let cut = cut_of first in
    let both = (bare_node keeper o ∷ []) ++ rest_nodes keeper second in
    let m = of_mapped (unshift (twice cut)) (halves locks both) y d in
    let a = of_flat (both_nodes locks) (nodes_of first) x c in
    let e = of_flat (both_nodes locks) both m.0 m.1 in
    let lo = placed_second keeper first second o p e.0 e.1 in
    let le = first_early first (apart_of first p.seam.sound_first) a.0 a.1 in
    let ha = half_at locks a.0 x a.2 in
    let he = half_at locks e.0 m.0 e.2 in
    let hi = ha.to in
    let fr = he.from in
    subst (MayPrecede x) m.2 (
      (λ s. (let same : cut a.0.session ≡ cut m.0.session = ap cut (sym ha.session ∙ s) in omega (arith, same, lo, le, hi, fr))),
      half_times locks a.0 e.0 x m.0 a.2 e.2 (may_precede keeper first second o p time a.0 e.0 a.1 e.1),
    )

pub points_of_rounds : (locked : Bool) → BothOfRun (HasPointOrder locked)
points_of_rounds locked keeper first second s =
    let o = s.opened.opening in
    let p = pair_of keeper first second s in
    let cut = cut_of first in
    let named = some_names locked first second in
    let locks = named.0 in
    let l = lines keeper first second locks o named.2 p in
    subst (λ b. HasPointOrder b (run_of_two keeper first second) → HasPointOrder b first × HasPointOrder b second) named.1 (λ h. (
    let both = rounds_of_whole (halves locks (nodes_of first)) (halves locks (o ∷ [])) (halves locks (bare_node keeper o ∷ [])) (halves locks (rest_nodes keeper second)) (values keeper o) (twice cut) (early (twice cut)) (opens_at keeper 2) (in_halves keeper first second locks o named.2 p) (l.run.0 h) in
    (l.one.1 both.0, l.two.1 both.1)))

pub points_of_run : (locked : Bool) → RunOfBoth (HasPointOrder locked)
points_of_run locked keeper first second s time =
    let o = s.opened.opening in
    let p = pair_of keeper first second s in
    let cut = cut_of first in
    let named = some_names locked first second in
    let locks = named.0 in
    let l = lines keeper first second locks o named.2 p in
    subst (λ b. HasPointOrder b first → HasPointOrder b second → HasPointOrder b (run_of_two keeper first second)) named.1
    (λ h k. l.run.1 (whole_of_rounds (halves locks (nodes_of first)) (halves locks (o ∷ [])) (halves locks (bare_node keeper o ∷ [])) (halves locks (rest_nodes keeper second)) (values keeper o) (twice cut) (early (twice cut)) (opens_at keeper 2) (in_halves keeper first second locks o named.2 p) (apart keeper first second locks o p time) (l.one.0 h) (l.two.0 k)))
