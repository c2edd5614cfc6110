-- The law of two rounds for serial orders.
use Rattle.round_laws.proofs.Prelude.{◌≡◌, ◌⊎◌, ℕ, ◌<◌, ◌≤◌, true, false, not, cond, List, [], ◌∷◌, ◌++◌, map, refl, sym, ap, ◌∙◌, subst, inl, inr, arith, append-nil, ◌↔◌, filter, AllByRecursion, Contains, Contains-append_left}
use Rattle.round_laws.proofs.Prelude.{Contains-append_right, Contains-append_cases, behind, mapped, is_earlier, ClientSession, is_write, Op, Read, Write, Apart, committed_ops, Committed, committed_in, Map, initial, Firsts, nodes_of}
use Rattle.round_laws.proofs.Prelude.{unshift, early, early_is, late_is, HasOrder, MayPrecede, ops_along, of_kept, of_mapped, ops_within, first_or_behind, mapped_within, after, ops_of_nodes, AreLearnt, numbers_of, HasLine, line_where_same}
use Rattle.round_laws.proofs.Prelude.{line_where_order, nodes_are, Keeper, Leads, is_fence, bare, bare_node, run_of_two, IsLeft, values, IsSeam, IsInTime, OrdersOfRounds, OrderOfRun}
use Rattle.round_laws.proofs.Comes.{Comes, by_session, itself, Carries, carried, wider, comes_trans, LeftAs}
use Rattle.round_laws.proofs.Two.{IsAlike, Rounds, rounds_of_whole, whole_of_rounds}
use Rattle.round_laws.proofs.Joined.{joined_nodes, first_early, placed, joined_learnt, cut_of, opens_at, bare_numbers, bare_learnt, not_true}
use Rattle.round_laws.proofs.Given.{comes_of, leads_wider, alone_of, alone_where, apart_of, learnt_of, rest_nodes, opens_where, second_nodes, bare_set, bare_writes, writes_replay, values_then_fence, values_are, new_values}

pub left_of : (nodes : List Committed) (key : List ℕ) (wid : ℕ) → IsLeft nodes key wid → LeftAs nodes key wid
left_of nodes key wid (inl u) = inl (record { zero = u.zero; none = u.none })
left_of nodes key wid (inr r) = inr (record { reader = r.reader; has = r.is_node; reads = r.reads; leaves = r.leaves; behind = λ a v c w. comes_of nodes a r.reader (r.behind a v c w) })

-- ---- the nodes of two rounds, and what comes before what
pub record Pair (keeper : Keeper) (first second : List ClientSession) (o : Committed) : Type 0 where
  pub seam : IsSeam keeper first second
  pub has : Contains (nodes_of second) o
  pub session : o.session ≡ keeper.session
  pub place : o.place ≡ 1
  pub writes : AllByRecursion (λ p. is_write p ≡ true) o.ops
  -- the bare opening and the rest of the second
  pub same : (n : Committed) → (Contains (nodes_of (bare keeper second)) n ↔ Contains ((bare_node keeper o ∷ []) ++ rest_nodes keeper second) n)
  pub whole : (n : Committed) → (Contains (nodes_of (run_of_two keeper first second)) n ↔ Contains (nodes_of first ++ map (unshift (cut_of first)) ((bare_node keeper o ∷ []) ++ rest_nodes keeper second)) n)
  pub learnt : AreLearnt (run_of_two keeper first second)
  pub leads_closing : (a : Committed) → Contains (nodes_of first) a → Leads (nodes_of first) a seam.closed.closing
  pub leads_opening : (a : Committed) → Contains ((bare_node keeper o ∷ []) ++ rest_nodes keeper second) a → Leads ((bare_node keeper o ∷ []) ++ rest_nodes keeper second) (bare_node keeper o) a
  pub closes : (a : Committed) → Contains (nodes_of first) a → Comes (nodes_of first) a seam.closed.closing
  pub opens : (a : Committed) → Contains ((bare_node keeper o ∷ []) ++ rest_nodes keeper second) a → Comes ((bare_node keeper o ∷ []) ++ rest_nodes keeper second) (bare_node keeper o) a
  pub held : (key : List ℕ) (wid : ℕ) → Contains (ops_along ((bare_node keeper o ∷ []) ++ rest_nodes keeper second)) (Read key wid) → Contains (ops_along ((bare_node keeper o ∷ []) ++ rest_nodes keeper second)) (Write key wid) ⊎ IsLeft (nodes_of first) key (values keeper o key)

pub pair_of : (keeper : Keeper) (first second : List ClientSession) (s : IsSeam keeper first second) → Pair keeper first second s.opened.opening
pair_of keeper first second s = record {
  seam = s;
  has = has;
  session = s.opened.session;
  place = s.opened.place;
  writes = s.opened.writes;
  same = same;
  whole = whole;
  learnt = joined_learnt first (bare keeper second) learnt_first (bare_learnt keeper second learnt_second);
  leads_closing = leads_closing;
  leads_opening = leads_opening;
  closes = λ a c. comes_of (nodes_of first) a s.closed.closing (leads_closing a c);
  opens = opens;
  held = held;
}
  where
    o : Committed
    o = s.opened.opening

    learnt_first : AreLearnt first
    learnt_first = learnt_of first s.learnt_first

    learnt_second : AreLearnt second
    learnt_second = learnt_of second s.learnt_second

    first_is : committed_in first ≡ nodes_of first
    first_is = nodes_are first learnt_first

    bare_is : committed_in (bare keeper second) ≡ nodes_of (bare keeper second)
    bare_is = nodes_are (bare keeper second) (bare_learnt keeper second learnt_second)

    has : Contains (nodes_of second) o
    has = subst (λ l. Contains l o) (nodes_are second learnt_second) s.opened.is_node

    both : List Committed
    both = (bare_node keeper o ∷ []) ++ rest_nodes keeper second

    same : (n : Committed) → (Contains (nodes_of (bare keeper second)) n ↔ Contains both n)
    same = bare_set keeper second s.sound_second o has s.opened.session s.opened.place

    cut : Firsts
    cut = cut_of first

    apart_bare : Apart (numbers_of (bare keeper second))
    apart_bare = subst Apart (sym (bare_numbers keeper second)) (apart_of second s.sound_second)

    whole : (n : Committed) → (Contains (nodes_of (run_of_two keeper first second)) n ↔ Contains (nodes_of first ++ map (unshift cut) both) n)
    whole n = (
      λ c. elim (Contains-append_cases (nodes_of first) (map (unshift cut) (nodes_of (bare keeper second))) n (all.0 c)) [
        | inl d ↦ Contains-append_left (nodes_of first) (map (unshift cut) both) n d
        | inr d ↦ Contains-append_right (nodes_of first) (map (unshift cut) both) n (mapped_within (unshift cut) (nodes_of (bare keeper second)) both (λ m. (same m).0) n d)
      ],
      λ c. all.1 (elim (Contains-append_cases (nodes_of first) (map (unshift cut) both) n c) [
        | inl d ↦ Contains-append_left (nodes_of first) (map (unshift cut) (nodes_of (bare keeper second))) n d
        | inr d ↦ Contains-append_right (nodes_of first) (map (unshift cut) (nodes_of (bare keeper second))) n (mapped_within (unshift cut) both (nodes_of (bare keeper second)) (λ m. (same m).1) n d)
      ]),
    )
      where
        all : Contains (nodes_of (run_of_two keeper first second)) n ↔ Contains (nodes_of first ++ map (unshift cut) (nodes_of (bare keeper second))) n
        all = joined_nodes first (bare keeper second) (apart_of first s.sound_first) apart_bare n

    in_bare : (n : Committed) → Contains both n → Contains (nodes_of (bare keeper second)) n
    in_bare n = (same n).1

    leads_closing : (a : Committed) → Contains (nodes_of first) a → Leads (nodes_of first) a s.closed.closing
    leads_closing a c = subst (λ l. Leads l a s.closed.closing) first_is (s.closed.last a (subst (λ l. Contains l a) (sym first_is) c))

    leads_opening : (a : Committed) → Contains both a → Leads both (bare_node keeper o) a
    leads_opening a c =
        let d : Contains (committed_in (bare keeper second)) a = subst (λ l. Contains l a) (sym bare_is) (in_bare a c) in
        let leads : Leads (nodes_of (bare keeper second)) (bare_node keeper o) a = subst (λ l. Leads l (bare_node keeper o) a) bare_is (s.opened.first a d) in
        leads_wider (nodes_of (bare keeper second)) both (λ m. (same m).0) (bare_node keeper o) a leads

    opens : (a : Committed) → Contains both a → Comes both (bare_node keeper o) a
    opens a c = comes_of both (bare_node keeper o) a (leads_opening a c)

    ops_there : (p : Op) → Contains (ops_along both) p → Contains (committed_ops (bare keeper second)) p
    ops_there p c = subst (λ l. Contains l p) (ops_of_nodes (bare keeper second)) (ops_within both (nodes_of (bare keeper second)) in_bare p c)

    ops_back : (p : Op) → Contains (committed_ops (bare keeper second)) p → Contains (ops_along both) p
    ops_back p c = ops_within (nodes_of (bare keeper second)) both (λ n. (same n).0) p (subst (λ l. Contains l p) (sym (ops_of_nodes (bare keeper second))) c)

    held : (key : List ℕ) (wid : ℕ) → Contains (ops_along both) (Read key wid) → Contains (ops_along both) (Write key wid) ⊎ IsLeft (nodes_of first) key (values keeper o key)
    held key wid c = elim (s.held key wid (ops_there (Read key wid) c)) [
      | inl w ↦ inl (ops_back (Write key wid) w)
      | inr l ↦ inr (subst (λ nodes. IsLeft nodes key (values keeper o key)) first_is l)
    ]

-- the nodes of the second have places, from 1 on
pub placed_second : (keeper : Keeper) (first second : List ClientSession) (o : Committed) → Pair keeper first second o → (n : Committed) → Contains ((bare_node keeper o ∷ []) ++ rest_nodes keeper second) n → 0 < n.place
placed_second keeper first second o p n c = placed (bare keeper second) n ((p.same n).1 c)

pub closing_in : (keeper : Keeper) (first second : List ClientSession) (o : Committed) (p : Pair keeper first second o) → Contains (nodes_of first) p.seam.closed.closing
closing_in keeper first second o p = subst (λ l. Contains l p.seam.closed.closing) (nodes_are first (learnt_of first p.seam.learnt_first)) p.seam.closed.is_node

-- those of the first come before those of the second
pub closing_opens : (keeper : Keeper) (first second : List ClientSession) (o : Committed) (p : Pair keeper first second o) → (p.seam.closed.closing.session ≡ o.session) × (p.seam.closed.closing.place ≤ cut_of first o.session)
closing_opens keeper first second o p =
    let c = p.seam.closed.closing in
    let has = closing_in keeper first second o p in
    let same : c.session ≡ o.session = p.seam.closed.session ∙ sym p.session in
    let le = first_early first (apart_of first p.seam.sound_first) c has in
    let cuts : cut_of first c.session ≡ cut_of first o.session = ap (cut_of first) same in
    (same, omega (arith, le, cuts))

pub shifts : (keeper : Keeper) (first second : List ClientSession) (o : Committed) → Pair keeper first second o → Carries ((bare_node keeper o ∷ []) ++ rest_nodes keeper second) (nodes_of first ++ map (unshift (cut_of first)) ((bare_node keeper o ∷ []) ++ rest_nodes keeper second)) (unshift (cut_of first))
shifts keeper first second o p = record {
  has = λ a c. Contains-append_right (nodes_of first) (map (unshift (cut_of first)) both) (unshift (cut_of first) a) (mapped (unshift (cut_of first)) both a c);
  session = λ a b c d s. s;
  place = λ a b c d s lt. (let same : cut_of first a.session ≡ cut_of first b.session = ap (cut_of first) s in omega (arith, same, lt));
  ops = λ a q c e. e;
}
  where
    both : List Committed
    both = (bare_node keeper o ∷ []) ++ rest_nodes keeper second

-- the opening itself in the place of the bare one
abbrev pub full : Keeper → Committed → Committed → Committed
full keeper o n = cond (opens_at keeper 1 n) o n

pub full_bare : (keeper : Keeper) (first second : List ClientSession) (o : Committed) → Pair keeper first second o → full keeper o (bare_node keeper o) ≡ o
full_bare keeper first second o p = let yes : opens_at keeper 1 (bare_node keeper o) ≡ true = opens_where keeper 1 (bare_node keeper o) p.session (let e = p.place in omega (arith, e)) in rw yes refl

pub full_rest : (keeper : Keeper) (second : List ClientSession) (o n : Committed) → Contains (rest_nodes keeper second) n → full keeper o n ≡ n
full_rest keeper second o n c =
    let no : opens_at keeper 1 n ≡ false = not_true (opens_at keeper 1 n) (of_kept (λ (m : Committed). not (opens_at keeper 1 m)) (nodes_of second) n c).1 in
    rw no refl

pub record IsFuller (a b : Committed) : Type 0 where
  pub session : b.session ≡ a.session
  pub place : b.place ≡ a.place
  pub ops : (q : Op) → Contains a.ops q → Contains b.ops q

pub fuller : (keeper : Keeper) (first second : List ClientSession) (o : Committed) → Pair keeper first second o → (n : Committed) → Contains ((bare_node keeper o ∷ []) ++ rest_nodes keeper second) n → IsFuller n (full keeper o n)
fuller keeper first second o p n c = elim (first_or_behind (bare_node keeper o) (rest_nodes keeper second) n c) [
  | inl e ↦ subst (λ m. IsFuller m (full keeper o m)) e (subst (IsFuller (bare_node keeper o)) (sym (full_bare keeper first second o p)) (record { session = refl; place = refl; ops = λ q d. (of_kept (is_fence keeper) o.ops q d).0 }))
  | inr d ↦ subst (IsFuller n) (sym (full_rest keeper second o n d)) (record { session = refl; place = refl; ops = λ q e. e })
]

pub fills : (keeper : Keeper) (first second : List ClientSession) (o : Committed) → Pair keeper first second o → Carries ((bare_node keeper o ∷ []) ++ rest_nodes keeper second) ((o ∷ []) ++ rest_nodes keeper second) (full keeper o)
fills keeper first second o p = record {
  has = λ n c. elim (first_or_behind (bare_node keeper o) (rest_nodes keeper second) n c) [
    | inl e ↦ (0, omega arith, sym (ap (full keeper o) (sym e) ∙ full_bare keeper first second o p))
    | inr d ↦ behind o (rest_nodes keeper second) (full keeper o n) (subst (Contains (rest_nodes keeper second)) (sym (full_rest keeper second o n d)) d)
  ];
  session = λ a b c d s. (fuller keeper first second o p a c).session ∙ s ∙ sym (fuller keeper first second o p b d).session;
  place = λ a b c d s lt. (let x = (fuller keeper first second o p a c).place in let y = (fuller keeper first second o p b d).place in omega (arith, x, y, lt));
  ops = λ a q c e. (fuller keeper first second o p a c).ops q e;
}

-- ---- so they are two rounds
pub rounds : (keeper : Keeper) (first second : List ClientSession) (o : Committed) → Pair keeper first second o → Rounds (nodes_of first) (o ∷ []) (bare_node keeper o ∷ []) (rest_nodes keeper second) (values keeper o) (cut_of first) (early (cut_of first)) (opens_at keeper 1)
rounds keeper first second o p = record {
  is_first = λ n c. early_is cut n.session n refl (first_early first apart_first n c);
  is_second = is_second;
  is_start = λ n c. subst (λ m. opens_at keeper 1 m ≡ true) (only o n c) (opens_where keeper 1 o p.session le);
  is_bare = λ n c. subst (λ m. opens_at keeper 1 m ≡ true) (only (bare_node keeper o) n c) (opens_where keeper 1 (bare_node keeper o) p.session le);
  is_rest = λ n c. not_true (opens_at keeper 1 n) (of_kept (λ (m : Committed). not (opens_at keeper 1 m)) (nodes_of second) n c).1;
  alone = alone_where initial (nodes_of run) (first_nodes ++ later) (λ n. (p.whole n).1) (alone_of run p.seam.sound);
  alone_second = alone_where initial (nodes_of second) ((o ∷ []) ++ rest) (λ n. (second_nodes keeper second p.seam.sound_second o p.has p.session p.place n).1) (alone_of second p.seam.sound_second);
  new = new_values keeper second p.seam.sound_second o p.has p.session p.place;
  comes = before;
  comes_bare = λ a b c d. subst (λ m. Comes both m b) (only (bare_node keeper o) a c) (p.opens b (behind (bare_node keeper o) rest b d));
  comes_start = λ a b c d. subst (λ m. Comes ((o ∷ []) ++ rest) m b) (only o a c) (opens b d);
  held = λ key wid c. elim (p.held key wid c) [
    | inl w ↦ inl w
    | inr l ↦ inr (left_of first_nodes key (values keeper o key) l)
  ];
  opens = λ key wid c. inr (same_behind key);
  line = record { same = λ n. ((λ c. c), (λ c. c)); kept = (tt, tt); reads = writes_replay initial (o.ops ++ []) (subst (AllByRecursion (λ q. is_write q ≡ true)) (sym (append-nil o.ops)) p.writes) };
  bare_line = record {
    same = λ n. ((λ c. c), (λ c. c));
    kept = (tt, tt);
    reads = writes_replay (values keeper o) (fences ++ []) (subst (AllByRecursion (λ q. is_write q ≡ true)) (sym (append-nil fences)) (bare_writes keeper o p.writes));
  };
  number = keeper.session;
  one = (p.session, tt);
  one_bare = (p.session, tt);
  alike = λ a c. (o, (0, omega arith, refl), subst (λ m. IsAlike m o) (only (bare_node keeper o) a c) (record { session = refl; place = refl; begun = refl; ended = refl }));
  alike_back = λ a c. (bare_node keeper o, (0, omega arith, refl), subst (λ m. IsAlike m (bare_node keeper o)) (only o a c) (record { session = refl; place = refl; begun = refl; ended = refl }));
}
  where
    cut : Firsts
    cut = cut_of first

    run : List ClientSession
    run = run_of_two keeper first second

    first_nodes : List Committed
    first_nodes = nodes_of first

    rest : List Committed
    rest = rest_nodes keeper second

    both : List Committed
    both = (bare_node keeper o ∷ []) ++ rest

    later : List Committed
    later = map (unshift cut) both

    fences : List Op
    fences = filter (is_fence keeper) o.ops

    apart_first : Apart (numbers_of first)
    apart_first = apart_of first p.seam.sound_first

    le : o.place ≤ 1
    le = let e = p.place in omega (arith, e)

    only : (x n : Committed) → Contains (x ∷ []) n → x ≡ n
    only x n c = elim (first_or_behind x [] n c) [
      | inl e ↦ e
      | inr d ↦ absurd (omega (arith, d.1))
    ]

    is_second : (n : Committed) → Contains later n → early cut n ≡ false
    is_second n c =
        let m = of_mapped (unshift cut) both n c in
        let lo = placed_second keeper first second o p m.0 m.1 in
        subst (λ x. early cut x ≡ false) m.2 (late_is cut m.0.session (unshift cut m.0) refl (omega (arith, lo)))

    before : (a b : Committed) → Contains first_nodes a → Contains later b → Comes (first_nodes ++ later) a b
    before a b c d =
        let m = of_mapped (unshift cut) both b d in
        let closing = p.seam.closed.closing in
        let start : Committed = unshift cut (bare_node keeper o) in
        let here : Contains both (bare_node keeper o) = (0, omega arith, refl) in
        let at = closing_opens keeper first second o p in
        let one = wider first_nodes (first_nodes ++ later) (λ n. Contains-append_left first_nodes later n) a closing c (p.closes a c) in
        let lt : closing.place < start.place = let k = at.1 in let e = p.place in omega (arith, k, e) in
        let two : Comes (first_nodes ++ later) closing start = by_session closing start start (Contains-append_right first_nodes later start (mapped (unshift cut) both (bare_node keeper o) here)) at.0 lt (itself start) in
        let three : Comes (first_nodes ++ later) start b = subst (Comes (first_nodes ++ later) start) m.2 (carried both (first_nodes ++ later) (unshift cut) (shifts keeper first second o p) (bare_node keeper o) m.0 here (p.opens m.0 m.1)) in
        comes_trans (first_nodes ++ later) a closing b one (comes_trans (first_nodes ++ later) closing start b two three)

    opens : (b : Committed) → Contains rest b → Comes ((o ∷ []) ++ rest) o b
    opens b d =
        let k = carried both ((o ∷ []) ++ rest) (full keeper o) (fills keeper first second o p) (bare_node keeper o) b (0, omega arith, refl) (p.opens b (behind (bare_node keeper o) rest b d)) in
        subst (Comes ((o ∷ []) ++ rest) o) (full_rest keeper second o b d) (subst (λ m. Comes ((o ∷ []) ++ rest) m (full keeper o b)) (full_bare keeper first second o p) k)

    same_behind : (key : List ℕ) → after (values keeper o) (fences ++ []) key ≡ after initial (o.ops ++ []) key
    same_behind key =
        ap (λ l. after (values keeper o) l key) (append-nil fences)
        ∙ ap (λ (m : Map). after m fences key) (values_are keeper o)
        ∙ values_then_fence keeper o.ops key
        ∙ ap (λ l. after initial l key) (sym (append-nil o.ops))

-- ---- orders and lines
run_line : (keeper : Keeper) (first second : List ClientSession) (o : Committed) → Pair keeper first second o → (HasOrder (run_of_two keeper first second) ↔ HasLine initial (nodes_of first ++ map (unshift (cut_of first)) ((bare_node keeper o ∷ []) ++ rest_nodes keeper second)))
run_line keeper first second o p =
    let run = run_of_two keeper first second in
    let whole = nodes_of first ++ map (unshift (cut_of first)) ((bare_node keeper o ∷ []) ++ rest_nodes keeper second) in
    let orders = line_where_order run p.learnt (apart_of run p.seam.sound) in
    ((λ h. line_where_same initial (nodes_of run) whole p.whole (orders.0 h)), λ h. orders.1 (line_where_same initial whole (nodes_of run) (λ n. ((p.whole n).1, (p.whole n).0)) h))

second_line : (keeper : Keeper) (first second : List ClientSession) (o : Committed) → Pair keeper first second o → (HasOrder second ↔ HasLine initial ((o ∷ []) ++ rest_nodes keeper second))
second_line keeper first second o p =
    let all = (o ∷ []) ++ rest_nodes keeper second in
    let same = second_nodes keeper second p.seam.sound_second o p.has p.session p.place in
    let orders = line_where_order second (learnt_of second p.seam.learnt_second) (apart_of second p.seam.sound_second) in
    ((λ h. line_where_same initial (nodes_of second) all same (orders.0 h)), λ h. orders.1 (line_where_same initial all (nodes_of second) (λ n. ((same n).1, (same n).0)) h))

first_line : (keeper : Keeper) (first second : List ClientSession) → IsSeam keeper first second → (HasOrder first ↔ HasLine initial (nodes_of first))
first_line keeper first second s = line_where_order first (learnt_of first s.learnt_first) (apart_of first s.sound_first)

pub may_precede : (keeper : Keeper) (first second : List ClientSession) (o : Committed) → Pair keeper first second o → IsInTime first second → (a b : Committed) → Contains (nodes_of first) a → Contains ((bare_node keeper o ∷ []) ++ rest_nodes keeper second) b → is_earlier b.ended a.begun ≡ false
may_precede keeper first second o p time a b c d =
    let learnt_first = nodes_are first (learnt_of first p.seam.learnt_first) in
    let learnt_second = nodes_are second (learnt_of second p.seam.learnt_second) in
    let ca : Contains (committed_in first) a = subst (λ l. Contains l a) (sym learnt_first) c in
    let there : (n : Committed) → Contains (nodes_of second) n → is_earlier n.ended a.begun ≡ false = λ n e. time a n ca (subst (λ l. Contains l n) (sym learnt_second) e) in
    elim (first_or_behind (bare_node keeper o) (rest_nodes keeper second) b d) [
      | inl e ↦ subst (λ (n : Committed). is_earlier n.ended a.begun ≡ false) e (there o p.has)
      | inr e ↦ there b (of_kept (λ (m : Committed). not (opens_at keeper 1 m)) (nodes_of second) b e).0
    ]

apart : (keeper : Keeper) (first second : List ClientSession) (o : Committed) → Pair keeper first second o → IsInTime first second → (a b : Committed) → Contains (nodes_of first) a → Contains (map (unshift (cut_of first)) ((bare_node keeper o ∷ []) ++ rest_nodes keeper second)) b → MayPrecede a b
apart keeper first second o p time a b c d =
    let cut = cut_of first in
    let both = (bare_node keeper o ∷ []) ++ rest_nodes keeper second in
    let m = of_mapped (unshift cut) both b d in
    let lo = placed_second keeper first second o p m.0 m.1 in
    let le = first_early first (apart_of first p.seam.sound_first) a c in
    subst (MayPrecede a) m.2 ((λ s. (let same : cut a.session ≡ cut m.0.session = ap cut s in omega (arith, same, lo, le))), may_precede keeper first second o p time a m.0 c m.1)

pub orders_of_rounds : OrdersOfRounds
orders_of_rounds keeper first second s h =
    let o = s.opened.opening in
    let p = pair_of keeper first second s in
    let cut = cut_of first in
    let both = rounds_of_whole (nodes_of first) (o ∷ []) (bare_node keeper o ∷ []) (rest_nodes keeper second) (values keeper o) cut (early cut) (opens_at keeper 1) (rounds keeper first second o p) ((run_line keeper first second o p).0 h) in
    ((first_line keeper first second s).1 both.0, (second_line keeper first second o p).1 both.1)

pub order_of_run : OrderOfRun
order_of_run keeper first second s time h k =
    let o = s.opened.opening in
    let p = pair_of keeper first second s in
    let cut = cut_of first in
    (run_line keeper first second o p).1 (whole_of_rounds (nodes_of first) (o ∷ []) (bare_node keeper o ∷ []) (rest_nodes keeper second) (values keeper o) cut (early cut) (opens_at keeper 1) (rounds keeper first second o p) (apart keeper first second o p time) ((first_line keeper first second s).0 h) ((second_line keeper first second o p).0 k))
