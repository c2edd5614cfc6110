-- What a round leaves of what holds of the run before it.
use Rattle.round_laws.proofs.Prelude.{◌≡◌, ℕ, ◌<◌, true, false, eqb, not, List, [], ◌∷◌, ◌++◌, map, refl, sym, ap, ◌∙◌, subst, inl, inr, arith, nat_le, Contains, cases_Bool, false≢true, and_parts, Contains-append_left}
use Rattle.round_laws.proofs.Prelude.{Contains-append_right, Contains-append_cases, behind, mapped, is_earlier, ClientSession, is_write, Read, Write, committed_ops, Committed, committed_in, member, of_kept, kept, of_mapped, op_of_node}
use Rattle.round_laws.proofs.Prelude.{first_or_behind, test_le, nodes_of, unshift, ops_of_nodes, nodes_are, Keeper, Leads, itself, by_session, by_read, bare, bare_node, run_of_two, IsClosed, IsReadLast, IsLeft, IsSeam, IsInTime}
use Rattle.round_laws.proofs.Joined.{placed, cut_of, opens_at, not_true}
use Rattle.round_laws.proofs.Given.{reads_within, Leading, leads_carried, leads_wider, learnt_of, rest_nodes, opens_where, second_nodes}
use Rattle.round_laws.proofs.Serial.{Pair, pair_of, closing_opens}

-- a chain from another node does not come to the opening
record Later (keeper : Keeper) (second : List ClientSession) (o a c : Committed) : Type 0 where
  pub rest : Contains (rest_nodes keeper second) c
  pub leads : Leads ((bare_node keeper o ∷ []) ++ rest_nodes keeper second) a c

in_rest : (keeper : Keeper) (second : List ClientSession) (n : Committed) → Contains (nodes_of second) n → opens_at keeper 1 n ≡ false → Contains (rest_nodes keeper second) n
in_rest keeper second n c e = kept (λ (m : Committed). not (opens_at keeper 1 m)) (nodes_of second) n c (ap not e)

never_behind : (keeper : Keeper) (n : Committed) (k : ℕ) → k < n.place → 0 < k → opens_at keeper 1 n ≡ false
never_behind keeper n k lt lo = elim (cases_Bool (opens_at keeper 1 n)) [
  | inr f ↦ f
  | inl t ↦ absurd (let le = test_le n.place 1 (and_parts (eqb n.session keeper.session) (nat_le n.place 1) t).1 in omega (arith, le, lt, lo))
]

never_reads : (keeper : Keeper) (first second : List ClientSession) (o : Committed) → Pair keeper first second o → (n : Committed) → Contains (nodes_of second) n → (key : List ℕ) (wid : ℕ) → Contains n.ops (Read key wid) → opens_at keeper 1 n ≡ false
never_reads keeper first second o p n c key wid r = elim (cases_Bool (opens_at keeper 1 n)) [
  | inr f ↦ f
  | inl t ↦
      let is = first_or_behind o (rest_nodes keeper second) n ((second_nodes keeper second p.seam.sound_second o p.has p.session p.place n).0 c) in
      elim is [
        | inl e ↦ absurd (false≢true (member (λ q. is_write q ≡ true) o.ops (Read key wid) p.writes (subst (λ (m : Committed). Contains m.ops (Read key wid)) (sym e) r)))
        | inr d ↦ absurd (false≢true (sym (not_true (opens_at keeper 1 n) (of_kept (λ (m : Committed). not (opens_at keeper 1 m)) (nodes_of second) n d).1) ∙ t))
      ]
]

later : (keeper : Keeper) (first second : List ClientSession) (o : Committed) → Pair keeper first second o → (a c : Committed) → Contains (rest_nodes keeper second) a → Leads (nodes_of second) a c → Later keeper second o a c
later keeper first second o p a c d (itself _) = record { rest = d; leads = itself a }
later keeper first second o p a c d (by_session _ b _ e s lt k) =
    let lo = placed second a (of_kept (λ (m : Committed). not (opens_at keeper 1 m)) (nodes_of second) a d).0 in
    let at = in_rest keeper second b e (never_behind keeper b a.place lt lo) in
    let h = later keeper first second o p b c at k in
    record { rest = h.rest; leads = by_session a b c (behind (bare_node keeper o) (rest_nodes keeper second) b at) s lt h.leads }
later keeper first second o p a c d (by_read _ b _ key wid e w r k) =
    let at = in_rest keeper second b e (never_reads keeper first second o p b e key wid (reads_within b.ops [] (Read key wid) r)) in
    let h = later keeper first second o p b c at k in
    record { rest = h.rest; leads = by_read a b c key wid (behind (bare_node keeper o) (rest_nodes keeper second) b at) w r h.leads }

-- ---- in the run
abbrev both : Keeper → List ClientSession → Committed → List Committed
both keeper second o = (bare_node keeper o ∷ []) ++ rest_nodes keeper second

abbrev whole : Keeper → List ClientSession → List ClientSession → Committed → List Committed
whole keeper first second o = nodes_of first ++ map (unshift (cut_of first)) (both keeper second o)

abbrev moved : List ClientSession → Committed → Committed
moved first n = unshift (cut_of first) n

in_whole : (keeper : Keeper) (first second : List ClientSession) (o n : Committed) → Contains (both keeper second o) n → Contains (whole keeper first second o) (moved first n)
in_whole keeper first second o n c = Contains-append_right (nodes_of first) (map (unshift (cut_of first)) (both keeper second o)) (moved first n) (mapped (unshift (cut_of first)) (both keeper second o) n c)

moves : (keeper : Keeper) (first second : List ClientSession) (o : Committed) → Leading (both keeper second o) (whole keeper first second o) (unshift (cut_of first))
moves keeper first second o = record {
  has = λ a c. in_whole keeper first second o a c;
  session = λ a b c d s. s;
  place = λ a b c d s lt. (let same : cut_of first a.session ≡ cut_of first b.session = ap (cut_of first) s in omega (arith, same, lt));
  writes = λ a key wid c w. w;
  reads = λ a key wid c r. r;
}

pub leads_trans : (nodes : List Committed) (a b c : Committed) → Leads nodes a b → Leads nodes b c → Leads nodes a c
leads_trans nodes a b c (itself _) k = k
leads_trans nodes a b c (by_session _ d _ e s lt h) k = by_session a d c e s lt (leads_trans nodes d b c h k)
leads_trans nodes a b c (by_read _ d _ key wid e w r h) k = by_read a d c key wid e w r (leads_trans nodes d b c h k)

-- those of the first lead to each node of the second
pub first_leads : (keeper : Keeper) (first second : List ClientSession) (o : Committed) → Pair keeper first second o → (a n : Committed) → Contains (nodes_of first) a → Contains (both keeper second o) n → Leads (whole keeper first second o) a (moved first n)
first_leads keeper first second o p a n c d =
    let closing = p.seam.closed.closing in
    let b = bare_node keeper o in
    let here : Contains (both keeper second o) b = (0, omega arith, refl) in
    let at = closing_opens keeper first second o p in
    let one = leads_wider (nodes_of first) (whole keeper first second o) (λ m. Contains-append_left (nodes_of first) (map (unshift (cut_of first)) (both keeper second o)) m) a closing (p.leads_closing a c) in
    let lt : closing.place < (moved first b).place = let k = at.1 in let e = p.place in omega (arith, k, e) in
    let three = leads_carried (both keeper second o) (whole keeper first second o) (unshift (cut_of first)) (moves keeper first second o) b n here (p.leads_opening n d) in
    leads_trans (whole keeper first second o) a closing (moved first n) one (by_session closing (moved first b) (moved first n) (in_whole keeper first second o b here) at.0 lt three)

-- and a node of the second to each that it led to
pub second_leads : (keeper : Keeper) (first second : List ClientSession) (o : Committed) → Pair keeper first second o → (n c : Committed) → Contains (both keeper second o) n → Contains (both keeper second o) c → (Contains (rest_nodes keeper second) n → Leads (nodes_of second) n c) → Leads (whole keeper first second o) (moved first n) (moved first c)
second_leads keeper first second o p n c d e f =
    leads_carried (both keeper second o) (whole keeper first second o) (unshift (cut_of first)) (moves keeper first second o) n c d
    (elim (first_or_behind (bare_node keeper o) (rest_nodes keeper second) n d) [
      | inl same ↦ subst (λ m. Leads (both keeper second o) m c) same (p.leads_opening c e)
      | inr r ↦ (later keeper first second o p n c r (f r)).leads
    ])

-- ---- to the log of the run
pub run_is : (keeper : Keeper) (first second : List ClientSession) (o : Committed) → Pair keeper first second o → committed_in (run_of_two keeper first second) ≡ nodes_of (run_of_two keeper first second)
run_is keeper first second o p = nodes_are (run_of_two keeper first second) p.learnt

to_whole : (keeper : Keeper) (first second : List ClientSession) (o : Committed) → Pair keeper first second o → (n : Committed) → Contains (committed_in (run_of_two keeper first second)) n → Contains (whole keeper first second o) n
to_whole keeper first second o p n c = (p.whole n).0 (subst (λ l. Contains l n) (run_is keeper first second o p) c)

to_run : (keeper : Keeper) (first second : List ClientSession) (o : Committed) → Pair keeper first second o → (n : Committed) → Contains (whole keeper first second o) n → Contains (committed_in (run_of_two keeper first second)) n
to_run keeper first second o p n c = subst (λ l. Contains l n) (sym (run_is keeper first second o p)) ((p.whole n).1 c)

leads_in_run : (keeper : Keeper) (first second : List ClientSession) (o : Committed) → Pair keeper first second o → (a c : Committed) → Leads (whole keeper first second o) a c → Leads (committed_in (run_of_two keeper first second)) a c
leads_in_run keeper first second o p a c k = leads_wider (whole keeper first second o) (committed_in (run_of_two keeper first second)) (to_run keeper first second o p) a c k

-- the one case or the other
data Which (keeper : Keeper) (first second : List ClientSession) (o n : Committed) : Type 0 where
  is_first : Contains (nodes_of first) n → Which keeper first second o n
  is_second : (m : Committed) → Contains (both keeper second o) m → moved first m ≡ n → Which keeper first second o n

which : (keeper : Keeper) (first second : List ClientSession) (o n : Committed) → Contains (whole keeper first second o) n → Which keeper first second o n
which keeper first second o n c = elim (Contains-append_cases (nodes_of first) (map (unshift (cut_of first)) (both keeper second o)) n c) [
  | inl d ↦ is_first d
  | inr d ↦ let m = of_mapped (unshift (cut_of first)) (both keeper second o) n d in is_second m.0 m.1 m.2
]

-- ---- the closing of the second is that of the run
pub closed_run : (keeper : Keeper) (first second : List ClientSession) → IsSeam keeper first second → IsClosed keeper second → IsClosed keeper (run_of_two keeper first second)
closed_run keeper first second s closed = elim (first_or_behind o (rest_nodes keeper second) closing ((second_nodes keeper second s.sound_second o p.has p.session p.place closing).0 has)) [
  | inl e ↦ closes (bare_node keeper o) (0, omega arith, refl) p.session (λ n r. absurd (alone e n r))
  | inr r ↦ closes closing (behind (bare_node keeper o) (rest_nodes keeper second) closing r) closed.session (λ n d. leads n d)
]
  where
    o : Committed
    o = s.opened.opening

    p : Pair keeper first second o
    p = pair_of keeper first second s

    closing : Committed
    closing = closed.closing

    second_is : committed_in second ≡ nodes_of second
    second_is = nodes_are second (learnt_of second s.learnt_second)

    has : Contains (nodes_of second) closing
    has = subst (λ l. Contains l closing) second_is closed.is_node

    leads : (n : Committed) → Contains (rest_nodes keeper second) n → Leads (nodes_of second) n closing
    leads n d =
        let c = (of_kept (λ (m : Committed). not (opens_at keeper 1 m)) (nodes_of second) n d).0 in
        subst (λ l. Leads l n closing) second_is (closed.last n (subst (λ l. Contains l n) (sym second_is) c))

    -- an opening that is the closing has no other beside it
    alone : o ≡ closing → (n : Committed) → Contains (rest_nodes keeper second) n → ⊥
    alone e n d =
        let l = later keeper first second o p n closing d (leads n d) in
        let no = not_true (opens_at keeper 1 closing) (of_kept (λ (m : Committed). not (opens_at keeper 1 m)) (nodes_of second) closing l.rest).1 in
        false≢true (sym no ∙ ap (opens_at keeper 1) (sym e) ∙ opens_where keeper 1 o p.session (let k = p.place in omega (arith, k)))

    closes : (c : Committed) → Contains (both keeper second o) c → c.session ≡ keeper.session → ((n : Committed) → Contains (rest_nodes keeper second) n → Leads (nodes_of second) n c) → IsClosed keeper (run_of_two keeper first second)
    closes c d session f = record {
      closing = moved first c;
      is_node = to_run keeper first second o p (moved first c) (in_whole keeper first second o c d);
      session = session;
      last = λ a e. leads_in_run keeper first second o p a (moved first c) (last a (which keeper first second o a (to_whole keeper first second o p a e)));
    }
      where
        last : (a : Committed) → Which keeper first second o a → Leads (whole keeper first second o) a (moved first c)
        last a (is_first e) = first_leads keeper first second o p a c e d
        last a (is_second m e same) = subst (λ n. Leads (whole keeper first second o) n (moved first c)) same (second_leads keeper first second o p m c e d (f m))

-- ---- what keys are left as
pub still_left : (keeper : Keeper) (first second : List ClientSession) → IsSeam keeper first second → (key : List ℕ) (wid : ℕ) → ((v : ℕ) → Contains (committed_ops (bare keeper second)) (Write key v) → ⊥) → IsLeft (committed_in first) key wid → IsLeft (committed_in (run_of_two keeper first second)) key wid
still_left keeper first second s key wid none left = go left
  where
    o : Committed
    o = s.opened.opening

    p : Pair keeper first second o
    p = pair_of keeper first second s

    first_is : committed_in first ≡ nodes_of first
    first_is = nodes_are first (learnt_of first s.learnt_first)

    never : (m : Committed) (v : ℕ) → Contains (both keeper second o) m → Contains m.ops (Write key v) → ⊥
    never m v c w = none v (subst (λ l. Contains l (Write key v)) (ops_of_nodes (bare keeper second)) (op_of_node (nodes_of (bare keeper second)) m (Write key v) ((p.same m).1 c) w))

    writer : (a : Committed) (v : ℕ) → Contains (committed_in (run_of_two keeper first second)) a → Contains a.ops (Write key v) → Contains (committed_in first) a
    writer a v c w = of_which (which keeper first second o a (to_whole keeper first second o p a c))
      where
        of_which : Which keeper first second o a → Contains (committed_in first) a
        of_which (is_first d) = subst (λ l. Contains l a) (sym first_is) d
        of_which (is_second m d e) = absurd (never m v d (subst (λ (n : Committed). Contains n.ops (Write key v)) (sym e) w))

    in_run : (n : Committed) → Contains (committed_in first) n → Contains (committed_in (run_of_two keeper first second)) n
    in_run n c = to_run keeper first second o p n (Contains-append_left (nodes_of first) (map (unshift (cut_of first)) (both keeper second o)) n (subst (λ l. Contains l n) first_is c))

    go : IsLeft (committed_in first) key wid → IsLeft (committed_in (run_of_two keeper first second)) key wid
    go (inl u) = inl (record { zero = u.zero; none = λ a v c w. u.none a v (writer a v c w) w })
    go (inr r) = inr (record {
      reader = r.reader;
      is_node = in_run r.reader r.is_node;
      reads = r.reads;
      leaves = r.leaves;
      behind = λ a v c w. leads_wider (committed_in first) (committed_in (run_of_two keeper first second)) in_run a r.reader (r.behind a v (writer a v c w) w);
    })

pub newly_left : (keeper : Keeper) (first second : List ClientSession) → IsSeam keeper first second → (key : List ℕ) (wid : ℕ) → IsReadLast (committed_in second) key wid → IsLeft (committed_in (run_of_two keeper first second)) key wid
newly_left keeper first second s key wid r = inr (record {
  reader = moved first r.reader;
  is_node = to_run keeper first second o p (moved first r.reader) (in_whole keeper first second o r.reader here);
  reads = r.reads;
  leaves = r.leaves;
  behind = λ a v c w. leads_in_run keeper first second o p a (moved first r.reader) (leads a v w (which keeper first second o a (to_whole keeper first second o p a c)));
})
  where
    o : Committed
    o = s.opened.opening

    p : Pair keeper first second o
    p = pair_of keeper first second s

    second_is : committed_in second ≡ nodes_of second
    second_is = nodes_are second (learnt_of second s.learnt_second)

    has : Contains (nodes_of second) r.reader
    has = subst (λ l. Contains l r.reader) second_is r.is_node

    here : Contains (both keeper second o) r.reader
    here = behind (bare_node keeper o) (rest_nodes keeper second) r.reader (in_rest keeper second r.reader has (never_reads keeper first second o p r.reader has key wid r.reads))

    leads : (a : Committed) (v : ℕ) → Contains a.ops (Write key v) → Which keeper first second o a → Leads (whole keeper first second o) a (moved first r.reader)
    leads a v w (is_first d) = first_leads keeper first second o p a r.reader d here
    leads a v w (is_second m d e) = subst (λ n. Leads (whole keeper first second o) n (moved first r.reader)) e (second_leads keeper first second o p m r.reader d here (λ f. (
        let c = (of_kept (λ (n : Committed). not (opens_at keeper 1 n)) (nodes_of second) m f).0 in
        subst (λ l. Leads l m r.reader) second_is (r.behind m v (subst (λ l. Contains l m) (sym second_is) c) (subst (λ (n : Committed). Contains n.ops (Write key v)) (sym e) w)))))

-- ---- and time
pub in_time_run : (keeper : Keeper) (first second third : List ClientSession) → IsSeam keeper first second → IsInTime first third → IsInTime second third → IsInTime (run_of_two keeper first second) third
in_time_run keeper first second third s one two a b c d = of_which (which keeper first second o a (to_whole keeper first second o p a c))
  where
    o : Committed
    o = s.opened.opening

    p : Pair keeper first second o
    p = pair_of keeper first second s

    second_is : committed_in second ≡ nodes_of second
    second_is = nodes_are second (learnt_of second s.learnt_second)

    in_second : (n : Committed) → Contains (nodes_of second) n → is_earlier b.ended n.begun ≡ false
    in_second n e = two n b (subst (λ l. Contains l n) (sym second_is) e) d

    of_both : (m : Committed) → Contains (both keeper second o) m → is_earlier b.ended m.begun ≡ false
    of_both m e = elim (first_or_behind (bare_node keeper o) (rest_nodes keeper second) m e) [
      | inl same ↦ subst (λ (n : Committed). is_earlier b.ended n.begun ≡ false) same (in_second o p.has)
      | inr r ↦ in_second m (of_kept (λ (n : Committed). not (opens_at keeper 1 n)) (nodes_of second) m r).0
    ]

    of_which : Which keeper first second o a → is_earlier b.ended a.begun ≡ false
    of_which (is_first e) = one a b (subst (λ l. Contains l a) (sym (nodes_are first (learnt_of first s.learnt_first))) e) d
    of_which (is_second m e same) = subst (λ (n : Committed). is_earlier b.ended n.begun ≡ false) same (of_both m e)
