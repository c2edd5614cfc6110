-- Rounds without their moments are rounds.
use Rattle.round_laws.proofs.Prelude.{◌≡◌, ℕ, eqb, ◌||◌, not, List, [], ◌∷◌, ◌++◌, map, refl, sym, ap, ◌∙◌, subst, inl, inr, arith, filter, AllByRecursion, Contains, cases_Bool, map-append, mapped, is_earlier, ClientSession, Transaction}
use Rattle.round_laws.proofs.Prelude.{Read, Write, each_from_map, txns_in, committed_ops, Committed, committed_in, each_member, IsLearnt, IsSoundLog, IsLearntLog, of_mapped, nodes_of, without, session_without, without_moments, txns_without}
use Rattle.round_laws.proofs.Prelude.{committed_ops_stay, stays_sound, Keeper, Leads, bare_txns, bare, bare_node, txns_at, has_number, joined, run_of_two, IsClosed, IsOpened, IsReadLast, IsLeft, values, IsInTime, Round, run_of, IsRound}
use Rattle.round_laws.proofs.Prelude.{IsHeld, first_leaves, newest_leaves, others_leave, Fits, AreRounds, AreInTime, RunAsEach, nodes_are}
use Rattle.point_laws.proofs.Timeless.{node_without, committed_without}
use Rattle.round_laws.proofs.Given.{Leading, leads_carried, learnt_of, bare_set}
use Rattle.round_laws.proofs.Joined.{bare_learnt}
use Rattle.round_laws.proofs.Many.{IsKind, each_of_run, run_of_each}

-- ---- logs joined
bare_txns_without : (keeper : Keeper) (ts : List Transaction) → bare_txns keeper (map without ts) ≡ map without (bare_txns keeper ts)
bare_txns_without keeper [] = refl
bare_txns_without keeper (t ∷ ts) = refl

bare_without : (keeper : Keeper) (ss : List ClientSession) → bare keeper (without_moments ss) ≡ without_moments (bare keeper ss)
bare_without keeper [] = refl
bare_without keeper (s ∷ ss) = elim (cases_Bool (eqb s.number keeper.session)) [
  | inl e ↦ rw e (ap (λ ts. record { number = s.number; txns = ts } ∷ bare keeper (without_moments ss)) (bare_txns_without keeper s.txns) ∙ ap (λ l. record { number = s.number; txns = map without (bare_txns keeper s.txns) } ∷ l) (bare_without keeper ss))
  | inr e ↦ rw e (ap (λ l. session_without s ∷ l) (bare_without keeper ss))
]

at_without : (ss : List ClientSession) (n : ℕ) → txns_at (without_moments ss) n ≡ map without (txns_at ss n)
at_without [] n = refl
at_without (s ∷ ss) n = elim (cases_Bool (eqb s.number n)) [
  | inl e ↦ rw e (ap (λ l. map without s.txns ++ l) (at_without ss n) ∙ sym (map-append without s.txns (txns_at ss n)))
  | inr e ↦ rw e (at_without ss n)
]

number_without : (ss : List ClientSession) (n : ℕ) → has_number (without_moments ss) n ≡ has_number ss n
number_without [] n = refl
number_without (s ∷ ss) n = ap (λ b. eqb s.number n || b) (number_without ss n)

others_without : (first second : List ClientSession) → filter (λ s. not (has_number (without_moments first) s.number)) (without_moments second) ≡ without_moments (filter (λ s. not (has_number first s.number)) second)
others_without first [] = refl
others_without first (s ∷ ss) =
    let same : has_number (without_moments first) s.number ≡ has_number first s.number = number_without first s.number in
    elim (cases_Bool (has_number first s.number)) [
      | inl e ↦ rw (same ∙ e, e) (others_without first ss)
      | inr e ↦ rw (same ∙ e, e) (ap (λ l. session_without s ∷ l) (others_without first ss))
    ]

more_without : (first second : List ClientSession) → map (λ (s : ClientSession). record { number = s.number; txns = s.txns ++ txns_at (without_moments second) s.number }) (without_moments first) ≡ without_moments (map (λ (s : ClientSession). record { number = s.number; txns = s.txns ++ txns_at second s.number }) first)
more_without [] second = refl
more_without (s ∷ ss) second =
    let txns : map without s.txns ++ txns_at (without_moments second) s.number ≡ map without (s.txns ++ txns_at second s.number) =
    ap (λ l. map without s.txns ++ l) (at_without second s.number) ∙ sym (map-append without s.txns (txns_at second s.number)) in
    ap (λ ts. record { number = s.number; txns = ts } ∷ map (λ (s : ClientSession). record { number = s.number; txns = s.txns ++ txns_at (without_moments second) s.number }) (without_moments ss)) txns
    ∙ ap (λ l. session_without (record { number = s.number; txns = s.txns ++ txns_at second s.number }) ∷ l) (more_without ss second)

joined_without : (first second : List ClientSession) → joined (without_moments first) (without_moments second) ≡ without_moments (joined first second)
joined_without first second =
    ap (λ l. l ++ filter (λ s. not (has_number (without_moments first) s.number)) (without_moments second)) (more_without first second)
    ∙ ap (λ l. without_moments (map (λ (s : ClientSession). record { number = s.number; txns = s.txns ++ txns_at second s.number }) first) ++ l) (others_without first second)
    ∙ sym (map-append session_without (map (λ (s : ClientSession). record { number = s.number; txns = s.txns ++ txns_at second s.number }) first) (filter (λ s. not (has_number first s.number)) second))

two_without : (keeper : Keeper) (first second : List ClientSession) → run_of_two keeper (without_moments first) (without_moments second) ≡ without_moments (run_of_two keeper first second)
two_without keeper first second = ap (joined (without_moments first)) (bare_without keeper second) ∙ joined_without first (bare keeper second)

pub run_without : (keeper : Keeper) (rounds : List Round) → run_of keeper (map without_moments rounds) ≡ without_moments (run_of keeper rounds)
run_without keeper [] = refl
run_without keeper (r ∷ []) = refl
run_without keeper (r ∷ e ∷ earlier) = ap (λ run. run_of_two keeper run (without_moments r)) (run_without keeper (e ∷ earlier)) ∙ two_without keeper (run_of keeper (e ∷ earlier)) r

-- ---- what holds of a log
learnt_without : (ss : List ClientSession) → IsLearntLog ss → IsLearntLog (without_moments ss)
learnt_without ss learnt = subst (AllByRecursion IsLearnt) (sym (txns_without ss)) (each_from_map IsLearnt without (txns_in ss) learnt)

leading : (nodes : List Committed) → Leading nodes (map node_without nodes) node_without
leading nodes = record {
  has = λ a c. mapped node_without nodes a c;
  session = λ a b c d s. s;
  place = λ a b c d s lt. lt;
  writes = λ a key wid c w. w;
  reads = λ a key wid c r. r;
}

-- a node without moments, and the node
node_of_without : (ss : List ClientSession) (a : Committed) → Contains (committed_in (without_moments ss)) a → (b : Committed) × (Contains (committed_in ss) b) × (node_without b ≡ a)
node_of_without ss a c = of_mapped node_without (committed_in ss) a (subst (λ l. Contains l a) (committed_without ss) c)

has_without : (ss : List ClientSession) (a : Committed) → Contains (committed_in ss) a → Contains (committed_in (without_moments ss)) (node_without a)
has_without ss a c = subst (λ l. Contains l (node_without a)) (sym (committed_without ss)) (mapped node_without (committed_in ss) a c)

leads_without : (ss : List ClientSession) (a c : Committed) → Contains (committed_in ss) a → Leads (committed_in ss) a c → Leads (committed_in (without_moments ss)) (node_without a) (node_without c)
leads_without ss a c d k = subst (λ l. Leads l (node_without a) (node_without c)) (sym (committed_without ss)) (leads_carried (committed_in ss) (map node_without (committed_in ss)) node_without (leading (committed_in ss)) a c d k)

closed_without : (keeper : Keeper) (ss : List ClientSession) → IsClosed keeper ss → IsClosed keeper (without_moments ss)
closed_without keeper ss h = record {
  closing = node_without h.closing;
  is_node = has_without ss h.closing h.is_node;
  session = h.session;
  last = λ a c. (let b = node_of_without ss a c in subst (λ n. Leads (committed_in (without_moments ss)) n (node_without h.closing)) b.2 (leads_without ss b.0 h.closing b.1 (h.last b.0 b.1)));
}

bare_has : (keeper : Keeper) (ss : List ClientSession) → IsSoundLog ss → IsLearntLog ss → (h : IsOpened keeper ss) → Contains (committed_in (bare keeper ss)) (bare_node keeper h.opening)
bare_has keeper ss sound learnt h =
    let o = h.opening in
    let are = learnt_of ss learnt in
    let has : Contains (nodes_of ss) o = subst (λ l. Contains l o) (nodes_are ss are) h.is_node in
    subst (λ l. Contains l (bare_node keeper o)) (sym (nodes_are (bare keeper ss) (bare_learnt keeper ss are))) ((bare_set keeper ss sound o has h.session h.place (bare_node keeper o)).1 (0, omega arith, refl))

opened_without : (keeper : Keeper) (ss : List ClientSession) → IsSoundLog ss → IsLearntLog ss → IsOpened keeper ss → IsOpened keeper (without_moments ss)
opened_without keeper ss sound learnt h = record {
  opening = node_without h.opening;
  is_node = has_without ss h.opening h.is_node;
  session = h.session;
  place = h.place;
  writes = h.writes;
  first = λ a c. (
      let b = node_of_without (bare keeper ss) a (subst (λ l. Contains (committed_in l) a) (bare_without keeper ss) c) in
      subst (λ n. Leads (committed_in (bare keeper (without_moments ss))) (node_without (bare_node keeper h.opening)) n) b.2
      (subst (λ l. Leads (committed_in l) (node_without (bare_node keeper h.opening)) (node_without b.0)) (sym (bare_without keeper ss)) (leads_without (bare keeper ss) (bare_node keeper h.opening) b.0 (bare_has keeper ss sound learnt h) (h.first b.0 b.1))));
}

round_without : (keeper : Keeper) (r : Round) → IsRound keeper r → IsRound keeper (without_moments r)
round_without keeper r h = record { sound = stays_sound r h.sound; learnt = learnt_without r h.learnt; opened = opened_without keeper r h.sound h.learnt h.opened; closed = closed_without keeper r h.closed }

read_last_without : (ss : List ClientSession) (key : List ℕ) (wid : ℕ) → IsReadLast (committed_in ss) key wid → IsReadLast (committed_in (without_moments ss)) key wid
read_last_without ss key wid r = record {
  reader = node_without r.reader;
  is_node = has_without ss r.reader r.is_node;
  reads = r.reads;
  leaves = r.leaves;
  behind = λ a v c w. (
      let b = node_of_without ss a c in
      subst (λ n. Leads (committed_in (without_moments ss)) n (node_without r.reader)) b.2 (leads_without ss b.0 r.reader b.1 (r.behind b.0 v b.1 (subst (λ (n : Committed). Contains n.ops (Write key v)) (sym b.2) w))));
}

left_without : (ss : List ClientSession) (key : List ℕ) (wid : ℕ) → IsLeft (committed_in ss) key wid → IsLeft (committed_in (without_moments ss)) key wid
left_without ss key wid (inl u) = inl (record { zero = u.zero; none = λ a v c w. (let b = node_of_without ss a c in u.none b.0 v b.1 (subst (λ (n : Committed). Contains n.ops (Write key v)) (sym b.2) w)) })
left_without ss key wid (inr r) = inr (read_last_without ss key wid r)

bare_ops_without : (keeper : Keeper) (r : Round) → committed_ops (bare keeper (without_moments r)) ≡ committed_ops (bare keeper r)
bare_ops_without keeper r = ap committed_ops (bare_without keeper r) ∙ committed_ops_stay (bare keeper r)

held_without : (keeper : Keeper) (rounds : List Round) (key : List ℕ) (wid : ℕ) → IsHeld keeper rounds key wid → IsHeld keeper (map without_moments rounds) key wid
held_without keeper rounds key wid (first_leaves r _ _ l) = first_leaves (without_moments r) key wid (left_without r key wid l)
held_without keeper rounds key wid (newest_leaves r e earlier _ _ l) = newest_leaves (without_moments r) (without_moments e) (map without_moments earlier) key wid (read_last_without r key wid l)
held_without keeper rounds key wid (others_leave r e earlier _ _ none k) =
    others_leave (without_moments r) (without_moments e) (map without_moments earlier) key wid (λ v c. none v (subst (λ l. Contains l (Write key v)) (bare_ops_without keeper r) c)) (held_without keeper (e ∷ earlier) key wid k)

fits_without : (keeper : Keeper) (earlier : List Round) (r : Round) (round : IsRound keeper r) → Fits keeper earlier r round.opened → Fits keeper (map without_moments earlier) (without_moments r) (opened_without keeper r round.sound round.learnt round.opened)
unfolding opened_without
fits_without keeper earlier r round h key wid c = elim (h key wid (subst (λ l. Contains l (Read key wid)) (bare_ops_without keeper r) c)) [
  | inl w ↦ inl (subst (λ l. Contains l (Write key wid)) (sym (bare_ops_without keeper r)) w)
  | inr k ↦ inr (held_without keeper earlier key (values keeper round.opened.opening key) k)
]

pub rounds_without : (keeper : Keeper) (rounds : List Round) → AreRounds keeper rounds → AreRounds keeper (map without_moments rounds)
unfolding round_without
rounds_without keeper [] h = h
rounds_without keeper (r ∷ []) h = round_without keeper r h
rounds_without keeper (r ∷ e ∷ earlier) h = (
  rounds_without keeper (e ∷ earlier) h.0,
  (round_without keeper r h.1.0, fits_without keeper (e ∷ earlier) r h.1.0 h.1.1),
  subst IsSoundLog (sym (run_without keeper (r ∷ e ∷ earlier))) (stays_sound (run_of keeper (r ∷ e ∷ earlier)) h.2),
)

-- they are in time
one_in_time : (e r : Round) → IsInTime (without_moments e) (without_moments r)
one_in_time e r a b c d = let n = node_of_without r b d in ap (λ (m : Committed). is_earlier m.ended a.begun) (sym n.2)

all_in_time : (rounds : List Round) → AreInTime (map without_moments rounds)
all_in_time [] = tt
all_in_time (r ∷ earlier) = (each_from_map (λ e. IsInTime e (without_moments r)) without_moments earlier (each_member (λ e. IsInTime (without_moments e) (without_moments r)) earlier (λ e c. one_in_time e r)), all_in_time earlier)

-- ---- the laws
to_each : (P : Round → Type 0) (rounds : List Round) → AllByRecursion P (map without_moments rounds) → AllByRecursion (λ r. P (without_moments r)) rounds
to_each P [] h = tt
to_each P (r ∷ rs) h = (h.0, to_each P rs h.1)

pub run_as_each : {P : Round → Type 0} → IsKind P → RunAsEach P
run_as_each {P = P} kind keeper rounds h =
    let timeless = map without_moments rounds in
    let are = rounds_without keeper rounds h in (
      (λ o. to_each P rounds (each_of_run kind keeper timeless are (subst P (sym (run_without keeper rounds)) o))),
      λ o. subst P (run_without keeper rounds) (run_of_each kind keeper timeless are (all_in_time rounds) (each_from_map P without_moments rounds o)),
    )
