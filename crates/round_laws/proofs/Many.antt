-- The laws of runs of many rounds, by repetition. They hold of each kind of order that those of two hold of.
use Rattle.round_laws.proofs.Prelude.{◌≡◌, ℕ, Bool, List, [], ◌∷◌, inl, inr, subst, AllByRecursion, committed_in, IsLearnt, IsSoundLog, IsLearntLog, HasOrder, HasPointOrder, Keeper, run_of_two, IsClosed, IsLeft, values, IsSeam, IsInTime}
use Rattle.round_laws.proofs.Prelude.{BothOfRun, RunOfBoth, Round, run_of, IsRound, IsHeld, first_leaves, newest_leaves, others_leave, AreRounds, EachOfRun, RunOfEach}
use Rattle.log_definitions.proofs.Renumbered.{Orders}
use Rattle.log_definitions.proofs.OnlyTaken.{orders_from_serial, serial_from_orders}
use Rattle.log_laws.proofs.Txns.{joined as join_each}
use Rattle.point_laws.proofs.Resolved.{of_same_nodes}
use Rattle.round_laws.proofs.Serial.{pair_of, orders_of_rounds, order_of_run}
use Rattle.round_laws.proofs.Snapshots.{points_of_rounds, points_of_run}
use Rattle.round_laws.proofs.Steps.{closed_run, still_left, newly_left, in_time_run}

-- ---- what holds of a run
record IsRun (keeper : Keeper) (rounds : List Round) : Type 0 where
  pub sound : IsSoundLog (run_of keeper rounds)
  pub learnt : IsLearntLog (run_of keeper rounds)
  pub closed : IsClosed keeper (run_of keeper rounds)
  pub left : (key : List ℕ) (wid : ℕ) → IsHeld keeper rounds key wid → IsLeft (committed_in (run_of keeper rounds)) key wid

-- a round fits behind it
seam_behind : (keeper : Keeper) (r e : Round) (earlier : List Round) → IsRun keeper (e ∷ earlier) → AreRounds keeper (r ∷ e ∷ earlier) → IsSeam keeper (run_of keeper (e ∷ earlier)) r
seam_behind keeper r e earlier run h = record {
  closed = run.closed;
  opened = h.1.0.opened;
  sound_first = run.sound;
  sound_second = h.1.0.sound;
  sound = h.2;
  learnt_first = run.learnt;
  learnt_second = h.1.0.learnt;
  held = λ key wid c. elim (h.1.1 key wid c) [
    | inl w ↦ inl w
    | inr k ↦ inr (run.left key (values keeper h.1.0.opened.opening key) k)
  ];
}

one_round : (keeper : Keeper) (r : Round) → IsRound keeper r → IsRun keeper (r ∷ [])
one_round keeper r h = record { sound = h.sound; learnt = h.learnt; closed = h.closed; left = left }
  where
    left : (key : List ℕ) (wid : ℕ) → IsHeld keeper (r ∷ []) key wid → IsLeft (committed_in r) key wid
    left key wid (first_leaves _ _ _ l) = l

next_round : (keeper : Keeper) (r e : Round) (earlier : List Round) → IsRun keeper (e ∷ earlier) → AreRounds keeper (r ∷ e ∷ earlier) → IsRun keeper (r ∷ e ∷ earlier)
next_round keeper r e earlier before h = record {
  sound = h.2;
  learnt = join_each IsLearnt (run_of_two keeper run r) (pair_of keeper run r seam).learnt;
  closed = closed_run keeper run r seam h.1.0.closed;
  left = left;
}
  where
    run : Round
    run = run_of keeper (e ∷ earlier)

    seam : IsSeam keeper run r
    seam = seam_behind keeper r e earlier before h

    left : (key : List ℕ) (wid : ℕ) → IsHeld keeper (r ∷ e ∷ earlier) key wid → IsLeft (committed_in (run_of_two keeper run r)) key wid
    left key wid (newest_leaves _ _ _ _ _ l) = newly_left keeper run r seam key wid l
    left key wid (others_leave _ _ _ _ _ none k) = still_left keeper run r seam key wid none (before.left key wid k)

are_run : (keeper : Keeper) (r : Round) (earlier : List Round) → AreRounds keeper (r ∷ earlier) → IsRun keeper (r ∷ earlier)
are_run keeper r [] h = one_round keeper r h
are_run keeper r (e ∷ earlier) h = next_round keeper r e earlier (are_run keeper e earlier h.0) h

seam_of : (keeper : Keeper) (r e : Round) (earlier : List Round) → AreRounds keeper (r ∷ e ∷ earlier) → IsSeam keeper (run_of keeper (e ∷ earlier)) r
seam_of keeper r e earlier h = seam_behind keeper r e earlier (are_run keeper e earlier h.0) h

-- ---- moments
in_time : (keeper : Keeper) (r e third : Round) (earlier : List Round) → AreRounds keeper (e ∷ earlier) → AllByRecursion (λ x. IsInTime x third) (e ∷ earlier) → IsInTime (run_of keeper (e ∷ earlier)) third
in_time keeper r e third [] h t = t.0
in_time keeper r e third (x ∷ earlier) h t = in_time_run keeper (run_of keeper (x ∷ earlier)) e third (seam_of keeper e x earlier h) (in_time keeper r x third earlier h.0 t.1) t.0

-- ---- kinds of order
pub record IsKind (P : Round → Type 0) : Type 0 where
  pub both : BothOfRun P
  pub run : RunOfBoth P
  pub same : (one two : Round) → committed_in one ≡ committed_in two → P one → P two

serial_same : (one two : Round) → committed_in one ≡ committed_in two → HasOrder one → HasOrder two
serial_same one two e h = (h.0, serial_from_orders two h.0 (subst (λ nodes. Orders nodes h.0) e (orders_from_serial one h.0 h.1)))

pub serial : IsKind HasOrder
serial = record { both = orders_of_rounds; run = order_of_run; same = serial_same }

pub points : (locked : Bool) → IsKind (HasPointOrder locked)
points locked = record { both = points_of_rounds locked; run = points_of_run locked; same = of_same_nodes }

-- ---- the laws
pub each_of_run : {P : Round → Type 0} → IsKind P → EachOfRun P
each_of_run kind keeper [] h o = absurd h
each_of_run kind keeper (r ∷ []) h o = (o, tt)
each_of_run kind keeper (r ∷ e ∷ earlier) h o =
    let two = kind.both keeper (run_of keeper (e ∷ earlier)) r (seam_of keeper r e earlier h) o in
    (two.1, each_of_run kind keeper (e ∷ earlier) h.0 two.0)

pub run_of_each : {P : Round → Type 0} → IsKind P → RunOfEach P
run_of_each kind keeper [] h t o = absurd h
run_of_each kind keeper (r ∷ []) h t o = o.0
run_of_each kind keeper (r ∷ e ∷ earlier) h t o =
    kind.run keeper (run_of keeper (e ∷ earlier)) r (seam_of keeper r e earlier h) (in_time keeper r e r earlier h.0 t.0) (run_of_each kind keeper (e ∷ earlier) h.0 t.1 o.1) o.0
