-- What is judged at a level, and what it says of a log whose outcomes are known, and of the sessions that this comes from.
use Rattle.judging.proofs.Prelude.{◌≡◌, ◌⊎◌, inl, inr, ℕ, List, [], map, Some, refl, sym, ap, ◌∙◌, subst, true, AllByRecursion, ClientSession, IsLegal, key_of, Op, resolved, log_of, keys_in, first_seen, IsSerialOrder, ops_resolved}
use Rattle.judging.proofs.Prelude.{some_where_serial, IsSoundLog, IsLog, nodes_stay, resolved_is_log, IsPart, IsReduceFault, Unknown, HasNoOrder, IsSearched, Level, Serializable, Snapshot, Prefix, Below, JudgeMeans, Why, Spent, TooLarge}
use Rattle.judging.proofs.Prelude.{TooManyChoices, NoRoom, NotBegun, NotShown, Found, IsOver, Anomaly, Overlooked, is_split, judged_at, HasNoOrderAt, HasRoomAt, IsOrderAt, IsJudgedAt, Finds, FindsAt, FindsIn, IsOwnOf, IsRefutedLog}
use Rattle.judging.proofs.Prelude.{IsUndecidedBy, IsFound, of_serial}
use Rattle.serializability.specs.Anomalies.{anomaly_of}
use Rattle.serializability.specs.declared.anomaly.Anomaly.{Anomaly as Reported}
use Rattle.point_laws.specs.Split.{split_writers}
use Rattle.point_laws.proofs.Resolved.{of_same_nodes}
use Rattle.point_laws.proofs.Some.{snapshot_of_taken, prefix_of_taken}
use Rattle.point_laws.proofs.OfPart.{some_snapshot_of_part, some_prefix_of_part}
use Rattle.point_laws.specs.Prefix.{no_locks}
use Rattle.level_laws.specs.declared.level.Level.{Level as BelowLevel}
use Rattle.level_laws.specs.Seen.{HasLevelOrder}
use Rattle.level_laws.proofs.Same.{same_nodes, same_order, same_level}
use Rattle.level_laws.proofs.OfPart.{level_of_taken, some_level_of_part}
use Rattle.level_refutations.specs.declared.evidence.Evidence.{Evidence}
use Rattle.level_refutations.specs.Refuted.{is_refuted}
use Rattle.splitting.specs.Locks.{locks_of, no_room}
use Rattle.splitting.proofs.Fresh.{same_locks, same_room, snapshot_by_split_log, prefix_by_split_log}
use Rattle.polygraph.specs.declared.fault.PolyFault.TheVariants as poly_fault
use Rattle.judging.specs.declared.found.Found.TheVariants as found
use Rattle.judging.specs.declared.judged.Finding.{Finding}
use Rattle.judging.proofs.Resolved.{twice, known, serial_of_resolved}
use Rattle.judging.proofs.Parts.{none_of_part}

-- ---- names of locks are those of the operations alone
pub locks_resolved : (ss : List ClientSession) → locks_of (resolved ss) ≡ locks_of ss
locks_resolved ss = same_locks (resolved ss) ss (ops_resolved ss)

pub room_resolved : (ss : List ClientSession) → no_room (resolved ss) ≡ no_room ss
room_resolved ss = same_room (resolved ss) ss (ops_resolved ss)

pub bare_resolved : (ss : List ClientSession) → judged_at Prefix (resolved ss) ≡ judged_at Prefix ss
bare_resolved ss = ap (split_writers no_locks) (twice ss)

pub judged_resolved : (ss : List ClientSession) → judged_at Snapshot (resolved ss) ≡ judged_at Snapshot ss
judged_resolved ss = ap (λ l. split_writers l (resolved (resolved ss))) (locks_resolved ss) ∙ ap (split_writers (locks_of ss)) (twice ss)

-- ---- orders
pub order_of_resolved : (level : Level) (ss : List ClientSession) (order : List ℕ) → IsOrderAt level (resolved ss) order → IsOrderAt level ss order
order_of_resolved Serializable ss order h =
    let own = serial_of_resolved ss order h.judged in
    record { has = (order, own); room = tt; judged = own }
order_of_resolved Snapshot ss order h = record {
  has = of_same_nodes (resolved ss) ss (nodes_stay ss) h.has;
  room = sym (room_resolved ss) ∙ h.room;
  judged = subst (λ l. IsSerialOrder l order) (judged_resolved ss) h.judged;
}
order_of_resolved Prefix ss order h = record {
  has = of_same_nodes (resolved ss) ss (nodes_stay ss) h.has;
  room = tt;
  judged = subst (λ l. IsSerialOrder l order) (bare_resolved ss) h.judged;
}
order_of_resolved (Below below) ss order h =
    let own = same_order below (resolved ss) ss (same_nodes (resolved ss) ss (nodes_stay ss)) order h.judged in
    record { has = (order, own); room = tt; judged = own }

-- ---- parts
pub none_at_part : (level : Level) (ss part : List ClientSession) → AllByRecursion IsLegal ss → IsSoundLog ss → IsPart (resolved ss) part → HasNoOrderAt level part → HasNoOrderAt level ss
none_at_part Serializable ss part legal sound h none = none_of_part ss part legal sound h none
none_at_part Snapshot ss part legal sound h none = λ some.
    let whole = (resolved_is_log ss legal sound).sound in
    let has = of_same_nodes ss (resolved ss) (sym (nodes_stay ss)) ((snapshot_of_taken ss sound).0 some) in
    none (some_snapshot_of_part (resolved ss) part whole h ((snapshot_of_taken (resolved ss) whole).1 has))
none_at_part Prefix ss part legal sound h none = λ some.
    let whole = (resolved_is_log ss legal sound).sound in
    let has = of_same_nodes ss (resolved ss) (sym (nodes_stay ss)) ((prefix_of_taken ss sound).0 some) in
    none (some_prefix_of_part (resolved ss) part whole h ((prefix_of_taken (resolved ss) whole).1 has))
none_at_part (Below below) ss part legal sound h none = λ some.
    let whole = (resolved_is_log ss legal sound).sound in
    let has = same_level below ss (resolved ss) (same_nodes ss (resolved ss) (sym (nodes_stay ss))) ((level_of_taken below ss sound).0 some) in
    none (some_level_of_part below (resolved ss) part whole h ((level_of_taken below (resolved ss) whole).1 has))

-- ---- what is judged for a log whose outcomes are known
-- the split log, of a log that is known
split_known : (ss : List ClientSession) → IsLog ss → split_writers (locks_of ss) ss ≡ judged_at Snapshot ss
split_known ss log = ap (split_writers (locks_of ss)) (sym (known ss log))

bare_known : (ss : List ClientSession) → IsLog ss → split_writers no_locks ss ≡ judged_at Prefix ss
bare_known ss log = ap (split_writers no_locks) (sym (known ss log))

pub judged_is_log : (level : Level) (ss judged : List ClientSession) → IsLog ss → IsJudgedAt level ss judged → IsLog judged
judged_is_log Serializable ss judged log h = subst IsLog (sym h) log
judged_is_log Snapshot ss judged log h = subst IsLog (sym h.1) (snapshot_by_split_log ss log h.0).0
judged_is_log Prefix ss judged log h = subst IsLog (sym h) (prefix_by_split_log ss log).0
judged_is_log (Below below) ss judged log h = absurd h

-- a serial order of what is judged is an order of the level
order_of_serial : (ss judged : List ClientSession) (order : List ℕ) → judged ≡ ss → IsSerialOrder judged order → IsOrderAt Serializable ss order
order_of_serial ss judged order h serial =
    let own = subst (λ l. IsSerialOrder l order) h serial in
    record { has = (order, own); room = tt; judged = own }

order_of_snapshots : (ss judged : List ClientSession) (order : List ℕ) → IsLog ss → IsJudgedAt Snapshot ss judged → IsSerialOrder judged order → IsOrderAt Snapshot ss order
order_of_snapshots ss judged order log h serial = record {
  has = (snapshot_by_split_log ss log h.0).1.1 (order, subst (λ l. IsSerialOrder l order) h.1 serial);
  room = h.0;
  judged = subst (λ l. IsSerialOrder l order) (h.1 ∙ split_known ss log) serial;
}

order_of_prefixes : (ss judged : List ClientSession) (order : List ℕ) → IsLog ss → IsJudgedAt Prefix ss judged → IsSerialOrder judged order → IsOrderAt Prefix ss order
order_of_prefixes ss judged order log h serial = record {
  has = (prefix_by_split_log ss log).1.1 (order, subst (λ l. IsSerialOrder l order) h serial);
  room = tt;
  judged = subst (λ l. IsSerialOrder l order) (h ∙ bare_known ss log) serial;
}

pub order_of_judged : (level : Level) (ss judged : List ClientSession) (order : List ℕ) → IsLog ss → IsJudgedAt level ss judged → IsSerialOrder judged order → IsOrderAt level ss order
order_of_judged Serializable ss judged order log h serial = order_of_serial ss judged order h serial
order_of_judged Snapshot ss judged order log h serial = order_of_snapshots ss judged order log h serial
order_of_judged Prefix ss judged order log h serial = order_of_prefixes ss judged order log h serial
order_of_judged (Below below) ss judged order log h serial = absurd h

-- no serial order of the split log: no order of the level
none_of_split : (level : Level) (ss judged : List ClientSession) → is_split level ≡ true → IsLog ss → IsJudgedAt level ss judged → HasNoOrder judged → HasNoOrderAt level ss
none_of_split Snapshot ss judged is log h un = λ some.
    let has = (snapshot_by_split_log ss log h.0).1.0 ((snapshot_of_taken ss log.sound).0 some) in
    let own = some_where_serial judged (has.0, subst (λ l. IsSerialOrder l has.0) (sym h.1) has.1) in
    un.none own.0 own.1
none_of_split Prefix ss judged is log h un = λ some.
    let has = (prefix_by_split_log ss log).1.0 ((prefix_of_taken ss log.sound).0 some) in
    let own = some_where_serial judged (has.0, subst (λ l. IsSerialOrder l has.0) (sym h) has.1) in
    un.none own.0 own.1
none_of_split Serializable ss judged is log h un = cc
none_of_split (Below below) ss judged is log h un = cc

split_room : (level : Level) (ss judged : List ClientSession) → is_split level ≡ true → IsJudgedAt level ss judged → HasRoomAt level ss
split_room Snapshot ss judged is h = h.0
split_room Prefix ss judged is h = tt
split_room Serializable ss judged is h = cc
split_room (Below below) ss judged is h = cc

-- it is the one of the level
pub split_is : (level : Level) (ss judged : List ClientSession) → is_split level ≡ true → IsLog ss → IsJudgedAt level ss judged → judged ≡ judged_at level ss
split_is Snapshot ss judged is log h = h.1 ∙ split_known ss log
split_is Prefix ss judged is log h = h ∙ bare_known ss log
split_is Serializable ss judged is log h = cc
split_is (Below below) ss judged is log h = cc

finds_split : (level : Level) (ss : List ClientSession) (finding : Finding) → is_split level ≡ true → Finds (judged_at level ss) finding → FindsAt level ss finding
finds_split Snapshot ss finding is h = record { first = finding; finds = h; told = inl refl }
finds_split Prefix ss finding is h = record { first = finding; finds = h; told = inl refl }
finds_split Serializable ss finding is h = cc
finds_split (Below below) ss finding is h = cc

-- an anomaly of the log itself stands in place of one of its split log
own_from : (ss : List ClientSession) (first : Finding) (a b : Reported) → anomaly_of (log_of ss) ≡ Some b → (Anomaly a ≡ first) ⊎ IsOwnOf ss first (Anomaly a) → IsOwnOf ss first (Anomaly b)
own_from ss first a b e (inl same) = record { of_split = a; own = b; was = sym same; told = refl; reported = e }
own_from ss first a b e (inr was) = record { of_split = was.of_split; own = b; was = was.was; told = refl; reported = e }

own_in : (judged ss : List ClientSession) (a b : Reported) → anomaly_of (log_of ss) ≡ Some b → FindsIn judged ss (Anomaly a) → FindsIn judged ss (Anomaly b)
own_in judged ss a b e h = record { first = h.first; finds = h.finds; told = inr (own_from ss h.first a b e h.told) }

own_at : (level : Level) (ss : List ClientSession) (a b : Reported) → is_split level ≡ true → anomaly_of (log_of ss) ≡ Some b → FindsAt level ss (Anomaly a) → FindsAt level ss (Anomaly b)
own_at Snapshot ss a b at e h = own_in (judged_at Snapshot ss) ss a b e h
own_at Prefix ss a b at e h = own_in (judged_at Prefix ss) ss a b e h
own_at Serializable ss a b at e h = cc
own_at (Below below) ss a b at e h = cc

pub not_snapshot : Serializable ≡ Snapshot → ⊥
not_snapshot e = cc

pub not_below : (below : BelowLevel) → Serializable ≡ Below below → ⊥
not_below below e = cc

-- what is found of the split log is found of the log
pub found_by_split : (m : JudgeMeans) (ss judged : List ClientSession) (f : Found) → is_split m.level ≡ true → IsLog ss → IsJudgedAt m.level ss judged → IsFound (of_serial m) judged f → IsFound m ss f
found_by_split m ss judged (found.Serial order) at log h is = order_of_judged m.level ss judged order log h is.judged
found_by_split m ss judged (found.Refuted finding) at log h is = record {
  none = none_of_split m.level ss judged at log h is.none;
  room = split_room m.level ss judged at h;
  found = finds_split m.level ss finding at (subst (λ l. Finds l finding) (split_is m.level ss judged at log h) is.found);
}
found_by_split m ss judged (found.Undecided why) at log h is = undecided why is
  where
    same : judged ≡ judged_at m.level ss
    same = split_is m.level ss judged at log h

    undecided : (why : Why) → IsUndecidedBy (of_serial m) judged why → IsUndecidedBy m ss why
    undecided (Spent closed) is = (is.0, subst (λ l. IsSearched m.deciding.budget l (Unknown closed)) same is.1)
    undecided (TooLarge which) is = subst (λ l. IsOver l which) same is
    undecided TooManyChoices is = subst (λ l. IsReduceFault l poly_fault.TooManyChoices) same is
    undecided (NoRoom why) is = absurd (not_snapshot is.0)
    undecided NotBegun is = is
    undecided NotShown is = absurd (not_below is.0 is.1)

-- ---- levels below
-- evidence that is right leaves a log whose outcomes are known no order
pub refuted_below : (below : BelowLevel) (ss : List ClientSession) (evidence : Evidence) → IsLog ss → is_refuted below ss evidence ≡ true → (HasLevelOrder below ss → ⊥) → IsRefutedLog (Below below) ss Overlooked
refuted_below below ss evidence log is none = record {
  none = λ some. none ((level_of_taken below ss log.sound).0 some);
  room = tt;
  found = (evidence, is);
}

-- ---- keys
pub keys_resolved : (ss : List ClientSession) → keys_in (resolved ss) ≡ keys_in ss
unfolding keys_in
keys_resolved ss = ap (λ (ops : List Op). first_seen [] (map key_of ops)) (ops_resolved ss)
