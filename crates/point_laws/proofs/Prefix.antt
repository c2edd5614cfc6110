-- Prefix orders: snapshot orders without locks.
use Rattle.point_laws.proofs.Prelude.{◌≡◌, ◌∙◌, false, cond, List, [], ◌∷◌, ◌++◌, None, refl, sym, ap, subst, ◌↔◌, flat_map, false≢true, ClientSession, Transaction, Op, resolved, settled, taken, IsSerialOrder, resolved_is, IsLog, HasOrder}
use Rattle.point_laws.proofs.Prelude.{IsPointOrder, HasPointOrder, Locks, start_ops, end_ops, split_txn, is_writer, split_writers, PrefixWhereSnapshot, points_along}
use Rattle.point_laws.specs.Prefix.{no_locks, PrefixBySplit, PointsOfPrefix, BareSplitIsLog}
use Rattle.point_laws.proofs.Legal.{bare_split_is_log, log_settled}
use Rattle.point_laws.proofs.Fresh.{some_are_fresh}
use Rattle.point_laws.proofs.Points.{points_of_writers, snapshot_by_writers}

pub prefix_where_snapshot : PrefixWhereSnapshot
prefix_where_snapshot ss points h = record {
  once = h.once;
  begins = h.begins;
  sessions = h.sessions;
  moments = h.moments;
  writers = λ l. absurd (false≢true l);
  reads = h.reads;
}

-- ---- without locks their names are of no account
starts : (locks : Locks) → locks.taken ≡ false → (ops : List Op) → start_ops locks ops ≡ start_ops no_locks ops
starts locks e ops = rw e refl

ends : (locks : Locks) → locks.taken ≡ false → (ops : List Op) → end_ops locks ops ≡ end_ops no_locks ops
ends locks e ops = rw e refl

halves : (locks : Locks) → locks.taken ≡ false → (t : Transaction) → split_txn locks t ≡ split_txn no_locks t
halves locks e t =
    ap (λ ops. record { ops = ops; outcome = t.outcome; begun = t.begun; ended = None } ∷ record { ops = end_ops locks t.ops; outcome = t.outcome; begun = None; ended = t.ended } ∷ []) (starts locks e t.ops)
    ∙ ap (λ ops. record { ops = start_ops no_locks t.ops; outcome = t.outcome; begun = t.begun; ended = None } ∷ record { ops = ops; outcome = t.outcome; begun = None; ended = t.ended } ∷ []) (ends locks e t.ops)

parts : (locks : Locks) → locks.taken ≡ false → (ts : List Transaction) → flat_map (λ (t : Transaction). cond (is_writer t) (split_txn locks t) (t ∷ [])) ts ≡ flat_map (λ (t : Transaction). cond (is_writer t) (split_txn no_locks t) (t ∷ [])) ts
parts locks e [] = refl
parts locks e (t ∷ ts) =
    ap (λ l. cond (is_writer t) l (t ∷ []) ++ flat_map (λ (u : Transaction). cond (is_writer u) (split_txn locks u) (u ∷ [])) ts) (halves locks e t)
    ∙ ap (λ l. cond (is_writer t) (split_txn no_locks t) (t ∷ []) ++ l) (parts locks e ts)

same_split : (locks : Locks) → locks.taken ≡ false → (ss : List ClientSession) → split_writers locks ss ≡ split_writers no_locks ss
same_split locks e [] = refl
same_split locks e (s ∷ ss) =
    ap (λ ts. record { number = s.number; txns = ts } ∷ split_writers locks ss) (parts locks e s.txns)
    ∙ ap (λ l. record { number = s.number; txns = flat_map (λ (t : Transaction). cond (is_writer t) (split_txn no_locks t) (t ∷ [])) s.txns } ∷ l) (same_split locks e ss)

-- ---- the laws
pub prefix_by_split : PrefixBySplit
prefix_by_split ss sound =
    let names = some_are_fresh ss false in
    subst (λ xs. (HasPointOrder false ss ↔ HasOrder xs)) (same_split names.0 names.1 (resolved ss))
    (subst (λ b. (HasPointOrder b ss ↔ HasOrder (split_writers names.0 (resolved ss)))) names.1 (snapshot_by_writers ss names.0 sound names.2))

pub points_of_prefix : PointsOfPrefix
points_of_prefix ss sound order h =
    let names = some_are_fresh ss false in
    subst (λ b. IsPointOrder b ss (points_along ss order)) names.1
    (points_of_writers ss names.0 sound names.2 order (subst (λ xs. IsSerialOrder xs order) (sym (same_split names.0 names.1 (resolved ss))) h))

pub bare_split_log : BareSplitIsLog
bare_split_log ss legal sound =
    subst (λ xs. IsLog (split_writers no_locks xs)) (sym (resolved_is ss)) (bare_split_is_log (settled (taken ss) ss) no_locks refl (log_settled (taken ss) ss legal sound))
