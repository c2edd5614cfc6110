-- What a transaction comes to as its operations are taken one by one.
use Rattle.std.specs.Prelude.{◌≡◌, ℕ, Bool, if◌then◌else◌, List, [], ◌∷◌, ◌++◌, map}
use Rattle.std.specs.List.{flat_map}
use Rattle.std.specs.Ordering.{nat_cmp}
use Rattle.std.specs.Cmp.Lexicographic.{slice_cmp}
use Rattle.std.specs.BTreeSet.{BTreeSet, contains_by}
use Rattle.session_log.specs.Text.{Transaction}
use Rattle.session_log.specs.declared.session.Op.{Op}
use Rattle.point_laws.specs.Snapshot.{is_in, snapshot_reads, snapshot_reads_behind, rest, rest_behind}
use Rattle.point_laws.specs.Split.{Locks, locked_writes, first_writes_behind, take_lock, find_lock, split_txn, is_writer}
use Rattle.splitting.specs.Room.{AreNamed}
use Rattle.splitting.specs.declared.halves.Halves.{Halves}
use Rattle.splitting.specs.declared.names.Names.{Names}
use denote.Ref.{Bor}

-- what a transaction is split into: the reads from its snapshot, the writes that take locks, the
-- reads that find them, and the other operations
pub record Lists : Type 0 where
  pub reads : List Op
  pub takes : List Op
  pub finds : List Op
  pub rest : List Op

abbrev pub lists_of : Locks → List Op → Lists
lists_of locks ops = record {
  reads = snapshot_reads ops;
  takes = map (take_lock locks) (locked_writes locks ops);
  finds = map (find_lock locks) (locked_writes locks ops);
  rest = rest ops;
}

-- what there is, and behind it what these operations come to where these keys were written before
abbrev pub with_behind : Locks → List (List ℕ) → Lists → List Op → Lists
with_behind locks before l ops = record {
  reads = l.reads ++ snapshot_reads_behind before ops;
  takes = l.takes ++ map (take_lock locks) (first_writes_behind before ops);
  finds = l.finds ++ map (find_lock locks) (first_writes_behind before ops);
  rest = l.rest ++ rest_behind before ops;
}

abbrev pub lists_in : Halves → Lists
lists_in h = record {
  reads = h.reads.items;
  takes = h.takes.items;
  finds = h.finds.items;
  rest = h.rest.items;
}

-- whether the key is one of these
abbrev pub has : BTreeSet (Bor (List ℕ)) → List ℕ → Bool
has keys key = contains_by (λ k. slice_cmp nat_cmp key k.now) keys

-- the operations come to what there is and what those that are left come to
pub record ComesTo (names : Names) (last : ℕ) (ops : List Op) (h : Halves)
    (left : List Op) : Type 0 where
  pub before : List (List ℕ)
  pub written : (key : List ℕ) → has h.written key ≡ is_in before key
  pub lists : (locks : Locks) → AreNamed locks names last ops
      → with_behind locks before (lists_in h) left ≡ lists_of locks ops

-- the operations of transactions
abbrev pub ops_by : List Transaction → List Op
ops_by ts = flat_map (λ t. t.ops) ts

-- what stands in the split log for a transaction
abbrev pub parts : Locks → Transaction → List Transaction
parts locks t = if is_writer t then split_txn locks t else (t ∷ [])
