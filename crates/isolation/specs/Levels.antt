-- What the names of levels mean.
use Rattle.std.specs.Prelude.{ℕ, Bool, true, false, List, codes}
use Rattle.isolation.specs.declared.level.Isolation.{Isolation}
use Rattle.isolation.specs.declared.level.Isolation.TheVariants.{StrictSerializable, Serializable, StrictSnapshot, Snapshot, Prefix, Causal, ReadAtomic, MonotonicAtomicView, ReadCommitted}

-- a level that keeps the order of stated moments
abbrev pub is_strict : Isolation → Bool
is_strict StrictSerializable = true
is_strict StrictSnapshot = true
is_strict _ = false

abbrev pub level_title : Isolation → List ℕ
level_title StrictSerializable = codes "strict serializability"
level_title Serializable = codes "serializability"
level_title StrictSnapshot = codes "strict snapshot isolation"
level_title Snapshot = codes "snapshot isolation"
level_title Prefix = codes "prefix consistency"
level_title Causal = codes "causal consistency"
level_title ReadAtomic = codes "read atomic"
level_title MonotonicAtomicView = codes "monotonic atomic view"
level_title ReadCommitted = codes "read committed"

-- what a level asks for, in a sentence
abbrev pub level_asks : Isolation → List ℕ
level_asks StrictSerializable = codes "strict serializability asks for an order in which each transaction reads what was written last before it; sessions and stated moments keep their order\n"
level_asks Serializable = codes "serializability asks for an order in which each transaction reads what was written last before it; each session keeps its order\n"
level_asks StrictSnapshot = codes "strict snapshot isolation asks that each transaction reads one state between commits, and that of two writers of a key one commits before the other's snapshot; sessions and stated moments keep their order\n"
level_asks Snapshot = codes "snapshot isolation asks that each transaction reads one state between commits, and that of two writers of a key one commits before the other's snapshot; each session keeps its order\n"
level_asks Prefix = codes "prefix consistency asks that each transaction reads one state between commits; each session keeps its order\n"
level_asks Causal = codes "causal consistency asks that reads are of committed transactions, and that who sees one sees all that came before it by sessions and reads, or later versions; the order of reads in a transaction does not count\n"
level_asks ReadAtomic = codes "read atomic asks that reads are of committed transactions, and that who sees one, or follows it in a session, sees all that it wrote or later versions; the order of reads in a transaction does not count\n"
level_asks MonotonicAtomicView = codes "monotonic atomic view asks that reads are of committed transactions, and that from the read on by which a transaction sees one it sees all that this one wrote or later versions\n"
level_asks ReadCommitted = codes "read committed asks that each read sees its own transaction's last write, or the last one of a committed transaction; none comes before itself by sessions and reads\n"
