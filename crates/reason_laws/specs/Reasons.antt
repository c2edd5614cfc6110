-- Why one transaction stands before another in each serial order, in the words of the log. Nodes
-- are those of the sessions, and operations count from 0. The kinds are those of Adya's
-- dependencies (1999), the order of a session, and that of real time.
use Rattle.std.specs.Prelude.{◌≡◌, ◌≢◌, ℕ, ◌+◌, ◌<◌, ◌≤◌, List, [], ◌∷◌, length, take, drop, slice_get, Some}
use Rattle.std.specs.List.{AllByRecursion}
use Rattle.session_log.specs.Text.{ClientSession}
use Rattle.session_log.specs.declared.session.Op.{Op}
use Rattle.session_log.specs.declared.session.Op.TheVariants.{Read, Write}
use Rattle.log_definitions.specs.Serial.{committed_in, session_of, ops_of, begun_of, ended_of}

-- a committed or taken transaction
abbrev pub IsNode : List ClientSession → ℕ → Type 0
IsNode ss v = (0 < v) × (v ≤ length (committed_in ss))

-- this is operation i of node v
abbrev pub IsOpAt : List ClientSession → ℕ → ℕ → Op → Type 0
IsOpAt ss v i op = slice_get (ops_of ss v) i ≡ Some op

-- an operation other than a write of the key
abbrev pub IsNoWriteOf : List ℕ → Op → Type 0
IsNoWriteOf key (Read k wid) = Unit {0}
IsNoWriteOf key (Write k wid) = k ≢ key

-- operation i of node v is a read of the key that names this identity, and no own write of the key
-- stands before it
pub record ReadsAt (ss : List ClientSession) (v i : ℕ) (key : List ℕ) (wid : ℕ) : Type 0 where
  pub read : IsOpAt ss v i (Read key wid)
  pub external : AllByRecursion (IsNoWriteOf key) (take i (ops_of ss v))

-- operation i of node v is its last write of the key
pub record WritesLastAt (ss : List ClientSession) (v i : ℕ) (key : List ℕ) (wid : ℕ) : Type 0 where
  pub write : IsOpAt ss v i (Write key wid)
  pub last : AllByRecursion (IsNoWriteOf key) (drop (i + 1) (ops_of ss v))

-- ---- the kinds

-- both are of one session, and a stands before b in it
pub record AreOfSession (ss : List ClientSession) (a b : ℕ) : Type 0 where
  pub first : IsNode ss a
  pub second : IsNode ss b
  pub order : a < b
  pub session : session_of ss a ≡ session_of ss b

-- operation `read` of b names the write that is operation `written` of a
pub record IsReadBy (ss : List ClientSession) (a written b read : ℕ) : Type 0 where
  pub first : IsNode ss a
  pub second : IsNode ss b
  pub apart : a ≢ b
  pub key : List ℕ
  pub wid : ℕ
  pub writes : IsOpAt ss a written (Write key wid)
  pub reads : IsOpAt ss b read (Read key wid)

-- a and b read the same write of a key, before any own write of it, and operation `overwrites` of b
-- writes the key: so a, which does not see that, stands before b
pub record IsOverwrittenBy (ss : List ClientSession) (a read b overwrites : ℕ) : Type 0 where
  pub first : IsNode ss a
  pub second : IsNode ss b
  pub apart : a ≢ b
  pub key : List ℕ
  pub wid : ℕ
  pub next : ℕ
  pub also : ℕ
  pub reads : ReadsAt ss a read key wid
  pub reads_too : ReadsAt ss b also key wid
  pub writes : IsOpAt ss b overwrites (Write key next)

-- a transaction that reads a key, and writes it: `wid` is the identity that it leaves
pub record Link : Type 0 where
  pub node : ℕ
  pub read : ℕ
  pub write : ℕ
  pub wid : ℕ

-- behind this identity each reads the key's write of the one before, and writes the key
abbrev pub AreLinked : List ClientSession → List ℕ → ℕ → List Link → Type 0
AreLinked ss key wid [] = Unit {0}
AreLinked ss key wid (l ∷ ls) = IsNode ss l.node
    × (ReadsAt ss l.node l.read key wid × (WritesLastAt ss l.node l.write key l.wid
    × AreLinked ss key l.wid ls))

-- the identity that the last of them leaves
abbrev pub left_by : ℕ → List Link → ℕ
left_by wid [] = wid
left_by wid (l ∷ ls) = left_by l.wid ls

-- operation `read` of a, before any own write of the key, names the key's initial value or a write
-- of the chain that begins with it, and operation `begins` of b, which reads the key from nobody,
-- writes it: so b's write stands behind those of the chain
pub record IsOfInitialBefore (ss : List ClientSession) (a read b begins : ℕ) : Type 0 where
  pub first : IsNode ss a
  pub second : IsNode ss b
  pub apart : a ≢ b
  pub key : List ℕ
  pub wid : ℕ
  pub links : List Link
  pub linked : AreLinked ss key 0 links
  pub reads : ReadsAt ss a read key (left_by 0 links)
  pub writes : IsOpAt ss b begins (Write key wid)
  pub unread : (i w : ℕ) → ReadsAt ss b i key w → ⊥

-- a ended before b began
pub record EndsBefore (ss : List ClientSession) (a b : ℕ) : Type 0 where
  pub first : IsNode ss a
  pub second : IsNode ss b
  pub apart : a ≢ b
  pub end : ℕ
  pub begin : ℕ
  pub ended : ended_of ss a ≡ Some end
  pub begun : begun_of ss b ≡ Some begin
  pub earlier : end < begin
