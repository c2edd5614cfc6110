-- External and internal reads, final writes, and clean logs.
use Rattle.std.specs.Prelude.{◌≡◌, ◌≢◌, ◌⊎◌, ℕ, ◌<◌, ◌≤◌, ◌==◌, if◌then◌else◌, List, [], ◌∷◌, ◌++◌, Option, None, Some}
use Rattle.std.specs.List.{Contains}
use Rattle.serializability.specs.declared.event.Event.{Event}
use Rattle.serializability.specs.declared.event.Event.TheVariants.{Read, Write}
use Rattle.serializability.specs.Log.{Log}

-- the later of two
abbrev pub later : Option ℕ → Option ℕ → Option ℕ
later earlier None = earlier
later earlier (Some w) = Some w

-- the last write of a key
abbrev pub last_write : ℕ → List Event → Option ℕ
last_write x [] = None
last_write x (Read k w ∷ ops) = last_write x ops
last_write x (Write k w ∷ ops) = later (if k == x then Some w else None) (last_write x ops)

-- what the first operation on the key reads: an external read, where it is a read
abbrev pub external_read : ℕ → List Event → Option ℕ
external_read x [] = None
external_read x (Read k w ∷ ops) = if k == x then Some w else external_read x ops
external_read x (Write k w ∷ ops) = if k == x then None else external_read x ops

-- node v's final write of x is w, where node 0 wrote each key with 0
abbrev pub IsFinal : Log → ℕ → ℕ → ℕ → Type 0
IsFinal log v x w = ((v ≡ 0) × (w ≡ 0)) ⊎ ((0 < v) × (v ≤ log.nodes)
    × (last_write x (log.ops v) ≡ Some w))

-- a read of x as w stands in node v's operations behind these
abbrev pub ReadsAfter : Log → ℕ → List Event → ℕ → ℕ → Type 0
ReadsAfter log v before x w = (0 < v) × (v ≤ log.nodes)
    × ((behind : List Event) × (log.ops v ≡ before ++ Read x w ∷ behind))

-- a write of x as w stands in node v's operations behind these
abbrev pub WritesAfter : Log → ℕ → List Event → ℕ → ℕ → Type 0
WritesAfter log v before x w = (0 < v) × (v ≤ log.nodes)
    × ((behind : List Event) × (log.ops v ≡ before ++ Write x w ∷ behind))

-- What holds of every well-formed log: keys are below their count, no write has identity 0, no two
-- writes have one identity (aborted transactions included), and the nodes of a session lie
-- together.
pub record IsNumbered (log : Log) : Type 0 where
  pub keys : (v x w : ℕ) (before : List Event) → ReadsAfter log v before x w → x < log.keys
  pub nonzero : (v x w : ℕ) (before : List Event) → WritesAfter log v before x w → 0 < w
  pub aborted_nonzero : (x w : ℕ) (ops : List Event) → Contains log.aborted ops
      → Contains ops (Write x w) → 0 < w
  pub distinct : (u v x y w : ℕ) (a b : List Event) → WritesAfter log u a x w
      → WritesAfter log v b y w → (u ≡ v) × (a ≡ b)
  pub aborted : (v x y w : ℕ) (before ops : List Event) → WritesAfter log v before x w
      → Contains log.aborted ops → Contains ops (Write y w) → ⊥
  pub together : (a b c : ℕ) → 0 < a → a ≤ b → b ≤ c → c ≤ log.nodes → log.session a ≡ log.session c
      → log.session b ≡ log.session c

-- No read is an anomaly: an internal one names the own write before it, an external one the final
-- write of another node, and two of one key in a node name one identity. No two nodes that read a
-- key from one node both write it. Of each well-formed log there hold besides: keys are below their
-- count, an identity names one write, and sessions lie together.
pub record IsClean (log : Log) : Type 0 where
  pub internal : (v x w own : ℕ) (before : List Event) → ReadsAfter log v before x w
      → last_write x before ≡ Some own → w ≡ own
  pub external : (v x w : ℕ) (before : List Event) → ReadsAfter log v before x w
      → last_write x before ≡ None → (u : ℕ) × (u ≢ v) × IsFinal log u x w
  pub same : (v x w y : ℕ) (before after : List Event) → ReadsAfter log v before x w
      → last_write x before ≡ None → ReadsAfter log v after x y → last_write x after ≡ None → w ≡ y
  pub unlost : (a b x w p q : ℕ) (before after : List Event) → ReadsAfter log a before x w
      → last_write x before ≡ None → ReadsAfter log b after x w → last_write x after ≡ None
      → last_write x (log.ops a) ≡ Some p → last_write x (log.ops b) ≡ Some q → a ≡ b
  pub keys : (v x w : ℕ) (before : List Event) → ReadsAfter log v before x w → x < log.keys
  pub apart : (u v x w : ℕ) → IsFinal log u x w → IsFinal log v x w → u ≡ v
  pub together : (a b c : ℕ) → 0 < a → a ≤ b → b ≤ c → c ≤ log.nodes → log.session a ≡ log.session c
      → log.session b ≡ log.session c
