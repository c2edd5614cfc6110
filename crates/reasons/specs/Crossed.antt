-- Whether crossed reads are told; crossed reads by the numbers of a log's nodes and keys, where a
-- version of a key is given by the node that wrote it; and what a search for them holds.
use Rattle.std.specs.Prelude.{◌≡◌, ◌≢◌, ◌⊎◌, ℕ, ◌+◌, ◌*◌, ◌<◌, ◌≤◌, ◌==◌, if◌then◌else◌, List, length, map, sum_by, Contains, Option, None, Some, option_map}
use Rattle.session_log.specs.Text.{ClientSession}
use Rattle.serializability.specs.Log.{Log}
use Rattle.serializability.specs.Polygraph.{committed, source}
use Rattle.log_definitions.specs.Numbers.{log_of}
use Rattle.session_history.specs.Tables.{sources_of, writers_in}
use Rattle.reason_laws.specs.Crossed.{AreCrossed}
use Rattle.reason_laws.specs.declared.crossing.Crossing.{Crossing}
use Rattle.reasons.specs.declared.crossed.TheConstants.{MAX_LOOKS}
use Rattle.std.specs.Ordering.{nat_cmp, ordering_then}
use Rattle.std.specs.declared.cmp.Ordering.{Ordering}
use Rattle.reasons.specs.declared.crossed.Pair.{Pair}
use Rattle.reasons.specs.declared.crossed.Shared.{Shared}
use Rattle.reasons.specs.declared.crossed.Square.{Square}

-- how often a search for them looks at what a node reads: at each two keys that it reads, once for
-- each version of the first, the initial one among them
abbrev pub looks_at : Log → ℕ → ℕ
looks_at log r = sum_by (λ read. length (sources_of log r)
    * (length (writers_in log read.0) + 1)) (sources_of log r)

abbrev pub looks : Log → ℕ
looks log = sum_by (looks_at log) (committed log)

abbrev pub AreSought : List ClientSession → Type 0
AreSought ss = looks (log_of ss) ≤ MAX_LOOKS

-- some are told exactly where the log has some and they are sought
abbrev pub IsCrossedAnswer : List ClientSession → Option Crossing → Type 0
IsCrossedAnswer ss None = AreSought ss → (c : Crossing) → AreCrossed ss c → ⊥
IsCrossedAnswer ss (Some c) = AreSought ss × AreCrossed ss c

-- ---- by numbers
-- node r reads the version u of key x and the version w of key y
pub record ReadsBoth (log : Log) (x r u y w : ℕ) : Type 0 where
  pub low : 0 < r
  pub high : r ≤ log.nodes
  pub first : source log r x ≡ Some u
  pub second : source log r y ≡ Some w

-- four nodes read, by these reads, all four pairs of two versions of a key, of which this is one,
-- and two of the second
pub record IsSquareOf (reads : ℕ → ℕ → ℕ → ℕ → Type 0) (u : ℕ) (s : Square) : Type 0 where
  pub two : ℕ
  pub apart : two ≢ u
  pub this : ℕ
  pub that : ℕ
  pub apart_too : this ≢ that
  pub one_one : reads s.one_one u s.second this
  pub one_two : reads s.one_two u s.second that
  pub two_one : reads s.two_one two s.second this
  pub two_two : reads s.two_two two s.second that

pub record IsSquare (log : Log) (s : Square) : Type 0 where
  pub one : ℕ
  pub square : IsSquareOf (ReadsBoth log s.first) one s

abbrev pub NoSquare : Log → ℕ → Type 0
NoSquare log x = (s : Square) → s.first ≡ x → IsSquare log s → ⊥

-- ---- what the readers of one key read
abbrev pub pair : ℕ → ℕ → ℕ → ℕ → Pair
pair r u y w = record { reader = r; version = u; key = y; source = w }

-- what a reader of this version reads
abbrev pub pairs_by : ℕ → ℕ → List (ℕ × ℕ) → List Pair
pairs_by r u reads = map (λ p. pair r u p.0 p.1) reads

-- what the readers of key x below this number read
pub record ArePairs (log : Log) (x below : ℕ) (pairs : List Pair) : Type 0 where
  pub sound : (p : Pair) → Contains pairs p → ReadsBoth log x p.reader p.version p.key p.source
  pub all : (r u y w : ℕ) → ReadsBoth log x r u y w → r < below → Contains pairs (pair r u y w)

abbrev pub AmongPairs : List Pair → ℕ → ℕ → ℕ → ℕ → Type 0
AmongPairs pairs r u y w = Contains pairs (pair r u y w)

abbrev pub NoSquareOf : List Pair → ℕ → Type 0
NoSquareOf pairs u = (s : Square) → IsSquareOf (AmongPairs pairs) u s → ⊥

-- ---- what a search holds
abbrev pub pair_cmp : ℕ × ℕ → ℕ × ℕ → Ordering
pair_cmp a b = ordering_then (nat_cmp a.0 b.0) (nat_cmp a.1 b.1)

abbrev pub triple_cmp : ℕ × (ℕ × ℕ) → ℕ × (ℕ × ℕ) → Ordering
triple_cmp a b = ordering_then (nat_cmp a.0 b.0) (pair_cmp a.1 b.1)

abbrev pub by_versions : Pair → (ℕ × (ℕ × ℕ)) × ℕ
by_versions p = ((p.version, (p.key, p.source)), p.reader)

-- a reader for each version of the key and each version of another that are read together
pub record AreReaders (pairs : List Pair) (readers : ℕ × (ℕ × ℕ) → Option ℕ) : Type 0 where
  pub sound : (u y w r : ℕ) → readers (u, (y, w)) ≡ Some r → Contains pairs (pair r u y w)
  pub all : (r u y w : ℕ) → Contains pairs (pair r u y w) → (q : ℕ) × (readers (u, (y, w)) ≡ Some q)

-- what the pair reads beside another version, where it is read beside u too
abbrev pub shared_by : (ℕ × (ℕ × ℕ) → Option ℕ) → ℕ → Pair → Option Shared
shared_by readers u p = if p.version == u then None else option_map (λ q.
    record { one = q; two = p.reader; source = p.source }) (readers (u, (p.key, p.source)))

-- at this place is one of this source, which was there before or is this one
pub record HasEntered (old new : ℕ × ℕ → Option Shared) (k : ℕ × ℕ) (now : Shared)
    : Type 0 where
  pub here : (s : Shared) × ((new k ≡ Some s) × (s.source ≡ now.source))
  pub cases : (q : ℕ × ℕ) → (new q ≡ old q)
      ⊎ ((q ≡ k) × ((old q ≡ None) × (new q ≡ Some now)))
