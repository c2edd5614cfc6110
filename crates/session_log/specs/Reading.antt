-- A session that is being read.
use Rattle.std.specs.Prelude.{◌≡◌, ℕ, Bool, true, false, List, [], ◌∷◌, ◌++◌, map, Ok}
use Rattle.std.specs.List.{flat_map, AllByRecursion}
use Rattle.session_log.specs.Text.{Transaction, op_line, txn_lines, view_txn, IsLegalLine, IsLegalMoment, IsLegalOp, IsLegalTxn, HasNoMoments, IsKnown, IsKnownBeforeLast, text_of_lines}
use Rattle.session_log.specs.Lines.{bytes_of}
use Rattle.session_log.specs.Version.{has_unknown_line, has_moments}
use Rattle.session_log.specs.Faults.{Place, Between, Inside, Over, after, step}
use Rattle.session_log.specs.declared.line.Line.{Line}
use Rattle.session_log.specs.declared.line.Line.TheVariants as line
use Rattle.session_log.specs.declared.parse.LineState.{LineState}
use Rattle.session_log.specs.declared.parse.LineState.TheVariants as progress
use Rattle.session_log.specs.declared.parse.Reading.{Reading}
use Rattle.session_log.specs.declared.version.Version.{Version}

-- the place after its lines
abbrev pub place_at : LineState → Place
place_at progress.Between = Between
place_at (progress.Inside t) = Inside t.line t.begun
place_at progress.Over = Over

-- the same of what has been read
abbrev pub place_of : Reading → Place
place_of r = place_at r.progress

-- the lines of a transaction that is open
abbrev pub open_lines : LineState → List Line
open_lines (progress.Inside t) = line.Begin t.begun ∷ map op_line t.ops.items
open_lines _ = []

-- the lines that it stands for
abbrev pub lines_of : Reading → List Line
lines_of r = flat_map txn_lines (map view_txn r.txns.items) ++ open_lines r.progress

-- its operations are legal, and so is its moment in this version
abbrev pub IsLegalOpen : Version → LineState → Type 0
IsLegalOpen v (progress.Inside t) = AllByRecursion IsLegalOp t.ops.items × IsLegalMoment v t.begun
IsLegalOpen v _ = Unit {0}

-- the outcomes before it: the last may be unknown where the session is over, and then the version
-- has such
abbrev pub AreEnded : Version → LineState → List Transaction → Type 0
AreEnded v progress.Over ts = IsKnownBeforeLast ts × (has_unknown_line v ≡ true)
AreEnded v _ ts = AllByRecursion IsKnown ts

-- what has been read is legal in this version
pub record IsLegalReading (v : Version) (r : Reading) : Type 0 where
  pub txns : AllByRecursion IsLegalTxn (map view_txn r.txns.items)
  pub current : IsLegalOpen v r.progress
  pub ended : AreEnded v r.progress (map view_txn r.txns.items)
  pub moments : has_moments v ≡ false → AllByRecursion HasNoMoments (map view_txn r.txns.items)

-- a line that does not begin a session
abbrev pub IsBodyLine : Line → Type 0
IsBodyLine (line.Session number) = ⊥
IsBodyLine _ = Unit {0}

-- new is old with this line
pub record Adds (n : ℕ) (old : Reading) (form : Line) (new : Reading) : Type 0 where
  pub place : after n (place_of old) form ≡ Ok (place_of new)
  pub lines : lines_of new ≡ lines_of old ++ form ∷ []
  pub legal : (v : Version) → IsLegalReading v old → IsLegalLine v form → IsLegalReading v new

-- new is old with this line, which is line n
pub record Takes (v : Version) (n : ℕ) (old : Reading) (l : List ℕ × Bool)
    (new : Reading) : Type 0 where
  pub place : step v n (place_of old) l ≡ Ok (place_of new)
  pub text : text_of_lines (lines_of new) ≡ text_of_lines (lines_of old) ++ bytes_of l
  pub legal : IsLegalReading v old → IsLegalReading v new
