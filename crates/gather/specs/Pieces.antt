-- Pieces of a log, as they were read.
use Rattle.std.specs.Prelude.{◌≡◌, ◌≢◌, ℕ, List, Option, Some, None, Result, Ok, Err, slice_get, Bool, true, false, ◌&&◌, ◌==◌}
use Rattle.std.specs.Option.{option_or}
use Rattle.std.specs.Str.{bytes_eq}
use Rattle.session_log.specs.Text.{ClientSession, view, session_text, IsLegal, IsHeldBy}
use Rattle.session_log.specs.Lines.{lines}
use Rattle.session_log.specs.Faults.{first_fault, grammar_fault, Start}
use Rattle.session_log.specs.Blocks.{blocks_of, block_text, size_fault}
use Rattle.session_log.specs.declared.block.Block.{Block}
use Rattle.session_log.specs.declared.session.Session.{Session}
use Rattle.session_log.specs.declared.fault.LogFault.{LogFault}
use Rattle.session_log.specs.declared.fault.LogFault.TheVariants.{Memory}
use Rattle.session_log.specs.declared.version.Version.{Version}
use Rattle.session_log.specs.declared.version.Version.TheVariants.{One, Two, Three}

-- what was read of a piece of a log: the log's version, the piece's bytes, the line of the log that
-- is its first, and the session that it holds or its first fault
pub record Piece : Type 0 where
  pub version : Version
  pub text : List ℕ
  pub line : ℕ
  pub outcome : Result ClientSession LogFault

-- an outcome, without where it lies in memory
abbrev pub view_outcome : Result Session LogFault → Result ClientSession LogFault
view_outcome (Ok s) = Ok (view s)
view_outcome (Err f) = Err f

-- what reading these bytes in this version gives: the session whose text they are and which the
-- version holds, where they have no fault, and else their first fault; want of memory is no outcome
abbrev pub IsOutcome : Version → List ℕ → ℕ → Result ClientSession LogFault → Type 0
IsOutcome v text line (Ok s) = (first_fault v line Start (lines text) ≡ None) × IsLegal s
    × IsHeldBy v s × (text ≡ session_text s)
IsOutcome v text line (Err f) = (first_fault v line Start (lines text) ≡ Some f) × (f ≢ Memory)

-- the outcome of a piece is that of its own bytes in its own version
pub record IsRead (p : Piece) : Type 0 where
  pub outcome : IsOutcome p.version p.text p.line p.outcome

-- this is the version of a block of the log, and these are its bytes and its first line
pub record IsPieceOf (log : List ℕ) (block : Block) (p : Piece) : Type 0 where
  pub version : p.version ≡ block.version
  pub text : p.text ≡ block_text log block
  pub line : p.line ≡ block.line

abbrev pub same_version : Version → Version → Bool
same_version One One = true
same_version Two Two = true
same_version Three Three = true
same_version _ _ = false

-- the same as a test
abbrev pub is_piece_of : List ℕ → Piece → Option Block → Bool
is_piece_of log p None = false
is_piece_of log p (Some block) = bytes_eq p.text
    (block_text log block) && p.line == block.line && same_version p.version block.version

-- this is the version of block k of the log, where it has one, and these are its bytes and its
-- first line
abbrev pub is_piece : List ℕ → ℕ → Piece → Bool
is_piece log k p = is_piece_of log p (slice_get (blocks_of log) k)

-- the same as a fact
pub record IsPiece (log : List ℕ) (k : ℕ) (p : Piece) : Type 0 where
  pub block : Block
  pub here : slice_get (blocks_of log) k ≡ Some block
  pub piece : IsPieceOf log block p

-- the first fault of a log's size and grammar
abbrev pub reading_fault : List ℕ → Option LogFault
reading_fault log = option_or (size_fault log) (grammar_fault log)
