-- What was kept in a history of the machine.
use Rattle.std.specs.Prelude.{◌≡◌, ℕ, List, map, Option, Some, None, slice_get}
use Rattle.session_log.specs.declared.block.Block.{Block}
use Rattle.desk.specs.declared.history.Entry.{Entry}
use Rattle.desk.specs.History.{entry}
use Rattle.gather.specs.Pieces.{Piece, IsPiece}
use Rattle.gather.specs.declared.messages.GatherEvent.{GatherEvent}
use Rattle.gather.specs.declared.messages.GatherEvent.TheVariants.{Put}
use Rattle.gather.specs.declared.messages.GatherReply.{GatherReply}
use Rattle.gather.specs.declared.messages.GatherReply.TheVariants.{Kept}

-- some seat put this piece for block k, and was answered that it is kept
pub record WasKept (history : List (Entry GatherEvent GatherReply)) (k : ℕ)
    (p : Piece) : Type 0 where
  pub place : ℕ
  pub seat : ℕ
  pub here : slice_get history place ≡ Some (entry seat (Put k p) Kept)

-- what was found for each block was kept for it
abbrev pub AreKept : List (Entry GatherEvent GatherReply) → List (Option Piece) → Type 0
AreKept history found = (k : ℕ) (p : Piece) → slice_get found k ≡ Some (Some p)
    → WasKept history k p

-- what was found for each block of the log is a piece of it
abbrev pub ArePieces : List ℕ → List (Option Piece) → Type 0
ArePieces log found = (k : ℕ) (p : Piece) → slice_get found k ≡ Some (Some p) → IsPiece log k p

-- nothing was found for any block
abbrev pub nothing_found : List Block → List (Option Piece)
nothing_found blocks = map (λ block. None) blocks
