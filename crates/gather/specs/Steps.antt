-- The steps of the machine that hands out the blocks of a log.
use Rattle.std.specs.Prelude.{ℕ, Bool, true, false, ◌&&◌, ◌==◌, if◌then◌else◌, List, map, position, slice_get, slice_set, Option, Some, None}
use Rattle.std.specs.Option.{option_or}
use Rattle.session_log.specs.Blocks.{blocks_of}
use Rattle.gather.specs.Pieces.{is_piece}
use Rattle.gather.specs.declared.messages.BlockState.{BlockState}
use Rattle.gather.specs.declared.messages.BlockState.TheVariants as mark
use Rattle.gather.specs.declared.messages.GatherEvent.{GatherEvent}
use Rattle.gather.specs.declared.messages.GatherEvent.TheVariants.{Take, Put, Release}
use Rattle.gather.specs.declared.messages.GatherReply.{GatherReply}
use Rattle.gather.specs.declared.messages.GatherReply.TheVariants.{Block, NoneLeft, Double, Kept, Stranger, Released}

-- a log, and a mark for each of its blocks
pub record State : Type 0 where
  pub log : List ℕ
  pub marks : List BlockState

abbrev pub with_marks : State → List BlockState → State
with_marks s marks = record { log = s.log; marks = marks }

-- at first each block is open
abbrev pub opening_state : List ℕ → State
opening_state log = record { log = log; marks = map (λ block. mark.Open) (blocks_of log) }

abbrev pub is_open : BlockState → Bool
is_open mark.Open = true
is_open (mark.Held holder) = false
is_open mark.Kept = false

abbrev pub is_kept : BlockState → Bool
is_kept mark.Open = false
is_kept (mark.Held holder) = false
is_kept mark.Kept = true

abbrev pub is_held_by : ℕ → BlockState → Bool
is_held_by seat mark.Open = false
is_held_by seat (mark.Held holder) = holder == seat
is_held_by seat mark.Kept = false

-- ---- Take: the block that the seat holds, else the least open one, which it holds from now on
abbrev pub handed : List BlockState → ℕ → Option ℕ
handed marks seat = option_or (position (is_held_by seat) marks) (position is_open marks)

abbrev pub hand_out : List BlockState → ℕ → Option ℕ → List BlockState
hand_out marks seat None = marks
hand_out marks seat (Some k) = slice_set marks k (mark.Held seat)

abbrev pub take_reply : Option ℕ → GatherReply
take_reply None = NoneLeft
take_reply (Some k) = Block k

-- ---- Put: kept where the seat holds the block, and what it puts is a piece of that block
abbrev pub put_reply : ℕ → Bool → Option BlockState → GatherReply
put_reply seat fits None = Stranger
put_reply seat fits (Some m) = if is_kept m then Double else
    (if is_held_by seat m && fits then Kept else Stranger)

abbrev pub marked_kept : List BlockState → ℕ → GatherReply → List BlockState
marked_kept marks k Kept = slice_set marks k mark.Kept
marked_kept marks k _ = marks

-- ---- Release: what the seat holds is open again
abbrev pub released : ℕ → BlockState → BlockState
released seat m = if is_held_by seat m then mark.Open else m

-- ---- the table
abbrev pub reply_of : State → ℕ → GatherEvent → GatherReply
reply_of s seat Take = take_reply (handed s.marks seat)
reply_of s seat (Put k p) = put_reply seat (is_piece s.log k p) (slice_get s.marks k)
reply_of s seat Release = Released

abbrev pub next_of : State → ℕ → GatherEvent → State
next_of s seat Take = with_marks s (hand_out s.marks seat (handed s.marks seat))
next_of s seat (Put k p) = with_marks s (marked_kept s.marks k
    (put_reply seat (is_piece s.log k p) (slice_get s.marks k)))
next_of s seat Release = with_marks s (map (released seat) s.marks)
