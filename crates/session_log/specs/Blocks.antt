-- The blocks of a log: each begins at the first line behind the header, or at a line that begins
-- with the bytes `session`.
use Rattle.std.specs.Prelude.{ℕ, ◌+◌, Bool, true, if◌then◌else◌, nat_lt, List, [], ◌∷◌, length, count_by, slice_range, Option, Some, None}
use Rattle.std.specs.List.{flat_map}
use Rattle.session_log.specs.Lines.{lines, bytes_of}
use Rattle.session_log.specs.Version.{header_text, first_line, version_of, body_of}
use Rattle.session_log.specs.Faults.{is_session_line, first_fault, Start}
use Rattle.session_log.specs.declared.block.Block.{Block}
use Rattle.session_log.specs.declared.fault.Limit.TheVariants as limit
use Rattle.session_log.specs.declared.fault.LogFault.{LogFault}
use Rattle.session_log.specs.declared.fault.LogFault.TheVariants.{OverLimit}
use Rattle.session_log.specs.declared.version.Version.{Version}
use Rattle.session_log.specs.declared.limits.TheConstants.{MAX_LOG_BYTES, MAX_SESSIONS}

-- a block ends before these lines
abbrev pub ends_block : List (List ℕ × Bool) → Bool
ends_block [] = true
ends_block (l ∷ ls) = is_session_line l

-- a line more at the head of the first block
abbrev pub onto_block : List ℕ × Bool → List (List (List ℕ × Bool)) → List (List (List ℕ × Bool))
onto_block l [] = (l ∷ []) ∷ []
onto_block l (b ∷ bs) = (l ∷ b) ∷ bs

-- the lines, block by block
abbrev pub blocks : List (List ℕ × Bool) → List (List (List ℕ × Bool))
blocks [] = []
blocks (l ∷ ls) = if ends_block ls then (l ∷ []) ∷ blocks ls else onto_block l (blocks ls)

-- the bytes of lines
abbrev pub text_of : List (List ℕ × Bool) → List ℕ
text_of ls = flat_map bytes_of ls

-- where each block lies, the first of which begins at this byte, with this line
abbrev pub located : Version → ℕ → ℕ → List (List (List ℕ × Bool)) → List Block
located v at n [] = []
located v at n (b ∷ bs) = record {
  version = v;
  start = at;
  stop = at + length
      (text_of b);
  line = n;
} ∷ located v (at + length (text_of b)) (n + length b) bs

-- the blocks of a log
unfoldable pub blocks_of : List ℕ → List Block
blocks_of text =
    let v = version_of text in
    located v (length (header_text v)) (first_line v) (blocks (lines (body_of text)))

-- the bytes of a block
abbrev pub block_text : List ℕ → Block → List ℕ
block_text text b = slice_range text b.start b.stop

-- the first fault of a block
abbrev pub block_fault : List ℕ → Block → Option LogFault
block_fault text b = first_fault b.version b.line Start (lines (block_text text b))

-- the limit on the lines that begin with `session`, where there is one
abbrev pub session_limit_fault : Option ℕ → List ℕ → Option LogFault
session_limit_fault None text = None
session_limit_fault (Some most) text = if nat_lt most
    (count_by is_session_line (lines text)) then Some (OverLimit limit.Sessions) else None

-- the limits on the whole text: the first is on its bytes
abbrev pub fault_of_size : ℕ → Option ℕ → List ℕ → Option LogFault
fault_of_size bytes sessions text = if nat_lt bytes (length text) then Some
    (OverLimit limit.LogBytes) else session_limit_fault sessions text

-- the limits of a log
unfoldable pub size_fault : List ℕ → Option LogFault
size_fault text = fault_of_size MAX_LOG_BYTES (Some MAX_SESSIONS) text

-- the first of these that is a fault
abbrev pub first_of : List (Option LogFault) → Option LogFault
first_of [] = None
first_of (None ∷ rest) = first_of rest
first_of (Some f ∷ rest) = Some f
