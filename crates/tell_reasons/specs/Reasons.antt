-- How it is told why one node stands before another, in the log's own lines. Operations count from
-- 0.
use Rattle.std.specs.Prelude.{ℕ, ◌==◌, List, [], ◌∷◌, ◌++◌, if◌then◌else◌, codes, decimal, slice_get, unwrap_or, Option, None, Some}
use Rattle.std.specs.Option.{option_map_or}
use Rattle.session_log.specs.Text.{ClientSession, key_of}
use Rattle.session_log.specs.declared.session.Op.{Op}
use Rattle.session_log.specs.declared.session.Op.TheVariants.{Read, Write}
use Rattle.log_definitions.specs.WellFormed.{keys_in}
use Rattle.log_definitions.specs.Serial.{ops_of}
use Rattle.log_definitions.specs.Numbers.{log_of}
use Rattle.order_text.specs.Text.{name_text}
use Rattle.log_lines.specs.Placed.{place_in, op_line_in}
use Rattle.log_lines.specs.declared.placed.PlacedHistory.{PlacedHistory}
use Rattle.tell_reasons.specs.declared.phrases.Access.{Access}
use Rattle.tell_reasons.specs.declared.phrases.Access.TheVariants as access

-- a node's name, as messages have it
unfoldable pub named : PlacedHistory → ℕ → List ℕ
named log v = name_text ((log_of log.history.now).session v, place_in log v)

unfoldable pub in_line : ℕ → List ℕ
in_line k = codes " (line " ++ decimal k ++ codes ")"

-- operation i of node v
abbrev pub op_at : List ClientSession → ℕ → ℕ → Option Op
op_at ss v i = slice_get (ops_of ss v) i

abbrev pub op_in_line : PlacedHistory → ℕ → ℕ → List ℕ
op_in_line log v i = in_line (op_line_in log v i)

-- the bytes of key number x
abbrev pub key_bytes : List ClientSession → ℕ → List ℕ
key_bytes ss x = unwrap_or (slice_get (keys_in ss) x) []

abbrev pub view_access : Access → Op
view_access (access.Read key wid) = Read key.now wid
view_access (access.Write key wid) = Write key.now wid

-- an operation's key; the identity that it names; both, with a space between
unfoldable pub key_text : Option Op → List ℕ
key_text op = option_map_or key_of op []

unfoldable pub op_wid : Option Op → ℕ
op_wid None = 0
op_wid (Some (Read key wid)) = wid
op_wid (Some (Write key wid)) = wid

unfoldable pub key_and_wid : Option Op → List ℕ
key_and_wid op = key_text op ++ 32 ∷ decimal (op_wid op)

-- an operation as its line has it: `r x 7`
unfoldable pub listed_text : Option Op → List ℕ
listed_text (Some (Write key wid)) = codes "w " ++ key_and_wid (Some (Write key wid))
listed_text op = codes "r " ++ key_and_wid op

-- a key's initial value, or its version of this identity
unfoldable pub base_text : ℕ → List ℕ
base_text base = if base == 0 then codes "the initial value" else decimal base

-- node v does this, in its line
unfoldable pub does_text : PlacedHistory → ℕ → List ℕ → ℕ → List ℕ
does_text log v does i = named log v ++ does ++ key_and_wid (op_at log.history.now v i)
    ++ op_in_line log v i

abbrev pub reads_text : PlacedHistory → ℕ → ℕ → List ℕ
reads_text log v i = does_text log v (codes " reads ") i

-- node v wrote what was told: `, which 11.1 wrote (line 54)`
unfoldable pub wrote_text : PlacedHistory → ℕ → ℕ → List ℕ
wrote_text log v i = codes ", which " ++ named log v ++ codes " wrote" ++ op_in_line log v i
