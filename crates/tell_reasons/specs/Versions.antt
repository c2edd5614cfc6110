-- Versions of a key, by their writers.
use Rattle.std.specs.Prelude.{ℕ, ◌+◌, ◌-◌, ◌==◌, ◌&&◌, not, Bool, false, if◌then◌else◌, List, [], ◌++◌, length, position, reverse, take, codes, decimal, slice_get, Option, option_and_then}
use Rattle.std.specs.Option.{option_map, option_map_or}
use Rattle.serializability.specs.Polygraph.{source}
use Rattle.serializability.specs.Events.{event_key, event_wid}
use Rattle.serializability.specs.declared.event.Event.{Event}
use Rattle.serializability.specs.declared.event.Event.TheVariants.{Read, Write}
use Rattle.session_log.specs.Text.{ClientSession}
use Rattle.log_definitions.specs.Numbers.{log_of}
use Rattle.tell_reasons.specs.Reasons.{named, key_bytes, op_at, op_wid, op_in_line, does_text, reads_text, wrote_text, base_text}
use Rattle.tell_reasons.specs.declared.why.ChainOrder.{ChainOrder}
use Rattle.log_lines.specs.declared.placed.PlacedHistory.{PlacedHistory}

-- a write of key number x
abbrev pub is_write_in : ℕ → Event → Bool
is_write_in x (Read key wid) = false
is_write_in x (Write key wid) = x == key

-- a read of key number x
abbrev pub is_read_in : ℕ → Event → Bool
is_read_in x (Read key wid) = x == key
is_read_in x (Write key wid) = false

-- a read of it that names another identity
abbrev pub is_other_in : ℕ → ℕ → Event → Bool
is_other_in x w e = is_read_in x e && not (event_wid e == w)

-- the place of the last operation that passes
unfoldable pub last_position : {X : Type 0} → (X → Bool) → List X → Option ℕ
last_position passes xs = option_map (λ back. length xs - (back + 1)) (position passes (reverse xs))

-- the place of a node's last write of key number x, which is the version that it leaves; of its
-- first read
abbrev pub left_at : List ClientSession → ℕ → ℕ → Option ℕ
left_at ss x v = last_position (is_write_in x) ((log_of ss).ops v)

abbrev pub read_at : List ClientSession → ℕ → ℕ → Option ℕ
read_at ss x v = position (is_read_in x) ((log_of ss).ops v)

-- the number of the key of operation i of node v
abbrev pub key_number : List ClientSession → ℕ → ℕ → ℕ
key_number ss v i = option_map_or event_key (slice_get ((log_of ss).ops v) i) 0

-- the node from which it reads, where it reads externally
abbrev pub source_at : List ClientSession → ℕ → ℕ → Option ℕ
source_at ss v i =
    option_and_then (λ e. source (log_of ss) v (event_key e)) (slice_get ((log_of ss).ops v) i)

-- the places of a node's last write before operation i of the same key, and of its first read of it
-- that names another identity
abbrev pub written_before : List ClientSession → ℕ → ℕ → Option ℕ
written_before ss v i =
    last_position (is_write_in (key_number ss v i)) (take i ((log_of ss).ops v))

abbrev pub other_before : List ClientSession → ℕ → ℕ → Option ℕ
other_before ss v i = position (is_other_in (key_number ss v i) (op_wid (op_at ss v i)))
    (take i ((log_of ss).ops v))

-- the identity of the version of the key that a node leaves
abbrev pub version_of : List ClientSession → ℕ → ℕ → ℕ
version_of ss x v = option_map_or (λ i. op_wid (op_at ss v i)) (left_at ss x v) 0

-- the version of the key that a node leaves: `25, which 11.1 wrote (line 54)`
unfoldable pub version_text : PlacedHistory → ℕ → ℕ → List ℕ
version_text log x v =
    option_map_or (λ i. decimal (op_wid (op_at log.history.now v i)) ++ wrote_text log v i)
    (left_at log.history.now x v) (named log v)

-- over what node v wrote, by its first read of the key: ` over 16009`
unfoldable pub over_text : List ClientSession → ℕ → ℕ → ℕ → List ℕ
over_text ss x base v =
    option_map_or (λ i. if op_wid (op_at ss v i) == base then codes " over " ++ base_text base
    else codes " over an update of " ++ base_text base) (read_at ss x v) []

-- an update of a version, where its writer is not known
abbrev pub update_of : ℕ → List ℕ
update_of base = codes ", an update of " ++ base_text base

-- who wrote what was read, and over what: `, which 4.2 wrote (line 77) over 16009`
unfoldable pub writer_text : PlacedHistory → ℕ → ℕ → ℕ → List ℕ
writer_text log x base w =
    option_map_or (λ i. wrote_text log w i ++ over_text log.history.now x base w)
    (left_at log.history.now x w) (update_of base)

-- who wrote what operation i of node v reads, where that is not the version `base` itself
unfoldable pub behind_text : PlacedHistory → ℕ → ℕ → ℕ → List ℕ
behind_text log base v i = if op_wid (op_at log.history.now v i) == base then [] else
    option_map_or (writer_text log (key_number log.history.now v i) base)
    (source_at log.history.now v i) (update_of base)

-- whose version of a key it is that node `head` leaves: ` of 3.1`
unfoldable pub of_text : PlacedHistory → ℕ → ℕ → List ℕ
of_text log x head = option_map_or (λ i. codes " of " ++ named log head)
    (left_at log.history.now x head) (codes ", the initial value")

-- whose version operation i of node v reads
unfoldable pub whose_text : PlacedHistory → ℕ → ℕ → List ℕ
whose_text log v i = option_map_or (of_text log (key_number log.history.now v i))
    (source_at log.history.now v i) []

-- a node's first read of the key, and whose version it reads, where that is the one that `head`
-- leaves; or who wrote an update of it that it reads: `7.1 reads y 3 (line 30) of 3.1`, `9.16 reads k1
-- 16013 (line 1193), which 4.2 wrote (line 77) over 16009`
unfoldable pub had_text : PlacedHistory → ℕ → ℕ → ℕ → List ℕ
had_text log x head v = option_map_or (λ i. reads_text log v i
    ++ (if op_wid (op_at log.history.now v i) == version_of log.history.now x head
    then of_text log x head else behind_text log (version_of log.history.now x head) v i))
    (read_at log.history.now x v) (named log v)

-- the version of a key that a node has, by its last write of it, or else by its first read, and how
-- that goes back to that of `head`
unfoldable pub held_text : PlacedHistory → ℕ → ℕ → ℕ → List ℕ
held_text log x head v = option_map_or (λ i. does_text log v (codes " wrote ") i
    ++ (if op_wid (op_at log.history.now v i) == version_of log.history.now x head then []
    else over_text log.history.now x (version_of log.history.now x head) v))
    (left_at log.history.now x v) (had_text log x head v)

-- which of two versions of a key comes first: `x: 25, which 11.1 wrote (line 54), comes before 20,
-- which 6.1 wrote (line 28)`
unfoldable pub versions_text : PlacedHistory → ChainOrder → List ℕ
versions_text log o = key_bytes log.history.now o.key ++ (codes ": " ++ version_text log o.key o.first)
    ++ (codes ", comes before " ++ version_text log o.key o.second)

-- node u, which comes after v, reads this by operation i: `    14.1, which comes after 11.1, reads 20
-- (line 68)`
unfoldable pub after_text : PlacedHistory → ℕ → ℕ → ℕ → List ℕ
after_text log u v i =
    codes "    " ++ (named log u ++ (codes ", which comes after " ++ (named log v
    ++ (codes ", reads " ++ (decimal (op_wid (op_at log.history.now u i)) ++ op_in_line log u i)))))

-- this is a version or an update of it: so the version comes after the one that v wrote: `, so 20 is the
-- later version:`
unfoldable pub later_text : PlacedHistory → ℕ → ℕ → ℕ → ℕ → List ℕ
later_text log version u v i = after_text log u v i ++ behind_text log version u i
    ++ (codes ", so " ++ (decimal version ++ codes " is the later version:\n"))

-- why the first of two versions of a key comes first: u reads the other one. Nothing, where u does not
-- read the key
unfoldable pub since_text : PlacedHistory → ChainOrder → ℕ → ℕ → List ℕ
since_text log o u v =
    option_map_or (later_text log (version_of log.history.now o.key o.second) u v)
    (read_at log.history.now o.key u) []
