-- How the locks of a log are named, and where there is no room for their names.
use Rattle.std.specs.Prelude.{◌≡◌, ℕ, ◌+◌, ◌^◌, ◌==◌, true, max, if◌then◌else◌, nat_lt, List, [], ◌∷◌, ◌++◌, length, map, replicate, Bool, Option, Some, None, decimal}
use Rattle.std.specs.List.{prefix_len}
use Rattle.serializability.specs.Replay.{place_of}
use Rattle.session_log.specs.Text.{ClientSession, key_of}
use Rattle.session_log.specs.declared.session.Op.{Op}
use Rattle.session_log.specs.declared.session.Op.TheVariants.{Read, Write}
use Rattle.log_definitions.specs.Unknown.{ops_in}
use Rattle.log_definitions.specs.WellFormed.{written, keys_in}
use Rattle.log_definitions.specs.Numbers.{number_in}
use Rattle.point_laws.specs.Split.{Locks}
use Rattle.splitting.specs.declared.room.NoRoom.{NoRoom}
use Rattle.splitting.specs.declared.room.NoRoom.TheVariants.{Keys, Identities}

-- the greatest of these numbers, 0 where there is none
abbrev pub greatest : List ℕ → ℕ
greatest [] = 0
greatest (n ∷ ns) = max n (greatest ns)

-- the identity that an operation names
abbrev pub wid_of : Op → ℕ
wid_of (Read key wid) = wid
wid_of (Write key wid) = wid

-- how many underscores a key begins with
abbrev pub leading : List ℕ → ℕ
leading key = prefix_len (λ byte. byte == 95) key

-- ---- what the operations of a log have

-- the most underscores that a key begins with
abbrev pub most_leading : List Op → ℕ
most_leading ops = greatest (map (λ o. leading (key_of o)) ops)

-- with one more for each key
abbrev pub most_marks : List Op → ℕ
most_marks ops = greatest (map (λ o. leading (key_of o) + 1) ops)

-- the bytes of the longest key
abbrev pub longest : List Op → ℕ
longest ops = greatest (map (λ o. length (key_of o)) ops)

-- the greatest identity that is read or written
abbrev pub largest : List Op → ℕ
largest ops = greatest (map wid_of ops)

-- ---- the names

-- so many underscores, and a name
abbrev pub lock_key : ℕ → List ℕ → List ℕ
lock_key marks name = replicate marks 95 ++ name

-- one underscore more than any key of the log begins with
abbrev pub marks : List ClientSession → ℕ
marks ss = most_leading (ops_in ss) + 1

-- behind so many underscores some key of the log has no room
abbrev pub is_long : List ClientSession → Bool
is_long ss = nat_lt 64 (marks ss + longest (ops_in ss))

-- the name of a key: the key itself, or, where some key has no room, its number in the log, from 1
abbrev pub name_in : List ClientSession → List ℕ → List ℕ
name_in ss key = if is_long ss then decimal (number_in (keys_in ss) key + 1) else key

-- the bytes of the longest name of a key of the log
abbrev pub widest : List ClientSession → ℕ
widest ss = if is_long ss then length (decimal (length (keys_in ss))) else longest (ops_in ss)

-- The lock of a key is its name behind more underscores than any key of the log begins with. It is taken under an
-- identity above all of the log: those of the writes, in the order of the log, give the first one
-- above, the second and so on.
unfoldable pub locks_of : List ClientSession → Locks
locks_of ss = record {
  key = λ key. lock_key (marks ss) (name_in ss key);
  identity = λ v. largest (ops_in ss) + 1 + place_of (written (ops_in ss)) v;
  taken = true;
}

-- Why locks that begin with so many underscores, where the longest key has so many bytes and the
-- longest name so many, are no keys, or there are not so many identities above the largest: a key
-- has no more than 64 bytes, and an identity is less than 2^64.
abbrev pub refusal : ℕ → ℕ → ℕ → ℕ → ℕ → Option NoRoom
refusal marks longest widest largest writes =
    if nat_lt 64 (marks + widest) then Some (Keys longest marks) else
    (if nat_lt (largest + writes) (2 ^ 64) then None else Some (Identities largest writes))

unfoldable pub no_room : List ClientSession → Option NoRoom
no_room ss =
    refusal (marks ss) (longest (ops_in ss)) (widest ss) (largest (ops_in ss))
    (length (written (ops_in ss)))

-- the names have room
abbrev pub HasRoom : List ClientSession → Type 0
HasRoom ss = no_room ss ≡ None
