-- The versions of the log's text. A log tells its version by its first bytes, and version 1 has
-- none of its own.
use Rattle.std.specs.Prelude.{ℕ, Bool, true, false, if◌then◌else◌, nat_eq, List, [], ◌∷◌, ◌++◌, length, drop, codes}
use Rattle.std.specs.List.{starts_with}
use Rattle.session_log.specs.declared.version.Version.{Version}
use Rattle.session_log.specs.declared.version.Version.TheVariants.{One, Two, Three}

-- the bytes that a log of this version begins with
abbrev pub header_text : Version → List ℕ
header_text One = []
header_text Two = codes "log 2" ++ 10 ∷ []
header_text Three = codes "log 3" ++ 10 ∷ []

-- the line behind them
abbrev pub first_line : Version → ℕ
first_line One = 1
first_line Two = 2
first_line Three = 2

-- it has the line `unknown`
abbrev pub has_unknown_line : Version → Bool
has_unknown_line One = false
has_unknown_line Two = true
has_unknown_line Three = true

-- its lines `begin` and `commit` may state a moment
abbrev pub has_moments : Version → Bool
has_moments One = false
has_moments Two = false
has_moments Three = true

-- its place among the versions, from 1
abbrev pub version_number : Version → ℕ
version_number One = 1
version_number Two = 2
version_number Three = 3

-- the version of a log
unfoldable pub version_of : List ℕ → Version
version_of text =
    if starts_with nat_eq text (header_text Three) then Three else
    (if starts_with nat_eq text (header_text Two) then Two else One)

-- what stands behind its header
unfoldable pub body_of : List ℕ → List ℕ
body_of text = drop (length (header_text (version_of text))) text
