-- The line that tells a fault.
use Rattle.std.specs.Prelude.{◌≡◌, ℕ, List, ◌∷◌, ◌++◌, codes, decimal, Option, Some, None}
use Rattle.session_log.specs.declared.fault.LogFault.{LogFault}
use Rattle.session_log.specs.Codes.{code_of, line_of}
use Rattle.fault_words.specs.Words.{IsSaidOf}

-- the name of the log, with the line behind it where there is one
abbrev pub place_of : List ℕ → Option ℕ → List ℕ
place_of name None = name
place_of name (Some line) = name ++ 58 ∷ decimal line

-- the line of these parts
abbrev pub joined : List ℕ → List ℕ → List ℕ → List ℕ
joined place words code = place ++ codes ": " ++ words ++ codes " (" ++ code ++ codes ")"

-- such a line, with what is said of the fault, where a log may have so many bytes
abbrev pub IsRefusalLine : ℕ → List ℕ → LogFault → List ℕ → Type 0
IsRefusalLine most name f text = (words : List ℕ) × IsSaidOf most f words
    × (text ≡ joined (place_of name (line_of f)) words (code_of f))
