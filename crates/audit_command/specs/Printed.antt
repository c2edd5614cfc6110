-- What is told in free words.
use Rattle.std.specs.Prelude.{◌≡◌, ℕ, ◌||◌, nat_lt, Bool, false, List, String, string_bytes}
use Rattle.std.specs.List.{list_any, AllByRecursion}
use Rattle.std.specs.declared.alloc.Global.{Global}

-- a byte that is neither printed nor a space
abbrev pub breaks_line : ℕ → Bool
breaks_line byte = nat_lt byte 32 || nat_lt 126 byte

-- a line of which all is printed, without its line feed
abbrev pub IsLine : List ℕ → Type 0
IsLine text = list_any breaks_line text ≡ false

abbrev pub AreLines : List (String Global) → Type 0
AreLines texts = AllByRecursion (λ (text : String Global). IsLine (string_bytes text)) texts
