-- Writers of a key beside a reader and the node that it reads from.
use Rattle.std.specs.Prelude.{ℕ, ◌==◌, ◌&&◌, not, Bool}

-- neither the source nor the reader
abbrev pub is_other : ℕ → ℕ → ℕ → Bool
is_other w r k = not (k == w) && not (k == r)
