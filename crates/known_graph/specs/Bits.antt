-- Sets of numbers as bits, in words of 64.
use Rattle.std.specs.Prelude.{ℕ, ◌+◌, ◌/◌, ◌%◌, ◌==◌, Bool, List, slice_index}
use Rattle.std.specs.Int.{bit_at}

-- whether the bit of this number is set; past the last word there is none
unfoldable pub bit_of : List ℕ → ℕ → Bool
bit_of words k = bit_at (slice_index words (k / 64)) (k % 64) == 1

-- how many words hold a bit for each of nodes 0 to n
unfoldable pub row_len : ℕ → ℕ
row_len n = n / 64 + 1
