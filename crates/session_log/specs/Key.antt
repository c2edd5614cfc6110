-- What a key is.
use Rattle.std.specs.Prelude.{◌≡◌, ℕ, Bool, true, ◌&&◌, ◌||◌, nat_le, ◌==◌, List, length}
use Rattle.std.specs.List.{list_all}

-- `A-Z a-z 0-9 _ . : / -`
unfoldable pub is_key_byte : ℕ → Bool
is_key_byte b =
    (nat_le 65 b && nat_le b 90) || (nat_le 97 b && nat_le b 122) ||
    (nat_le 48 b && nat_le b 57) || b == 95 || b == 46 || b == 58 || b == 47 || b == 45

-- 1 to 64 such bytes
abbrev pub is_key : List ℕ → Bool
is_key bytes = nat_le 1 (length bytes) && nat_le (length bytes) 64 && list_all is_key_byte bytes

-- the bytes of a key
abbrev pub IsKey : List ℕ → Type 0
IsKey bytes = is_key bytes ≡ true
