-- Lists by number, and tables of nodes.
use Rattle.std.specs.Prelude.{◌≡◌, ℕ, ◌+◌, ◌<◌, ◌≤◌, List, [], ◌∷◌, length, slice_get, slice_index_or, Option, None, Some, Vec}
use Rattle.std.specs.Option.{option_map}
use Rattle.std.specs.declared.alloc.Global.{Global}

-- so many lists, which are those of a function
pub record AreLists {X : Type 0} (n : ℕ) (f : ℕ → List X)
    (lists : List (Vec X Global)) : Type 0 where
  pub count : length lists ≡ n
  pub each : (v : ℕ) → v < n → option_map (λ l. l.items) (slice_get lists v) ≡ Some (f v)

-- of nodes 0 to n the table has what a function gives
pub record IsTable (n : ℕ) (f : ℕ → Option ℕ) (table : List (Option ℕ)) : Type 0 where
  pub count : length table ≡ n + 1
  pub each : (v : ℕ) → v ≤ n → slice_index_or table v None ≡ f v

-- a list that is not empty
abbrev pub unless_empty : {X : Type 0} → List X → Option (List X)
unless_empty [] = None
unless_empty (x ∷ xs) = Some (x ∷ xs)
