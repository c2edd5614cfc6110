-- Keys and their numbers.
use Rattle.std.specs.Prelude.{◌≡◌, ℕ, List, Option, Some, None, if◌then◌else◌, length, slice_get}
use Rattle.std.specs.List.{list_any}
use Rattle.std.specs.Str.{bytes_eq}
use Rattle.std.specs.Ordering.{nat_cmp}
use Rattle.std.specs.Cmp.Lexicographic.{slice_cmp}
use Rattle.std.specs.BTreeMap.{get}
use Rattle.log_definitions.specs.Numbers.{number_in}
use Rattle.session_history.specs.declared.numbers.Numbers.{Numbers}

-- the number of a key, where it is one of these
abbrev pub number_among : List (List ℕ) → List ℕ → Option ℕ
number_among keys key = if list_any (bytes_eq key) keys then Some (number_in keys key) else None

-- each of these keys has its place as its number, so none stands twice
pub record KeepsPlaces (keys : List (List ℕ)) : Type 0 where
  pub own : (i : ℕ) (key : List ℕ) → slice_get keys i ≡ Some key → number_in keys key ≡ i

-- the map finds the number of each key of the list, and no other key; each mark has a number to try
pub record FindsEach (n : Numbers) : Type 0 where
  pub places : KeepsPlaces n.texts.items
  pub marks : length n.recent.items ≡ 65536
  pub found : (key : List ℕ) → get (slice_cmp nat_cmp) n.numbers key
      ≡ number_among n.texts.items key
