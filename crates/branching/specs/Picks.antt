-- What the strategies pick.
use Rattle.std.specs.Prelude.{ℕ, ◌+◌, ◌%◌, ◌==◌, nat_lt, List, [], ◌∷◌, Bool, Option, None, Some, if◌then◌else◌, length, slice_get, slice_index}
use Rattle.std.specs.Option.{option_map_or}
use Rattle.serializability.specs.Polygraph.{Choice}
use Rattle.pruning_laws.specs.declared.side.Side.{Side}
use Rattle.pruning_laws.specs.declared.side.Side.TheVariants.{One, Two}
use Rattle.branching.specs.View.{View, depth_of}

-- the numbers of the open choices, ascending, where these are numbered from k
abbrev pub open_from : ℕ → List (Option Side) → List ℕ
open_from k [] = []
open_from k (None ∷ sides) = k ∷ open_from (k + 1) sides
open_from k (Some side ∷ sides) = open_from (k + 1) sides

abbrev pub open_choices : View → List ℕ
open_choices v = open_from 0 v.sides

-- the open choice of least number
abbrev pub first_open : View → Option ℕ
first_open v = slice_get (open_choices v) 0

-- how many edges both sides of a choice have together
abbrev pub size_of : Choice → ℕ
size_of h = length h.one + length h.two

-- the same of a choice by its number
abbrev pub edge_count : List Choice → ℕ → ℕ
edge_count choices c = option_map_or size_of (slice_get choices c) 0

-- whether a choice has more edges than another, and whether it has fewer
abbrev pub has_more : List Choice → ℕ → ℕ → Bool
has_more choices d c = nat_lt (edge_count choices c) (edge_count choices d)

abbrev pub has_fewer : List Choice → ℕ → ℕ → Bool
has_fewer choices d c = nat_lt (edge_count choices d) (edge_count choices c)

-- a later one in place of this, where it is better
abbrev pub or_better : (ℕ → ℕ → Bool) → ℕ → Option ℕ → Option ℕ
or_better better c None = Some c
or_better better c (Some d) = if better d c then Some d else Some c

-- of these, the first one that no other is better than
abbrev pub first_best : (ℕ → ℕ → Bool) → List ℕ → Option ℕ
first_best better [] = None
first_best better (c ∷ cs) = or_better better c (first_best better cs)

-- the open choice with the most edges on both sides together, and of such the least number
abbrev pub most_edges : View → Option ℕ
most_edges v = first_best (has_more v.polygraph.choices) (open_choices v)

-- the one with the fewest, and of such the least number
abbrev pub least_edges : View → Option ℕ
least_edges v = first_best (has_fewer v.polygraph.choices) (open_choices v)

-- the word at the depth, modulo the number of words
abbrev pub word_at : List ℕ → View → ℕ
word_at words v = slice_index words (depth_of v % length words)

-- the open choice whose rank is the word modulo the number of open ones; without words the first
abbrev pub by_words : List ℕ → View → Option ℕ
by_words [] v = first_open v
by_words (w ∷ ws) v = slice_get (open_choices v) (word_at (w ∷ ws) v % length (open_choices v))

-- side one first where the word is even, and where there are no words
abbrev pub side_by_words : List ℕ → View → Side
side_by_words [] v = One
side_by_words (w ∷ ws) v = if word_at (w ∷ ws) v % 2 == 0 then One else Two

abbrev pub is_even_depth : View → Bool
is_even_depth v = depth_of v % 2 == 0
