-- What keys hold, each found by its mark first.
use Rattle.std.specs.Prelude.{ℕ, ◌+◌, ◌*◌, ◌^◌, ◌%◌, List, [], ◌∷◌, Option}
use Rattle.std.specs.Ordering.{nat_cmp, ordering_then}
use Rattle.std.specs.Cmp.Lexicographic.{slice_cmp}
use Rattle.std.specs.declared.cmp.Ordering.{Ordering}
use Rattle.std.specs.BTreeMap.{BTreeMap, get_by}
use Rattle.key_tables.specs.declared.mark.TheConstants.{FACTOR}
use denote.Ref.{Bor}

-- the mark of bytes that stand behind others with a mark
abbrev pub mark_behind : ℕ → List ℕ → ℕ
mark_behind mark [] = mark
mark_behind mark (b ∷ bs) = mark_behind (((mark * FACTOR) % 2 ^ 64 + b) % 2 ^ 64) bs

abbrev pub mark_of : List ℕ → ℕ
mark_of key = mark_behind 0 key

-- a key by its mark and then by its bytes
abbrev pub entry_cmp : ℕ → List ℕ → ℕ × Bor (List ℕ) → Ordering
entry_cmp mark key entry = ordering_then (nat_cmp mark entry.0) (slice_cmp nat_cmp key entry.1.now)

-- what a key holds
abbrev pub held_in : BTreeMap (ℕ × Bor (List ℕ)) ℕ → List ℕ → Option ℕ
held_in entries key = get_by (entry_cmp (mark_of key) key) entries
