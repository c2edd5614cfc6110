-- How an explanation is written as text, a line for each thing that it says, and up to two for a
-- step.
use Rattle.std.specs.Prelude.{ℕ, ◌-◌, ◌*◌, List, [], ◌∷◌, ◌++◌, codes, decimal, Bool, true, false, replicate, nat_lt, ◌==◌, if◌then◌else◌}
use Rattle.tell_reasons.specs.Reasons.{named}
use Rattle.tell_reasons.specs.Edges.{why_text}
use Rattle.tell_reasons.specs.Versions.{versions_text, since_text}
use Rattle.tell_reasons.specs.declared.why.ChainOrder.{ChainOrder}
use Rattle.tell_steps.specs.declared.item.Item.{Item}
use Rattle.tell_steps.specs.declared.item.Item.TheVariants.{Step, Edge, Cycle, Decided, Leaves}
use Rattle.log_lines.specs.declared.placed.PlacedHistory.{PlacedHistory}

-- two blanks for each choice that is decided
abbrev pub indent : ℕ → List ℕ
indent depth = replicate (2 * depth) 32

-- the end of a line: `x: 25, which 2.1 wrote (line 9), comes before 20, which 1.1 wrote (line 4):`
abbrev pub versions_line : PlacedHistory → ChainOrder → List ℕ
versions_line log o = versions_text log o ++ codes ":\n"

-- by which read a walk from v ends at u, where that is not the writer of the second version itself
abbrev pub reader_text : PlacedHistory → ChainOrder → ℕ → ℕ → List ℕ
reader_text log o u v = if u == o.second then [] else since_text log o u v

-- of several leaves how many, where that is more than are told
abbrev pub item_line : PlacedHistory → Item → List ℕ
item_line log (Step number o u v) = codes "[" ++ decimal number ++ codes "] " ++ versions_line log o
    ++ reader_text log o u v
item_line log (Edge a b why) = why_text log a b why
item_line log (Cycle start edges) = codes "cycle from " ++ named log start ++ codes ":\n"
item_line log (Decided depth o) = codes "suppose " ++ versions_line log o
item_line log (Leaves count) = if nat_lt 1000 count
    then codes "proof: whichever of these versions came first, a cycle closes, " ++ decimal count
    ++ codes " in all; the first 1000 of them:\n"
    else codes "proof: whichever of these versions came first, a cycle closes:\n"

-- how deep an item stands, where so many choices are decided before it, and an edge in its place is
-- or is not of a step's walk; and how many are decided behind it, and whether an edge there is
abbrev pub depth_at : ℕ → Bool → Item → ℕ
depth_at before walks (Decided depth o) = depth - 1
depth_at before walks (Edge a b why) = if walks then 2 else before
depth_at before walks _ = before

abbrev pub behind : ℕ → Bool → Item → ℕ × Bool
behind before walks (Decided depth o) = (depth, false)
behind before walks (Step number o u v) = (before, true)
behind before walks (Edge a b why) = (before, walks)
behind before walks _ = (before, false)

-- the lines of these, where so many choices are decided before the first, and an edge in its place
-- is or is not of a step's walk
abbrev pub items_text : PlacedHistory → ℕ → Bool → List Item → List ℕ
items_text log depth walks [] = []
items_text log depth walks (i ∷ rest) = (indent (depth_at depth walks i) ++ item_line log i)
    ++ items_text log (behind depth walks i).0 (behind depth walks i).1 rest
