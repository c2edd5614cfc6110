-- What the cycle of an explanation is called, by what its edges are.
use Rattle.std.specs.Prelude.{ℕ, Bool, if◌then◌else◌, List, [], ◌∷◌, is_some}
use Rattle.log_definitions.specs.Numbers.{log_of}
use Rattle.serializability.specs.Reads.{external_read}
use Rattle.session_log.specs.Text.{ClientSession}
use Rattle.reasons.specs.declared.reason.Reason.TheVariants as reason
use Rattle.tell_reasons.specs.Names.{followed, milder, cycle_name}
use Rattle.tell_reasons.specs.declared.names.Shape.{Shape}
use Rattle.tell_reasons.specs.declared.names.TheConstants.{NO_EDGES, MISSED, READ, WRITTEN, SESSION, MOMENTS}
use Rattle.tell_reasons.specs.declared.why.Why.{Why}
use Rattle.tell_reasons.specs.declared.why.Why.TheVariants as why
use Rattle.tell_steps.specs.declared.item.Item.{Item}
use Rattle.tell_steps.specs.declared.item.Item.TheVariants.{Step, Edge, Cycle}

-- ---- edges
-- node v reads key number x before it writes it, if it does
abbrev pub reads_first : List ClientSession → ℕ → ℕ → Bool
reads_first ss x v = is_some (external_read x ((log_of ss).ops v))

-- By an order of two versions of key number x, from who reads the first one, or wrote it: who reads,
-- and may write it then, misses the later one.
abbrev pub kind_by_order : List ClientSession → ℕ → ℕ → Shape
kind_by_order ss x v = if reads_first ss x v then MISSED else WRITTEN

-- an anti-dependency misses a write, and so may an order of versions
abbrev pub kind_of : List ClientSession → ℕ → Why → Shape
kind_of ss a (why.Known reason.Session) = SESSION
kind_of ss a (why.Known reason.Moments) = MOMENTS
kind_of ss a (why.Known (reason.Read i j)) = READ
kind_of ss a (why.Known (reason.Overwritten i j)) = MISSED
kind_of ss a (why.Known (reason.Initial i j)) = MISSED
kind_of ss a (why.Forced number o) = kind_by_order ss o.key a
kind_of ss a (why.Chosen o) = kind_by_order ss o.key a

-- with the edges that stand first among these
abbrev pub shape_after : List ClientSession → Shape → List Item → Shape
shape_after ss s [] = s
shape_after ss s (Edge a b w ∷ rest) = shape_after ss (followed s (kind_of ss a w)) rest
shape_after ss s (_ ∷ rest) = s

abbrev pub name_of : List ClientSession → List Item → List ℕ
name_of ss items = cycle_name (shape_after ss NO_EDGES items)

-- ---- a cycle behind steps
-- of a circle and of what stands behind this item: the cycle, or what refutes the other order of a
-- step, with the edge by that order, which closes a circle
abbrev pub milder_with : List ClientSession → Shape → Item → List Item → Shape
milder_with ss c (Step n o u v) behind =
    milder c (followed (shape_after ss NO_EDGES behind) (kind_by_order ss o.key u))
milder_with ss c (Cycle start edges) behind = milder c (shape_after ss NO_EDGES behind)
milder_with ss c _ behind = c

abbrev pub mildest_after : List ClientSession → Shape → List Item → Shape
mildest_after ss c [] = c
mildest_after ss c (i ∷ items) = mildest_after ss (milder_with ss c i items) items

-- The log does not say which order the store had: that of the steps, against which the cycle
-- stands, or one that a step refutes. The mildest of these.
abbrev pub name_behind : List ClientSession → List Item → List ℕ
name_behind ss items = cycle_name (mildest_after ss NO_EDGES items)
