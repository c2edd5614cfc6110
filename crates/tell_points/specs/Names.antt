-- What the field calls what a refutation by points shows, by what its edges are.
use Rattle.std.specs.Prelude.{ℕ, false, if◌then◌else◌, List, [], ◌∷◌, codes, fold, is_some, Option, Some}
use Rattle.session_log.specs.Text.{ClientSession}
use Rattle.tell_reasons.specs.Names.{followed, milder, cycle_name}
use Rattle.tell_reasons.specs.declared.names.{Shape.Shape, TheConstants.NO_EDGES, TheConstants.MISSED}
use Rattle.tell_reasons.specs.declared.names.TheConstants.{READ, WRITTEN, SESSION, MOMENTS}
use Rattle.point_refutations.specs.declared.refutation.Why.TheVariants as why
use Rattle.point_refutations.specs.declared.refutation.Step.TheVariants.{Shown, Forced, Later}
use Rattle.point_refutations.specs.declared.refutation.Ending.TheVariants.{Circle, Neither}
use Rattle.point_refutations.specs.declared.refutation.{Why.Why, Edge.Edge, Against.Against, Step.Step, Ending.Ending, Refutation.Refutation}
use Rattle.tell_points.specs.Short.{are_lost}

abbrev pub shape_of : Why → Shape
shape_of why.Session = SESSION
shape_of why.Moments = MOMENTS
shape_of (why.Read write read) = READ
shape_of (why.Step k) = WRITTEN
shape_of (why.Later k) = WRITTEN
shape_of (why.Missed m) = MISSED

abbrev pub shape_of_way : List Edge → Shape
shape_of_way edges = fold (λ s e. followed s (shape_of e.why)) NO_EDGES edges

-- the circle that would close, if that transaction committed first
abbrev pub supposed : Against → Shape
supposed a = followed (shape_of_way a.edges.items) (if is_some a.overwritten then MISSED else WRITTEN)

-- the circle that would close, if the two writers of a step stood the other way round
abbrev pub refuted : Step → Shape
refuted (Shown first second edges) = followed (shape_of_way edges.items) WRITTEN
refuted (Forced both against) = supposed against
refuted (Later both against) = supposed against

-- The log does not say which order two writers had: that of a step, or the one that it refutes. The
-- mildest of a circle and of these.
abbrev pub mildest_after : Shape → List Step → Shape
mildest_after c steps = fold (λ found s. milder found (refuted s)) c steps

-- of a circle of points no two neighbours miss a write
abbrev pub name_of : Shape → List ℕ
name_of s = cycle_name (record s { first = false; beside = false })

-- of one edge alone: a transaction reads what it writes later
abbrev pub circle_name : List Step → List Edge → List ℕ
circle_name steps (edge ∷ []) = codes "future read (internal)"
circle_name steps edges = name_of (mildest_after (shape_of_way edges) steps)

abbrev pub ending_name : List ClientSession → List Step → Ending → List ℕ
ending_name ss steps (Circle edges) = circle_name steps edges.items
ending_name ss steps (Neither both not_one not_other) = if are_lost ss not_one not_other
    then codes "lost update (G-single)"
    else name_of (mildest_after (milder (supposed not_one) (supposed not_other)) steps)

abbrev pub refutation_name : List ClientSession → Refutation → Option (List ℕ)
refutation_name ss r = Some (ending_name ss r.steps.items r.ending)
