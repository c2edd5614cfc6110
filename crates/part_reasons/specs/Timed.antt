-- Whether a refutation by points rests on moments.
use Rattle.std.specs.Prelude.{Bool, true, false, ◌||◌, List}
use Rattle.std.specs.List.{list_any}
use Rattle.point_refutations.specs.declared.refutation.Why.TheVariants as why
use Rattle.point_refutations.specs.declared.refutation.Step.TheVariants.{Shown, Forced, Later}
use Rattle.point_refutations.specs.declared.refutation.Ending.TheVariants.{Circle, Neither}
use Rattle.point_refutations.specs.declared.refutation.{Why.Why, Edge.Edge, Step.Step, Ending.Ending, Refutation.Refutation}

abbrev pub by_moments : Why → Bool
by_moments why.Moments = true
by_moments _ = false

abbrev pub is_way_timed : List Edge → Bool
is_way_timed edges = list_any (λ e. by_moments e.why) edges

abbrev pub is_step_timed : Step → Bool
is_step_timed (Shown first second edges) = is_way_timed edges.items
is_step_timed (Forced both against) = is_way_timed against.edges.items
is_step_timed (Later both against) = is_way_timed against.edges.items

abbrev pub is_ending_timed : Ending → Bool
is_ending_timed (Circle edges) = is_way_timed edges.items
is_ending_timed (Neither both not_one not_other) =
    is_way_timed not_one.edges.items || is_way_timed not_other.edges.items

abbrev pub are_steps_timed : List Step → Bool
are_steps_timed steps = list_any is_step_timed steps

abbrev pub is_timed : Refutation → Bool
is_timed r = are_steps_timed r.steps.items || is_ending_timed r.ending
