-- How a refutation by points is told: what closes, in a sentence and in lines, its name, and the steps
-- that it rests on.
use Rattle.std.specs.Prelude.{ℕ, ◌==◌, if◌then◌else◌, List, [], ◌++◌, length, codes, Option, None, Some}
use Rattle.session_log.specs.Text.{ClientSession}
use Rattle.log_lines.specs.Rows.{Table}
use Rattle.point_refutations.specs.declared.refutation.{Step.Step, Ending.Ending, Refutation.Refutation}
use Rattle.point_refutations.specs.declared.refutation.Ending.TheVariants.{Circle, Neither}
use Rattle.tell_points.specs.Lines.{way_text, neither_text, steps_text}
use Rattle.tell_points.specs.{Short.short_text, Names.refutation_name}

abbrev pub ending_text : Table → List ClientSession → Ending → List ℕ
ending_text table ss (Circle edges) = way_text table ss [] edges.items
ending_text table ss (Neither both not_one not_other) = neither_text table ss both not_one not_other

abbrev pub name_line : Option (List ℕ) → List ℕ
name_line None = []
name_line (Some name) = codes "known as: " ++ name ++ codes "\n"

unfoldable pub steps_line : List ℕ
steps_line = codes "these orders of snapshots and commits are forced:\n"

abbrev pub all_steps_text : Table → List ClientSession → List Step → List ℕ
all_steps_text table ss steps = if length steps == 0 then [] else steps_line
    ++ steps_text table ss 0 steps

abbrev pub refutation_text : Table → List ClientSession → Refutation → List ℕ
refutation_text table ss r = short_text table ss r.steps.items r.ending
    ++ ending_text table ss r.ending ++ name_line (refutation_name ss r)
    ++ all_steps_text table ss r.steps.items
