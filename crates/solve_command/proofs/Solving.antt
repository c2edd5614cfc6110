-- What is told of a solution.
use Rattle.std.proofs.Common.{◌≡◌, ℕ, Bool, List}
use Rattle.session_log.specs.Text.{ClientSession}
use Rattle.cobra_answers.specs.declared.reply.Reply.{Reply}
use Rattle.solving.specs.declared.solution.Solution.{Solution}
use Rattle.solving.specs.declared.solution.Solution.TheVariants.{Serial, Refuted, Spent}
use Rattle.solving.specs.Solved.{Solves}
use Rattle.solve_command.specs.Solved.{IsSolution, IsSerialWhereTold, status_of, solution_text}

pub serial_where_told : (plain : Bool) (ss : List ClientSession) (s : Solution) → Solves plain ss s → IsSerialWhereTold ss s
serial_where_told plain ss (Serial order) h = h
serial_where_told plain ss Refuted h = tt
serial_where_told plain ss Spent h = tt

pub solution_so : (plain : Bool) (budget : ℕ) (ss : List ClientSession) (s : Solution) (r : Reply) → Solves plain ss s → r.status ≡ status_of s → r.text.items ≡ solution_text budget ss s → IsSolution plain budget ss r.status r.text.items
solution_so plain budget ss s r h ends told = record { solution = s; solves = h; ends = ends; told = told }
