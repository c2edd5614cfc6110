use Rattle.session_log.proofs.Prelude.{◌≡◌, ◌+◌, ◌≤◌, ◌∷◌, ◌++◌, length, lines, first_fault, Start, NoSessionLine, text_of_lines, place_of, lines_of, IsLegalReading}
use Rattle.session_log.specs.declared.line.Line.TheVariants as line
use Rattle.session_log.proofs.parse.parse_lines.Given as goal

abbrev pub invariant-loop-rest : goal.invariant-loop-rest
invariant-loop-rest l =
    record {
      fault : first_fault l.fn.version l.fn.first_line Start (lines l.text) ≡ first_fault l.fn.version (l.n + 1) (place_of l.reading) (lines l.rest);
      text : l.text ≡ text_of_lines (line.Session l.number ∷ lines_of l.reading) ++ l.rest;
      legal : IsLegalReading l.fn.version l.reading;
      others : NoSessionLine (lines l.rest);
      room : l.n + length l.rest + 1 ≤ l.fn.first_line + length l.text;
    }

abbrev pub decreases-loop-rest : goal.decreases-loop-rest
decreases-loop-rest l = length l.rest
