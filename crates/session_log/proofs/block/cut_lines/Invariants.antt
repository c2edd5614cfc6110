use Rattle.session_log.proofs.Prelude.{◌≡◌, ◌+◌, ◌≤◌, ◌++◌, length, count_by, lines, is_session_line, blocks_of}
use Rattle.session_log.proofs.Cutting.{blocks_from, AreWithin}
use Rattle.session_log.proofs.block.cut_lines.Given as goal

abbrev pub invariant-loop-rest : goal.invariant-loop-rest
invariant-loop-rest l =
    record {
      done : l.found.items ++ blocks_from l.fn.version l.start l.line l.at l.n (lines l.rest) ≡ blocks_of l.fn.log;
      counted : l.sessions + count_by is_session_line (lines l.rest) ≡ count_by is_session_line (lines l.fn.log);
      few : AreWithin l.fn.most l.sessions;
      place : l.at + length l.rest ≡ length l.fn.log;
      room : l.n ≤ l.at + 1;
      each : l.sessions ≤ l.n;
    }

abbrev pub decreases-loop-rest : goal.decreases-loop-rest
decreases-loop-rest l = length l.rest
