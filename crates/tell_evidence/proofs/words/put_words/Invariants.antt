use Rattle.std.proofs.Common.{◌≡◌, ◌++◌, drop, map}
use Rattle.session_log.specs.Text.{view}
use Rattle.log_lines.specs.Rows.{rows_of}
use Rattle.tell_evidence.specs.Words.{words_text}
use Rattle.tell_evidence.proofs.words.put_words.Given as goal

abbrev pub invariant-loop-word : goal.invariant-loop-word
invariant-loop-word l = l.out.items ++ words_text (rows_of l.log.places.now) (map view l.log.sessions.now) (drop l.word-index l.words) ≡ l.initial.out.items ++ words_text (rows_of l.log.places.now) (map view l.log.sessions.now) l.words
