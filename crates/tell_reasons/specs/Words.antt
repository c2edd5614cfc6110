-- What a line says, as a list of words.
use Rattle.std.specs.Prelude.{ℕ, List, [], ◌∷◌, ◌++◌, decimal}
use Rattle.order_text.specs.Text.{name_text}
use Rattle.log_lines.specs.declared.placed.PlacedHistory.{PlacedHistory}
use Rattle.tell_reasons.specs.Reasons.{named, in_line, op_at, op_in_line, op_wid, key_bytes, key_text, key_and_wid, listed_text, base_text, does_text, wrote_text}
use Rattle.tell_reasons.specs.declared.words.Word.{Word}
use Rattle.tell_reasons.specs.declared.words.Word.TheVariants.{Text, Number, Base, Line, Name, Node, Key, KeyOf, Operation, Listed, Identity, AtLine, Does, Wrote}

abbrev pub word_text : PlacedHistory → Word → List ℕ
word_text log (Text text) = text.now
word_text log (Number n) = decimal n
word_text log (Base base) = base_text base
word_text log (Line k) = in_line k
word_text log (Name session place) = name_text (session, place)
word_text log (Node v) = named log v
word_text log (Key x) = key_bytes log.history.now x
word_text log (KeyOf v i) = key_text (op_at log.history.now v i)
word_text log (Operation v i) = key_and_wid (op_at log.history.now v i)
word_text log (Listed v i) = listed_text (op_at log.history.now v i)
word_text log (Identity v i) = decimal (op_wid (op_at log.history.now v i))
word_text log (AtLine v i) = op_in_line log v i
word_text log (Does v does i) = does_text log v does.now i
word_text log (Wrote v i) = wrote_text log v i

-- one behind the other
abbrev pub words_text : PlacedHistory → List Word → List ℕ
words_text log [] = []
words_text log (word ∷ []) = word_text log word
words_text log (word ∷ next ∷ more) = word_text log word ++ words_text log (next ∷ more)
