-- What a line says, as a list of words.
use Rattle.std.specs.Prelude.{ℕ, List, [], ◌∷◌, ◌++◌, decimal}
use Rattle.session_log.specs.Text.{ClientSession}
use Rattle.log_lines.specs.Rows.{Table}
use Rattle.tell_evidence.specs.declared.words.Word.{Word}
use Rattle.tell_evidence.specs.declared.words.Word.TheVariants.{Text, Name, Key, Wid, Number, AtLine, AtEnd, Version, Does, Wrote, Path}
use Rattle.tell_evidence.specs.Rows.{line_of, end_of, key_at, wid_at}
use Rattle.tell_evidence.specs.Sentences.{name_text, in_line, version_text, does_text, wrote_text, path_lines}

abbrev pub word_text : Table → List ClientSession → Word → List ℕ
word_text table ss (Text text) = text.now
word_text table ss (Name at) = name_text table ss at
word_text table ss (Key at) = key_at ss at
word_text table ss (Wid at) = decimal (wid_at ss at)
word_text table ss (Number number) = decimal number
word_text table ss (AtLine at) = in_line (line_of table at)
word_text table ss (AtEnd at) = in_line (end_of table at)
word_text table ss (Version at) = version_text table ss at
word_text table ss (Does words at) = does_text table ss words.now at
word_text table ss (Wrote at) = wrote_text table ss at
word_text table ss (Path o) = path_lines table ss o.now.write o.now.path.items

-- one behind the other
abbrev pub words_text : Table → List ClientSession → List Word → List ℕ
words_text table ss [] = []
words_text table ss (word ∷ []) = word_text table ss word
words_text table ss (word ∷ next ∷ more) = word_text table ss word
    ++ words_text table ss (next ∷ more)
