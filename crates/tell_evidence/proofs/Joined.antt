-- Words, one behind the other.
use Rattle.std.proofs.Common.{◌≡◌, List, [], ◌∷◌, ◌++◌, refl, sym}
use Rattle.std.proofs.lemmas.List.{append-nil}
use Rattle.session_log.specs.Text.{ClientSession}
use Rattle.log_lines.specs.Rows.{Table}
use Rattle.tell_evidence.specs.declared.words.Word.{Word}
use Rattle.tell_evidence.specs.Words.{word_text, words_text}

pub words_next : (table : Table) (ss : List ClientSession) (word : Word) (words : List Word)
    → words_text table ss (word ∷ words) ≡ word_text table ss word ++ words_text table ss words
words_next table ss word [] = sym (append-nil (word_text table ss word))
words_next table ss word (next ∷ more) = refl
