-- Words, one behind the other.
use Rattle.tell_reasons.proofs.Prelude.{◌≡◌, List, [], ◌∷◌, ◌++◌, refl, sym, append-nil, PlacedHistory, word_text, words_text}
use Rattle.tell_reasons.specs.declared.words.Word.{Word}

pub words_next : (log : PlacedHistory) (word : Word) (words : List Word) → words_text log (word ∷ words) ≡ word_text log word ++ words_text log words
words_next log word [] = sym (append-nil (word_text log word))
words_next log word (next ∷ more) = refl
