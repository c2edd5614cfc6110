-- The open choice of a rank that a word gives.
use Rattle.branching.proofs.Prelude.{◌≡◌, ℕ, ◌-◌, ◌<◌, ◌%◌, List, [], ◌∷◌, length, Option, None, sym, ap, ◌∙◌, arith, slice_get, nil_from_length, View, depth_of, IsView, open_choices, word_at, by_words}
use Rattle.branching.proofs.Opens.{length-open_from}

pub open_count : (v : View) (count depth : ℕ) → count ≡ length v.polygraph.choices → IsView v → depth ≡ depth_of v → count - depth ≡ length (open_choices v)
open_count v count depth e w d = let sided = w.sided in omega (arith, e, d, sided, length-open_from v.sides 0)

pub word_picks : (words : List ℕ) (v : View) (word n : ℕ) (o : Option ℕ) → 0 < length words → word ≡ word_at words v → n ≡ length (open_choices v) → o ≡ slice_get (open_choices v) (word % n) → o ≡ by_words words v
word_picks [] v word n o some e m a = absurd (omega arith)
word_picks (w ∷ ws) v word n o some e m a = a ∙ ap (λ k. slice_get (open_choices v) (word % k)) m ∙ ap (λ k. slice_get (open_choices v) (k % length (open_choices v))) e

pub none_picked : (words : List ℕ) (v : View) (n : ℕ) → 0 < length words → n ≡ length (open_choices v) → n ≡ 0 → None ≡ by_words words v
none_picked [] v n some m z = absurd (omega arith)
none_picked (w ∷ ws) v n some m z = sym (ap (λ l. slice_get l (word_at (w ∷ ws) v % length l)) (nil_from_length (open_choices v) (sym m ∙ z)))
