-- What is told of an ending, and of a text.
use Rattle.std.proofs.Common.{◌≡◌, ℕ, Bool, true, List, Option, Result, Ok, Err, OnOk, OnErr, subst}
use Rattle.std.specs.Io.KnownBytes.{Appends}
use Rattle.cobra_calls.specs.declared.ending.Ending.{Ending}
use Rattle.cobra_calls.specs.Handed.{TellsFront}
use Rattle.cobra_calls.specs.Worlds.{IsLineTold}
use Rattle.cobra_program.specs.Texts.{IsTextTold, whole, cut}

pub told_for : (lines later : Option (List ℕ)) (is_broken : Bool) (e x : Ending) → e ≡ x → IsLineTold lines later is_broken e → IsLineTold lines later is_broken x
told_for lines later is_broken e x is told = subst (λ y. IsLineTold lines later is_broken y) is told

pub text_told : {T E : Type 0} (r : Result T E) (text : List ℕ) (lines later : Option (List ℕ)) (is_broken : Bool) → OnOk r (Appends lines later text) → OnErr r (TellsFront lines later text) → OnErr r (is_broken ≡ true) → IsTextTold text lines later is_broken
text_told (Ok x) text lines later is_broken told failed broken = whole told
text_told (Err e) text lines later is_broken told failed broken = cut failed broken
