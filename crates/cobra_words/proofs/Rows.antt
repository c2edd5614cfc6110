-- What is read of one value, by the rows of the matches.
use Rattle.cobra_words.proofs.Prelude.{◌≡◌, ℕ, Bool, true, false, List, Option, None, Some, Result, Ok, Err, refl, sym, ◌∙◌, ap, codes, unwrap_or, is_some, option_and_then, ParsesBool, ParsesUnsigned, first_value, one_text, ReadsOne, Text}
use Rattle.cobra_words.proofs.Prelude.{rows_of, first_of, one_of, IsFlag, IsNumber}
use Rattle.std.specs.Option.{option_map_or}
use Rattle.clap.specs.Facts.{explicit_source}
use Rattle.clap.specs.declared.parser.matches.Found.{Found}
use Rattle.clap.specs.declared.parser.matches.MatchedArg.{MatchedArg}
use Rattle.clap.specs.declared.parser.matches.ValueSource.{ValueSource}
use Rattle.clap.proofs.WalkLemmas.{first_value-rows, one_text-rows}

pub text_rows : (f : Found) (id : Text) → first_value f id ≡ first_of id (rows_of f)
text_rows f id = first_value-rows f id

pub one_rows : (f : Found) (id : Text) → one_text f id ≡ one_of id (rows_of f)
one_rows f id = one_text-rows f id

not_both : (t : Text) → t ≡ codes "false" → t ≡ codes "true" → ⊥
not_both t e h = let c : codes "false" ≡ codes "true" = sym e ∙ h in cc

of_some : (t u : Text) → (let o : Option Text = Some t in o) ≡ Some u → t ≡ u
of_some t u e = cc

pub flag_at : (E : Type 0) (text : Option Text) (r : Option Bool) (b : Bool) → b ≡ unwrap_or r false → (text ≡ None → r ≡ None) → ((t : Text) → text ≡ Some t → ReadsOne {T = Bool} {E = E} ParsesBool t r) → IsFlag text b
flag_at E None None b is none value = record { set = λ s. cc; unset = λ s. cc }
flag_at E None (Some x) b is none value = let e = none refl in cc
flag_at E (Some t) (Some true) b is none value = record { set = λ s. ap Some (value t refl); unset = λ s. is }
flag_at E (Some t) (Some false) b is none value = record { set = λ s. cc; unset = λ s. absurd (not_both t (value t refl) (of_some t (codes "true") s)) }
flag_at E (Some t) None b is none value = record { set = λ s. cc; unset = λ s. absurd ((value t refl).1.0 (of_some t (codes "true") s)) }

pub number_at : (E : Type 0) (k : ℕ) (gives : List ℕ → Result ℕ E → Type 0) (text : Option Text) (r : Option ℕ) → ((bs : List ℕ) (x : Result ℕ E) → gives bs x → ParsesUnsigned k 10 bs x) → (text ≡ None → r ≡ None) → ((t : Text) → text ≡ Some t → ReadsOne {T = ℕ} {E = E} gives t r) → IsNumber k text r
number_at E k gives None None parses none value = tt
number_at E k gives None (Some n) parses none value = let e = none refl in cc
number_at E k gives (Some t) (Some n) parses none value = let h = parses t (Ok n) (value t refl) in (record { numeral = h.0.0; fits = h.0.1 }, h.1)
number_at E k gives (Some t) None parses none value = let v = value t refl in let h = parses t (Err v.0) v.1 in λ b. h (b.numeral, b.fits)

pub given_by : (o : Option MatchedArg) (s : ValueSource) → Some s ≡ option_and_then (λ (a : MatchedArg). a.source) o → option_map_or (λ (a : MatchedArg). explicit_source a.source) o false ≡ explicit_source (Some s)
given_by None s e = cc
given_by (Some a) s e = ap explicit_source (sym e)

pub given_in : (o : Option MatchedArg) → (let s : Option ValueSource = None in s) ≡ option_and_then (λ (a : MatchedArg). a.source) o → option_map_or (λ (a : MatchedArg). explicit_source a.source) o false ≡ is_some o
given_in None e = refl
given_in (Some a) e = ap explicit_source (sym e)
