use Rattle.cobra_words.proofs.Prelude.{ℕ, List, Result, subst, ParseIntError, ParsesUnsigned, ExplainsUnsignedError, HasUnsignedDigitsIfOk, found_of, one_text, IsNumber}
use Rattle.cobra_words.proofs.Rows.{number_at, one_rows}
use Rattle.cobra_words.proofs.values.short_number_of.Goals as goal

pub returns : goal.returns
returns c =
    let f = found_of c.args.matches.now in
    let gives : List ℕ → Result ℕ ParseIntError → Type 0 = λ bs r. ParsesUnsigned 16 10 bs r × ExplainsUnsignedError 10 bs r × HasUnsignedDigitsIfOk bs r in
    record {
      number = subst (λ text. IsNumber 16 text c.get_one.result) (one_rows f c.args.id.now)
          (number_at ParseIntError 16 gives (one_text f c.args.id.now) c.get_one.result (λ bs x h. h.0) c.get_one.ensures.none c.get_one.ensures.value);
    }
