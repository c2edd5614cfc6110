use Rattle.cobra_words.proofs.Prelude.{subst, found_of, one_text, IsFlag}
use Rattle.std.specs.declared.str.ParseBoolError.{ParseBoolError}
use Rattle.cobra_words.proofs.Rows.{flag_at, one_rows}
use Rattle.cobra_words.proofs.values.flag_of.Goals as goal

pub returns : goal.returns
returns c =
    let f = found_of c.args.matches.now in
    record {
      flag = subst (λ text. IsFlag text c.unwrap_or.result) (one_rows f c.args.id.now)
          (flag_at ParseBoolError (one_text f c.args.id.now) c.get_one.result c.unwrap_or.result c.unwrap_or.ensures c.get_one.ensures.none c.get_one.ensures.value);
    }
