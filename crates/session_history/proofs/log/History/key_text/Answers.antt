use Rattle.session_history.proofs.Prelude.{◌∙◌, ap, arith, sym, slice_get, keys_in, log_of}
use Rattle.session_history.proofs.Kept.{keys_kept, key_kept}
use Rattle.session_history.proofs.log.History.key_text.Goals as goal

pub index-requires : goal.index-requires
index-requires c =
    let n = keys_kept c.self.inside c.self.invariant in
    let same = ap (λ ss. (log_of ss).keys) c.self.view_is in
    omega (arith, n, same, c.requires)

pub returns : goal.returns
returns c = record {
  text =
      ap (λ ss. slice_get (keys_in ss) c.args.key) (sym c.self.view_is)
      ∙ key_kept c.self.inside c.self.invariant c.args.key c.index.result.now c.index.ensures;
}
