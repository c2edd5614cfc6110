use Rattle.splitting.proofs.Prelude.{◌≡◌, ℕ, length, arith, sym, ap, ◌∙◌, subst, decimal, IsKey}
use Rattle.splitting.proofs.Decimals.{decimal_is_key}
use Rattle.splitting.proofs.names.Names.lock.Goals as goal

pub lock_key-requires-clause-name : goal.lock_key-requires-clause-name
lock_key-requires-clause-name c =
    let text : c.as_bytes.result.now ≡ decimal c.number.result = c.as_bytes.ensures.value ∙ c.format.ensures.text in
    let few = c.number.ensures.few in
    let short = c.format.ensures.short in
    let long = ap (length {A = ℕ}) c.format.ensures.text in
    subst IsKey (sym text) (decimal_is_key c.number.result (omega (arith, few)) (omega (arith, short, long)))
