use Rattle.write_chains.proofs.Prelude.{◌<◌, ◌∙◌, ap, arith, map, log_of, chain_view, chains_in, sessions_of}
use Rattle.write_chains.proofs.Holding.{keys_held, key_held}
use Rattle.write_chains.proofs.all.Chains.chains_of.Goals as goal

pub index-requires : goal.index-requires
index-requires c =
    let n = keys_held c.self.inside c.self.invariant in
    let same = ap (λ ss. (log_of ss).keys) c.self.view_is in
    omega (arith, n, same, c.requires.key, c.self.inside.keys.ok.0)

pub returns-clause-chains : goal.returns-clause-chains
returns-clause-chains c =
    let same = ap (λ ss. (log_of ss).keys) c.self.view_is in
    let lt : c.args.key < (log_of (sessions_of c.self.inside)).keys = omega (arith, same, c.requires.key) in
    ap (map chain_view) c.deref.ensures.value
    ∙ ap (λ k. k.others) (key_held c.self.inside c.self.invariant c.args.key c.index.result.now lt c.index.ensures)
    ∙ ap (λ ss. chains_in (log_of ss) c.args.key) c.self.view_is
