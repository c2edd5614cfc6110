use Rattle.write_chains.proofs.Prelude.{◌<◌, ◌+◌, ◌∙◌, ap, arith, map, log_of, group_view, sessions_of}
use Rattle.chain_laws.specs.Chains as spec
use Rattle.write_chains.proofs.Holding.{keys_held, key_held}
use Rattle.write_chains.proofs.all.Chains.readers.Goals as goal

pub index-requires : goal.index-requires
index-requires c =
    let n = keys_held c.self.inside c.self.invariant in
    let same = ap (λ ss. (log_of ss).keys) c.self.view_is in
    omega (arith, n, same, c.requires.key, c.self.inside.keys.ok.0)

pub returns : goal.returns
returns c =
    let log = log_of (sessions_of c.self.inside) in
    let keys = ap (λ ss. (log_of ss).keys) c.self.view_is in
    let nodes = ap (λ ss. (log_of ss).nodes) c.self.view_is in
    let lt : c.args.key < log.keys = omega (arith, keys, c.requires.key) in
    let held = ap (map group_view) c.deref.ensures.value ∙ ap (λ k. k.readers) (key_held c.self.inside c.self.invariant c.args.key c.index.result.now lt c.index.ensures) in
    record {
      readers = c.readers_in.ensures.readers (log.nodes + 1) (spec.readers log c.args.key) (omega (arith, nodes, c.requires.node)) held
          ∙ ap (λ ss. spec.readers (log_of ss) c.args.key c.args.node) c.self.view_is;
    }
