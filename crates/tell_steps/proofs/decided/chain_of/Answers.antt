use Rattle.tell_steps.proofs.Prelude.{◌≡◌, ◌≢◌, ◌<◌, List, subst, ◌∙◌, ap, arith, rules, All, Contains, take_all, ClientSession, heads, chain_from, log_of}
use Rattle.tell_steps.proofs.ChainSides.{chain_there, no_chain}
use Rattle.tell_steps.proofs.decided.chain_of.Goals as goal

pub returns-then-eq : goal.returns-then-eq
returns-then-eq c =
    let log = log_of c.args.chains.now in
    let x = c.args.key in
    let chain = c.chain-item.result in
    let same : chain.head ≡ c.args.head = search rules in
    let key : x < log.keys = subst (λ (s : List ClientSession). x < (log_of s).keys) c.history.ensures.history (omega (arith, c.if-keys-key.false, c.keys.ensures.count)) in
    let there = chain_there log x c.chains_of-others.result.now c.loop-chain.chain-index chain c.chains_of-others.ensures.chains c.loop-chain-test.true c.chain-item.is in
    record { chain = (key, subst (Contains (heads log x)) same there.0, there.1 ∙ ap (chain_from log x) same) }

pub returns : goal.returns
returns c =
    let log = log_of c.args.chains.now in
    let others = c.chains_of-others.result.now in
    record { chain = λ lt. no_chain log c.args.key c.args.head others c.chains_of-others.ensures.chains (subst (All (λ d. d.head ≢ c.args.head)) (take_all c.loop-chain.chain-index others (omega (arith, c.loop-chain-test.false))) c.loop-chain.invariant) }
