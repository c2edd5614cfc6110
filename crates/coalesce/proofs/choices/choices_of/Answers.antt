use Rattle.coalesce.proofs.Prelude.{◌++◌, ◌∙◌, ap, sym, map, log_of, chain_view, among, so_far, so_far_more}
use Rattle.coalesce.proofs.Between.{of_key, among_key}
use Rattle.coalesce.proofs.choices.choices_of.Goals as goal

pub loop-key-preserved : goal.loop-key-preserved
loop-key-preserved c =
    let log = log_of c.args.chains.now in
    let x = c.loop-key.key in
    let views = map chain_view c.chains_of.result.now in
    c.in_ok-add_choices_among.ensures.choices
    ∙ ap (λ l. l ++ among views) c.loop-key.invariant
    ∙ ap (λ l. so_far (of_key log) x ++ l) (among_key log x views c.chains_of.ensures.chains)
    ∙ sym (so_far_more (of_key log) x)
