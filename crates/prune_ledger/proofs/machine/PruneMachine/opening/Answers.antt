use Rattle.prune_ledger.proofs.Prelude.{◌≡◌, ◌∙◌, ap, length, replicate, no_mark}
use Rattle.prune_ledger.proofs.Marks.{kept_opening}
use Rattle.prune_ledger.proofs.machine.PruneMachine.opening.Goals as goal

pub invariant_of-result : goal.invariant_of-result
invariant_of-result c =
    let n : c.len.result ≡ length c.args.choices.items = c.len.ensures ∙ c.args.choices.ok.0 in
    kept_opening c.args.known.nodes c.args.choices.items c.in_ok-marks.marks.items c.requires.few c.requires.joined (c.in_ok-marks.ensures ∙ ap (λ k. replicate k no_mark) n)
