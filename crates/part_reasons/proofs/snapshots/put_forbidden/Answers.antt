use Rattle.part_reasons.proofs.Prelude.{length, sym, ◌∙◌}
use Rattle.std.proofs.lemmas.Bool.{eqb-true}
use Rattle.part_reasons.proofs.Allowed.{nothing_left}
use Rattle.part_reasons.proofs.snapshots.put_forbidden.Goals as goal

pub returns : goal.returns
returns c =
    let empty = sym (eqb-true (length c.loop-rest.rest.now) 0 (sym c.is_empty.ensures ∙ c.loop-rest-test.false)) in
    record { put = sym (nothing_left c.loop-rest.out.items c.loop-rest.rest.now empty) ∙ c.loop-rest.invariant }
