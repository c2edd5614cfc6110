use Rattle.cobra_calls.proofs.Prelude.{◌≡◌, rules, ◌∙◌}
use Rattle.cobra_calls.proofs.Apart.{stands_first, stands_second}
use Rattle.cobra_calls.proofs.audits.is_of_part.Goals as goal

pub returns-then-eq-clause-same : goal.returns-then-eq-clause-same
returns-then-eq-clause-same c t =
    let same : c.args.name.now ≡ c.in-Some.part.now = search rules in
    rw c.in-Some.is (stands_first c.args.name.now c.in-Some.part.now _ same)

pub returns-else-eq-clause-same : goal.returns-else-eq-clause-same
returns-else-eq-clause-same c t =
    let same : c.args.name.now ≡ c.args.map.now = search rules in
    let map = rw c.in-Some.is at c.requires.map in
    rw c.in-Some.is (stands_second c.args.name.now c.in-Some.part.now _ (same ∙ map))
