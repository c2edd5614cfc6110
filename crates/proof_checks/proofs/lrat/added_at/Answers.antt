use Rattle.proof_checks.proofs.Prelude.{sym}
use Rattle.proof_checks.proofs.Places.{place_at, found_place, ok_value}
use Rattle.proof_checks.proofs.lrat.added_at.Goals as goal

pub returns-then-added-guess : goal.returns-then-added-guess
returns-then-added-guess c = sym (place_at c.args.added.now _ c.args.id c.requires c.if-guess-added.true c.if-added-guess.true)

pub returns : goal.returns
returns c = found_place c.args.added.now c.args.id c.binary_search.result c.ok.result c.requires c.binary_search.ensures.position (ok_value c.binary_search.result c.ok.result c.ok.ensures.value)
