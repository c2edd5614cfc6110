use Rattle.census.proofs.Prelude.{◌||◌, ◌&&◌, Bool, List, ap, ◌∙◌, not, Op, writes_as, passes_over, is_committed, has_version, Writes}
use Rattle.census.proofs.Knowing.{writes_more}
use Rattle.census.proofs.writes.Writes.add.Goals as goal

pub returns : goal.returns
returns c = λ behind before t same is known.
    let old = c.args.self.now in
    let new : Writes = record { written = c.add_writes.new.versions; aborted = c.add_aborted.new.versions; passed = c.add_passed.new.versions } in
    writes_more before t old new known
    (λ k w. c.in_ok-add_writes.ensures k w ∙ ap (λ (l : List Op). has_version old.written k w || writes_as k w l) same)
    (λ k w. c.in_ok-add_aborted.ensures k w ∙ ap (λ (b : Bool). has_version old.aborted k w || (not b && writes_as k w c.args.ops.now)) is ∙ ap (λ (l : List Op). has_version old.aborted k w || (not (is_committed t) && writes_as k w l)) same)
    (λ k w. c.in_ok-add_passed.ensures behind k w ∙ ap (λ (b : Bool). has_version old.passed k w || (b && passes_over k w c.args.ops.now)) is ∙ ap (λ (l : List Op). has_version old.passed k w || (is_committed t && passes_over k w l)) same)
