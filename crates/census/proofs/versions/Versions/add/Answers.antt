use Rattle.census.proofs.Prelude.{looked_up, has_version}
use Rattle.census.proofs.Sets.{added_at}
use Rattle.census.proofs.versions.Versions.add.Goals as goal

pub returns : goal.returns
unfolding has_version
returns c = λ k w.
    let sets = c.args.self.now.sets.items in
    let set = c.in-Some.set.now in
    let place = c.place_of-place.result in
    added_at sets place set c.add_to.new.set c.args.key.now c.args.wid
    (looked_up sets place set c.in-Some.ensures.item.0 c.in-Some.ensures.item.1)
    c.place_of-place.ensures
    c.in_ok-add_to.ensures k w
