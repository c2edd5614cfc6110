use Rattle.write_chains.proofs.Prelude.{slice_get-get_or}
use Rattle.write_chains.proofs.Pushes.{lists_pushed}
use Rattle.write_chains.proofs.lists.push_at.Goals as goal

pub returns : goal.returns
returns g c = record {
  pushed = λ n f h. lists_pushed n f c.args.lists.now _ c.push.new.self c.args.at c.args.item c.requires.at (slice_get-get_or c.args.lists.now c.args.at _ c.requires.at) c.in_ok-push.ensures.items h;
}
