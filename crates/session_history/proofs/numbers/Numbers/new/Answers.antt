use Rattle.session_history.proofs.Prelude.{arith}
use Rattle.session_history.proofs.Seen.{no_places, none_found}
use Rattle.session_history.proofs.numbers.Numbers.new.Goals as goal

pub returns-clause-finds : goal.returns-clause-finds
returns-clause-finds c = record {
  places = no_places c.new.result.items c.new.ensures.items;
  marks = (let len = c.in_ok-vec.ensures.len in omega (arith, len, c.in_ok-vec.field-0.ok.0));
  found = none_found c.new-2.result c.new.result.items c.new-2.ensures.empty c.new.ensures.items;
}
