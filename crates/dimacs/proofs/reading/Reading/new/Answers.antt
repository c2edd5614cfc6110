use Rattle.dimacs.proofs.Prelude.{refl}
use Rattle.dimacs.proofs.Items.{knows_nothing}
use Rattle.dimacs.proofs.reading.Reading.new.Goals as goal

pub returns : goal.returns
returns c =
    knows_nothing c.args.vars _ refl (c.in_ok-vec.ensures.items_if_clones_equal (λ y e. e)) (c.in_ok-vec-2.ensures.items_if_clones_equal (λ y e. e)) refl
