use Rattle.cube_laws.proofs.Prelude.{replay, opening_state, next_of}
use Rattle.cube_laws.proofs.Grown.{grown_opening}
use Rattle.cube_laws.proofs.Alive.{alive_opening, alive_after, none_alive}
use Rattle.cube_laws.proofs.laws.no_order_fits_where_every_cube_is_refuted.Goals as goal

pub returns : goal.returns
returns c = λ p budget history legal exhausted order fits.
    none_alive p order (replay next_of (opening_state p budget) history) exhausted
    (alive_after p budget order fits (opening_state p budget) (grown_opening p budget) (alive_opening p order) history)
