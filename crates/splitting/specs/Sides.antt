-- What a transaction comes to without locks, as its operations are taken one by one.
use Rattle.std.specs.Prelude.{◌≡◌, ℕ, List, ◌++◌}
use Rattle.session_log.specs.declared.session.Op.{Op}
use Rattle.point_laws.specs.Snapshot.{is_in, snapshot_reads, snapshot_reads_behind, rest, rest_behind}
use Rattle.splitting.specs.Halves.{has}
use Rattle.splitting.specs.declared.bare.Sides.{Sides}

-- The operations come to what there is and what those that are left come to.
pub record AreSides (ops : List Op) (s : Sides) (left : List Op) : Type 0 where
  pub before : List (List ℕ)
  pub written : (key : List ℕ) → has s.written key ≡ is_in before key
  pub reads : s.reads.items ++ snapshot_reads_behind before left ≡ snapshot_reads ops
  pub rest : s.rest.items ++ rest_behind before left ≡ rest ops
