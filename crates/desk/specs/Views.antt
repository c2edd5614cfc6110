-- What contracts see of the types of a desk.
use Rattle.std.specs.Prelude.{ℕ, List, Option}
use Rattle.desk.specs.declared.history.Entry.{Entry}

-- a seat: its number, and its calls with their replies, in order
pub record SeatView (E R : Type 0) : Type 0 where
  pub number : ℕ
  pub calls : List (E × R)

-- what lies under the lock: the machine, its history, and the state with which the desk was opened
pub record GuardedView (S E R : Type 0) : Type 0 where
  pub machine : S
  pub history : List (Entry E R)
  pub opening : Option S

-- a desk without a name: the machine's opening state, the ghost names of the seats, seat 1 first,
-- and the ghost name of that state
pub record OpenedView (S : Type 0) : Type 0 where
  pub machine : S
  pub names : List ℕ
  pub desk : ℕ
