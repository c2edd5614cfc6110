-- What is kept while the taken sessions are found.
use Rattle.std.specs.Prelude.{◌≡◌, ℕ, List, map, Option}
use Rattle.std.specs.Option.{option_map}
use Rattle.std.specs.Ordering.{nat_cmp}
use Rattle.std.specs.BTreeMap.{get}
use Rattle.std.specs.BTreeSet.{contains}
use Rattle.session_log.specs.Text.{ClientSession, view}
use Rattle.session_history.specs.declared.taken.UnknownWrite.{UnknownWrite}
use Rattle.session_history.specs.declared.taken.UnknownWrites.{UnknownWrites}
use Rattle.session_history.specs.declared.taken.Taking.{Taking}
use Rattle.session_history.specs.Worklist.{WriteView, WriteAt, last_with, has}

abbrev pub write_view : UnknownWrite → WriteView
write_view w = record { key = w.key.now; session = view w.session.now }

-- what the table has at an identity
abbrev pub found_in : UnknownWrites → ℕ → Option WriteView
found_in t wid = option_map write_view (get nat_cmp t.table wid)

-- the table has the last of these of each identity
pub record FindsLast (xs : List WriteAt) (t : UnknownWrites) : Type 0 where
  pub found : (wid : ℕ) → found_in t wid ≡ last_with wid xs

-- the sessions in the order in which they were found
abbrev pub order_of : Taking → List ClientSession
order_of t = map (λ s. view s.now) t.order.items

-- the set has their numbers
pub record IsTaking (t : Taking) : Type 0 where
  pub numbers : (n : ℕ) → contains nat_cmp t.numbers n ≡ has (order_of t) n
