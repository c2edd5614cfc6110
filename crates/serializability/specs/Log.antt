-- A log by its committed transactions, with its keys numbered.
use Rattle.std.specs.Prelude.{ℕ, ◌==◌, ◌&&◌, not, Bool, List}
use Rattle.serializability.specs.declared.event.Event.{Event}

-- The committed transactions are nodes 1 to `nodes`, by session and then by place in the session;
-- node 0 is the initial transaction, which wrote every key with identity 0. `session v` is the
-- session number of node v, and `ops v` its operations; `earlier u v` says whether the moments that
-- are stated show that u ended before v began; `aborted` has the operations of each aborted
-- transaction.
pub record Log : Type 0 where
  pub nodes : ℕ
  pub keys : ℕ
  pub session : ℕ → ℕ
  pub ops : ℕ → List Event
  pub earlier : ℕ → ℕ → Bool
  pub aborted : List (List Event)

-- u ended before v, another node, began: the order of real time, as in strict serializability
-- (Papadimitriou 1979; Herlihy and Wing 1990)
abbrev pub precedes : Log → ℕ → ℕ → Bool
precedes log u v = not (u == v) && log.earlier u v
