-- The rounds of pruning, and what they enter.
use Rattle.std.specs.Prelude.{ℕ, List, [], ◌∷◌, ◌++◌, Some, map}
use Rattle.serializability.specs.Polygraph.{Polygraph}
use Rattle.desk.specs.declared.history.Entry.{Entry}
use Rattle.desk.specs.History.{IsReached}
use Rattle.prune_ledger.specs.Posted.{Posted}
use Rattle.prune_ledger.specs.State.{State}
use Rattle.prune_ledger.specs.Opening.{opening_state, reopened_state}
use Rattle.prune_ledger.specs.Steps.{next_of, reply_of}
use Rattle.prune_ledger.specs.Runs.{posts_of}
use Rattle.prune_ledger.specs.declared.messages.PruneEvent.{PruneEvent}
use Rattle.prune_ledger.specs.declared.messages.PruneReply.{PruneReply}
use Rattle.prune_ledger.specs.declared.ledger.LedgerEntry.{LedgerEntry}

abbrev pub entry_of : ℕ → Posted → LedgerEntry
entry_of seat post = record { seat = seat; post = post }

-- the post of a seat's step, where it was entered
abbrev pub entered_by : ℕ → PruneEvent → PruneReply → List LedgerEntry
entered_by seat event reply = map (entry_of seat) (posts_of event reply)

-- the posts that a history entered, each with the seat that sent it, in order
abbrev pub entered_in : List (Entry PruneEvent PruneReply) → List LedgerEntry
entered_in [] = []
entered_in (x ∷ xs) = entered_by x.seat x.event x.reply ++ entered_in xs

-- Rounds, each a legal history of the machine: the first one begins in the opening state of the
-- polygraph, each further one where the one before ended, with nothing handed out. They entered
-- these entries, and led to this state.
pub data AreRounds (p : Polygraph) : List LedgerEntry → State → Type 0 where
  none : AreRounds p [] (opening_state p.choices (record { nodes = p.nodes; edges = p.known }))
  round : (entries : List LedgerEntry) (s now : State)
      (history : List (Entry PruneEvent PruneReply)) → AreRounds p entries s →
      IsReached next_of reply_of (Some (reopened_state s)) history now
      → AreRounds p (entries ++ entered_in history) now

-- these are the entries of some rounds
pub record IsOfRounds (p : Polygraph) (entries : List LedgerEntry) : Type 0 where
  pub last : State
  pub rounds : AreRounds p entries last
