-- What is kept of transactions, one after the other.
use Rattle.std.specs.Prelude.{◌≡◌, ℕ, ◌+◌, if◌then◌else◌, List, [], ◌∷◌, ◌++◌, length, map, Option, None}
use Rattle.std.specs.List.{flat_map}
use Rattle.std.specs.BTreeSet.{contains}
use Rattle.std.specs.Ordering.{nat_cmp}
use Rattle.session_log.specs.Text.{ClientSession, Transaction, key_of}
use Rattle.session_log.specs.declared.line.Line.{Line}
use Rattle.serializability.specs.declared.event.Event.{Event}
use Rattle.log_definitions.specs.Unknown.{is_committed, taken, resolved}
use Rattle.log_definitions.specs.WellFormed.{first_seen, writes_from}
use Rattle.log_definitions.specs.Numbers.{events_of}
use Rattle.session_history.specs.declared.nodes.Node.{Node}
use Rattle.session_history.specs.declared.nodes.Transactions.{Transactions}
use Rattle.session_history.specs.declared.nodes.Accepted.{Accepted}
use Rattle.session_history.specs.Written.{HasSeen, HasWrites}

-- a transaction, with the number of its session and its place there
abbrev pub Placed : Type 0
Placed = ℕ × ℕ × Transaction

-- a session's transactions, of which the first has this place
abbrev pub placed_from : ℕ → ℕ → List Transaction → List Placed
placed_from session n [] = []
placed_from session n (t ∷ ts) = (session, n, t) ∷ placed_from session (n + 1) ts

-- those of all sessions
abbrev pub placed_in : List ClientSession → List Placed
placed_in ss = flat_map (λ s. placed_from s.number 1 s.txns) ss

-- a node, without where it lies in memory
pub record NumberedNode : Type 0 where
  pub session : ℕ
  pub place : ℕ
  pub events : List Event
  pub begun : Option ℕ
  pub ended : Option ℕ

abbrev pub node_view : Node → NumberedNode
node_view node = record {
  session = node.session;
  place = node.place;
  events = node.events.items;
  begun = node.begun;
  ended = node.ended;
}

-- the nodes of these transactions, where the keys have these numbers
abbrev pub nodes_among : List (List ℕ) → List Placed → List NumberedNode
nodes_among keys [] = []
nodes_among keys (t ∷ ts) =
    if is_committed t.2 then
    record {
      session = t.0;
      place = t.1;
      events = events_of keys t.2.ops;
      begun = t.2.begun;
      ended
          = t.2.ended;
    } ∷ nodes_among keys ts
    else nodes_among keys ts

-- each transaction's operations with its node, behind so many nodes, or with 0 where it counts as
-- aborted
abbrev pub numbered_from : ℕ → List (List ℕ) → List Placed → List (ℕ × List Event)
numbered_from n keys [] = []
numbered_from n keys (t ∷ ts) =
    if is_committed t.2 then (n + 1, events_of keys t.2.ops) ∷ numbered_from (n + 1) keys ts
    else (0, events_of keys t.2.ops) ∷ numbered_from n keys ts

abbrev pub keys_among : List Placed → List (List ℕ)
keys_among ts = map key_of (flat_map (λ t. t.2.ops) ts)

-- new is old with these transactions, which stand in these lines; whatever keys come later, the
-- operations keep their numbers
pub record Takes (old new : Transactions) (lines : List Line) (ts : List Placed) : Type 0 where
  pub keys : new.numbers.texts.items ≡ first_seen old.numbers.texts.items (keys_among ts)
  pub nodes : (more : List (List ℕ)) → map node_view new.nodes.items ≡ map node_view old.nodes.items
      ++ nodes_among (first_seen new.numbers.texts.items more) ts
  pub line : new.writes.line ≡ old.writes.line + length lines
  pub seen : (before : List (ℕ × ℕ)) → HasSeen before old.writes
      → HasSeen (before ++ writes_from old.writes.line lines) new.writes
  pub writes : (before : List (ℕ × List Event)) (more : List (List ℕ)) → HasWrites before old.writes
      → HasWrites (before ++ numbered_from (length old.nodes.items)
      (first_seen new.numbers.texts.items more) ts) new.writes

-- before this line
pub record IsStart (n : ℕ) (t : Transactions) : Type 0 where
  pub keys : t.numbers.texts.items ≡ []
  pub nodes : t.nodes.items ≡ []
  pub line : t.writes.line ≡ n
  pub seen : HasSeen [] t.writes
  pub writes : HasWrites [] t.writes

-- all that these transactions hold
pub record HoldsAll (t : Transactions) (ts : List Placed) : Type 0 where
  pub keys : t.numbers.texts.items ≡ first_seen [] (keys_among ts)
  pub nodes : map node_view t.nodes.items ≡ nodes_among t.numbers.texts.items ts
  pub writes : HasWrites (numbered_from 0 t.numbers.texts.items ts) t.writes

-- all that the sessions hold, no identity of which is written twice, and those whose transaction of
-- unknown outcome is taken
pub record IsAccepted (ss : List ClientSession) (a : Accepted) : Type 0 where
  pub taken : (n : ℕ) → contains nat_cmp a.taken n ≡ taken ss n
  pub holds : HoldsAll a.all (placed_in (resolved ss))
  pub once : a.all.writes.twice ≡ None
