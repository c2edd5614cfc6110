-- The nodes of sessions, and their names.
use Rattle.std.specs.Prelude.{ℕ, ◌+◌, List, map, drop}
use Rattle.std.specs.List.{filter, enumerate_from, flat_map}
use Rattle.session_log.specs.Text.{ClientSession, Transaction}
use Rattle.log_definitions.specs.Unknown.{is_committed}
use Rattle.log_definitions.specs.Serial.{Committed, committed_of}

-- the node of a transaction at this place of a session with this number
abbrev pub node_at : ℕ → ℕ → Transaction → Committed
node_at number place t = record {
  session = number;
  place = place;
  ops = t.ops;
  begun = t.begun;
  ended = t.ended;
}

-- the nodes of a session's transactions behind so many
abbrev pub nodes_from : ℕ → ℕ → List Transaction → List Committed
nodes_from number n ts =
    map (λ (p : ℕ × Transaction). node_at number p.0 p.1)
    (filter (λ (p : ℕ × Transaction). is_committed p.1) (enumerate_from (n + 1) (drop n ts)))

-- the nodes, where outcomes are known
abbrev pub nodes_of : List ClientSession → List Committed
nodes_of ss = flat_map committed_of ss

-- the session's number and the place of each node
abbrev pub names_of : List Committed → List (ℕ × ℕ)
names_of nodes = map (λ node. (node.session, node.place)) nodes
