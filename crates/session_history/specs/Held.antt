-- What a history holds of its sessions.
use Rattle.std.specs.Prelude.{◌≡◌, ℕ, ◌<◌, List, Option, map}
use Rattle.std.specs.List.{filter_map, list_any}
use Rattle.std.specs.Option.{option_map}
use Rattle.std.specs.BTreeMap.{get}
use Rattle.std.specs.BTreeSet.{contains}
use Rattle.std.specs.Ordering.{nat_cmp}
use Rattle.session_log.specs.Text.{ClientSession, view}
use Rattle.serializability.specs.Log.{Log}
use Rattle.serializability.specs.Reads.{external_read}
use Rattle.serializability.specs.Polygraph.{committed}
use Rattle.serializability.specs.Anomalies.{writes_as}
use Rattle.log_definitions.specs.Unknown.{taken}
use Rattle.log_definitions.specs.WellFormed.{keys_in}
use Rattle.log_definitions.specs.Serial.{Committed, committed_in, node_of}
use Rattle.log_definitions.specs.Numbers.{log_of, events_of, IsWellFormedList}
use Rattle.session_history.specs.Tables.{sources_of, writers_in, node_named}
use Rattle.session_history.specs.Taken.{NumberedNode, node_view}
use Rattle.session_history.specs.Naming.{name_cmp}
use Rattle.session_history.specs.Rows.{RowView, AreRows}
use Rattle.session_history.specs.Sources.{AreReads}
use Rattle.session_history.specs.Written.{entry_of, is_write, is_last_write, ends_with}
use Rattle.session_history.specs.declared.writes.Writes.{Writes}
use Rattle.session_history.specs.Counted.{CountsAll}
use Rattle.session_history.specs.declared.log.History.TheInside.{Inside}

-- the nodes that read a key externally, ascending, each with the identity that it reads first
abbrev pub readers_in : Log → ℕ → List (ℕ × ℕ)
readers_in log x = filter_map (λ v. option_map (λ w. (v, w)) (external_read x (log.ops v)))
    (committed log)

abbrev pub row_in : Log → ℕ → RowView
row_in log x = record { writers = writers_in log x; readers = readers_in log x }

-- The table finds each write by its identity: that of a node, the last of its key there, and that
-- of a transaction that counts as aborted.
pub record FindsWrites (log : Log) (t : Writes) : Type 0 where
  pub nodes : (x w v : ℕ) → 0 < v → is_write x v (entry_of t w) ≡ writes_as x w (log.ops v)
  pub lasts : (x w v : ℕ) → 0 < v → is_last_write x v (entry_of t w) ≡ ends_with x w (log.ops v)
  pub aborted : (x w : ℕ) → is_write x 0 (entry_of t w) ≡ list_any (writes_as x w) log.aborted

abbrev pub numbered_node : List (List ℕ) → Committed → NumberedNode
numbered_node keys node = record {
  session = node.session;
  place = node.place;
  events = events_of
      keys node.ops;
  begun = node.begun;
  ended = node.ended;
}

abbrev pub sessions_of : Inside → List ClientSession
sessions_of h = map view h.sessions.items

-- the sessions are those of a well-formed log, and the tables are theirs
pub record IsHistory (h : Inside) : Type 0 where
  pub sound : IsWellFormedList (sessions_of h)
  pub taken : (n : ℕ) → contains nat_cmp h.taken n ≡ taken (sessions_of h) n
  pub keys : h.keys.keys ≡ keys_in (sessions_of h)
  pub nodes : map node_view h.nodes.items ≡ map (numbered_node (keys_in (sessions_of h)))
      (committed_in (sessions_of h))
  pub names : (session place : ℕ) → get name_cmp h.names (session, place) ≡ node_named
      (sessions_of h) session place
  pub rows : AreRows (log_of (sessions_of h)).keys (row_in (log_of (sessions_of h))) h.rows.items
  pub reads : AreReads (log_of (sessions_of h)).nodes
      (sources_of (log_of (sessions_of h))) h.reads.items
  pub writes : FindsWrites (log_of (sessions_of h)) h.writes
  pub counts : CountsAll (sessions_of h) h.counts

-- what is kept of node v
abbrev pub node_kept : List ClientSession → ℕ → Option NumberedNode
node_kept ss v = option_map (numbered_node (keys_in ss)) (node_of ss v)
