-- What the chains of a history hold.
use Rattle.std.specs.Prelude.{◌≡◌, ℕ, ◌+◌, List, map}
use Rattle.session_log.specs.Text.{ClientSession}
use Rattle.serializability.specs.Log.{Log}
use Rattle.serializability.specs.Polygraph.{all_keys}
use Rattle.log_definitions.specs.Numbers.{log_of}
use Rattle.chain_laws.specs.Chains.{NoneCloses, readers, inner_edges}
use Rattle.session_history.specs.Tables.{pairs}
use Rattle.write_chains.specs.Lists.{unless_empty}
use Rattle.write_chains.specs.Views.{ChainView, chain_view, chain_from, chains_in, group_view}
use Rattle.write_chains.specs.declared.chain.KeyChains.{KeyChains}
use Rattle.write_chains.specs.declared.all.Chains.TheInside.{Inside}

-- all chains of a key, and the readers of each node that it is read from
pub record KeyView : Type 0 where
  pub initial : ChainView
  pub others : List ChainView
  pub readers : List (ℕ × List ℕ)

abbrev pub key_view : KeyChains → KeyView
key_view c = record {
  initial = chain_view c.initial;
  others = map chain_view c.others.items;
  readers = map group_view c.readers.items;
}

-- the readers of each node that the key is read from
abbrev pub readers_by : Log → ℕ → List (ℕ × List ℕ)
readers_by log x = pairs (λ w. unless_empty (readers log x w)) 0 (log.nodes + 1)

abbrev pub key_in : Log → ℕ → KeyView
key_in log x = record {
  initial = chain_from log x 0;
  others = chains_in log x;
  readers = readers_by
      log x;
}

abbrev pub sessions_of : Inside → List ClientSession
sessions_of c = c.history.now

-- the tables are those of the sessions, and no chain closes on itself
pub record AreChains (c : Inside) : Type 0 where
  pub none_closes : (x : ℕ) → NoneCloses (log_of (sessions_of c)) x
  pub keys : map key_view c.keys.items ≡ map (key_in (log_of (sessions_of c)))
      (all_keys (log_of (sessions_of c)))
  pub inner : c.inner.items ≡ inner_edges (log_of (sessions_of c))
