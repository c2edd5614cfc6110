-- How much sessions hold.
use Rattle.std.specs.Prelude.{◌≡◌, ◌+◌, List, length, count_by}
use Rattle.std.specs.List.{flat_map}
use Rattle.session_log.specs.Text.{ClientSession, Transaction, capped}
use Rattle.log_definitions.specs.Unknown.{is_committed, is_unknown, txns_in, ops_in}
use Rattle.log_definitions.specs.WellFormed.{keys_in, is_aborted}
use Rattle.log_definitions.specs.Serial.{committed_in}
use Rattle.session_history.specs.declared.count.Counts.{Counts}
use Rattle.session_history.specs.declared.count.Tally.{Tally}

-- how many of these transactions ended in each way, and how many operations they have
pub record IsTally (ts : List Transaction) (t : Tally) : Type 0 where
  pub committed : t.committed ≡ capped (count_by is_committed ts)
  pub aborted : t.aborted ≡ capped (count_by is_aborted ts)
  pub unknown : t.unknown ≡ capped (count_by is_unknown ts)
  pub operations : t.operations ≡ capped (length (flat_map (λ t. t.ops) ts))

-- these are the numbers of the sessions
pub record CountsAll (ss : List ClientSession) (c : Counts) : Type 0 where
  pub sessions : c.sessions ≡ length ss
  pub committed : c.committed ≡ count_by is_committed (txns_in ss)
  pub aborted : c.aborted ≡ count_by is_aborted (txns_in ss)
  pub unknown : c.unknown ≡ count_by is_unknown (txns_in ss)
  pub nodes : c.committed + c.taken ≡ length (committed_in ss)
  pub keys : c.keys ≡ length (keys_in ss)
  pub operations : c.operations ≡ length (ops_in ss)
