-- How much sessions hold.
use Rattle.std.specs.Prelude.{◌≡◌, List, length, count_by}
use Rattle.session_log.specs.Text.{ClientSession}
use Rattle.log_definitions.specs.Unknown.{txns_in, ops_in, is_committed, is_unknown}
use Rattle.log_definitions.specs.WellFormed.{is_aborted, keys_in}
use Rattle.audit_report.specs.declared.counts.LogCounts.{LogCounts}

pub record AreCounts (ss : List ClientSession) (c : LogCounts) : Type 0 where
  pub sessions : c.sessions ≡ length ss
  pub committed : c.committed ≡ count_by is_committed (txns_in ss)
  pub aborted : c.aborted ≡ count_by is_aborted (txns_in ss)
  pub unknown : c.unknown ≡ count_by is_unknown (txns_in ss)
  pub keys : c.keys ≡ length (keys_in ss)
  pub operations : c.operations ≡ length (ops_in ss)
