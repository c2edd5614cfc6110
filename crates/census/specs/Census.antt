-- How many reads and transactions of a log break serializability by themselves.
use Rattle.std.specs.Prelude.{◌≡◌, List}
use Rattle.session_log.specs.Text.{ClientSession}
use Rattle.serializability.specs.declared.anomaly.ReadAnomaly.TheVariants as anomaly
use Rattle.census.specs.Reads.{reads_with}
use Rattle.census.specs.Updates.{lost_in}
use Rattle.census.specs.Worst.{faults_of, AreWorst}
use Rattle.census.specs.declared.numbers.Census.{Census}

-- each number is that of the reads with its anomaly, and the last that of the transactions that are
-- in a lost update; behind it stand the keys with the most faults
pub record IsCensus (ss : List ClientSession) (c : Census) : Type 0 where
  pub unknown : c.unknown_reads ≡ reads_with anomaly.Unknown ss
  pub aborted : c.aborted_reads ≡ reads_with anomaly.Aborted ss
  pub intermediate : c.intermediate_reads ≡ reads_with anomaly.Intermediate ss
  pub missed : c.own_writes_missed ≡ reads_with anomaly.OwnWriteMissed ss
  pub future : c.future_reads ≡ reads_with anomaly.Future ss
  pub split : c.split_reads ≡ reads_with anomaly.Split ss
  pub lost : c.lost_updates ≡ lost_in ss
  pub worst : AreWorst (faults_of ss) c.worst_keys.items
