-- What is read of blocks of a log.
use Rattle.std.specs.Prelude.{◌≡◌, ℕ, List, map, Option, None}
use Rattle.std.specs.List.{AllByRecursion}
use Rattle.session_log.specs.Text.{ClientSession, IsLegal, IsHeldBy, session_text}
use Rattle.session_log.specs.Version.{version_of}
use Rattle.session_log.specs.Blocks.{block_text, block_fault, first_of}
use Rattle.session_log.specs.declared.block.Block.{Block}
use Rattle.session_log.specs.declared.fault.LogFault.{LogFault}

-- the first fault of these blocks of the log
abbrev pub fault_of_blocks : List ℕ → List Block → Option LogFault
fault_of_blocks log blocks = first_of (map (block_fault log) blocks)

-- these blocks of the log have no fault, and are the texts of these sessions, one for each
pub record AreRead (log : List ℕ) (blocks : List Block) (ss : List ClientSession) : Type 0 where
  pub legal : AllByRecursion IsLegal ss
  pub held : AllByRecursion (IsHeldBy (version_of log)) ss
  pub texts : map (block_text log) blocks ≡ map session_text ss
  pub faultless : fault_of_blocks log blocks ≡ None
