-- The line that is printed of a refused proof, without its line feed, and its exit status.
use Rattle.std.specs.Prelude.{ℕ, List, ◌++◌, codes, decimal}
use Rattle.proof_text.specs.declared.fault.ProofFault.{ProofFault}
use Rattle.proof_text.specs.declared.fault.ProofFault.TheVariants as proof

abbrev pub proof_refusal : ProofFault → List ℕ
proof_refusal (proof.BadLine line) = codes "refused: R1 line " ++ decimal line
proof_refusal (proof.NotImplied line) = codes "refused: R2 line " ++ decimal line
proof_refusal proof.NoEmptyClause = codes "refused: R3"
proof_refusal proof.TooLong = codes "refused: R4"
proof_refusal proof.Memory = codes "out of memory"

-- 2 for a refused proof, 4 for want of memory
abbrev pub proof_status : ProofFault → ℕ
proof_status proof.Memory = 4
proof_status _ = 2
