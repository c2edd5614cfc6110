-- Why a proof is refused.
use Rattle.proof_text.specs.declared.fault.StepFault.{StepFault}
use Rattle.proof_text.specs.declared.fault.StepFault.TheVariants as step
use Rattle.proof_text.specs.declared.fault.ProofFault.{ProofFault}
use Rattle.proof_text.specs.declared.fault.ProofFault.TheVariants as proof

abbrev pub fault_of_step : StepFault → ProofFault
fault_of_step (step.BadLine line) = proof.BadLine line
fault_of_step (step.NotImplied line) = proof.NotImplied line
fault_of_step step.Memory = proof.Memory
