use Rattle.proof_text.proofs.Prelude.{◌+◌, ◌^◌, ◌≤◌, length, arith, rules, binary_words}
use Rattle.proof_text.proofs.Packing.{binary_fewer}
use Rattle.proof_text.proofs.binary.BinaryLines.of.Goals as goal

pub invariant_of-result : goal.invariant_of-result
invariant_of-result c =
    let short : 1 + length c.args.bytes.now ≤ 2 ^ 63 = search rules in
    let all : 1 + length (binary_words c.args.bytes.now) ≤ 2 ^ 63 = omega (arith, short, binary_fewer c.args.bytes.now) in
    all
