use Rattle.branching.proofs.Prelude.{ℕ, List, length, ap, ◌∙◌}
use Rattle.branching.proofs.Markings.{saved_taken}
use Rattle.branching.proofs.kept_marks.Marks.copy_from.Goals as goal

pub returns-in-Kept : goal.returns-in-Kept
returns-in-Kept c =
    let value = c.as_mut_slice.ensures.value in
    record { takes = saved_taken c.args.count c.args.bits.now c.args.self.now c.in-Kept.kept c.copy_bits.new.marks c.in-Kept.is c.requires.marks (c.copy_bits.auto.marks ∙ ap (λ (l : List ℕ). length l) value) c.copy_bits.ensures.bits }
