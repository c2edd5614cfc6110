use Rattle.branching.proofs.Prelude.{ℕ, List, length, not, eqb, ◌&&◌, ap, ◌∙◌, bit_of}
use Rattle.branching.proofs.Markings.{mark_removed}
use Rattle.branching.proofs.kept_marks.Marks.remove.Goals as goal

pub returns-in-Kept : goal.returns-in-Kept
returns-in-Kept c =
    let value = c.as_mut_slice.ensures.value in
    let number = c.get.ensures.value in
    record {
      removes = mark_removed c.args.choice c.args.self.now c.in-Kept.kept c.clear_within.new.words c.in-Kept.is (c.clear_within.ensures.len ∙ ap (λ (l : List ℕ). length l) value)
          (λ j. c.clear_within.ensures.bits j ∙ (λ i. not (eqb j (number i)) && bit_of (value i) j));
    }
