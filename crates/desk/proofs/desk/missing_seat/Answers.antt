use Rattle.desk.proofs.Prelude.{◌≡◌, ◌⊎◌, ℕ, ◌+◌, ◌≤◌, true, sym, ◌∙◌, subst, ⊎_elim, arith, has_seat}
use Rattle.desk.proofs.desk.missing_seat.Goals as goal

split_last : (n k : ℕ) → n ≤ k + 1 → (n ≤ k) ⊎ (n ≡ k + 1)
split_last n k h = grind arith

pub loop-before-preserved : goal.loop-before-preserved
loop-before-preserved g c n positive within =
    ⊎_elim
    (λ (h : n ≤ c.loop-before.before). c.loop-before.invariant n positive h)
    (λ (h : n ≡ c.loop-before.before + 1). subst (λ m. has_seat m c.args.lefts.now ≡ true) (sym (h ∙ sym c.of-number.ensures)) (sym c.has_left.ensures ∙ c.if-not-has_left.false))
    (split_last n c.loop-before.before within)
