use Rattle.level_checks.proofs.Prelude.{◌≡◌, ◌+◌, ◌≤◌, ℕ, false, sym, subst, ap, ◌∙◌, arith, rules, Spot, spot_cmp}
use Rattle.std.specs.Ordering.{nat_cmp, ordering_then, is_gt}
use Rattle.std.specs.declared.cmp.Ordering.TheVariants.{Equal}
use Rattle.std.proofs.lemmas.Bool.Decides.{nat_tests}
use Rattle.level_checks.proofs.looks.none_noted.Goals as goal

same : (n : ℕ) → nat_cmp n n ≡ Equal
same n = grind (arith, nat_tests)

not_behind : (a b : ℕ) → a ≤ b → is_gt (nat_cmp a b) ≡ false
not_behind a b le = grind (arith, nat_tests)

in_lane : (r s a b : ℕ) → a ≤ b → is_gt (spot_cmp (r, s, a) (r, s, b)) ≡ false
in_lane r s a b le =
    ap (λ o. is_gt (ordering_then (ordering_then o (nat_cmp s s)) (nat_cmp a b))) (same r)
    ∙ ap (λ o. is_gt (ordering_then o (nat_cmp a b))) (same s)
    ∙ not_behind a b le

from_lane : (lo : Spot) (r s a b : ℕ) → lo ≡ (r, s, a) → a ≤ b → is_gt (spot_cmp lo (r, s, b)) ≡ false
from_lane lo r s a b e le = subst (λ (x : Spot). is_gt (spot_cmp x (r, s, b)) ≡ false) (sym e) (in_lane r s a b le)

up_to_lane : (hi : Spot) (r s a b : ℕ) → hi ≡ (r, s, b) → a ≤ b → is_gt (spot_cmp (r, s, a) hi) ≡ false
up_to_lane hi r s a b e le = subst (λ (x : Spot). is_gt (spot_cmp (r, s, a) x) ≡ false) (sym e) (in_lane r s a b le)

pub returns-in-None : goal.returns-in-None
returns-in-None c t q lt le =
    let r = c.args.root in
    let s = c.args.session in
    (c.range-range.ensures.in_range (search rules)).5 c.in-None.ensures.steps.0 (r, s, q)
    (from_lane c.new.result.start r s (c.args.source + 1) q c.new.ensures.start (omega (arith, lt)), up_to_lane c.new.result.end r s q c.args.reach c.new.ensures.end le)
