use Rattle.order_cnf.proofs.Prelude.{ℕ, ◌+◌, not, inl, inr, sym, ap, subst, arith, Bool, is_listed, rows_known}
use Rattle.order_cnf.proofs.Filled.{IsFilled, IsPast, IsPastTurned, filled_none, set_first, set_second, kept_first, kept_second}
use Rattle.order_cnf.proofs.open_pairs.set_open.Goals as goal
use Rattle.order_cnf.proofs.open_pairs.set_open.Goals.{then-not-is_known, else-not-is_known}

none_past : (x y : ℕ) → IsPast 0 0 x y → ⊥
none_past x y (inl h) = omega (arith, h)
none_past x y (inr h) = omega (arith, h.1)

pub loop-u-init : goal.loop-u-init
loop-u-init c =
    let known = is_listed (rows_known c.args.rows.now) in
    record {
      first = filled_none c.args.nodes (λ u v. not (known u v)) (IsPast 0 0) c.args.by_first.now c.requires.nodes.0 (λ e. (c.requires.none e).0) none_past;
      second = filled_none c.args.nodes (λ v u. not (known u v)) (IsPastTurned 0 0) c.args.by_second.now c.requires.nodes.1 (λ e. (c.requires.none e).1) (λ x y h. none_past y x h);
    }

pub loop-v-preserved : goal.loop-v-preserved
loop-v-preserved c =
    let n = c.args.nodes in
    let known = is_listed (rows_known c.args.rows.now) in
    let forth : ℕ → ℕ → Bool = λ u v. not (known u v) in
    let back : ℕ → ℕ → Bool = λ v u. not (known u v) in
    let u = c.loop-u.u in
    let v = c.loop-v.v in
    elim c.if-not-is_known.branch [
      | then-not-is_known w ↦
          let free = ap not (sym w.if-not-is_known.ensures.value) in
          record {
            first = subst (IsFilled n forth (IsPast u (v + 1))) (sym w.by_first-is)
                (set_first n forth c.loop-v.by_first w.set.new.self u v (omega (arith, c.loop-v-test.true)) free c.loop-v.invariant.first w.set.ensures.edges w.set.ensures.nodes);
            second = subst (IsFilled n back (IsPastTurned u (v + 1))) (sym w.by_second-is)
                (set_second n back c.loop-v.by_second w.set-then-not-is_known.new.self u v (omega (arith, c.loop-u-test.true)) free c.loop-v.invariant.second w.set-then-not-is_known.ensures.edges w.set-then-not-is_known.ensures.nodes);
          }
      | else-not-is_known w ↦
          let known_now = ap not (sym w.if-not-is_known.ensures.value) in
          record {
            first = subst (IsFilled n forth (IsPast u (v + 1))) (sym w.by_first-is) (kept_first n forth c.loop-v.by_first u v known_now c.loop-v.invariant.first);
            second = subst (IsFilled n back (IsPastTurned u (v + 1))) (sym w.by_second-is) (kept_second n back c.loop-v.by_second u v known_now c.loop-v.invariant.second);
          }
    ]
