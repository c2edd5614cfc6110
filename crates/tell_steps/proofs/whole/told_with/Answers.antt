use Rattle.tell_steps.proofs.Prelude.{◌≡◌, ◌∙◌, ◌+◌, [], ◌∷◌, ◌++◌, List, map, drop, refl, ap, sym, subst, arith, append_assoc, All, append-nil, drop_all, All-nil, All-push, get_drop, item, log_of, Step, ChainOrder, Round, IsOrder}
use Rattle.tell_steps.proofs.Prelude.{orders_of, IsStep, AreBuilt, IsStepTold, AreStepsTold, round_view, IsRoundPut, AreRoundsTold, AreAllTold}
use Rattle.tell_steps.proofs.whole.told_with.Goals as goal

pub loop-step-init : goal.loop-step-init
loop-step-init c = record {
  orders = rw c.new-earlier.ensures.items (All-nil (IsOrder (log_of c.args.chains.now)));
  earlier = rw c.new-earlier.ensures.items refl;
  built = λ b. rw c.new-earlier.ensures.items b;
  told = λ after h. rw c.new-items.ensures.items (rw c.new-earlier.ensures.items at h);
}

pub tell_step-requires-clause-orders : goal.tell_step-requires-clause-orders
tell_step-requires-clause-orders c = subst (All (IsOrder (log_of c.args.chains.now))) (sym c.deref.ensures.value) c.loop-step.invariant.orders

pub loop-step-preserved : goal.loop-step-preserved
loop-step-preserved c =
    let ss = c.args.chains.now in
    let steps = c.args.steps.now in
    let x = c.step-item.result in
    let earlier = c.loop-step.earlier.items in
    let own = c.in-Some.own.items in
    let items = c.loop-step.items.items in
    let inv = c.loop-step.invariant in
    let rest = drop (c.loop-step.step-index + 1) steps in
    let at : drop c.loop-step.step-index steps ≡ x ∷ rest = get_drop steps c.loop-step.step-index x (item steps c.loop-step.step-index x c.loop-step-test.true c.step-item.is) in
    let own_told : IsStepTold ss earlier x own = subst (λ (os : List ChainOrder). IsStepTold ss os x own) c.deref.ensures.value (rw c.in-Some.is at c.in_ok-own.ensures.told) in
    record {
      orders = rw c.in_ok-push.ensures.items (All-push (IsOrder (log_of ss)) earlier x.order inv.orders own_told.right.two_chains);
      earlier = rw c.in_ok-push.ensures.items (append_assoc earlier (x.order ∷ []) (orders_of rest) ∙ ap (λ (l : List Step). earlier ++ orders_of l) (sym at) ∙ inv.earlier);
      built = λ b. rw c.in_ok-push.ensures.items (subst (AreBuilt ss earlier) at (inv.built b)).1;
      told = λ after h. rw (c.in_ok-extend_from_slice.ensures.items, c.deref-in-loop-step.ensures.value) (subst (AreStepsTold ss [] steps) (sym (append_assoc items own after))
          (inv.told (own ++ after) (subst (λ (l : List Step). AreStepsTold ss earlier l (own ++ after)) (sym at) (own, after, own_told, rw c.in_ok-push.ensures.items at h, refl))));
    }

pub returns-in_default-clause-none : goal.returns-in_default-clause-none
returns-in_default-clause-none c = λ b a.
    let ss = c.args.chains.now in
    let steps = c.args.steps.now in
    let x = c.step-item.result in
    let earlier = c.loop-step.earlier.items in
    let built = subst (AreBuilt ss earlier) (get_drop steps c.loop-step.step-index x (item steps c.loop-step.step-index x c.loop-step-test.true c.step-item.is)) (c.loop-step.invariant.built b) in
    (rw c.in_default.is at c.in_ok-own.ensures.none) (subst (λ (os : List ChainOrder). IsStep ss os x) (sym c.deref.ensures.value) built.0)

pub loop-round-init : goal.loop-round-init
loop-round-init c =
    let ss = c.args.chains.now in
    let steps = c.args.steps.now in
    let earlier = c.loop-step.earlier.items in
    let items = c.loop-step.items.items in
    let inv = c.loop-step.invariant in
    let done : drop c.loop-step.step-index steps ≡ [] = drop_all c.loop-step.step-index steps (omega (arith, c.loop-step-test.false)) in
    let walks : AreStepsTold ss [] steps items = subst (AreStepsTold ss [] steps) (append-nil items) (inv.told [] (subst (λ (l : List Step). AreStepsTold ss earlier l []) (sym done) refl)) in
    record {
      orders = inv.orders;
      earlier = sym (append-nil earlier) ∙ ap (λ (l : List Step). earlier ++ orders_of l) (sym done) ∙ inv.earlier;
      told = λ after h. record { before = items; after = after; walks = walks; rounds_told = h; whole = refl };
    }

pub tell_round-requires-clause-steps : goal.tell_round-requires-clause-steps
tell_round-requires-clause-steps c = subst (All (IsOrder (log_of c.args.chains.now))) (sym c.deref-in-loop-round.ensures.value) c.loop-round.invariant.orders

pub loop-round-preserved : goal.loop-round-preserved
loop-round-preserved c =
    let ss = c.args.chains.now in
    let steps = c.args.steps.now in
    let rounds = c.args.rounds.now in
    let x = c.round-item.result in
    let own = c.in-Some-2.own.items in
    let items = c.loop-round.items.items in
    let inv = c.loop-round.invariant in
    let at : drop c.loop-round.round-index rounds ≡ x ∷ drop (c.loop-round.round-index + 1) rounds = get_drop rounds c.loop-round.round-index x (item rounds c.loop-round.round-index x c.loop-round-test.true c.round-item.is) in
    let own_told : IsRoundPut ss (orders_of steps) (round_view x) own = subst (λ (os : List ChainOrder). IsRoundPut ss os (round_view x) own) (c.deref-in-loop-round.ensures.value ∙ inv.earlier) (rw c.in-Some-2.is at c.in_ok-own-2.ensures.told) in
    record {
      orders = inv.orders;
      earlier = inv.earlier;
      told = λ after h. rw (c.in_ok-extend_from_slice-2.ensures.items, c.deref-in-loop-round-2.ensures.value) (subst (AreAllTold ss steps (map round_view rounds)) (sym (append_assoc items own after))
          (inv.told (own ++ after) (subst (λ (l : List Round). AreRoundsTold ss (orders_of steps) (map round_view l) (own ++ after)) (sym at) (own, after, own_told, h, refl))));
    }

pub returns-clause-told : goal.returns-clause-told
returns-clause-told c =
    let ss = c.args.chains.now in
    let steps = c.args.steps.now in
    let rounds = c.args.rounds.now in
    let done : drop c.loop-round.round-index rounds ≡ [] = drop_all c.loop-round.round-index rounds (omega (arith, c.loop-round-test.false)) in
    subst (AreAllTold ss steps (map round_view rounds)) (append-nil c.loop-round.items.items) (c.loop-round.invariant.told [] (subst (λ (l : List Round). AreRoundsTold ss (orders_of steps) (map round_view l) []) (sym done) refl))
