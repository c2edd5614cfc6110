use Rattle.decode_order.proofs.Prelude.{◌≡◌, ◌++◌, ◌∷◌, [], ◌∙◌, ◌||◌, true, false, Option, ℕ, None, ap, sym, subst, List, begun_of, ended_of, is_earlier, first_before_ended}
use Rattle.decode_order.proofs.LeastEnd.{FromLast, earlier-log_of, at_last, one_before, at_first}
use Rattle.decode_order.proofs.moments.first_before_ended.Goals as goal
use Rattle.decode_order.proofs.moments.first_before_ended.Goals.{then-is_earlier, else-is_earlier}

pub loop-node-init : goal.loop-node-init
loop-node-init c =
    let ended = ended_of c.args.history.now in
    let begun = begun_of c.args.history.now in
    let order = c.args.order.now in
    let all : c.into_iter-node-iterator.result.iter.rest.now ≡ order = cc in
    subst (λ (l : List ℕ). FromLast ended begun order l None None) (sym all) (at_last ended begun order)

pub loop-node-preserved : goal.loop-node-preserved
loop-node-preserved c =
    let ended = ended_of c.args.history.now in
    let begun = begun_of c.args.history.now in
    let order = c.args.order.now in
    let left = c.next.new.self.iter.rest.now in
    let v = c.in-Some.node.now in
    let found = c.loop-node.found in
    let least = c.loop-node.least_end in
    let before : FromLast ended begun order (left ++ v ∷ []) found least =
    subst (λ (l : List ℕ). FromLast ended begun order l found least) c.in-Some.ensures.steps c.loop-node.invariant in
    let lesser : (later : Option ℕ) → is_earlier c.lesser-least_end.result later ≡ (is_earlier (ended v) later || is_earlier least later) =
    λ later. c.lesser-least_end.ensures.lesser later ∙ ap (λ e. is_earlier e later || is_earlier least later) c.ended_of.ensures.moment in
    let after : c.is_earlier.result ≡ is_earlier least (begun v) = c.is_earlier.ensures ∙ ap (is_earlier least) c.begun_of.ensures.moment in
    elim c.if-is_earlier.branch [
      | then-is_earlier w ↦ one_before ended begun order left v found least c.if-is_earlier.found c.lesser-least_end.result true (sym w.if-is_earlier.true ∙ after) w.found-is lesser before
      | else-is_earlier w ↦ one_before ended begun order left v found least c.if-is_earlier.found c.lesser-least_end.result false (sym w.if-is_earlier.false ∙ after) w.found-is lesser before
    ]

pub returns : goal.returns
returns c = record {
  first = at_first (ended_of c.args.history.now) (begun_of c.args.history.now) c.args.order.now c.loop-node.node-iterator.iter.rest.now c.loop-node.found c.loop-node.least_end c.in-None.ensures.steps.0 c.loop-node.invariant
      ∙ ap (λ e. first_before_ended e c.args.order.now) (sym (earlier-log_of c.args.history.now));
}
