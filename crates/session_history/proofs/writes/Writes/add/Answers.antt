use Rattle.session_history.proofs.Prelude.{◌+◌, ◌++◌, List, ℕ, ap, sym, subst, take, drop, refl, arith, take_all, take_more, Event, HasSeen, writes_at, entry_of}
use Rattle.serializability.specs.declared.event.Event.TheVariants.{Read}
use Rattle.session_history.specs.Written.{IsTaking}
use Rattle.session_history.proofs.Writing.{lines_more, split_at_item, taking_none, taken_all, seen_same, taking_same}
use Rattle.session_history.proofs.writes.Writes.add.Goals as goal

pub loop-event-preserved : goal.loop-event-preserved
loop-event-preserved c =
    let xs = c.args.events.now in
    let i = c.loop-event.event-index in
    let n = c.keep_lasts.new.self.line + 1 in
    record {
      line = omega (arith, c.in_ok-enter.ensures.line);
      seen = λ lines h.
          let P : List (ℕ × ℕ) → Type 0 = λ ls. HasSeen ls c.enter.new.self in
          seen_same _ c.enter.new.self _ refl refl
          (subst P (lines_more n c.loop-event.self.line xs i lines c.loop-event-test.true c.loop-event.invariant.line)
          (c.in_ok-enter.ensures.seen (lines ++ writes_at n (take i xs)) (c.loop-event.invariant.seen lines h)));
      taking = λ txns h.
          let P : List Event → Type 0 = λ front. IsTaking txns c.args.node xs front c.enter.new.self in
          taking_same txns c.args.node xs _ c.enter.new.self _ refl refl refl
          (subst P (sym (take_more xs i (Read 0 0) c.loop-event-test.true))
          (c.in_ok-enter.ensures.taken txns xs (take i xs) (drop (i + 1) xs) (split_at_item xs i c.loop-event-test.true) (c.loop-event.invariant.taking txns h)));
    }

pub returns-clause-writes : goal.returns-clause-writes
returns-clause-writes c = λ txns h.
    let xs = c.args.events.now in
    let P : List Event → Type 0 = λ front. IsTaking txns c.args.node xs front c.loop-event.self in
    taken_all txns c.args.node xs c.loop-event.self _ refl (λ _. refl)
    (subst P (take_all c.loop-event.event-index xs c.loop-event-test.false)
    (c.loop-event.invariant.taking txns (taking_none txns c.args.node xs c.args.self.now _ (ap (λ t. t.twice) c.keep_lasts.ensures.others) (λ w. ap (λ t. entry_of t w) c.keep_lasts.ensures.others) c.in_ok-keep_lasts.ensures.lasts h)))
