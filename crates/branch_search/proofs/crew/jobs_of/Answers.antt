use Rattle.branch_search.proofs.Prelude.{◌∙◌, ◌+◌, length, sym, ap, numbered_push, fresh_number}
use Rattle.branch_search.proofs.Places.{next_at, seen_more, same_length}
use Rattle.branch_search.proofs.crew.jobs_of.Goals as goal

pub loop-seat-preserved : goal.loop-seat-preserved
loop-seat-preserved g c =
    let seen = c.loop-seat.yielded in let i = c.loop-seat.invariant in let rest = c.loop-seat.seat-iterator.rest.items in let more = c.next.new.self.rest.items in let x = c.in-Some.seat in
    let at = next_at seen rest more c.args.seats.items x i.whole c.in-Some.ensures.steps.0 in
    let number = fresh_number c.args.seats.items (length seen) x c.requires.seats at in
    record {
      whole = seen_more seen rest more c.args.seats.items x i.whole c.in-Some.ensures.steps.0;
      count = same_length c.loop-seat.jobs.items c.push.new.self.items _ seen x c.in_ok-push.ensures.items i.count;
      numbers = numbered_push (λ job. job.seat.number) c.loop-seat.jobs.items c.push.new.self.items _ c.in_ok-push.ensures.items i.numbers (number ∙ ap (λ m. m + 1) (sym i.count));
    }
