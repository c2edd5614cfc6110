use Rattle.desk.proofs.Prelude.{◌≡◌, ◌+◌, ◌-◌, [], ◌∷◌, ◌++◌, length, sym, ap, ◌∙◌, arith, append_assoc, length-append, slice_get}
use Rattle.desk.proofs.Seating.{get_middle, fresh_push}
use Rattle.desk.proofs.desk.named_seats.Goals as goal

pub named_seat-requires-clause-name : goal.named_seat-requires-clause-name
named_seat-requires-clause-name g c =
    let i = c.loop-seat.invariant in let seat = c.in-Some.seat in let xs = c.loop-seat.yielded in
    let at = ap (λ l. slice_get l (length xs)) (sym i.0 ∙ ap (λ l. xs ++ l) c.in-Some.ensures.steps.0) ∙ get_middle xs seat c.next.new.self.rest.items in
    let named = c.requires (length xs) seat at in let n = named.0 in
    let is : seat.number - 1 ≡ length xs = omega arith in
    ap (slice_get g.J.Naming.names) is ∙ named.1

pub named_seat-requires-clause-here : goal.named_seat-requires-clause-here
named_seat-requires-clause-here g c =
    let i = c.loop-seat.invariant in let seat = c.in-Some.seat in let xs = c.loop-seat.yielded in
    let at = ap (λ l. slice_get l (length xs)) (sym i.0 ∙ ap (λ l. xs ++ l) c.in-Some.ensures.steps.0) ∙ get_middle xs seat c.next.new.self.rest.items in
    (c.requires (length xs) seat at).2

pub loop-seat-preserved : goal.loop-seat-preserved
loop-seat-preserved g c =
    let i = c.loop-seat.invariant in let seat = c.in-Some.seat in let xs = c.loop-seat.yielded in
    let at = ap (λ l. slice_get l (length xs)) (sym i.0 ∙ ap (λ l. xs ++ l) c.in-Some.ensures.steps.0) ∙ get_middle xs seat c.next.new.self.rest.items in
    let named = c.requires (length xs) seat at in
    let new = c.in_ok-push.ensures.items in (
      append_assoc xs (seat ∷ []) c.next.new.self.rest.items ∙ ap (λ l. xs ++ l) (sym c.in-Some.ensures.steps.0) ∙ i.0,
      fresh_push c.loop-seat.seats.items c.push.new.self.items c.named_seat.result i.1 new (c.named_seat.ensures.number ∙ named.0 ∙ ap (λ n. n + 1) (sym i.2)) (c.named_seat.ensures.calls ∙ named.3),
      (let a = ap length new in let b = i.2 in omega (arith, length-append c.loop-seat.seats.items (c.named_seat.result ∷ []), length-append xs (seat ∷ []))),
    )
