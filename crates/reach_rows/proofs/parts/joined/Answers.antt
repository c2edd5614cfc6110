use Rattle.reach_rows.proofs.Prelude.{◌≡◌, ◌≤◌, ◌+◌, ◌-◌, ◌++◌, [], ◌∷◌, length, get_or, IfOk, sym, ap, ◌∙◌, subst, arith, length_push, IsPart, AreReachRows}
use Rattle.std.proofs.lemmas.Iterator.Adapters.{YieldsList-from_vec}
use Rattle.std.proofs.lemmas.Iterator.Consumers.{YieldsList-turn, YieldsList-end}
use Rattle.reach_rows.proofs.Behind.{rows_none, rows_joined}
use Rattle.reach_rows.proofs.parts.joined.Goals as goal

pub loop-part-init : goal.loop-part-init
loop-part-init c =
    let graph = c.args.known.now in
    subst (AreReachRows graph 0 (get_or c.args.starts.now 0 0)) (sym c.in_ok-words.ensures.items)
    (subst (λ k. AreReachRows graph 0 k []) (sym c.requires.starts.first) (rows_none graph 0))

pub loop-part-preserved : goal.loop-part-preserved
loop-part-preserved c =
    let graph = c.args.known.now in
    let parts = c.args.parts.items in
    let starts = c.args.starts.now in
    let given = c.into_iter-part-iterator.ensures.into_iter_gives in
    let count : c.into_iter-part-iterator.result.rest.len ≡ length parts = omega (arith, given.1, c.args.parts.ok.0) in
    let turn = YieldsList-turn (YieldsList-from_vec parts given.0 count) c.loop-part.yielded c.loop-part.part-iterator c.loop-part.yielded_by c.next.result c.next.new.self c.in-Some.part c.in-Some.is c.next.ensures.steps in
    let i = length c.loop-part.yielded in
    let least : 0 ≤ get_or starts i 0 = omega arith in
    let forth = c.requires.starts.forth i (omega (arith, turn.0, c.requires.count)) in
    let rows = c.in_ok-part.field-0.items in
    let read = sym turn.1 ∙ c.in_ok-part.was in
    let part : IsPart graph starts i rows =
    (let P : _ → Type 0 = λ r. IfOk r (λ part. IsPart graph starts i part.items) in subst P read (c.requires.parts i c.in-Some.part turn.0)) in
    let items = c.in_ok-extend_from_slice.ensures.items ∙ ap (λ row. c.loop-part.words.items ++ row) c.deref.ensures.value in
    subst (AreReachRows graph 0 (get_or starts (length (c.loop-part.yielded ++ c.in-Some.part ∷ [])) 0)) (sym items)
    (subst (λ k. AreReachRows graph 0 (get_or starts k 0) (c.loop-part.words.items ++ rows)) (sym (length_push c.loop-part.yielded c.in-Some.part))
    (rows_joined graph 0 (get_or starts i 0) (get_or starts (i + 1) 0) c.loop-part.words.items rows least forth c.loop-part.invariant part))

pub returns : goal.returns
returns c =
    let graph = c.args.known.now in
    let parts = c.args.parts.items in
    let starts = c.args.starts.now in
    let given = c.into_iter-part-iterator.ensures.into_iter_gives in
    let count : c.into_iter-part-iterator.result.rest.len ≡ length parts = omega (arith, given.1, c.args.parts.ok.0) in
    let end = YieldsList-end (YieldsList-from_vec parts given.0 count) c.loop-part.yielded c.loop-part.part-iterator c.loop-part.yielded_by c.next.result c.next.new.self c.in-None.is c.next.ensures.steps in
    let last : length c.loop-part.yielded ≡ length starts - 1 = omega (arith, end.1, c.requires.count) in
    record { rows = subst (λ k. AreReachRows graph 0 k c.loop-part.words.items) (ap (λ k. get_or starts k 0) last ∙ c.requires.starts.last) c.loop-part.invariant }
