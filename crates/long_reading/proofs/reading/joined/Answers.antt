use Rattle.long_reading.proofs.Prelude.{◌≡◌, ◌+◌, ◌++◌, List, length, map, take, MatchResult, sym, ap, ◌∙◌, subst, arith, length_push, map-append, take_all, err_from_is_err_and, some_at, view, IsFault, Block, AreRead, fault_of_blocks}
use Rattle.std.proofs.lemmas.Iterator.Adapters.{YieldsList-from_vec}
use Rattle.std.proofs.lemmas.Iterator.Consumers.{YieldsList-turn, YieldsList-end}
use Rattle.long_reading.proofs.Read.{whole_of, whole_is, blocks_in, blocks_count, part_read, part_refused}
use Rattle.long_reading.proofs.Accepting.{grammar_is}
use Rattle.long_reading.proofs.reading.joined.Goals as goal

pub returns-in_err-part-clause-fault : goal.returns-in_err-part-clause-fault
returns-in_err-part-clause-fault c =
    let log = c.args._log.now in
    let parts = blocks_in c.args.parts.now in
    let read = c.args.read.items in
    let given = c.into_iter-part-iterator.ensures.into_iter_gives in
    let count : c.into_iter-part-iterator.result.rest.len ≡ length read = omega (arith, given.1, c.args.read.ok.0) in
    let turn = YieldsList-turn (YieldsList-from_vec read given.0 count) c.loop-part.yielded c.loop-part.part-iterator c.loop-part.yielded_by c.next.result c.next.new.self c.in-Some.part c.in-Some.is c.next.ensures.steps in
    let i = length c.loop-part.yielded in
    let found = some_at parts i (omega (arith, turn.0, c.requires.count, blocks_count c.args.parts.now)) in
    let P : _ → Type 0 = λ r. MatchResult r (λ ss. AreRead log found.0 (map view ss.items)) (λ f. IsFault f (fault_of_blocks log found.0)) in
    let fault = subst P (sym turn.1 ∙ c.in_err-part.was) (c.requires.read i c.in-Some.part found.0 found.1) in
    let Q : List Block → Type 0 = λ bs. IsFault c.in_err-part.field-0.0 (fault_of_blocks log bs) in
    let e = err_from_is_err_and c.from_residual.result c.from_residual.ensures.1 in
    rw (e.1, e.2) (grammar_is log c.in_err-part.field-0.0 (subst Q (whole_is c.args.parts.now ∙ c.requires.whole) (part_refused log parts i found.0 (map view c.loop-part.sessions.items) c.in_err-part.field-0.0 found.1 c.loop-part.invariant fault)))

pub loop-part-preserved : goal.loop-part-preserved
loop-part-preserved c =
    let log = c.args._log.now in
    let parts = blocks_in c.args.parts.now in
    let read = c.args.read.items in
    let given = c.into_iter-part-iterator.ensures.into_iter_gives in
    let count : c.into_iter-part-iterator.result.rest.len ≡ length read = omega (arith, given.1, c.args.read.ok.0) in
    let turn = YieldsList-turn (YieldsList-from_vec read given.0 count) c.loop-part.yielded c.loop-part.part-iterator c.loop-part.yielded_by c.next.result c.next.new.self c.in-Some.part c.in-Some.is c.next.ensures.steps in
    let i = length c.loop-part.yielded in
    let found = some_at parts i (omega (arith, turn.0, c.requires.count, blocks_count c.args.parts.now)) in
    let P : _ → Type 0 = λ r. MatchResult r (λ ss. AreRead log found.0 (map view ss.items)) (λ f. IsFault f (fault_of_blocks log found.0)) in
    let own = subst P (sym turn.1 ∙ c.in_ok-part.was) (c.requires.read i c.in-Some.part found.0 found.1) in
    let old = c.loop-part.sessions.items in
    let more = c.in_ok-part.part.items in
    let now : map view old ++ map view more ≡ map view c.append.new.self.items = sym (ap (map view) c.in_ok-append.ensures.items ∙ map-append view old more) in
    subst (λ n. AreRead log (whole_of (take n parts)) (map view c.append.new.self.items)) (sym (length_push c.loop-part.yielded c.in-Some.part))
    (subst (AreRead log (whole_of (take (i + 1) parts))) now (part_read log parts i found.0 (map view old) (map view more) found.1 c.loop-part.invariant own))

pub returns-clause-read : goal.returns-clause-read
returns-clause-read c =
    let log = c.args._log.now in
    let parts = blocks_in c.args.parts.now in
    let read = c.args.read.items in
    let given = c.into_iter-part-iterator.ensures.into_iter_gives in
    let count : c.into_iter-part-iterator.result.rest.len ≡ length read = omega (arith, given.1, c.args.read.ok.0) in
    let end = YieldsList-end (YieldsList-from_vec read given.0 count) c.loop-part.yielded c.loop-part.part-iterator c.loop-part.yielded_by c.next.result c.next.new.self c.in-None.is c.next.ensures.steps in
    let all = take_all (length c.loop-part.yielded) parts (omega (arith, end.1, c.requires.count, blocks_count c.args.parts.now)) in
    subst (λ bs. AreRead log bs (map view c.loop-part.sessions.items)) (ap whole_of all ∙ (whole_is c.args.parts.now ∙ c.requires.whole)) c.loop-part.invariant
