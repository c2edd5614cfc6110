use Rattle.cobra_calls.proofs.Prelude.{◌≡◌, ◌≢◌, rules, refl, part_names, order_names}
use Rattle.cobra_calls.proofs.Apart.{twice_log, twice_same, twice_order, apart_order}
use Rattle.cobra_calls.proofs.audits.name_twice.Goals as goal

pub returns-then-is_of_part-clause-twice : goal.returns-then-is_of_part-clause-twice
returns-then-is_of_part-clause-twice c = twice_log c.args.log.now (part_names c.args.part) (order_names c.args.order) (c.if-is_of_part.ensures.same refl)

pub returns-then-eq-clause-twice : goal.returns-then-eq-clause-twice
returns-then-eq-clause-twice c =
    let same : c.in-Some.order.now ≡ c.args.log.now = search rules in
    rw c.in-Some.is (twice_same c.args.log.now c.in-Some.order.now (part_names c.args.part) same)

pub returns-then-is_of_part-2-clause-twice : goal.returns-then-is_of_part-2-clause-twice
returns-then-is_of_part-2-clause-twice c = rw c.in-Some.is (twice_order c.args.log.now c.in-Some.order.now (part_names c.args.part) (c.if-is_of_part-2.ensures.same refl))

pub returns-else-is_of_part-2-clause-apart : goal.returns-else-is_of_part-2-clause-apart
returns-else-is_of_part-2-clause-apart c =
    let other : c.in-Some.order.now ≢ c.args.log.now = search rules in
    rw c.in-Some.is (apart_order c.args.log.now c.in-Some.order.now c.args.part (c.if-is_of_part.ensures.apart refl) other (c.if-is_of_part-2.ensures.apart refl))
