-- Read committed refuses a circle of writes and reads.
use Rattle.level_laws.proofs.Prelude.{refl, sym, subst, arith, Contains, Read, Write, nodes_of, x, y, ReadsFrom, circular_reads, RefusesCircle}
use Rattle.level_laws.proofs.Examples.{Facts, facts, never}

circle_facts : Facts circular_reads (nodes_of circular_reads)
circle_facts = facts circular_reads (never, (never, tt))

from_first : ReadsFrom circular_reads 1 2
from_first = record {
  key = x;
  wid = 1;
  other = λ e. omega (arith, e);
  writes = subst (λ l. Contains l (Write x 1)) (sym (circle_facts.ops 1)) (1, omega arith, refl);
  reads = subst (λ l. Contains l (Read x 1)) (sym (circle_facts.ops 2)) (0, omega arith, refl);
}

from_second : ReadsFrom circular_reads 2 1
from_second = record {
  key = y;
  wid = 2;
  other = λ e. omega (arith, e);
  writes = subst (λ l. Contains l (Write y 2)) (sym (circle_facts.ops 2)) (1, omega arith, refl);
  reads = subst (λ l. Contains l (Read y 2)) (sym (circle_facts.ops 1)) (0, omega arith, refl);
}

pub refuses_circle : RefusesCircle
refuses_circle (order, h) =
    let one = h.reads_from 1 2 from_first in
    let two = h.reads_from 2 1 from_second in
    omega (arith, one, two)
