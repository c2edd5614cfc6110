use Rattle.order_cnf.proofs.Prelude.{ℕ, Bool, get_or, not, sym, subst, bit_and, not-true, not-false, is_open_cycle, IsWord, Relation, known_in, rows_known}
use Rattle.order_cnf.proofs.Cycles.{pair_row, pair_read, read_word, closed_word}
use Rattle.order_cnf.proofs.relation.Relation.open_cycles.Goals as goal

pub returns-then-not-has_bit : goal.returns-then-not-has_bit
returns-then-not-has_bit c =
    let u = c.args.u in
    let v = c.args.v in
    let s = c.self.inside in
    let r : Relation = record { nodes = s.nodes; known = rows_known s.rows } in
    let within = rw (sym c.self.view_is) at c.requires.within in
    let row = pair_row r.nodes u (λ x y. not (known_in r x y)) s.pairs.by_first c.row.result.now c.self.invariant.2.first within.0 c.row.ensures.edges c.row.ensures.len in
    let read = pair_read r.nodes v (λ y. not (known_in r u y)) c.row.result.now _ row within.1 c.if-not-has_bit.ensures.value in
    record { word = subst (λ q. IsWord (is_open_cycle q u v) c.args.place 0) c.self.view_is (closed_word r u v c.args.place (not-false (known_in r u v) read)) }

pub returns : goal.returns
returns c =
    let u = c.args.u in
    let v = c.args.v in
    let s = c.self.inside in
    let r : Relation = record { nodes = s.nodes; known = rows_known s.rows } in
    let within = rw (sym c.self.view_is) at c.requires.within in
    let forth : ℕ → ℕ → Bool = λ x y. not (known_in r x y) in
    let row = pair_row r.nodes u forth s.pairs.by_first c.row.result.now c.self.invariant.2.first within.0 c.row.ensures.edges c.row.ensures.len in
    let first = pair_row r.nodes v forth s.pairs.by_first c.row-first.result.now c.self.invariant.2.first within.1 c.row-first.ensures.edges c.row-first.ensures.len in
    let second = pair_row r.nodes u (λ y x. not (known_in r x y)) s.pairs.by_second c.row-second.result.now c.self.invariant.2.second within.0 c.row-second.ensures.edges c.row-second.ensures.len in
    let read = pair_read r.nodes v (λ y. not (known_in r u y)) c.row.result.now _ row within.1 c.if-not-has_bit.ensures.value in
    record {
      word = subst (λ q. IsWord (is_open_cycle q u v) c.args.place (bit_and (get_or c.row-first.result.now c.args.place 0) (get_or c.row-second.result.now c.args.place 0))) c.self.view_is
          (read_word r u v c.args.place c.row-first.result.now c.row-second.result.now first second (not-true (known_in r u v) read));
    }
