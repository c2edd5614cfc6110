use Rattle.write_chains.proofs.Prelude.{◌≡◌, ◌+◌, ◌++◌, ◌∷◌, [], ◌<◌, List, ℕ, Option, Some, take, set, length, sym, ap, ◌∙◌, subst, arith, take_more, take_all, log_of, source_within}
use Rattle.write_chains.proofs.Nexts.{NextAmong, writer_at, next_added, next_passed, next_all}
use Rattle.write_chains.proofs.links.next_of.Goals as goal
use Rattle.write_chains.proofs.links.next_of.Goals.{in-Some, in_default}

pub index_mut-requires : goal.index_mut-requires
index_mut-requires c =
    let within = source_within (log_of c.args.history.now) c.writer-item.result c.args.key c.in-Some.source (sym c.in-Some.ensures.source) in
    omega (arith, within, c.loop-writer.invariant.count, c.loop-writer.table.ok.0)

pub loop-writer-preserved : goal.loop-writer-preserved
loop-writer-preserved c =
    let log = log_of c.args.history.now in
    let writers = c.writers_of-writer-items.result.now in
    let i = c.loop-writer.writer-index in
    let v = c.writer-item.result in
    let further : take (i + 1) writers ≡ take i writers ++ v ∷ [] = take_more writers i v c.loop-writer-test.true ∙ ap (λ d. take i writers ++ d ∷ []) (sym c.writer-item.is) in
    let k = writer_at log c.args.key writers i v c.writers_of-writer-items.ensures.writers c.loop-writer-test.true c.writer-item.is in
    let among : List (Option ℕ) → Type 0 = λ table. NextAmong log c.args.key (take i writers ++ v ∷ []) table in
    subst (λ ws. NextAmong log c.args.key ws c.match-source_of.table.items) (sym further)
    (elim c.match-source_of.branch [
      | in-Some w ↦
          let from = sym w.in-Some.ensures.source in
          let within = source_within log v c.args.key w.in-Some.source from in
          let lt : w.in-Some.source < length c.loop-writer.table.items = omega (arith, within, c.loop-writer.invariant.count) in
          let is : c.match-source_of.table.items ≡ set c.loop-writer.table.items w.in-Some.source (Some v) =
          ap (λ t. t.items) w.table-is ∙ ap (λ s. set c.loop-writer.table.items s (Some v)) w.get.ensures.value in
          subst among (sym is) (next_added log c.requires.clean c.args.key (take i writers) c.loop-writer.table.items v w.in-Some.source c.loop-writer.invariant k from lt)
      | in_default w ↦
          let is : c.match-source_of.table.items ≡ c.loop-writer.table.items = ap (λ t. t.items) w.table-is in
          subst among (sym is) (next_passed log c.args.key (take i writers) c.loop-writer.table.items v c.loop-writer.invariant (sym w.in_default.ensures.source))
    ])

pub returns : goal.returns
returns c =
    let log = log_of c.args.history.now in
    let writers = c.writers_of-writer-items.result.now in
    let among : List ℕ → Type 0 = λ ws. NextAmong log c.args.key ws c.loop-writer.table.items in
    record {
      next = next_all log c.args.key writers c.loop-writer.table.items c.writers_of-writer-items.ensures.writers
          (subst among (take_all c.loop-writer.writer-index writers c.loop-writer-test.false) c.loop-writer.invariant);
    }
