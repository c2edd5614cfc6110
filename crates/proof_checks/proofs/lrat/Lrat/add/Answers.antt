use Rattle.proof_checks.proofs.Prelude.{◌≡◌, ◌∙◌, length, ap, eqb, rules, distinct, proof_of}
use Rattle.proof_checks.proofs.Taken.{added_so}
use Rattle.proof_checks.proofs.lrat.Lrat.add.Goals as goal

pub returns-clause-added : goal.returns-clause-added
returns-clause-added c =
    let clause : c.deref-2.result.now ≡ distinct c.args.self.now.literals.items = c.deref-2.ensures.value ∙ (c.in_ok-keep.ensures.kept ∙ ap distinct c.deref.ensures.value) in
    let empty : c.is_empty.result ≡ eqb (length c.deref-2.result.now) 0 = search rules in
    added_so (length c.args.checker.now.known) c.args.line (proof_of c.args.checker.now c.args.self.now.added.items) (proof_of c.add_clause.new.checker c.add_clause.new.added.items) c.args.id c.args.self.now.literals.items
    c.deref-2.result.now c.args.self.now.numbers.items c.deref-3.result.now c.is_empty.result clause c.deref-3.ensures.value c.in_ok-add_clause.ensures.taken c.in_ok-add_clause.ensures.clauses c.in_ok-add_clause.ensures.added empty
