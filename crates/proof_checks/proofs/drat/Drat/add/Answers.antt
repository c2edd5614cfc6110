use Rattle.proof_checks.proofs.Prelude.{◌≡◌, ◌∙◌, ap, sym, refl, eqb, length, rules, true, false, entails_then, is_tautology}
use Rattle.proof_checks.proofs.Passed.{passed_tautology, passed_addition, passed_refutation, stopped, taken_so, taken_not}
use Rattle.proof_checks.proofs.drat.Drat.add.Goals as goal

pub returns-then-is_tautology-clause-on : goal.returns-then-is_tautology-clause-on
returns-then-is_tautology-clause-on c = λ s a cs hs.
    let clause = c.args.self.now.clause.items in
    let always : is_tautology clause ≡ true = ap is_tautology (sym c.deref.ensures.value) ∙ (sym c.is_tautology.ensures ∙ c.if-is_tautology.true) in
    passed_tautology c.args.line s clause cs c.args.checker.now.clauses c.args.checker.now.clauses a always hs refl

pub returns-then-not-branch-clause-fault : goal.returns-then-not-branch-clause-fault
returns-then-not-branch-clause-fault c = λ s a cs hs.
    let clause = c.args.self.now.clause.items in
    let open_to : is_tautology clause ≡ false = ap is_tautology (sym c.deref.ensures.value) ∙ (sym c.is_tautology.ensures ∙ c.if-is_tautology.false) in
    stopped c.args.line s clause cs a open_to (taken_not cs c.take.new.checker.clauses clause c.deref-2.result.now c.in_ok-take.field-0 c.deref-2.ensures.value (c.in_ok-take.ensures.taken cs hs) c.if-not-branch.true)

pub returns-then-is_empty-clause-on : goal.returns-then-is_empty-clause-on
returns-then-is_empty-clause-on c = λ s a cs hs.
    let clause = c.args.self.now.clause.items in
    let open_to : is_tautology clause ≡ false = ap is_tautology (sym c.deref.ensures.value) ∙ (sym c.is_tautology.ensures ∙ c.if-is_tautology.false) in
    let taken = taken_so cs c.take.new.checker.clauses clause c.deref-2.result.now c.in_ok-take.field-0 c.deref-2.ensures.value (c.in_ok-take.ensures.taken cs hs) c.if-not-branch.false in
    let empty : c.is_empty.result ≡ eqb (length clause) 0 = search rules in
    passed_refutation c.args.line s clause cs c.take.new.checker.clauses a open_to taken.0 c.is_empty.result empty c.if-is_empty.true taken.1

pub returns-clause-on : goal.returns-clause-on
returns-clause-on c = λ s a cs hs.
    let clause = c.args.self.now.clause.items in
    let open_to : is_tautology clause ≡ false = ap is_tautology (sym c.deref.ensures.value) ∙ (sym c.is_tautology.ensures ∙ c.if-is_tautology.false) in
    let taken = taken_so cs c.take.new.checker.clauses clause c.deref-2.result.now c.in_ok-take.field-0 c.deref-2.ensures.value (c.in_ok-take.ensures.taken cs hs) c.if-not-branch.false in
    let empty : c.is_empty.result ≡ eqb (length clause) 0 = search rules in
    passed_addition c.args.line s clause cs c.settle.new.checker.clauses a open_to taken.0 c.is_empty.result empty c.if-is_empty.false (c.settle.ensures.holds _ taken.1)

pub returns-in_err-settle-clause-follows : goal.returns-in_err-settle-clause-follows
returns-in_err-settle-clause-follows c = entails_then c.args.checker.now.clauses c.take.new.checker.clauses c.settle.new.checker.clauses c.take.ensures.follows c.settle.ensures.follows

pub returns-clause-follows : goal.returns-clause-follows
returns-clause-follows c = entails_then c.args.checker.now.clauses c.take.new.checker.clauses c.settle.new.checker.clauses c.take.ensures.follows c.settle.ensures.follows
