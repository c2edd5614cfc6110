use Rattle.order_cnf.proofs.Prelude.{◌≡◌, ◌+◌, sym, ap, ◌∙◌, arith, length, false≢true, sides_after, last_variable}
use Rattle.std.proofs.lemmas.Option.{IfSome_then}
use Rattle.order_cnf.proofs.Wholes.{clause_number}
use Rattle.order_cnf.proofs.layout.Layout.count.Goals as goal

pub returns-in_default-clause-none : goal.returns-in_default-clause-none
returns-in_default-clause-none c =
    let l = c.self.inside in
    let whole = sym (ap (λ x. length x.clauses) c.self.view_is) ∙ clause_number l.relation l.start l.units.items l.bipaths.items l.edges.items l.counts.items in
    (λ h. absurd (false≢true h), λ le. c.in_default.ensures.none.1 (omega (arith, le, whole)))

pub returns-in_default-added-clause-none : goal.returns-in_default-added-clause-none
returns-in_default-added-clause-none c =
    let l = c.self.inside in
    let whole = sym (ap (λ x. length x.clauses) c.self.view_is) ∙ clause_number l.relation l.start l.units.items l.bipaths.items l.edges.items l.counts.items in
    (λ h. absurd (false≢true h), λ le. c.in_default-added.ensures.none.1 (omega (arith, le, whole, c.in-Some.ensures.some, c.len.ensures)))

pub returns-in_default-added-2-clause-none : goal.returns-in_default-added-2-clause-none
returns-in_default-added-2-clause-none c =
    let l = c.self.inside in
    let whole = sym (ap (λ x. length x.clauses) c.self.view_is) ∙ clause_number l.relation l.start l.units.items l.bipaths.items l.edges.items l.counts.items in
    (λ h. absurd (false≢true h), λ le. c.in_default-added-2.ensures.none.1 (omega (arith, le, whole, c.in-Some.ensures.some, c.len.ensures, c.in-Some-added.ensures.some, c.len-2.ensures)))

pub returns : goal.returns
returns c =
    let l = c.self.inside in
    let whole = sym (ap (λ x. length x.clauses) c.self.view_is) ∙ clause_number l.relation l.start l.units.items l.bipaths.items l.edges.items l.counts.items in
    let sides = ap length (c.new-sides.ensures.value ∙ ap (λ es. sides_after l.relation (last_variable l.relation) es c.as_slice-2.result.now) c.as_slice.ensures.value ∙ ap (λ cs. sides_after l.relation (last_variable l.relation) l.edges.items cs) c.as_slice-2.ensures.value) in
    let n = c.in-Some-added-2.count in
    let sum : n + length c.new-sides.result ≡ length c.args.self.now.clauses = omega (arith, whole, sides, c.in-Some.ensures.some, c.len.ensures, c.in-Some-added.ensures.some, c.len-2.ensures, c.in-Some-added-2.ensures.some) in
    record {
      some = IfSome_then c.count_after.result c.count_after.ensures.some (λ m e. omega (arith, e, sum));
      none = (λ h. omega (arith, sum, c.count_after.ensures.none.0 h), λ le. c.count_after.ensures.none.1 (omega (arith, sum, le)));
    }
