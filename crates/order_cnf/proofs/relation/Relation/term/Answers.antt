use Rattle.order_cnf.proofs.Prelude.{sym, ◌∙◌}
use Rattle.order_cnf.proofs.Terms.{term_within}
use Rattle.order_cnf.proofs.relation.Relation.term.Goals as goal

pub returns-then-u-v-clause-literal : goal.returns-then-u-v-clause-literal
returns-then-u-v-clause-literal c = λ l h.
    term_within c.args.self.now c.args.u c.args.v l c.requires.within.0 c.requires.within.1 c.requires.within.2 (sym c.terms.ensures.up ∙ h)

pub returns-else-u-v-clause-literal : goal.returns-else-u-v-clause-literal
returns-else-u-v-clause-literal c = λ l h.
    term_within c.args.self.now c.args.u c.args.v l c.requires.within.0 c.requires.within.1 c.requires.within.2 (sym c.terms-else-u-v.ensures.down ∙ h)
