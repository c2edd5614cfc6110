use Rattle.prune_ledger.proofs.Grown.{ran, each_forced, grown_opening, grown_reopened}
use Rattle.prune_ledger.proofs.laws.grown_states_grow.Goals as goal

pub returns-clause-shown : goal.returns-clause-shown
returns-clause-shown c = λ p whole kept start g history legal. (ran p whole kept start g history legal).shown

pub returns-clause-forced : goal.returns-clause-forced
returns-clause-forced c = each_forced

pub returns-clause-last : goal.returns-clause-last
returns-clause-last c = λ p whole kept start g history legal. (ran p whole kept start g history legal).grown

pub returns-clause-opening : goal.returns-clause-opening
returns-clause-opening c = grown_opening

pub returns-clause-reopened : goal.returns-clause-reopened
returns-clause-reopened c = grown_reopened
