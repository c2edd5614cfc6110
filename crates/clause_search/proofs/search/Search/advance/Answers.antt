use Rattle.clause_search.proofs.search.Search.advance.Goals as goal

pub returns-in-Some : goal.returns-in-Some
returns-in-Some c = record { extends = c.learn.ensures.extends c.args.given }
