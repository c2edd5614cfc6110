use Rattle.branch_search.proofs.searching.search.Given as goal

abbrev pub ghosts-run : goal.ghosts-run
ghosts-run g a = record { names = a.opened.names; desk = a.opened.desk }
