use Rattle.graph_tests.proofs.prune_ledger_tests.two_threads_work_at_a_desk.Given as goal

abbrev pub ghosts-work_together : goal.ghosts-work_together
ghosts-work_together g a = record { names = a.opened.names; desk = a.opened.desk }
