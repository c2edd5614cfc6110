use Rattle.log_tests.proofs.desk_tests.two_threads_make_one_history.Given as goal

abbrev pub ghosts-add_together : goal.ghosts-add_together
ghosts-add_together g a = record { names = a.opened.names; desk = a.opened.desk }
