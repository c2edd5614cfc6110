use Rattle.log_tests.proofs.desk_tests.close_names_the_missing_seat.Given as goal

abbrev pub ghosts-close_too_early : goal.ghosts-close_too_early
ghosts-close_too_early g a = record { names = a.opened.names; desk = a.opened.desk }
