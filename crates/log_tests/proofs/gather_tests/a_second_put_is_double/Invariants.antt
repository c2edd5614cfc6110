use Rattle.log_tests.proofs.gather_tests.a_second_put_is_double.Given as goal

abbrev pub ghosts-put_twice : goal.ghosts-put_twice
ghosts-put_twice g a = record { names = a.opened.names; desk = a.opened.desk }
