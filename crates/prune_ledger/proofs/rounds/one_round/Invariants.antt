use Rattle.prune_ledger.proofs.rounds.one_round.Given as goal

abbrev pub ghosts-round_of : goal.ghosts-round_of
ghosts-round_of g a = record { names = a.opened.names; desk = a.opened.desk }
