use Rattle.session_history.proofs.log.History.begun_of.Goals as goal
