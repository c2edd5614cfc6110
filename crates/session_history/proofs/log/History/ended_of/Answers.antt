use Rattle.session_history.proofs.log.History.ended_of.Goals as goal
