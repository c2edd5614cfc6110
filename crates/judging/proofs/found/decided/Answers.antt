use Rattle.judging.proofs.found.decided.Goals as goal

pub nodes_of-requires : goal.nodes_of-requires
nodes_of-requires g c = record { decided = record { budget = c.args.means.now.deciding.budget; decides = c.in-Ok.ensures.decides } }

pub returns-in_ok-nodes-in-Ok : goal.returns-in_ok-nodes-in-Ok
returns-in_ok-nodes-in-Ok g c = c.found_by-found.ensures c.args.means.now c.args.history.now c.in-Ok.ensures.decides
