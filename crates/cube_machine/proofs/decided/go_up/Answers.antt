use Rattle.cube_machine.proofs.Prelude.{cube_in, flag_at}
use Rattle.cube_machine.proofs.Flags.{gone_up}
use Rattle.cube_machine.proofs.decided.go_up.Goals as goal

pub returns-in-Some-clause-each : goal.returns-in-Some-clause-each
returns-in-Some-clause-each c = λ v s lt.
    let nodes = c.args.tree.now.nodes in let o = c.in-Some.origin in let w = c.in-Some.ensures.way in
    gone_up (flag_at c.args.flags.now v s) (flag_at c.turn.new.flags v s) (cube_in nodes c.args.at) (cube_in nodes o.parent) o.choice v o.side s w.cube (c.turn.ensures.each v s lt)
