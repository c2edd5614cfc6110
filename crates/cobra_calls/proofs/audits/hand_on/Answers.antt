use Rattle.cobra_calls.proofs.Handing.{whole_is_cut}
use Rattle.cobra_calls.proofs.audits.hand_on.Goals as goal

pub returns-in-Err-flush-clause-cut : goal.returns-in-Err-flush-clause-cut
returns-in-Err-flush-clause-cut g c =
    let old = g.W.Sink.bytes c.args.sink.now in
    let mid = g.W.Sink.bytes c.write_all.new.sink in
    whole_is_cut old mid (g.W.Sink.bytes c.flush.new.self) c.args.text.now c.in-Ok.ensures.ok c.flush.ensures.keeps
