use Rattle.session_history.proofs.Prelude.{List, sym, subst, MatchOption, ClientSession, log_of, Written, IsUnwritten, IsWrite, sessions_of}
use Rattle.session_history.proofs.Identified.{found}
use Rattle.session_history.proofs.log.History.written.Goals as goal

pub returns : goal.returns
returns c = record {
  write = subst (λ (ss : List ClientSession). MatchOption c.entry.result (IsUnwritten (log_of ss) c.args.wid) (λ (w : Written). IsWrite (log_of ss) c.args.wid w.key w.node w.last)) c.self.view_is
      (found (sessions_of c.self.inside) c.self.inside.writes c.args.wid c.entry.result c.self.invariant.writes (sym c.entry.ensures));
}
