use Rattle.session_history.proofs.Prelude.{◌∙◌, ap, arith, length, slice_get_past, log_of, sources_of}
use Rattle.session_history.proofs.Kept.{sources_past, sources_at_zero}
use Rattle.session_history.proofs.log.History.reads_of.Goals as goal

pub returns-in-None-get : goal.returns-in-None-get
returns-in-None-get c = record {
  sources =
      let past = c.in-None-get.ensures.lookup.3 in
      let same = ap length c.deref.ensures.value in
      let low = c.in-Some.ensures in
      sources_past c.self.inside c.self.invariant c.args.node c.in-Some.i (omega (arith, low.0, low.1, c.get.ensures.value))
      (slice_get_past c.self.inside.reads.items c.in-Some.i (omega (arith, past, same)))
      ∙ ap (λ ss. sources_of (log_of ss) c.args.node) c.self.view_is;
}

pub returns-in-None : goal.returns-in-None
returns-in-None c = record {
  sources = sources_at_zero c.args.self.now c.args.node (let none = c.in-None.ensures in omega (arith, none, c.get.ensures.value));
}
