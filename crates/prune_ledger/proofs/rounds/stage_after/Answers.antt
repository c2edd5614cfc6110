use Rattle.prune_ledger.proofs.Prelude.{◌≤◌, ◌∙◌, List, length, take, drop, sym, ap, subst, refl, arith, take_all, Entry as Kept, kept_after, IsGraphOf, AreOpen, AreSettled, kept_by, posts_in}
use Rattle.prune_ledger.proofs.KeptUp.{kept_rest}
use Rattle.prune_ledger.proofs.rounds.stage_after.Goals as goal

pub returns-then-len-before : goal.returns-then-len-before
returns-then-len-before c =
    let e = c.args.ended in let entries = e.progress.entries.items in (
      c.requires.ended.progress,
      subst (λ (k : List Kept). IsGraphOf c.args.polygraph.now k c.keep_all.new.own)
          (ap (λ l. kept_after (kept_by (take e.before entries)) (posts_in l)) (c.split_at.ensures.back ∙ ap (drop e.before) c.deref-then-len-before.ensures.value) ∙ kept_rest e.before entries)
          (c.keep_all.ensures.kept (kept_by (take e.before entries)) c.requires.ended.graph),
    )

pub remainder-requires-clause-last : goal.remainder-requires-clause-last
remainder-requires-clause-last c =
    let p = c.args.polygraph.now in let e = c.args.ended in let entries = e.progress.entries.items in
    let flags = c.deref-2.ensures.value in
    let few : length entries ≤ e.before = let a = c.len.ensures in let d = e.progress.entries.ok.0 in let f = c.if-len-before.false in omega (arith, a, d, f) in
    record {
      progress = c.requires.ended.progress;
      graph_of = subst (λ (l : List _). IsGraphOf p (kept_by l) e.progress.own) (take_all e.before entries few) c.requires.ended.graph;
      acyclic = c.requires.ended.acyclic;
      flagged = ap length flags ∙ c.requires.ended.flagged;
      open_in = subst (AreOpen e.progress.own.edges p.choices) (sym flags) c.requires.ended.open_in;
      settled = subst (AreSettled e.progress.machine.marks) (c.deref.ensures.value ∙ sym flags) (c.if-not-is_settled.ensures refl);
    }
