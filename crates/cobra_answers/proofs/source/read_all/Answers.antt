use Rattle.std.proofs.Common.{ℕ, ◌+◌, List, refl, sym, ◌∙◌, subst, arith}
use Rattle.std.proofs.lemmas.List.{length-take}
use Rattle.cobra_answers.specs.Sources.{Takes}
use Rattle.cobra_answers.proofs.Taking.{takes_nothing, read_more, part_more, read_whole, read_long, on_err}
use Rattle.cobra_answers.proofs.source.read_all.Goals as goal

pub loop-text-init : goal.loop-text-init
loop-text-init g c = record {
  taken = subst (λ (t : List ℕ). Takes (g.S.Source.rest c.args.source.now) (g.S.Source.rest c.args.source.now) t)
      (sym c.new-text.ensures.items) (takes_nothing (g.S.Source.rest c.args.source.now));
  most = omega (arith, c.new-text.ensures.len);
  count = refl;
  room = omega (arith, c.in_ok-piece.ensures.len);
}

pub returns-in_err-take_piece-clause-part : goal.returns-in_err-take_piece-clause-part
returns-in_err-take_piece-clause-part g c = on_err _ _
    (part_more (g.S.Source.rest c.args.source.now) (g.S.Source.rest c.loop-text.source) (g.S.Source.rest c.take_piece.new.source)
    _ (c.args.limit + 1) c.loop-text.text.items c.loop-text.invariant.taken (omega (arith, length-take c.min-room.result c.deref_mut.result.now, c.min-room.ensures, c.len-in-loop-text.ensures, c.len-in-loop-text-2.ensures, c.loop-text.text.ok.0, c.loop-text.invariant.most, c.loop-text.invariant.room, c.deref_mut.ensures.len, c.len.ensures, c.loop-text-test.true)) c.in_err-take_piece.ensures.part)

pub returns-then-branch-eq0-clause-text : goal.returns-then-branch-eq0-clause-text
returns-then-branch-eq0-clause-text g c =
    read_whole (g.S.Source.rest c.args.source.now) (g.S.Source.rest c.loop-text.source) (g.S.Source.rest c.take_piece.new.source)
    _ c.args.limit c.loop-text.text.items c.take_piece.new.text.items c.loop-text.invariant.taken c.in_ok-take_piece.ensures.taken.1
    (omega (arith, length-take c.min-room.result c.deref_mut.result.now, c.min-room.ensures, c.len-in-loop-text.ensures, c.len-in-loop-text-2.ensures, c.loop-text.text.ok.0, c.loop-text.invariant.most, c.loop-text.invariant.room, c.deref_mut.ensures.len, c.len.ensures, c.loop-text-test.true))
    (omega (arith, c.in_ok-take_piece.ensures.taken.2, c.if-branch-eq0.true, c.loop-text.text.ok.0, c.take_piece.new.text.ok.0))
    (omega (arith, c.loop-text.text.ok.0, c.loop-text.invariant.most))

pub loop-text-preserved : goal.loop-text-preserved
loop-text-preserved g c = record {
  taken = read_more (g.S.Source.rest c.args.source.now) (g.S.Source.rest c.loop-text.source) (g.S.Source.rest c.take_piece.new.source)
      _ c.loop-text.text.items c.take_piece.new.text.items c.loop-text.invariant.taken c.in_ok-take_piece.ensures.taken.1;
  most = omega (arith, c.in_ok-take_piece.ensures.taken.0, c.in_ok-take_piece.ensures.taken.2, length-take c.min-room.result c.deref_mut.result.now, c.min-room.ensures, c.len-in-loop-text.ensures, c.len-in-loop-text-2.ensures, c.loop-text.text.ok.0, c.loop-text.invariant.most, c.loop-text.invariant.room, c.deref_mut.ensures.len, c.len.ensures, c.loop-text-test.true);
  count = c.in_ok-take_piece.ensures.count ∙ c.loop-text.invariant.count;
  room = c.loop-text.invariant.room;
}

pub returns-clause-text : goal.returns-clause-text
returns-clause-text g c =
    read_long (g.S.Source.rest c.args.source.now) (g.S.Source.rest c.loop-text.source) c.args.limit c.loop-text.text.items
    c.loop-text.invariant.taken
    (omega (arith, c.loop-text.text.ok.0, c.loop-text.invariant.most)) (omega (arith, c.loop-text.text.ok.0, c.len.ensures, c.loop-text-test.false))
