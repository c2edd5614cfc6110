use Rattle.std.proofs.Common.{[], ◌∷◌, ◌++◌, length, refl, sym, ap, ◌∙◌, subst, arith, Vec, Global}
use Rattle.std.specs.Prelude.{slice_set}
use Rattle.std.proofs.lemmas.Option.{slice_get_read}
use Rattle.side_edges.specs.Listed.{AddsEntry}
use Rattle.side_edges.specs.declared.SideEdge.{SideEdge}
use Rattle.side_edges.proofs.Listed.{entry_pushed}
use Rattle.side_edges.proofs.push_to.Goals as goal

pub returns-clause-pushed : goal.returns-clause-pushed
returns-clause-pushed c =
    let lists = c.args.lists.now in let t = c.get.result in let old = c.index-lists-get.result in let w = c.requires.within in let v = c.get.ensures.value in
    let at = slice_get_read lists (length lists) t old refl (omega (arith, w, v)) c.index-lists-get.is in
    subst (λ n. AddsEntry n c.args.entry lists (slice_set lists t c.push.new.self)) v (entry_pushed lists t old c.push.new.self c.args.entry at (c.in_ok-push.ensures.items ∙ ap (λ (l : Vec SideEdge Global). l.items ++ c.args.entry ∷ []) (sym c.index-lists-get.is)))
