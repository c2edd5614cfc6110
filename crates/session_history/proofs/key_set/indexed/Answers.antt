use Rattle.session_history.proofs.Prelude.{map-id, ◌≡◌, [], ◌∷◌, sym, ap, ◌∙◌, arith, length, first_seen}
use Rattle.std.proofs.lemmas.Iterator.Adapters.{YieldsList-from_vec}
use Rattle.std.proofs.lemmas.Iterator.Consumers.{YieldsList-end}
use Rattle.session_history.proofs.Seen.{seen_append, seen_again}
use Rattle.session_history.proofs.key_set.indexed.Goals as goal

pub loop-text-preserved : goal.loop-text-preserved
loop-text-preserved c =
    c.in_ok-insert.ensures.keys ∙ ap (λ ks. first_seen ks (c.in-Some.text ∷ [])) c.loop-text.invariant
    ∙ sym (seen_append [] c.loop-text.yielded (c.in-Some.text ∷ []))

pub returns : goal.returns
returns c =
    let texts = c.args.texts.items in
    let given = c.into_iter-text-iterator.ensures.into_iter_gives in
    let count : c.into_iter-text-iterator.result.rest.len ≡ length texts = omega (arith, given.1, c.args.texts.ok.0) in
    let end = YieldsList-end (YieldsList-from_vec texts given.0 count) c.loop-text.yielded c.loop-text.text-iterator c.loop-text.yielded_by c.next.result c.next.new.self c.in-None.is c.next.ensures.steps in
    c.loop-text.invariant ∙ ap (first_seen []) (sym (map-id c.loop-text.yielded) ∙ end.0) ∙ seen_again texts c.requires
