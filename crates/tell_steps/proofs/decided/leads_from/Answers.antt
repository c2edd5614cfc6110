use Rattle.tell_steps.proofs.Prelude.{◌≡◌, ◌<◌, length, sym, ap, ◌∙◌, vec_len, arith, ◌==◌, list_any, not-true, eqb-false}
use Rattle.tell_steps.proofs.Leading.{any_edge, no_edge}
use Rattle.tell_steps.proofs.decided.leads_from.Goals as goal

pub returns-else-is_empty : goal.returns-else-is_empty
returns-else-is_empty c =
    let node = c.args.node in
    let tail = c.args.chain.now.tail in
    let readers = c.args.chain.now.readers.items in
    let any : c.contains.result ≡ list_any (λ y. y == node) readers = c.contains.ensures.value ∙ ap (list_any (λ y. y == node)) c.deref.ensures.value in
    let some : 0 < length readers = omega (arith, eqb-false (vec_len c.args.chain.now.readers) 0 (sym c.is_empty.ensures ∙ c.if-is_empty.false)) in
    record {
      yes = λ t b. any_edge tail b node readers (sym any ∙ t);
      no = λ t b. no_edge tail b node readers some (sym any ∙ not-true c.contains.result t);
    }
