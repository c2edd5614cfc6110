use Rattle.part_reasons.proofs.Prelude.{◌≡◌, ◌+◌, ◌∷◌, [], ◌++◌, map, length, ap, sym, ◌∙◌, append_assoc, length-append, arith, map-append, length-map, view, view_txn}
use Rattle.part_reasons.specs.Apart as spec
use Rattle.part_reasons.proofs.Singles.{single_more}
use Rattle.part_reasons.proofs.apart.singles.Goals as goal

pub loop-txn-preserved : goal.loop-txn-preserved
loop-txn-preserved c =
    let seen = c.loop-txn.yielded in let i = c.loop-txn.invariant in let all = c.loop-txn.all.items in
    let x = c.in-Some.txn in let more = c.next.new.self.rest.items in
    let s = c.in_ok-session.session in
    let grown = c.in_ok-push.ensures.items in
    let ts = map view_txn seen in
    let number : length all ≡ length ts = i.count ∙ sym (length-map seen view_txn) in
    record {
      whole = append_assoc seen (x ∷ []) more ∙ ap (λ l. seen ++ l) (sym c.in-Some.ensures.steps.0) ∙ i.whole;
      singles =
          ap (map view) grown ∙ map-append view all (s ∷ [])
          ∙ ap (λ l. l ++ map view (s ∷ [])) i.singles
          ∙ ap (λ l. spec.singles 1 ts ++ l) (c.in_ok-session.ensures.single ∙ ap (λ k. spec.singles k (view_txn x ∷ [])) (omega (arith, number)))
          ∙ sym (ap (spec.singles 1) (map-append view_txn seen (x ∷ [])) ∙ single_more 1 ts (view_txn x));
      count = ap length grown ∙ length-append all (s ∷ []) ∙ ap (λ n. n + 1) i.count ∙ sym (length-append seen (x ∷ []));
    }
