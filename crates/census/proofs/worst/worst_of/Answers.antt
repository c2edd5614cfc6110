use Rattle.census.proofs.Prelude.{◌≡◌, ◌++◌, List, [], ◌∷◌, map, sym, ap, subst, ◌∙◌, append_assoc, append-nil, IsStrictlySortedBy, keys_of, deref_pair, get_by, Some, map-append, recursion_from_All, rest_all, rest_more, entry_cmp}
use Rattle.census.proofs.Prelude.{with_line, KeyFaults}
use Rattle.census.proofs.Held.{ref_cmp}
use Rattle.census.proofs.Lines.{line_of, named_before, worst_are, Entry}
use Rattle.census.proofs.Ranks.{top_more, AreTop}
use Rattle.census.proofs.worst.worst_of.Goals as goal

pub loop-key-preserved : goal.loop-key-preserved
loop-key-preserved c =
    let seen = c.loop-key.invariant.seen in
    let lines = c.loop-key.worst.items in
    let e : Entry = (c.in-Some.key.now, c.in-Some.faults.now) in
    let step = rest_more deref_pair c.loop-key.key-iterator c.next.new.self c.next.result (c.in-Some.key, c.in-Some.faults) c.in-Some.is c.next.ensures.steps in
    let whole : seen ++ e ∷ c.next.new.self ≡ c.args.counts.now.table.entries = ap (λ l. seen ++ l) (sym step) ∙ c.loop-key.invariant.cut in
    let sorted = subst (λ l. IsStrictlySortedBy ref_cmp (keys_of l)) (sym whole) c.into_iter-key-iterator.ensures.into_iter_gives.5 in
    let top = top_more (map line_of seen) lines (line_of e) (named_before seen e c.next.new.self sorted) c.loop-key.invariant.top in
    record {
      seen = seen ++ e ∷ [];
      cut = append_assoc seen (e ∷ []) c.next.new.self ∙ whole;
      top = subst (AreTop (map line_of (seen ++ e ∷ []))) (sym c.in_ok-add_line.ensures) (subst (λ (l : List KeyFaults). AreTop l (with_line (line_of e) lines)) (sym (map-append line_of seen (e ∷ []))) top);
    }

pub returns : goal.returns
returns c =
    let table = c.args.counts.now.table in
    let seen = c.loop-key.invariant.seen in
    let none = rest_all deref_pair c.loop-key.key-iterator c.next.new.self c.next.result c.in-None.is c.next.ensures.steps in
    let all : seen ≡ table.entries = sym (append-nil seen) ∙ ap (λ l. seen ++ l) (sym none) ∙ c.loop-key.invariant.cut in
    let gets = recursion_from_All (λ (e : Entry). get_by (entry_cmp e.0.now) table ≡ Some e.1) table.entries c.into_iter-key-iterator.ensures.into_iter_gives.6 in
    worst_are table c.loop-key.worst.items gets c.args.counts.now.positive (subst (λ (l : List Entry). AreTop (map line_of l) c.loop-key.worst.items) all c.loop-key.invariant.top)
