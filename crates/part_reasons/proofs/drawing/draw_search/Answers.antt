use Rattle.part_reasons.proofs.Prelude.{ℕ, ◌≡◌, map, inl, inr, subst, MatchOption, Option, Vec, Global, view, first_line, search_graph, table_of, IsTooLong}
use Rattle.part_reasons.proofs.drawing.draw_search.Goals as goal

pub returns-in-Some : goal.returns-in-Some
returns-in-Some c =
    let known = map view c.args.sessions.now in
    let part = map view c.args.refuted.now.part.items in
    let table = table_of (first_line c.args.version) known c.args.refuted.now.flags in
    let P : Option (Vec ℕ Global) → Type 0 = λ o. MatchOption o (IsTooLong known) (λ graph. graph.items ≡ search_graph table part c.args.words.now) in
    record { drawn = inr (subst P c.in-Some.is c.in_ok-graph.ensures.drawn) }

pub returns-in_ok-empty_graph-in-None : goal.returns-in_ok-empty_graph-in-None
returns-in_ok-empty_graph-in-None c =
    let known = map view c.args.sessions.now in
    let part = map view c.args.refuted.now.part.items in
    let table = table_of (first_line c.args.version) known c.args.refuted.now.flags in
    let P : Option (Vec ℕ Global) → Type 0 = λ o. MatchOption o (IsTooLong known) (λ graph. graph.items ≡ search_graph table part c.args.words.now) in
    record { drawn = inl (c.in_ok-empty_graph-in-None.ensures.graph, subst P c.in-None.is c.in_ok-graph.ensures.drawn) }
