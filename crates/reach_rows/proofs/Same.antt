-- Rows of one graph.
use Rattle.reach_rows.proofs.Prelude.{◌≡◌, Bool, true, sym, ap, ◌∙◌, subst, arith, Contains, filter, Edge, Graph, Reaches, AreRowsOf}
use Rattle.list_lemmas.proofs.Bools.{same_bool}
use Rattle.known_graph.specs.Pairs.{all_pairs}
use Rattle.known_graph.proofs.Listed.{In, In-from_Contains, Contains-from_In, In-filter, In-of_filter, filter_same}

kept_pair : (rows graph : Graph) (e : Edge) → AreRowsOf rows graph → In e (all_pairs rows.nodes) → (h : Edge → Bool) → rows.edges ≡ filter h (all_pairs rows.nodes) → h e ≡ true → Reaches graph.edges e.0 e.1
kept_pair rows graph e r there h is t =
    (r.reach e.0 e.1).0 (subst (λ es. Contains es (e.0, e.1)) (sym is) (Contains-from_In (filter h (all_pairs rows.nodes)) e (In-filter h e (all_pairs rows.nodes) there t)))

pair_kept : (rows graph : Graph) (e : Edge) → AreRowsOf rows graph → (h : Edge → Bool) → rows.edges ≡ filter h (all_pairs rows.nodes) → Reaches graph.edges e.0 e.1 → h e ≡ true
pair_kept rows graph e r h is reach =
    (In-of_filter h e (all_pairs rows.nodes) (In-from_Contains (filter h (all_pairs rows.nodes)) e (subst (λ es. Contains es (e.0, e.1)) is ((r.reach e.0 e.1).1 reach)))).1

same_graph : (a b : Graph) → a.nodes ≡ b.nodes → a.edges ≡ b.edges → a ≡ b
same_graph a b n e = grind arith

pub rows_are_one : (one other graph : Graph) → AreRowsOf one graph → AreRowsOf other graph → one ≡ other
rows_are_one one other graph r s =
    let n = r.nodes ∙ sym s.nodes in
    let listed : other.edges ≡ filter s.test (all_pairs one.nodes) = s.listed ∙ ap (λ k. filter s.test (all_pairs k)) (sym n) in
    same_graph one other n (
    r.listed
    ∙ filter_same r.test s.test (all_pairs one.nodes) (λ e there. same_bool (r.test e) (s.test e)
    (λ t. pair_kept other graph e s s.test s.listed (kept_pair one graph e r there r.test r.listed t))
    (λ t. pair_kept one graph e r r.test r.listed (kept_pair other graph e s (subst (λ k. In e (all_pairs k)) n there) s.test s.listed t)))
    ∙ sym listed
    )
