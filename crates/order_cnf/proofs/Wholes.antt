-- The clauses of whole formulas are those of their definitions.
use Rattle.order_cnf.proofs.Prelude.{◌≡◌, refl, sym, ap, ◌∙◌, subst, ℕ, suc, ◌+◌, ◌-◌, true, false, List, [], ◌∷◌, ◌++◌, length, drop, arith, append-nil, map, Some, is_some, flat_map, range_with_len, AllByRecursion, false≢true}
use Rattle.order_cnf.proofs.Prelude.{append_assoc, length-append, length-map, take-append_seam, drop-append_seam, Literal, Edge, Choice, Polygraph, Cnf, IsFormula, free_pairs, edge_literal, triples_of, triple_clauses, order_clauses}
use Rattle.order_cnf.proofs.Prelude.{nothing_known, plain_nodes, plain_pairs, literals_of, plain_of, contradiction, contradicted, reduced, choice_clauses, side_clauses, order_nodes, IsBipath, Relation, known_in, pairs_in, units_of}
use Rattle.order_cnf.proofs.Prelude.{bipaths_of, of_three, sides_after, last_variable, up_to, turned, IsUnturned, IsFreeBipath, clauses_in, size_fault, Shape, cnf_with}
use Rattle.order_cnf.specs.declared.fault.CnfFault.{CnfFault}

none_after : (r : Relation) (l : Literal) → sides_after r l [] [] ≡ []
unfolding sides_after
none_after r l = refl

-- ---- the contradiction

pub contradiction_is_formula : IsFormula contradiction
contradiction_is_formula = record {
  few_nodes = omega arith;
  few_clauses = omega arith;
  in_range = (((omega arith, omega arith), tt), (((omega arith, omega arith), tt), tt));
  short = ((omega arith, omega arith), ((omega arith, omega arith), tt));
  orders = λ values h. absurd (contradicted values h);
}

abbrev pub contradicting : List Literal
contradicting = record { variable = 1; positive = true } ∷ record { variable = 1; positive = false } ∷ []

empty_whole : (units : List Literal) → cnf_with (record { relation = record { nodes = 0; known = [] }; clauses = clauses_in (record { nodes = 0; known = [] }) 0 units [] [] [] }) 1
    ≡ record { nodes = 0; known = nothing_known; variables = 1; clauses = map (λ l. l ∷ []) units }
unfolding clauses_in units_of bipaths_of of_three sides_after
empty_whole units = ap (λ cs. record { nodes = 0; known = nothing_known; variables = 1; clauses = cs }) (append-nil (map (λ l. l ∷ []) units))

pub contradiction_is : (s : Shape) (r : Relation) (units : List Literal) (bs : List Choice) (es : List Edge) (cs : List ℕ) → r ≡ record { nodes = 0; known = [] } → units ≡ contradicting → bs ≡ [] → es ≡ [] → cs ≡ []
    → s ≡ record { relation = r; clauses = clauses_in r 0 units bs es cs } → cnf_with s 1 ≡ contradiction
contradiction_is s r units bs es cs er eu eb ee ec same =
    ap (λ x. cnf_with x 1) same
    ∙ ap (λ x. cnf_with (record { relation = x; clauses = clauses_in x 0 units bs es cs }) 1) er
    ∙ ap (λ x. cnf_with (record { relation = record { nodes = 0; known = [] }; clauses = clauses_in (record { nodes = 0; known = [] }) 0 units x es cs }) 1) eb
    ∙ ap (λ x. cnf_with (record { relation = record { nodes = 0; known = [] }; clauses = clauses_in (record { nodes = 0; known = [] }) 0 units [] x cs }) 1) ee
    ∙ ap (λ x. cnf_with (record { relation = record { nodes = 0; known = [] }; clauses = clauses_in (record { nodes = 0; known = [] }) 0 units [] [] x }) 1) ec
    ∙ ap (λ x. cnf_with (record { relation = record { nodes = 0; known = [] }; clauses = clauses_in (record { nodes = 0; known = [] }) 0 x [] [] [] }) 1) eu
    ∙ empty_whole contradicting

pub no_fault : (e : CnfFault) → size_fault contradiction ≡ Some e → ⊥
no_fault e h = false≢true (ap (λ o. is_some o) h)

-- ---- the plain formula
units_are : (n : ℕ) (arcs : List Edge) → map (λ (l : Literal). l ∷ []) (map (λ (e : Edge). edge_literal (plain_pairs n) e.0 e.1) arcs) ≡ map (λ (e : Edge). literals_of n (e ∷ [])) arcs
units_are n [] = refl
units_are n (e ∷ arcs) = ap (λ l. literals_of n (e ∷ []) ∷ l) (units_are n arcs)

whole_range : (n : ℕ) → n + 1 - 0 ≡ n + 1
whole_range n = omega arith

plain_whole : (n : ℕ) (units : List Literal) (arcs : List Edge) (choices : List Choice) → units ≡ map (λ (e : Edge). edge_literal (plain_pairs n) e.0 e.1) arcs
    → cnf_with (record { relation = record { nodes = n; known = [] }; clauses = clauses_in (record { nodes = n; known = [] }) 0 units choices [] [] }) (length (plain_pairs n)) ≡ plain_of (record { nodes = n; known = arcs; choices = choices })
unfolding clauses_in units_of bipaths_of of_three sides_after
plain_whole n units arcs choices eu =
    let ones : List (List Literal) = map (λ (e : Edge). literals_of n (e ∷ [])) arcs in
    let twos : List (List Literal) = map (λ (c : Choice). literals_of n (c.one ++ c.two)) choices in
    let threes : List (List Literal) = order_clauses nothing_known (plain_nodes n) in
    let threes_of : ℕ → List (List Literal) = λ m. flat_map (triple_clauses nothing_known (plain_pairs n)) (triples_of (range_with_len 0 m)) in
    let whole : List (List Literal) → Cnf = λ cs. record { nodes = n; known = nothing_known; variables = length (plain_pairs n); clauses = cs } in
    ap (λ us. whole (map (λ (l : Literal). l ∷ []) us ++ (twos ++ (threes_of (n + 1 - 0) ++ [])))) eu
    ∙ ap (λ us. whole (us ++ (twos ++ (threes_of (n + 1 - 0) ++ [])))) (units_are n arcs)
    ∙ ap (λ m. whole (ones ++ (twos ++ (threes_of m ++ [])))) (whole_range n)
    ∙ ap (λ t. whole (ones ++ (twos ++ t))) (append-nil threes)
    ∙ ap whole (sym (append_assoc ones twos threes))

pub plain_is : (s : Shape) (p : Polygraph) (r : Relation) (variables : ℕ) (units : List Literal) (arcs : List Edge) (bs : List Choice) (es : List Edge) (cs : List ℕ) → r ≡ record { nodes = p.nodes; known = [] } → variables ≡ length (pairs_in r)
    → units ≡ map (λ (e : Edge). edge_literal (pairs_in r) e.0 e.1) arcs → arcs ≡ p.known → bs ≡ p.choices → es ≡ [] → cs ≡ []
    → s ≡ record { relation = r; clauses = clauses_in r 0 units bs es cs } → cnf_with s variables ≡ plain_of p
plain_is s p r variables units arcs bs es cs er ev eu ea eb ee ec same =
    let n = p.nodes in
    let q : Relation = record { nodes = p.nodes; known = [] } in
    ap (λ x. cnf_with x variables) same
    ∙ ap (λ x. cnf_with (record { relation = r; clauses = clauses_in r 0 units x es cs }) variables) eb
    ∙ ap (λ x. cnf_with (record { relation = r; clauses = clauses_in r 0 units p.choices x cs }) variables) ee
    ∙ ap (λ x. cnf_with (record { relation = r; clauses = clauses_in r 0 units p.choices [] x }) variables) ec
    ∙ ap (λ x. cnf_with (record { relation = r; clauses = clauses_in r 0 units p.choices [] [] }) x) ev
    ∙ ap (λ x. cnf_with (record { relation = x; clauses = clauses_in x 0 units p.choices [] [] }) (length (pairs_in x))) er
    ∙ plain_whole n units arcs p.choices (eu ∙ ap (λ x. map (λ (e : Edge). edge_literal (pairs_in x) e.0 e.1) arcs) er)
    ∙ ap (λ x. plain_of (record { nodes = n; known = x; choices = p.choices })) ea

-- ---- the reduced formula
abbrev pub edges_in : List Choice → List Edge
edges_in choices = flat_map (λ (h : Choice). h.one ++ h.two) choices

abbrev pub counts_in : List Choice → List ℕ
counts_in choices = flat_map (λ (h : Choice). length h.one ∷ length h.two ∷ []) choices

one_side : (r : Relation) (l : Literal) (side edges : List Edge) (counts : List ℕ) → sides_after r l (side ++ edges) (length side ∷ counts) ≡ side_clauses (known_in r) (pairs_in r) (turned l) side ++ sides_after r (turned l) edges counts
unfolding sides_after
one_side r l side edges counts =
    ap (λ es. side_clauses (known_in r) (pairs_in r) (turned l) es ++ sides_after r (turned l) (drop (length side) (side ++ edges)) counts) (take-append_seam side edges)
    ∙ ap (λ es. side_clauses (known_in r) (pairs_in r) (turned l) side ++ sides_after r (turned l) es counts) (drop-append_seam side edges)

pub sides_are : (r : Relation) (v : ℕ) (hs : List Choice) → sides_after r (record { variable = v; positive = true }) (edges_in hs) (counts_in hs) ≡ choice_clauses (known_in r) (pairs_in r) (v + 1) hs
sides_are r v [] = none_after r (record { variable = v; positive = true })
sides_are r v (h ∷ hs) =
    let rest = edges_in hs in
    let negated : Literal = record { variable = v + 1; positive = false } in
    let straight : Literal = record { variable = v + 1; positive = true } in
    let first = side_clauses (known_in r) (pairs_in r) negated h.one in
    let second = side_clauses (known_in r) (pairs_in r) straight h.two in
    ap (λ es. sides_after r (record { variable = v; positive = true }) es (counts_in (h ∷ hs))) (append_assoc h.one h.two rest)
    ∙ one_side r (record { variable = v; positive = true }) h.one (h.two ++ rest) (length h.two ∷ counts_in hs)
    ∙ ap (λ l. first ++ l) (one_side r negated h.two rest (counts_in hs))
    ∙ ap (λ l. first ++ (second ++ l)) (sides_are r (v + 1) hs)
    ∙ sym (append_assoc first second (choice_clauses (known_in r) (pairs_in r) (v + 1 + 1) hs))

pub later_range : (n : ℕ) → n + 1 - 1 ≡ n
later_range n = omega arith

counted : (n : ℕ) → n + 1 ≡ suc n
counted n = omega arith

reduced_whole : (p : Polygraph) (r : Relation) → r.nodes ≡ p.nodes → pairs_in r ≡ free_pairs (known_in r) (order_nodes p.nodes)
    → cnf_with (record { relation = r; clauses = clauses_in r 1 [] [] (edges_in p.choices) (counts_in p.choices) }) (length (pairs_in r) + length p.choices) ≡ reduced (known_in r) p
unfolding clauses_in units_of bipaths_of of_three reduced
reduced_whole p r nodes pairs =
    let known = known_in r in
    let whole : ℕ → List (ℕ × ℕ) → List (List Literal) → Cnf = λ n ps cs. record { nodes = n; known = known; variables = length ps + length p.choices; clauses = cs } in
    let threes : List ℕ → List (ℕ × ℕ) → List (List Literal) = λ ns ps. flat_map (triple_clauses known ps) (triples_of ns) in
    ap (λ l. whole r.nodes (pairs_in r) (threes (range_with_len 1 (r.nodes + 1 - 1)) (pairs_in r) ++ l)) (sides_are r (length (pairs_in r)) p.choices)
    ∙ ap (λ m. whole r.nodes (pairs_in r) (threes (range_with_len 1 m) (pairs_in r) ++ choice_clauses known (pairs_in r) (length (pairs_in r) + 1) p.choices)) (later_range r.nodes)
    ∙ ap (λ m. whole m (pairs_in r) (threes (range_with_len 1 m) (pairs_in r) ++ choice_clauses known (pairs_in r) (length (pairs_in r) + 1) p.choices)) nodes
    ∙ ap (λ ps. whole p.nodes ps (threes (order_nodes p.nodes) ps ++ choice_clauses known ps (length ps + 1) p.choices)) pairs
    ∙ ap (λ c. whole p.nodes (free_pairs known (order_nodes p.nodes)) (threes (order_nodes p.nodes) (free_pairs known (order_nodes p.nodes)) ++ choice_clauses known (free_pairs known (order_nodes p.nodes)) c p.choices)) (counted (length (free_pairs known (order_nodes p.nodes))))

pub reduced_is : (s : Shape) (p : Polygraph) (r : Relation) (variables : ℕ) (units : List Literal) (bs : List Choice) (es : List Edge) (cs : List ℕ) → r.nodes ≡ p.nodes → pairs_in r ≡ free_pairs (known_in r) (order_nodes p.nodes)
    → variables ≡ length (pairs_in r) + length p.choices → units ≡ [] → bs ≡ [] → es ≡ edges_in p.choices → cs ≡ counts_in p.choices
    → s ≡ record { relation = r; clauses = clauses_in r 1 units bs es cs } → cnf_with s variables ≡ reduced (known_in r) p
reduced_is s p r variables units bs es cs en ep ev eu eb ee ec same =
    ap (λ x. cnf_with x variables) same
    ∙ ap (λ x. cnf_with (record { relation = r; clauses = clauses_in r 1 x bs es cs }) variables) eu
    ∙ ap (λ x. cnf_with (record { relation = r; clauses = clauses_in r 1 [] x es cs }) variables) eb
    ∙ ap (λ x. cnf_with (record { relation = r; clauses = clauses_in r 1 [] [] x cs }) variables) ee
    ∙ ap (λ x. cnf_with (record { relation = r; clauses = clauses_in r 1 [] [] (edges_in p.choices) x }) variables) ec
    ∙ ap (λ x. cnf_with (record { relation = r; clauses = clauses_in r 1 [] [] (edges_in p.choices) (counts_in p.choices) }) x) ev
    ∙ reduced_whole p r en ep

pub free_bipaths : (r : Relation) (n : ℕ) (choices : List Choice) → r.nodes ≡ n → r.known ≡ [] → AllByRecursion (IsBipath n) choices → AllByRecursion (IsFreeBipath r) choices
free_bipaths r n [] nodes known h = tt
free_bipaths r n (c ∷ choices) nodes known h = (record { bipath = subst (λ m. IsBipath m c) (sym nodes) h.0; nothing = known }, free_bipaths r n choices nodes known h.1)

pub no_edges : (r : Relation) (edges : List Edge) → edges ≡ [] → AllByRecursion (IsUnturned r) edges
no_edges r edges e = subst (AllByRecursion (IsUnturned r)) (sym e) tt

-- ---- how many clauses there are
pub clause_number : (r : Relation) (start : ℕ) (units : List Literal) (bs : List Choice) (es : List Edge) (cs : List ℕ)
    → length (clauses_in r start units bs es cs) ≡ length units + (length bs + (length (of_three r (up_to start (r.nodes + 1))) + length (sides_after r (last_variable r) es cs)))
unfolding clauses_in units_of bipaths_of
clause_number r start units bs es cs =
    let threes = of_three r (up_to start (r.nodes + 1)) in
    let sides = sides_after r (last_variable r) es cs in
    let one : Literal → List Literal = λ l. l ∷ [] in
    let two : Choice → List Literal = λ c. map (λ e. edge_literal (pairs_in r) e.0 e.1) (c.one ++ c.two) in
    length-append (map one units) (map two bs ++ (threes ++ sides))
    ∙ ap (λ n. n + length (map two bs ++ (threes ++ sides))) (length-map units one)
    ∙ ap (λ n. length units + n) (length-append (map two bs) (threes ++ sides) ∙ ap (λ n. n + length (threes ++ sides)) (length-map bs two)
    ∙ ap (λ n. length bs + n) (length-append threes sides))
