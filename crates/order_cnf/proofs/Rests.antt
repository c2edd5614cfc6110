-- What is known of a polygraph that is left open, by its rows.
use Rattle.order_cnf.proofs.Prelude.{◌≡◌, sym, ap, ◌∙◌, subst, ℕ, ◌*◌, ◌<◌, ◌≤◌, true, List, [], ◌∷◌, ◌++◌, length, arith, ◌+◌, AllByRecursion, Edge, Choice, Polygraph, Known, free_pairs, each_from_append, Literal, Graph, edge_in}
use Rattle.order_cnf.proofs.Prelude.{has_contained, Joins, JoinsBoth, IsReach, order_nodes, reduced, is_listed, Relation, known_in, pairs_in, IsStrict, IsRest, IsProperRest, IsUnturned, clauses_in, Shape, cnf_with}
use Rattle.reach_laws.proofs.Walks.{each_contained, each_from_contained}
use Rattle.pruning_laws.specs.declared.side.Side.{Side}
use Rattle.pruning_laws.specs.declared.side.Side.TheVariants.{One, Two}
use Rattle.pruning_laws.specs.Forced.{IsRefuted, edges_of}
use Rattle.prune_ledger.specs.Pruned.{Remainder}
use Rattle.order_laws.specs.Proper.{IsProper}
use Rattle.order_laws.proofs.Reached.{reach_known, not_back, initial_known, same_pairs}
use Rattle.order_cnf.proofs.Wholes.{edges_in, counts_in, reduced_is}

pub is_reach : (p : Polygraph) (rows : Graph) → IsRest p rows → IsReach p.known (is_listed rows.edges)
is_reach p rows k = record { each = λ u v. (λ t. (k.rows.reach u v).0 (edge_in rows.edges (u, v) t), λ r. has_contained rows.edges (u, v) ((k.rows.reach u v).1 r)) }

pub is_proper : (p : Polygraph) (rows : Graph) → IsRest p rows → IsProper p
is_proper p rows k = record {
  initial = k.graph.initial;
  joined = k.graph.joined;
  sides = k.polygraph.joined;
  acyclic = k.reduced.acyclic;
  unrefuted = k.reduced.unrefuted;
}

pub proper_rest : (r : Remainder) → IsRest r.poly r.rows → IsProperRest r
proper_rest r k = record { proper = is_proper r.poly r.rows k; reach = is_reach r.poly r.rows k }

pub is_strict : (p : Polygraph) (rows : Graph) → IsRest p rows → IsStrict (is_listed rows.edges)
is_strict p rows k =
    let known = reach_known p.known (is_listed rows.edges) (is_reach p rows k) k.reduced.acyclic in
    record { irreflexive = known.irreflexive; transitive = known.transitive }

pub later_pairs : (p : Polygraph) (rows : Graph) (r : Relation) → IsRest p rows → r.nodes ≡ p.nodes → r.known ≡ rows.edges → pairs_in r ≡ free_pairs (known_in r) (order_nodes p.nodes)
later_pairs p rows r k nodes known =
    let initial = initial_known p (is_proper p rows k) (is_listed rows.edges) (is_reach p rows k) in
    ap (λ n. pairs_in (record { nodes = n; known = r.known })) nodes
    ∙ same_pairs p.nodes (known_in r) (subst (λ es. (v : ℕ) → 0 < v → v ≤ p.nodes → is_listed es 0 v ≡ true) (sym known) initial)

-- the clauses of what is left are those of its reduced formula
pub rest_is : (s : Shape) (p : Polygraph) (rows : Graph) (r : Relation) (v : ℕ) (choices : List Choice) (units : List Literal) (bs : List Choice) (es : List Edge) (cs : List ℕ) → IsRest p rows → r.nodes ≡ p.nodes → r.known ≡ rows.edges
    → v ≡ length (pairs_in r) → choices ≡ p.choices → units ≡ [] → bs ≡ [] → es ≡ edges_in choices → cs ≡ counts_in choices
    → s ≡ record { relation = r; clauses = clauses_in r 1 units bs es cs } → cnf_with s (v + length choices) ≡ reduced (is_listed rows.edges) p
rest_is s p rows r v choices units bs es cs k nodes known ev eh eu eb ee ec same =
    reduced_is s p r (v + length choices) units bs es cs nodes (later_pairs p rows r k nodes known)
    (ap (λ n. n + length choices) ev ∙ ap (λ hs. length (pairs_in r) + length hs) eh) eu eb (ee ∙ ap edges_in eh) (ec ∙ ap counts_in eh) same
    ∙ ap (λ edges. reduced (is_listed edges) p) known

side_unturned : (n : ℕ) (edges : List Edge) (known : Known) (r : Relation) → IsReach edges known → known_in r ≡ known → r.nodes ≡ n → (side : List Edge) → AllByRecursion (Joins n) side → (IsRefuted edges side → ⊥) → AllByRecursion (IsUnturned r) side
side_unturned n edges known r reach same nodes side joins unrefuted =
    each_from_contained (IsUnturned r) side (λ e c. record {
      joins = subst (λ m. Joins m e) (sym nodes) (each_contained (Joins n) side e joins c);
      open_to = ap (λ (f : Known). f e.1 e.0) same ∙ not_back edges known reach side unrefuted e c;
    })

pub unturned : (edges : List Edge) (known : Known) (r : Relation) (n : ℕ) (hs : List Choice) → IsReach edges known → known_in r ≡ known → r.nodes ≡ n → AllByRecursion (JoinsBoth n) hs
    → AllByRecursion (λ h. (side : Side) → IsRefuted edges (edges_of h side) → ⊥) hs → AllByRecursion (IsUnturned r) (edges_in hs)
unturned edges known r n [] reach same nodes joins unrefuted = tt
unturned edges known r n (h ∷ hs) reach same nodes joins unrefuted =
    each_from_append (IsUnturned r) (h.one ++ h.two) (edges_in hs)
    (each_from_append (IsUnturned r) h.one h.two (side_unturned n edges known r reach same nodes h.one joins.0.first (unrefuted.0 One)) (side_unturned n edges known r reach same nodes h.two joins.0.second (unrefuted.0 Two)))
    (unturned edges known r n hs reach same nodes joins.1 unrefuted.1)

pub all_unturned : (p : Polygraph) (rows : Graph) (r : Relation) → IsRest p rows → r.nodes ≡ p.nodes → r.known ≡ rows.edges → AllByRecursion (IsUnturned r) (edges_in p.choices)
all_unturned p rows r k nodes known =
    unturned p.known (is_listed rows.edges) r p.nodes p.choices (is_reach p rows k) (ap is_listed known) nodes k.polygraph.joined k.reduced.unrefuted

pub two_each : (hs : List Choice) → length (counts_in hs) ≡ 2 * length hs
two_each [] = omega arith
two_each (h ∷ hs) = omega (arith, two_each hs)
