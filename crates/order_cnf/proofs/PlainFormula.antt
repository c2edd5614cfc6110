-- The plain formula of a clean log is a formula: its literals are in range, its clauses short, and what satisfies it an order.
use Rattle.order_cnf.proofs.Prelude.{◌≡◌, inl, inr, refl, ap, ◌∙◌, ℕ, ◌+◌, ◌<◌, ◌≤◌, List, [], ◌∷◌, ◌++◌, length, sym, subst, arith, AllByRecursion, map, cases_order, lt-ltb, le-ltb, length-map, Literal, Log, Edge, Choice, Polygraph, arcs}
use Rattle.order_cnf.proofs.Prelude.{bipaths, bipath_polygraph, edge_literal, triples_of, triple_clauses, order_clauses, nothing_known, plain_nodes, plain_pairs, literals_of, plain, plain_of, IsInRange, HasShortClauses, IsFormula}
use Rattle.order_cnf.proofs.Prelude.{each_from_append, each_from_map, each_from_flat_map, each_triple_from, plain_is_order, IsWithin, Joins, IsSingle, IsBipath, HasPlain, size_fault, plain_fault}
use Rattle.std.specs.Option.{option_or}
use Rattle.serializability.specs.Reads.{IsClean}
use Rattle.serializability.proofs.Serial.{each_from_arcs, each_from_bipaths, arc_apart, rival_is, source_within}
use Rattle.order_cnf.proofs.Faults.{few_choices}
use Rattle.order_cnf.proofs.PairPlaces.{pair_within}

-- ---- edges of different nodes
pub arcs_joined : (log : Log) → IsClean log → AllByRecursion (Joins log.nodes) (arcs log)
arcs_joined log clean = each_from_arcs log (Joins log.nodes) (λ u v hu hv t. record { from = hu; to = hv; apart = arc_apart log clean u v hv t })

single : (n : ℕ) (e : Edge) → Joins n e → IsSingle n (e ∷ [])
single n e j = record { edge = e; alone = refl; joins = j }

pub are_bipaths : (log : Log) → IsClean log → AllByRecursion (IsBipath log.nodes) (bipaths log)
are_bipaths log clean = each_from_bipaths log (IsBipath log.nodes) (λ q x w v lo hi key from vlo vhi t.
    let rival = rival_is log x w q v t in
    record {
      first = single log.nodes (v, w) (record { from = vhi; to = source_within log clean q x w lo hi from; apart = rival.1 });
      second = single log.nodes (q, v) (record { from = hi; to = vhi; apart = λ e. rival.2 (sym e) });
    })

-- ---- their literals are in range
pub literal_within : (n : ℕ) (e : Edge) → Joins n e → IsWithin (length (plain_pairs n)) (edge_literal (plain_pairs n) e.0 e.1)
literal_within n e j = elim (cases_order e.0 e.1) [
  | inl same ↦ absurd (j.apart same)
  | inr o ↦ elim o [
    | inl lt ↦ let t = lt-ltb e.0 e.1 lt in rw t (omega arith, pair_within n e.0 e.1 lt j.to)
    | inr lt ↦ let f = le-ltb e.0 e.1 (omega arith) in rw f (omega arith, pair_within n e.1 e.0 lt j.from)
  ]
]

literals_within : (n : ℕ) (edges : List Edge) → AllByRecursion (Joins n) edges → AllByRecursion (IsWithin (length (plain_pairs n))) (literals_of n edges)
literals_within n [] h = tt
literals_within n (e ∷ edges) h = (literal_within n e h.0, literals_within n edges h.1)

-- what holds of each clause of one to three edges of different nodes holds of each clause
abbrev EachClause : ℕ → (List Literal → Type 0) → Type 0
EachClause n P = (e : Edge) (edges : List Edge) → length edges ≤ 2 → AllByRecursion (Joins n) (e ∷ edges) → P (literals_of n (e ∷ edges))

in_triples : (n : ℕ) (P : List Literal → Type 0) → EachClause n P → AllByRecursion P (order_clauses nothing_known (plain_nodes n))
in_triples n P h =
    each_from_flat_map P (triple_clauses nothing_known (plain_pairs n)) (triples_of (plain_nodes n))
    (each_triple_from (λ t. AllByRecursion P (triple_clauses nothing_known (plain_pairs n) t)) 0 (n + 1) (λ i j k lo ij jk hi.
    let ij' : Joins n (i, j) = record { from = omega arith; to = omega arith; apart = λ e. omega (arith, e) } in
    let ji : Joins n (j, i) = record { from = omega arith; to = omega arith; apart = λ e. omega (arith, e) } in
    let jk' : Joins n (j, k) = record { from = omega arith; to = omega arith; apart = λ e. omega (arith, e) } in
    let kj : Joins n (k, j) = record { from = omega arith; to = omega arith; apart = λ e. omega (arith, e) } in
    let ik : Joins n (i, k) = record { from = omega arith; to = omega arith; apart = λ e. omega (arith, e) } in
    let ki : Joins n (k, i) = record { from = omega arith; to = omega arith; apart = λ e. omega (arith, e) } in (
      h (j, i) ((k, j) ∷ (i, k) ∷ []) (omega arith) (ji, (kj, (ik, tt))),
      (h (i, j) ((j, k) ∷ (k, i) ∷ []) (omega arith) (ij', (jk', (ki, tt))), tt),
    )))

in_bipaths : (log : Log) → IsClean log → (P : List Literal → Type 0) → EachClause log.nodes P → AllByRecursion (λ (c : Choice). P (literals_of log.nodes (c.one ++ c.two))) (bipaths log)
in_bipaths log clean P h = each_from_bipaths log (λ (c : Choice). P (literals_of log.nodes (c.one ++ c.two))) (λ q x w v lo hi key from vlo vhi t.
    let rival = rival_is log x w q v t in
    let one : Joins log.nodes (v, w) = record { from = vhi; to = source_within log clean q x w lo hi from; apart = rival.1 } in
    let two : Joins log.nodes (q, v) = record { from = hi; to = vhi; apart = λ e. rival.2 (sym e) } in
    h (v, w) ((q, v) ∷ []) (omega arith) (one, (two, tt)))

in_arcs : (log : Log) → IsClean log → (P : List Literal → Type 0) → EachClause log.nodes P → AllByRecursion (λ (e : Edge). P (literals_of log.nodes (e ∷ []))) (arcs log)
in_arcs log clean P h = each_from_arcs log (λ (e : Edge). P (literals_of log.nodes (e ∷ []))) (λ u v hu hv t.
    h (u, v) [] (omega arith) (record { from = hu; to = hv; apart = arc_apart log clean u v hv t }, tt))

in_plain : (log : Log) → IsClean log → (P : List Literal → Type 0) → EachClause log.nodes P → AllByRecursion P (plain log).clauses
unfolding plain
in_plain log clean P h =
    let units = map (λ (e : Edge). literals_of log.nodes (e ∷ [])) (arcs log) in
    let pairs = map (λ (c : Choice). literals_of log.nodes (c.one ++ c.two)) (bipaths log) in
    each_from_append P (units ++ pairs) (order_clauses nothing_known (plain_nodes log.nodes))
    (each_from_append P units pairs
    (each_from_map P (λ (e : Edge). literals_of log.nodes (e ∷ [])) (arcs log) (in_arcs log clean P h))
    (each_from_map P (λ (c : Choice). literals_of log.nodes (c.one ++ c.two)) (bipaths log) (in_bipaths log clean P h)))
    (in_triples log.nodes P h)

literal_count : (n : ℕ) (edges : List Edge) → length (literals_of n edges) ≡ length edges
literal_count n edges = length-map edges (λ e. edge_literal (plain_pairs n) e.0 e.1)

in_range : (log : Log) → IsClean log → IsInRange (plain log)
unfolding plain
in_range log clean = in_plain log clean (AllByRecursion (IsWithin (length (plain_pairs log.nodes)))) (λ e edges few joined. literals_within log.nodes (e ∷ edges) joined)

short : (log : Log) → IsClean log → HasShortClauses (plain log)
short log clean = in_plain log clean (λ c. (0 < length c) × (length c ≤ 3)) (λ e edges few joined.
    let same = literal_count log.nodes edges in (omega arith, omega (arith, same, few)))

pub plain_is_formula : (log : Log) → IsClean log → log.nodes ≤ 1000 → length (plain log).clauses ≤ 20000000 → IsFormula (plain log)
unfolding plain
plain_is_formula log clean few size = record {
  few_nodes = few;
  few_clauses = size;
  in_range = in_range log clean;
  short = short log clean;
  orders = plain_is_order log;
}

-- ---- the polygraph of a log has it
has_plain : (log : Log) → IsClean log → log.nodes ≤ 1000 → HasPlain (bipath_polygraph log)
unfolding plain
has_plain log clean few = record {
  few = few;
  joined = arcs_joined log clean;
  bipaths = are_bipaths log clean;
  sound = plain_is_formula log clean few;
}

pub made_plain : (log : Log) (p : Polygraph) → IsClean log → log.nodes ≤ 1000 → p ≡ bipath_polygraph log → HasPlain p
made_plain log p clean few same = subst HasPlain (sym same) (has_plain log clean few)

pub plain_same : (log : Log) (p : Polygraph) → p ≡ bipath_polygraph log → plain_of p ≡ plain log
unfolding plain
plain_same log p same = ap plain_of same

-- ---- its faults
pub size_is : (log : Log) (p : Polygraph) → p ≡ bipath_polygraph log → log.nodes ≤ 100 → length (bipaths log) ≤ 100000 → size_fault (plain_of p) ≡ plain_fault log
size_is log p same few fits =
    ap size_fault (plain_same log p same) ∙ sym (ap (λ o. option_or o (size_fault (plain log))) (few_choices log few fits))
