-- The plain formula of a clean history, and the orders that fit its bipaths.
use Rattle.serializability.proofs.Prelude.{◌≡◌, ◌≢◌, ℕ, ◌+◌, ◌≤◌, Bool, true, false, ◌||◌, List, [], ◌∷◌, ◌++◌, refl, sym, inl, inr, arith, length-append, not, AllByRecursion, map, false≢true, or_cases, or_left, or_right, Log, Before}
use Rattle.serializability.proofs.Prelude.{IsSerial, IsClean, Edge, Choice, KeepsOne, Fits, arcs, is_arc, bipaths, bipath_polygraph, Literal, Satisfies, clause_true, value_of, order_clauses, is_before, before, IsOrder, IsDecoded}
use Rattle.serializability.proofs.Places.{each_of_append, each_from_append, each_of_map, each_from_map, length_mapped}
use Rattle.serializability.proofs.Serial.{each_of_arcs, each_from_arcs, each_of_bipaths, each_from_bipaths, arc_from_zero, arc_apart, rival_is, source_within, serial_fits, fitting_serial}
use Rattle.serializability.specs.Plain.{nothing_known, plain_nodes, plain_pairs, literals_of, plain, contradiction}
use Rattle.serializability.proofs.Ranks.{IsRanked, ranked_once, ranked_before}
use Rattle.serializability.proofs.Tournament.{lit, IsKnown, before_lit, turns_kept, is_order}
use Rattle.serializability.proofs.Made.{in_order, made, Agrees, lit_made, order_clauses_made}
use Rattle.serializability.proofs.Lines.{decoded}

nothing_is : IsKnown nothing_known
nothing_is = record { irreflexive = λ u. refl; transitive = λ u v w a b. absurd (false≢true a) }

abbrev pub True : List Bool → List Literal → Type 0
True values c = clause_true values c ≡ true

abbrev B : ℕ → List Bool → ℕ → ℕ → Bool
B n values u v = is_before nothing_known (plain_pairs n) values u v

pub unit_true : (b : Bool) → (b || false) ≡ true → b ≡ true
unit_true true e = refl
unit_true false e = e

record Parts (log : Log) (values : List Bool) : Type 0 where
  pub arc : AllByRecursion (λ (e : Edge). True values (literals_of log.nodes (e ∷ []))) (arcs log)
  pub choice : AllByRecursion (λ (c : Choice). True values (literals_of log.nodes (c.one ++ c.two))) (bipaths log)
  pub triples : AllByRecursion (True values) (order_clauses nothing_known (plain_nodes log.nodes))

parts_of : (log : Log) (values : List Bool) → Satisfies values (plain log) → Parts log values
unfolding plain
parts_of log values s =
    let units = map (λ (e : Edge). literals_of log.nodes (e ∷ [])) (arcs log) in
    let pairs = map (λ (c : Choice). literals_of log.nodes (c.one ++ c.two)) (bipaths log) in
    let a = each_of_append (True values) (units ++ pairs) (order_clauses nothing_known (plain_nodes log.nodes)) s.each_clause in
    let b = each_of_append (True values) units pairs a.0 in
    record {
      arc = each_of_map (True values) (λ (e : Edge). literals_of log.nodes (e ∷ [])) (arcs log) b.0;
      choice = each_of_map (True values) (λ (c : Choice). literals_of log.nodes (c.one ++ c.two)) (bipaths log) b.1;
      triples = a.1;
    }

arc_true : (log : Log) (values : List Bool) → Parts log values → (u v : ℕ) → u ≤ log.nodes → v ≤ log.nodes → is_arc log (u, v) ≡ true → lit (plain_pairs log.nodes) values u v ≡ true
arc_true log values p u v hu hv t = unit_true _ (each_of_arcs log (λ (e : Edge). True values (literals_of log.nodes (e ∷ []))) p.arc u v hu hv t)

pub plain_is_order : (log : Log) (values : List Bool) → Satisfies values (plain log) → IsOrder log.nodes (before (plain log) values)
unfolding plain
plain_is_order log values s =
    let n = log.nodes in
    let p = parts_of log values s in
    is_order n nothing_known (plain_pairs n) values nothing_is
    (λ v lo hi. before_lit nothing_known (plain_pairs n) values 0 v (λ e. omega (arith, e, lo)) refl
    (arc_true log values p 0 v (omega arith) hi (arc_from_zero log v lo)))
    (λ i j k lo ij jk hi. turns_kept nothing_known values nothing_is 0 (n + 1) p.triples i j k (omega arith) ij jk (omega arith))

pub decoded_fits : (log : Log) → IsClean log → (values : List Bool) → Satisfies values (plain log) → (order : List ℕ) → IsDecoded log.nodes (before (plain log) values) order → Fits (bipath_polygraph log) order
unfolding plain
decoded_fits log clean values s order d =
    let n = log.nodes in
    let p = parts_of log values s in
    let o = plain_is_order log values s in
    let k : IsRanked n (B n values) order = record { places = d.places; nodes = d.nodes; each = d.each } in
    let before : (u v : ℕ) → u ≤ n → v ≤ n → u ≢ v → lit (plain_pairs n) values u v ≡ true → Before order u v =
    λ u v hu hv ne t. ranked_before n (B n values) o order k u v hu hv (before_lit nothing_known (plain_pairs n) values u v ne refl t) in
    record {
      once = ranked_once n (B n values) o order k;
      known = each_from_arcs log (λ e. Before order e.0 e.1) (λ u v hu hv arc.
          before u v hu hv (arc_apart log clean u v hv arc) (arc_true log values p u v hu hv arc));
      choices = each_from_bipaths log (KeepsOne order) (λ q x w v lo hi key from vlo vhi t.
          let rival = rival_is log x w q v t in
          let hw = source_within log clean q x w lo hi from in
          elim (or_cases (lit (plain_pairs n) values v w) _
          (each_of_bipaths log (λ (c : Choice). True values (literals_of n (c.one ++ c.two))) p.choice q x w v lo hi key from vlo vhi t)) [
            | inl l ↦ inl (before v w vhi hw rival.1 l, tt)
            | inr l ↦ inr (before q v hi vhi (λ e. rival.2 (sym e)) (unit_true _ l), tt)
          ]);
    }

pub satisfied_where_fits : (log : Log) → IsClean log → (order : List ℕ) → Fits (bipath_polygraph log) order → (values : List Bool) × Satisfies values (plain log)
unfolding plain
satisfied_where_fits log clean order f =
    let n = log.nodes in
    let nodes = plain_nodes log.nodes in
    let values = made nothing_known nodes order [] in
    let agrees : Agrees nothing_known order = λ u v t. absurd (false≢true t) in
    let so : (u v : ℕ) → u ≤ n → v ≤ n → Before order u v → lit (plain_pairs n) values u v ≡ true =
    λ u v hu hv b. lit_made nothing_known 0 (n + 1) order [] agrees u v (omega arith) (omega arith) (omega arith) (omega arith) b refl in
    let units = map (λ (e : Edge). literals_of log.nodes (e ∷ [])) (arcs log) in
    let pairs = map (λ (c : Choice). literals_of log.nodes (c.one ++ c.two)) (bipaths log) in
    let front = map (in_order order) (plain_pairs n) in (
      values,
      record {
        each_variable = omega (arith, length-append front [], length_mapped (in_order order) (plain_pairs n));
        each_clause = each_from_append (True values) (units ++ pairs) (order_clauses nothing_known nodes)
            (each_from_append (True values) units pairs
            (each_from_map (True values) (λ (e : Edge). literals_of log.nodes (e ∷ [])) (arcs log)
            (each_from_arcs log (λ (e : Edge). True values (literals_of log.nodes (e ∷ []))) (λ u v hu hv arc.
            or_left _ false (so u v hu hv (each_of_arcs log (λ e. Before order e.0 e.1) f.known u v hu hv arc)))))
            (each_from_map (True values) (λ (c : Choice). literals_of log.nodes (c.one ++ c.two)) (bipaths log)
            (each_from_bipaths log (λ (c : Choice). True values (literals_of n (c.one ++ c.two))) (λ q x w v lo hi key from vlo vhi t.
            elim (each_of_bipaths log (KeepsOne order) f.choices q x w v lo hi key from vlo vhi t) [
              | inl b ↦ or_left _ _ (so v w vhi (source_within log clean q x w lo hi from) b.0)
              | inr b ↦ or_right _ _ (or_left _ false (so q v hi vhi b.0))
            ]))))
            (order_clauses_made nothing_known n 0 (n + 1) order [] (omega arith) f.once agrees);
      },
    )

pub plain_where_serial : (log : Log) → IsClean log → (order : List ℕ) → IsSerial log order → (values : List Bool) × Satisfies values (plain log)
plain_where_serial log clean order s = satisfied_where_fits log clean order (serial_fits log clean order s)

pub plain_serial : (log : Log) → IsClean log → (values : List Bool) → Satisfies values (plain log) → (order : List ℕ) → IsDecoded log.nodes (before (plain log) values) order → IsSerial log order
plain_serial log clean values s order d = fitting_serial log clean order (decoded_fits log clean values s order d)

pub plain_decodes : (log : Log) → IsClean log → (values : List Bool) → Satisfies values (plain log) → (order : List ℕ) × IsDecoded log.nodes (before (plain log) values) order
plain_decodes log clean values s = decoded log.nodes (before (plain log) values) (plain_is_order log values s)

pub never_both : (b : Bool) → (b || false) ≡ true → (not b || false) ≡ true → ⊥
never_both true p q = false≢true q
never_both false p q = false≢true p

pub contradicted : (values : List Bool) → Satisfies values contradiction → ⊥
contradicted values s = never_both (value_of values 1) s.each_clause.0 s.each_clause.1.0
