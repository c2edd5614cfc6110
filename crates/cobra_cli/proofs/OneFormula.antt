-- Sessions have one formula, with `--plain` and without it.
use Rattle.cobra_cli.proofs.Prelude.{◌≡◌, ℕ, ◌+◌, Bool, true, false, List, length, get_or, Option, None, Some, refl, sym, ap, ◌∙◌, subst, inl, inr, arith, ClientSession, Version, Anomaly, Log, Polygraph, arcs, ListsOnce, Cnf, before}
use Rattle.cobra_cli.proofs.Prelude.{IsDecoded, anomaly_of, anomaly_number, chain_polygraph, chain_choices, Sides, edges_with, committed_in, log_of, text_of, order_text, Basis, Status, IsReducedFormula, by_anomaly, by_cycle, by_pruning}
use Rattle.cobra_cli.proofs.Prelude.{by_choices, IsFormulaFrom, IsFormulaOf, IsEncoding, IsAnswerTo, named_by, IsOrderText, IsDecoding, model, unsatisfiable, unknown, IsCounting, stats_text}
use Rattle.std.proofs.lemmas.List.{get_or_default, ext_get_or}
use Rattle.serializability.proofs.Ranks.{rank}
use Rattle.reach_laws.specs.Reach.{IsCyclic}
use Rattle.reach_laws.proofs.Walks.{cycle_from}
use Rattle.reduction.specs.Chained.{IsCoalesced, IsKnownCycle}
use Rattle.order_laws.proofs.Same.{same_pruned, same_formula}
use Rattle.dimacs.specs.declared.status.Status as dimacs
use Rattle.dimacs.specs.declared.status.Status.TheVariants as claim
use Rattle.cobra_formulas.specs.declared.basis.Basis.TheVariants.{Anomalous, Chains}
use Rattle.cobra_formulas.proofs.SameEdges.{cycle_among, known_among}

-- ---- what excludes what
some_none : (o : Option Anomaly) (a : Anomaly) → o ≡ Some a → o ≡ None → ⊥
some_none o a e h = cc

same_anomaly : (o : Option Anomaly) (a d : Anomaly) → o ≡ Some a → o ≡ Some d → a ≡ d
same_anomaly o a d e h = cc

not_cyclic : (log : Log) (line : List ℕ) → IsKnownCycle log line → IsCoalesced log → (IsCyclic (chain_polygraph log).known → ⊥) → ⊥
not_cyclic log line k coalesced acyclic = elim k [
  | inl c ↦ coalesced.acyclic (cycle_from (arcs log) (line, c))
  | inr c ↦ acyclic (cycle_from (chain_polygraph log).known (line, c.1))
]

known_acyclic : (p : Polygraph) (forced : Sides) → (IsCyclic (edges_with p forced) → ⊥) → IsCyclic p.known → ⊥
known_acyclic p forced acyclic c = acyclic (cycle_among p.known (edges_with p forced) (known_among p forced) c)

-- ---- one formula
abbrev Same : Basis → Basis → Cnf → Cnf → Type 0
Same b d f g = (b ≡ d) × (f ≡ g)

one_reduced : (ss : List ClientSession) (b d : Basis) (f g : Cnf) → IsReducedFormula ss b f → IsReducedFormula ss d g → Same b d f g
one_reduced ss b d f g (by_anomaly a e) (by_anomaly a' e') = (ap (λ (x : Anomaly). Anomalous (anomaly_number x)) (same_anomaly (anomaly_of (log_of ss)) a a' e e'), refl)
one_reduced ss b d f g (by_anomaly a e) (by_cycle none line k) = absurd (some_none (anomaly_of (log_of ss)) a e none)
one_reduced ss b d f g (by_anomaly a e) (by_pruning k y dead) = absurd (some_none (anomaly_of (log_of ss)) a e k.anomaly)
one_reduced ss b d f g (by_anomaly a e) (by_choices k forced h y known r) = absurd (some_none (anomaly_of (log_of ss)) a e k.anomaly)
one_reduced ss b d f g (by_cycle none line k) (by_anomaly a e) = absurd (some_none (anomaly_of (log_of ss)) a e none)
one_reduced ss b d f g (by_cycle none line k) (by_cycle none' line' k') = (refl, refl)
one_reduced ss b d f g (by_cycle none line c) (by_pruning k y dead) = absurd (not_cyclic (log_of ss) line c k y)
one_reduced ss b d f g (by_cycle none line c) (by_choices k forced h y known r) = absurd (not_cyclic (log_of ss) line c k (known_acyclic (chain_polygraph (log_of ss)) forced y))
one_reduced ss b d f g (by_pruning k y dead) (by_anomaly a e) = absurd (some_none (anomaly_of (log_of ss)) a e k.anomaly)
one_reduced ss b d f g (by_pruning k y dead) (by_cycle none line c) = absurd (not_cyclic (log_of ss) line c k y)
one_reduced ss b d f g (by_pruning k y dead) (by_pruning k' y' dead') = (refl, refl)
one_reduced ss b d f g (by_pruning k y dead) (by_choices k' forced h y' known r) = absurd (y' (dead forced h.closed))
one_reduced ss b d f g (by_choices k forced h y known r) (by_anomaly a e) = absurd (some_none (anomaly_of (log_of ss)) a e k.anomaly)
one_reduced ss b d f g (by_choices k forced h y known r) (by_cycle none line c) = absurd (not_cyclic (log_of ss) line c k (known_acyclic (chain_polygraph (log_of ss)) forced y))
one_reduced ss b d f g (by_choices k forced h y known r) (by_pruning k' y' dead) = absurd (y (dead forced h.closed))
one_reduced ss b d f g (by_choices k forced h y known r) (by_choices k' same h' y' knows r') =
    let p = chain_polygraph (log_of ss) in (
      ap (λ (q : Polygraph). Chains (length (chain_choices (log_of ss))) (length q.choices)) (same_pruned p forced same h h'),
      same_formula p forced same known knows h h' r r',
    )

one_made : (plain : Bool) (ss : List ClientSession) (b d : Basis) (f g : Cnf) → IsFormulaFrom plain ss b f → IsFormulaFrom plain ss d g → Same b d f g
one_made true ss b d f g h k = (h.basis ∙ sym k.basis, h.formula ∙ sym k.formula)
one_made false ss b d f g h k = one_reduced ss b d f g h.formula k.formula

pub one_formula : (plain : Bool) (ss : List ClientSession) (f g : Cnf) → IsFormulaOf plain ss f → IsFormulaOf plain ss g → f ≡ g
one_formula plain ss f g h k = (one_made plain ss h.basis k.basis f g h.made k.made).1

-- ---- one text
pub one_encoding : (plain : Bool) (ss : List ClientSession) (s t : Status) (text other : List ℕ) → IsEncoding plain ss s text → IsEncoding plain ss t other → text ≡ other
one_encoding plain ss s t text other h k = h.told ∙ ap (λ (f : Cnf). text_of f) (one_formula plain ss h.formula k.formula h.belongs k.belongs) ∙ sym k.told

pub one_counting : (plain : Bool) (v : Version) (ss : List ClientSession) (s t : Status) (text other : List ℕ) → IsCounting plain v ss s text → IsCounting plain v ss t other → text ≡ other
one_counting plain v ss s t text other h k =
    let same = one_made plain ss h.basis k.basis h.formula k.formula h.made k.made in
    h.told ∙ ap (λ (f : Cnf). stats_text v ss h.basis f) same.1 ∙ ap (λ (b : Basis). stats_text v ss b k.formula) same.0 ∙ sym k.told

-- ---- one decoding: a node's rank is its place, so two orders of the same nodes with these ranks are one
one_order : (n m : ℕ) (r : ℕ → ℕ → Bool) (a b : List ℕ) → IsDecoded n r a → IsDecoded n r b → ListsOnce m a → ListsOnce m b → a ≡ b
one_order n m r a b p q s t = ext_get_or 0 a b (p.places ∙ sym q.places) (λ i lt.
    let v = get_or a i 0 in
    let node = s.only i 0 lt in
    let there = t.each v node.0 node.1 in
    let here : get_or b there.0 0 ≡ v = get_or_default b there.0 0 v there.1 ∙ there.2 in
    let ranks : there.0 + 1 ≡ i + 1 = sym (q.each there.0 there.1) ∙ ap (rank n r) here ∙ p.each i lt in
    let place : there.0 ≡ i = omega (arith, ranks) in
    sym here ∙ ap (λ k. get_or b k 0) place)

one_order_text : (given : List ℕ) (ss : List ClientSession) (f g : Cnf) → f ≡ g → (text other : List ℕ) → IsOrderText given ss f text → IsOrderText given ss g other → text ≡ other
one_order_text given ss f g e text other h k =
    let same = subst (λ (c : Cnf). IsOrderText given ss c other) (sym e) k in
    h.told
    ∙ ap (λ (order : List ℕ). order_text ss order)
    (one_order f.nodes (length (committed_in ss)) (before f (named_by given f)) h.order same.order h.decoded same.decoded h.serial.once same.serial.once)
    ∙ sym same.told

one_claim : (plain : Bool) (given : List ℕ) (ss : List ClientSession) (a b : dimacs.Status) (f g : Cnf) → IsAnswerTo plain given ss a f → IsAnswerTo plain given ss b g → a ≡ b
one_claim plain given ss a b f g h k = let e = sym h.claims ∙ k.claims in cc

pub one_decoding : (plain : Bool) (given : List ℕ) (ss : List ClientSession) (s t : Status) (text other : List ℕ) → IsDecoding plain given ss s text → IsDecoding plain given ss t other → (s ≡ t) × (text ≡ other)
one_decoding plain given ss s t text other (model f a written o) (model g b told p) = (refl, one_order_text given ss f g (one_formula plain ss f g a.belongs b.belongs) written told o p)
one_decoding plain given ss s t text other (model f a written o) (unsatisfiable g b) = absurd (let e = one_claim plain given ss claim.Satisfiable claim.Unsatisfiable f g a b in cc)
one_decoding plain given ss s t text other (model f a written o) (unknown g b) = absurd (let e = one_claim plain given ss claim.Satisfiable claim.Unknown f g a b in cc)
one_decoding plain given ss s t text other (unsatisfiable f a) (model g b told p) = absurd (let e = one_claim plain given ss claim.Unsatisfiable claim.Satisfiable f g a b in cc)
one_decoding plain given ss s t text other (unsatisfiable f a) (unsatisfiable g b) = (refl, refl)
one_decoding plain given ss s t text other (unsatisfiable f a) (unknown g b) = absurd (let e = one_claim plain given ss claim.Unsatisfiable claim.Unknown f g a b in cc)
one_decoding plain given ss s t text other (unknown f a) (model g b told p) = absurd (let e = one_claim plain given ss claim.Unknown claim.Satisfiable f g a b in cc)
one_decoding plain given ss s t text other (unknown f a) (unsatisfiable g b) = absurd (let e = one_claim plain given ss claim.Unknown claim.Unsatisfiable f g a b in cc)
one_decoding plain given ss s t text other (unknown f a) (unknown g b) = (refl, refl)
