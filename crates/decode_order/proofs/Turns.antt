-- The first node that stands before an earlier one of its session, found by the node before it.
use Rattle.decode_order.proofs.Prelude.{◌≡◌, ℕ, zero, suc, ◌+◌, ◌-◌, ◌<◌, ◌≤◌, Bool, true, false, List, [], ◌∷◌, length, get_or, take, drop, Some, sym, ap, ◌∙◌, subst, inl, inr, arith, slice_set, list_any, cond-true, Log, ListsOnce, Has}
use Rattle.decode_order.proofs.Prelude.{Apart, Has-from_Contains, Has-append_front, Has-append_back, Has-append_cases, Apart-not_both, any_from, node_of, first_early, Has_get, once_apart, front_more, rest_from, around}
use Rattle.serializability.specs.Reads.{IsNumbered}
use Rattle.decode_order.proofs.Early.{early_further}
use Rattle.serializability.proofs.Timed.{is_early, earlier_both}
use Rattle.decode_order.proofs.Marks.{Marked, marked_more}

-- with a node of the line, the node before it in its session is there
pub record FromStart (session : ℕ → ℕ) (line : List ℕ) : Type 0 where
  pub previous : (v : ℕ) → 0 < v → Has (v + 1) line → session v ≡ session (v + 1) → Has v line

-- and so is each earlier one
descend : (session : ℕ → ℕ) (line : List ℕ) → FromStart session line → (u d : ℕ) → 0 < u → ((k : ℕ) → u ≤ k → k ≤ u + d → session k ≡ session u) → Has (u + d) line → Has u line
descend session line s u zero lo same h = let e : u + 0 ≡ u = omega arith in subst (λ k. Has k line) e h
descend session line s u (suc d) lo same h =
    let e : u + suc d ≡ u + d + 1 = omega arith in
    let top : session (u + d + 1) ≡ session u = same (u + d + 1) (omega arith) (omega arith) in
    descend session line s u d lo (λ k a b. same k a (omega arith))
    (s.previous (u + d) (omega arith) (subst (λ k. Has k line) e h) (same (u + d) (omega arith) (omega arith) ∙ sym top))

-- nothing before place i stands before an earlier node of its session
pub record InTurnSoFar (log : Log) (order : List ℕ) (i : ℕ) (marks : List Bool) : Type 0 where
  pub front : Marked log.nodes (take i order) marks
  pub rest : first_early log.session order ≡ first_early log.session (drop i order)
  pub from_start : FromStart log.session (take i order)

-- one turn: the node at place i, of 1 to n
pub record Turn (log : Log) (order : List ℕ) (i v : ℕ) : Type 0 where
  pub once : ListsOnce log.nodes order
  pub there : i < length order
  pub here : get_or order i v ≡ v

pub turn_node : (log : Log) (order : List ℕ) (i v : ℕ) → Turn log order i v → (0 < v) × (v ≤ log.nodes)
turn_node log order i v t = node_of log.nodes order t.once v (subst (λ u. Has u order) t.here (Has_get order i v t.there))

-- no earlier node of its session comes behind v, where the node before it is no such node
none_behind : (log : Log) → IsNumbered log → (order : List ℕ) (i v : ℕ) (marks : List Bool) → Turn log order i v → InTurnSoFar log order i marks → (1 < v → log.session (v - 1) ≡ log.session v → get_or marks (v - 1) false ≡ true) → (u : ℕ) → Has u (drop (i + 1) order) → u < v → log.session u ≡ log.session v → ⊥
none_behind log num order i v marks t s passed u h lt same =
    let split = around order i v t.there t.here in
    let apart = subst Apart split (once_apart log.nodes order t.once) in
    let hi = (turn_node log order i v t).1 in
    let lo : 0 < u = (node_of log.nodes order t.once u (subst (Has u) (sym split) (Has-append_back u (take i order) (v ∷ drop (i + 1) order) (inr h)))).0 in
    let same_as : (k : ℕ) → u ≤ k → k ≤ v → log.session k ≡ log.session u = λ k a b. num.together u k v lo a b hi same ∙ sym same in
    let marked = passed (omega arith) (same_as (v - 1) (omega arith) (omega arith) ∙ same) in
    let before : Has (v - 1) (take i order) = s.front.marked (v - 1) (omega arith) marked in
    let d = v - 1 - u in
    let e : v - 1 ≡ u + d = omega arith in
    let there = descend log.session (take i order) s.from_start u d lo (λ k a b. same_as k a (omega (arith, e))) (subst (λ k. Has k (take i order)) e before) in
    Apart-not_both u (take i order) (v ∷ drop (i + 1) order) apart there (inr h)

pub in_turn_more : (log : Log) → IsNumbered log → (order : List ℕ) (i v : ℕ) (marks : List Bool) → Turn log order i v → InTurnSoFar log order i marks → (1 < v → log.session (v - 1) ≡ log.session v → get_or marks (v - 1) false ≡ true) → InTurnSoFar log order (i + 1) (slice_set marks v true)
in_turn_more log num order i v marks t s passed =
    let more = front_more order i v t.there t.here in
    let node = turn_node log order i v t in
    record {
      front = subst (λ l. Marked log.nodes l (slice_set marks v true)) (sym more) (marked_more log.nodes (take i order) marks v node.1 s.front);
      rest = s.rest ∙ ap (first_early log.session) (rest_from order i v t.there t.here)
          ∙ early_further log.session v (drop (i + 1) order) (none_behind log num order i v marks t s passed);
      from_start = record {
        previous = λ u lo h same. subst (Has u) (sym more) (Has-append_front u (take i order) (v ∷ [])
            (elim (Has-append_cases (u + 1) (take i order) (v ∷ []) (subst (Has (u + 1)) more h)) [
              | inl k ↦ s.from_start.previous u lo k same
              | inr k ↦ elim k [
                | inl e ↦
                    let at : u ≡ v - 1 = omega (arith, e) in
                    let marked = passed (omega (arith, lo, e)) (ap log.session (sym at) ∙ same ∙ ap log.session (sym e)) in
                    subst (λ w. Has w (take i order)) (sym at) (s.front.marked (v - 1) (omega (arith, node.1)) marked)
                | inr none ↦ absurd none
              ]
            ]));
      };
    }

-- v stands before the node before it, which is of its session
pub early_here : (log : Log) (order : List ℕ) (i v : ℕ) (marks : List Bool) → Turn log order i v → InTurnSoFar log order i marks → 1 < v → log.session (v - 1) ≡ log.session v → get_or marks (v - 1) false ≡ false → first_early log.session order ≡ Some v
early_here log order i v marks t s lo same new =
    let split = around order i v t.there t.here in
    let hi = (turn_node log order i v t).1 in
    let there : Has (v - 1) order = Has-from_Contains order (v - 1) (t.once.each (v - 1) (omega arith) (omega arith)) in
    let behind : Has (v - 1) (drop (i + 1) order) = elim (Has-append_cases (v - 1) (take i order) (v ∷ drop (i + 1) order) (subst (Has (v - 1)) split there)) [
      | inl k ↦ absurd (s.front.unmarked (v - 1) (omega arith) new k)
      | inr k ↦ elim k [ inl e ↦ absurd (omega (arith, e, lo)) | inr b ↦ b ]
    ] in
    s.rest ∙ ap (first_early log.session) (rest_from order i v t.there t.here)
    ∙ cond-true (list_any (λ u. is_early log.session u v) (drop (i + 1) order)) (Some v) (first_early log.session (drop (i + 1) order))
    (any_from (λ u. is_early log.session u v) (drop (i + 1) order) (v - 1) (earlier_both log.session (v - 1) v (omega arith) same) behind)
