-- The edges of chains join different nodes of the log.
use Rattle.coalesce.proofs.Prelude.{◌≡◌, ◌≢◌, ◌⊎◌, ℕ, zero, suc, ◌+◌, ◌<◌, ◌≤◌, true, eqb, List, [], ◌∷◌, Option, None, Some, refl, sym, ap, ◌∙◌, subst, inl, inr, arith, eq-eqb, map, not, filter, flat_map, AllByRecursion, Log, pairs_of}
use Rattle.coalesce.proofs.Prelude.{source, all_keys, all_nodes, each_from_range, each_from_filter, each_from_map, each_from_flat_map, next, tail_from, tail, readers, heads, is_head, edges_to, chain_first, chain_choice, chain_choices}
use Rattle.coalesce.proofs.Prelude.{inner_at, inner_edges, head_parts, none_some, each_from_readers, Joins, JoinsBoth}
use Rattle.std.proofs.lemmas.Bool.{false≢true}
use Rattle.serializability.proofs.Serial.{some_cases}
use Rattle.serializability.proofs.EachPair.{each_pair_from}
use Rattle.chain_laws.proofs.Walks.{next_is, step_some, step_none}

-- ---- tails
-- a tail is the head of its chain, or reads the key
record TailOf (log : Log) (x w t : ℕ) : Type 0 where
  pub kind : (t ≡ w) ⊎ ((u : ℕ) × (source log t x ≡ Some u))
  pub within : t ≤ log.nodes

tail_kind : (log : Log) (x f w : ℕ) → w ≤ log.nodes → TailOf log x w (tail_from log x f w)
tail_kind log x zero w hi = record { kind = inl refl; within = hi }
tail_kind log x (suc f) w hi = elim (some_cases (next log x w)) [
  | inl none ↦ subst (TailOf log x w) (sym (step_none log x f w none)) (record { kind = inl refl; within = hi })
  | inr some ↦
      let n = next_is log x w some.0 some.1 in
      let t = tail_kind log x f some.0 n.high in
      subst (TailOf log x w) (sym (step_some log x f w some.0 some.1)) (record {
        kind = elim t.kind [
          | inl same ↦ inr (w, subst (λ s. source log s x ≡ Some w) (sym same) n.from)
          | inr reads ↦ inr reads
        ];
        within = t.within;
      })
]

-- ---- from one chain to another
edges_joined : (n t b : ℕ) (rs : List ℕ) → Joins n (t, b) → AllByRecursion (λ r. Joins n (r, b)) rs → AllByRecursion (Joins n) (edges_to t b rs)
edges_joined n t b [] h k = (h, tt)
edges_joined n t b (r ∷ rs) h k = (k.0, each_from_map (Joins n) (λ q. (q, b)) rs k.1)

-- from the chain of head a to the head b
pub first_joined : (log : Log) (x a b : ℕ) → a ≤ log.nodes → a ≢ b → b ≤ log.nodes → source log b x ≡ None → AllByRecursion (Joins log.nodes) (chain_first log x a b)
first_joined log x a b ha ne hb none =
    let t = tail log x a in
    let kind = tail_kind log x log.nodes a ha in
    let apart : t ≢ b = λ e. elim kind.kind [
      | inl same ↦ ne (sym same ∙ e)
      | inr reads ↦ none_some (source log b x) reads.0 none (subst (λ v. source log v x ≡ Some reads.0) e reads.1)
    ] in
    edges_joined log.nodes t b (readers log x t) (record { from = kind.within; to = hb; apart = apart })
    (each_from_readers log x t (λ r. Joins log.nodes (r, b)) (λ r lo hi from. record {
      from = hi;
      to = hb;
      apart = λ e. none_some (source log b x) t none (subst (λ v. source log v x ≡ Some t) e from);
    }))

-- ---- all choices
choice_joined : (log : Log) (x u v : ℕ) → u ≤ log.nodes → v ≤ log.nodes → u < v → is_head log x u ≡ true → is_head log x v ≡ true → JoinsBoth log.nodes (chain_choice log x (u, v))
choice_joined log x u v hu hv lt pu pv = record {
  first = first_joined log x u v hu (λ e. omega (arith, e)) hv (head_parts log x v pv).none;
  second = first_joined log x v u hv (λ e. omega (arith, e)) hu (head_parts log x u pu).none;
}

pub key_joined : (log : Log) (x : ℕ) → AllByRecursion (JoinsBoth log.nodes) (map (chain_choice log x) (pairs_of (heads log x)))
key_joined log x =
    each_from_map (JoinsBoth log.nodes) (chain_choice log x) (pairs_of (heads log x))
    (each_pair_from (λ p. JoinsBoth log.nodes (chain_choice log x p)) (is_head log x) 1 log.nodes
    (λ u v lo lt hi pu pv. choice_joined log x u v (omega arith) (omega arith) lt pu pv))

pub choices_joined : (log : Log) → AllByRecursion (JoinsBoth log.nodes) (chain_choices log)
choices_joined log =
    each_from_flat_map (JoinsBoth log.nodes) (λ x. map (chain_choice log x) (pairs_of (heads log x))) (all_keys log)
    (each_from_range (λ x. AllByRecursion (JoinsBoth log.nodes) (map (chain_choice log x) (pairs_of (heads log x)))) 0 log.keys (λ x lo hi. key_joined log x))

-- ---- known edges
pub initial_joined : (log : Log) (x b : ℕ) → 0 < b → b ≤ log.nodes → is_head log x b ≡ true → AllByRecursion (Joins log.nodes) (chain_first log x 0 b)
initial_joined log x b lo hi p = first_joined log x 0 b (omega arith) (λ e. omega (arith, e)) hi (head_parts log x b p).none

inner_at_joined : (log : Log) (x w : ℕ) (o : Option ℕ) → next log x w ≡ o → AllByRecursion (Joins log.nodes) (inner_at log x w o)
inner_at_joined log x w None e = tt
inner_at_joined log x w (Some v) e =
    let n = next_is log x w v e in
    each_from_map (Joins log.nodes) (λ r. (r, v)) (filter (λ r. not (eqb r v)) (readers log x w))
    (each_from_filter (λ r. Joins log.nodes (r, v)) (λ r. not (eqb r v)) (readers log x w)
    (each_from_readers log x w (λ r. not (eqb r v) ≡ true → Joins log.nodes (r, v))
    (λ r lo hi from t. record { from = hi; to = n.high; apart = λ e. other r v e t })))
  where
    other : (r v : ℕ) → r ≡ v → not (eqb r v) ≡ true → ⊥
    other r v e t = false≢true (sym (ap not (eq-eqb r v e)) ∙ t)

pub inner_joined : (log : Log) → AllByRecursion (Joins log.nodes) (inner_edges log)
inner_joined log =
    each_from_flat_map (Joins log.nodes) (λ x. flat_map (λ w. inner_at log x w (next log x w)) (all_nodes log)) (all_keys log)
    (each_from_range (λ x. AllByRecursion (Joins log.nodes) (flat_map (λ w. inner_at log x w (next log x w)) (all_nodes log))) 0 log.keys (λ x lo hi.
    each_from_flat_map (Joins log.nodes) (λ w. inner_at log x w (next log x w)) (all_nodes log)
    (each_from_range (λ w. AllByRecursion (Joins log.nodes) (inner_at log x w (next log x w))) 0 (log.nodes + 1) (λ w lo' hi'. inner_at_joined log x w (next log x w) refl))))
