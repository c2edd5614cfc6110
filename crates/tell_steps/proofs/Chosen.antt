-- The orders of the choices between chains.
use Rattle.tell_steps.proofs.Prelude.{◌≡◌, ℕ, ◌+◌, ◌<◌, ◌≤◌, true, List, [], ◌∷◌, ◌++◌, refl, sym, ap, ◌∙◌, subst, arith, map, flat_map, AllByRecursion, All, Contains, map-append, All-from_recursion, Log, all_keys, committed}
use Rattle.tell_steps.proofs.Prelude.{each_from_range, each_from_map, each_from_flat_map, so_far, In-filter, In-range, Contains-from_In, heads, is_head, chain_choice, chain_choices, chain_from, chains_in, ChainOrder, turned, IsOrder}
use Rattle.tell_steps.proofs.Prelude.{choice_of, order_to, orders_among, orders_in}
use Rattle.serializability.specs.Pairs.{pairs_of}
use Rattle.serializability.proofs.EachPair.{each_pair_from}

abbrev pub of_key : Log → ℕ → List ChainOrder
of_key log x = orders_among x (chains_in log x)

pub orders_are : (log : Log) (k : ℕ) → k ≡ log.keys → so_far (of_key log) k ≡ orders_in log
unfolding orders_in
orders_are log k e = ap (so_far (of_key log)) e

-- ---- orders by pairs of heads
abbrev pub order_of : ℕ → ℕ × ℕ → ChainOrder
order_of x p = record { key = x; first = p.0; second = p.1 }

with_each : (log : Log) (x a : ℕ) (hs : List ℕ) → map (order_to x a) (map (chain_from log x) hs) ≡ map (order_of x) (map (λ b. (a, b)) hs)
with_each log x a [] = refl
with_each log x a (b ∷ hs) = ap (λ l. order_of x (a, b) ∷ l) (with_each log x a hs)

among_heads : (log : Log) (x : ℕ) (hs : List ℕ) → orders_among x (map (chain_from log x) hs) ≡ map (order_of x) (pairs_of hs)
among_heads log x [] = refl
among_heads log x (a ∷ hs) =
    ap (λ l. l ++ orders_among x (map (chain_from log x) hs)) (with_each log x a hs)
    ∙ ap (λ l. map (order_of x) (map (λ b. (a, b)) hs) ++ l) (among_heads log x hs)
    ∙ sym (map-append (order_of x) (map (λ b. (a, b)) hs) (pairs_of hs))

-- ---- the choice of an order
of_pairs : (log : Log) (x : ℕ) (ps : List (ℕ × ℕ)) → map (choice_of log) (map (order_of x) ps) ≡ map (chain_choice log x) ps
of_pairs log x [] = refl
of_pairs log x (p ∷ ps) = ap (λ l. chain_choice log x p ∷ l) (of_pairs log x ps)

of_keys : (log : Log) (xs : List ℕ) → map (choice_of log) (flat_map (of_key log) xs) ≡ flat_map (λ x. map (chain_choice log x) (pairs_of (heads log x))) xs
of_keys log [] = refl
of_keys log (x ∷ xs) =
    map-append (choice_of log) (of_key log x) (flat_map (of_key log) xs)
    ∙ ap (λ l. l ++ map (choice_of log) (flat_map (of_key log) xs)) (ap (map (choice_of log)) (among_heads log x (heads log x)) ∙ of_pairs log x (pairs_of (heads log x)))
    ∙ ap (λ l. map (chain_choice log x) (pairs_of (heads log x)) ++ l) (of_keys log xs)

pub choices_are : (log : Log) → map (choice_of log) (orders_in log) ≡ chain_choices log
unfolding orders_in
choices_are log = of_keys log (all_keys log)

-- ---- each is an order of two chains
head_in : (log : Log) (x u : ℕ) → 1 ≤ u → u < 1 + log.nodes → is_head log x u ≡ true → Contains (heads log x) u
head_in log x u lo hi t = Contains-from_In (heads log x) u (In-filter (is_head log x) u (committed log) (In-range u 1 log.nodes lo hi) t)

pair_order : (log : Log) (x : ℕ) → x < log.keys → (u v : ℕ) → 1 ≤ u → u < v → v < 1 + log.nodes → is_head log x u ≡ true → is_head log x v ≡ true → IsOrder log (order_of x (u, v))
pair_order log x key u v lo lt hi pu pv = record {
  key_of = key;
  one = head_in log x u lo (omega arith) pu;
  two = head_in log x v (omega arith) hi pv;
  apart = λ e. omega (arith, e);
}

key_orders : (log : Log) (x : ℕ) → x < log.keys → AllByRecursion (IsOrder log) (of_key log x)
key_orders log x key =
    subst (AllByRecursion (IsOrder log)) (sym (among_heads log x (heads log x)))
    (each_from_map (IsOrder log) (order_of x) (pairs_of (heads log x))
    (each_pair_from (λ p. IsOrder log (order_of x p)) (is_head log x) 1 log.nodes (λ u v lo lt hi pu pv. pair_order log x key u v lo lt hi pu pv)))

pub all_orders : (log : Log) → All (IsOrder log) (orders_in log)
unfolding orders_in
all_orders log =
    All-from_recursion (IsOrder log) (flat_map (of_key log) (all_keys log))
    (each_from_flat_map (IsOrder log) (of_key log) (all_keys log)
    (each_from_range (λ x. AllByRecursion (IsOrder log) (of_key log x)) 0 log.keys (λ x lo hi. key_orders log x (omega arith))))

pub turned_order : (log : Log) (o : ChainOrder) → IsOrder log o → IsOrder log (turned o)
turned_order log o h = record { key_of = h.key_of; one = h.two; two = h.one; apart = λ e. h.apart (sym e) }
