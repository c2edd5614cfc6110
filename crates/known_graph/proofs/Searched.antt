-- How far a search has come, and what it says at its end.
use Rattle.known_graph.proofs.Prelude.{◌≡◌, ◌≢◌, ◌↔◌, ℕ, zero, suc, ◌+◌, ◌-◌, ◌*◌, ◌/◌, ◌<◌, ◌≤◌, Bool, true, false, eqb, ◌||◌, ◌&&◌, List, [], ◌∷◌, ◌++◌, length, refl, sym, ap, ◌∙◌, subst, inl, inr, arith, length-append, eqb-true, eq-eqb}
use Rattle.known_graph.proofs.Prelude.{Contains, range_with_len, map, not, cases_lt, cases_Bool, false≢true, or_cases, or_left, or_right, length-map, map-append, Edge, Has, Apart, Has-from_Contains, Contains-from_Has, Has-append_front}
use Rattle.known_graph.proofs.Prelude.{Has-append_back, Has-append_cases, Apart-from_IsDistinct, Apart-append, Graph, Walk, Reaches, Reached, bit_of, reached_from, fresh_numbers, node_at, from_at, IsTree}
use Rattle.std.proofs.Math.ListN.{get_or-append}
use Rattle.std.proofs.Math.Seq.{get_or-append_right}
use Rattle.std.proofs.lemmas.Bool.Decides.{Decides-eqb}
use Rattle.std.proofs.lemmas.List.Kept.{AllPairs-filter}
use Rattle.std.proofs.lemmas.Map.Made.{AllPairs-from_IsDistinct, IsDistinct-from_AllPairs}
use Rattle.std.proofs.lemmas.Map.Steps.{length-le_from_distinct_below}
use Rattle.serializability.proofs.Listed.{Has-from_any, IsDistinct-from_Apart, Apart_range}
use Rattle.known_graph.proofs.Listed.{In-from_Contains, Contains-from_In, In-of_filter, In-filter, In-range}
use Rattle.known_graph.proofs.Words.{bit_of-past}

-- ---- the found nodes
abbrev pub nodes_of : List Reached → List ℕ
nodes_of found = map (λ r. r.node) found

nodes-reached_from : (place : ℕ) (ws : List ℕ) → nodes_of (reached_from place ws) ≡ ws
nodes-reached_from place [] = refl
nodes-reached_from place (w ∷ ws) = ap (λ l. w ∷ l) (nodes-reached_from place ws)

nodes-append : (place : ℕ) (found : List Reached) (ws : List ℕ) → nodes_of (found ++ reached_from place ws) ≡ nodes_of found ++ ws
nodes-append place found ws =
    map-append (λ (r : Reached). r.node) found (reached_from place ws) ∙ ap (λ l. nodes_of found ++ l) (nodes-reached_from place ws)

place_of_node : (found : List Reached) (w : ℕ) → Has w (nodes_of found) → (k : ℕ) × ((k < length found) × (node_at found k ≡ w))
place_of_node [] w h = absurd h
place_of_node (r ∷ found) w (inl e) = (0, (omega arith, e))
place_of_node (r ∷ found) w (inr h) = let p = place_of_node found w h in (suc p.0, (omega (arith, p.1.0), p.1.1))

Has_at_place : (found : List Reached) (k : ℕ) → k < length found → Has (node_at found k) (nodes_of found)
Has_at_place [] k h = absurd (omega arith)
Has_at_place (r ∷ found) zero h = inl refl
Has_at_place (r ∷ found) (suc k) h = inr (Has_at_place found k (omega arith))

reached_at : (place : ℕ) (ws : List ℕ) (j : ℕ) → j < length ws → (from_at (reached_from place ws) j ≡ place) × Has (node_at (reached_from place ws) j) ws
reached_at place [] j h = absurd (omega arith)
reached_at place (w ∷ ws) zero h = (refl, inl refl)
reached_at place (w ∷ ws) (suc j) h = let r = reached_at place ws j (omega arith) in (r.0, inr r.1)

-- ---- the fresh nodes of a row
pub record IsFresh (row seen : List ℕ) (w : ℕ) : Type 0 where
  pub edge : bit_of row w ≡ true
  pub unseen : bit_of seen w ≡ false

and_parts : (a b : Bool) → (a && not b) ≡ true → (a ≡ true) × (b ≡ false)
and_parts true true e = absurd (false≢true e)
and_parts true false e = (refl, refl)
and_parts false b e = absurd (false≢true e)

fresh_is : (row seen : List ℕ) (w : ℕ) → Has w (fresh_numbers row seen) → IsFresh row seen w
unfolding fresh_numbers
fresh_is row seen w h =
    let all = range_with_len 0 (length row * 64) in
    let r = In-of_filter (λ v. bit_of row v && not (bit_of seen v)) w all (In-from_Contains (fresh_numbers row seen) w (Contains-from_Has (fresh_numbers row seen) w h)) in
    let p = and_parts (bit_of row w) (bit_of seen w) r.1 in
    record { edge = p.0; unseen = p.1 }

fresh_apart : (row seen : List ℕ) → Apart (fresh_numbers row seen)
unfolding fresh_numbers
fresh_apart row seen =
    let all = range_with_len 0 (length row * 64) in
    let apart = AllPairs-from_IsDistinct Decides-eqb all (IsDistinct-from_Apart all (Apart_range 0 (length row * 64))) in
    let kept = AllPairs-filter (λ x y. x ≢ y) (λ v. bit_of row v && not (bit_of seen v)) all apart in
    Apart-from_IsDistinct (fresh_numbers row seen) (IsDistinct-from_AllPairs Decides-eqb (fresh_numbers row seen) kept)

pub bit_within : (words : List ℕ) (k : ℕ) → bit_of words k ≡ true → k / 64 < length words
bit_within words k t = elim (cases_lt (k / 64) (length words)) [
  | inl lt ↦ lt
  | inr ge ↦ absurd (false≢true (sym (bit_of-past words k ge) ∙ t))
]

Has-fresh : (row seen : List ℕ) (w : ℕ) → bit_of row w ≡ true → bit_of seen w ≡ false → Has w (fresh_numbers row seen)
unfolding fresh_numbers
Has-fresh row seen w t f =
    let small = bit_within row w t in
    let there = In-range w 0 (length row * 64) (omega arith) (omega (arith, small)) in
    let passes = ap (λ b. b && not (bit_of seen w)) t ∙ ap not f in
    Has-from_Contains (fresh_numbers row seen) w (Contains-from_In (fresh_numbers row seen) w (In-filter (λ v. bit_of row v && not (bit_of seen v)) w (range_with_len 0 (length row * 64)) there passes))

-- ---- a search
-- The nodes before a place have been passed: their edges lead to nodes that were seen, and none leads to v.
pub record IsSearched (g : Graph) (u v : ℕ) (found : List Reached) (marks : List ℕ) (place : ℕ) : Type 0 where
  pub count : place ≤ length found
  pub some : 0 < length found
  pub start : node_at found 0 ≡ u
  pub tree : IsTree g.edges found
  pub below : (w : ℕ) → Has w (nodes_of found) → w ≤ g.nodes
  pub seen : (w : ℕ) → bit_of marks w ≡ true → Has w (nodes_of found)
  pub marked : (w : ℕ) → Has w (nodes_of found) → bit_of marks w ≡ true
  pub apart : Apart (nodes_of found)
  pub passed : (k w : ℕ) → k < place → Contains g.edges (node_at found k, w) → (bit_of marks w ≡ true) × (w ≢ v)

node_kept : (found more : List Reached) (k : ℕ) → k < length found → node_at (found ++ more) k ≡ node_at found k
node_kept found more k h = ap (λ (r : Reached). r.node) (get_or-append found more (record { node = 0; from = 0 }) k h)

from_kept : (found more : List Reached) (k : ℕ) → k < length found → from_at (found ++ more) k ≡ from_at found k
from_kept found more k h = ap (λ (r : Reached). r.from) (get_or-append found more (record { node = 0; from = 0 }) k h)

node_added : (found more : List Reached) (k : ℕ) → length found ≤ k → node_at (found ++ more) k ≡ node_at more (k - length found)
node_added found more k h = ap (λ (r : Reached). r.node) (get_or-append_right found more k (record { node = 0; from = 0 }) h)

from_added : (found more : List Reached) (k : ℕ) → length found ≤ k → from_at (found ++ more) k ≡ from_at more (k - length found)
from_added found more k h = ap (λ (r : Reached). r.from) (get_or-append_right found more k (record { node = 0; from = 0 }) h)

-- what is known of a place of the longer list
record Grown (edges : List Edge) (found : List Reached) (k : ℕ) : Type 0 where
  pub earlier : from_at found k < k
  pub edge : Contains edges (node_at found (from_at found k), node_at found k)

tree_grown : (edges : List Edge) (found : List Reached) (place : ℕ) (ws : List ℕ) → IsTree edges found → place < length found → ((w : ℕ) → Has w ws → Contains edges (node_at found place, w)) → (k : ℕ) → 0 < k → k < length (found ++ reached_from place ws) → Grown edges (found ++ reached_from place ws) k
tree_grown edges found place ws tree within each k lo hi = elim (cases_lt k (length found)) [
  | inl old ↦
      let all = found ++ reached_from place ws in
      let f = from_kept found (reached_from place ws) k old in
      let less = tree.earlier k lo old in
      let a : node_at all (from_at all k) ≡ node_at found (from_at found k) = ap (node_at all) f ∙ node_kept found (reached_from place ws) (from_at found k) (omega (arith, less, old)) in
      let b = node_kept found (reached_from place ws) k old in
      record {
        earlier = omega (arith, f, less);
        edge = subst (λ x. Contains edges (x, node_at all k)) (sym a) (subst (λ y. Contains edges (node_at found (from_at found k), y)) (sym b) (tree.edge k lo old));
      }
  | inr new ↦
      let all = found ++ reached_from place ws in
      let j = k - length found in
      let more : length (found ++ reached_from place ws) ≡ length found + length ws = length-append found (reached_from place ws) ∙ ap (λ n. length found + n) (length-map ws (λ v. (let r : Reached = record { node = v; from = place } in r))) in
      let at = reached_at place ws j (omega (arith, more, hi, new)) in
      let f : from_at all k ≡ place = from_added found (reached_from place ws) k new ∙ at.0 in
      let a : node_at all (from_at all k) ≡ node_at found place = ap (node_at all) f ∙ node_kept found (reached_from place ws) place within in
      let b = node_added found (reached_from place ws) k new in
      record {
        earlier = omega (arith, f, within, new);
        edge = subst (λ x. Contains edges (x, node_at all k)) (sym a) (subst (λ y. Contains edges (node_at found place, y)) (sym b) (each (node_at (reached_from place ws) j) at.1));
      }
]

-- one more node is passed
pub record Passing (g : Graph) (v here : ℕ) (marks words after : List ℕ) : Type 0 where
  pub joined : (w : ℕ) → Contains g.edges (here, w) → w ≤ g.nodes
  pub row : (w : ℕ) → ((bit_of words w ≡ true) ↔ Contains g.edges (here, w))
  pub apart : Contains g.edges (here, v) → ⊥
  pub seen : (w : ℕ) → bit_of after w ≡ (bit_of marks w || bit_of words w)

searched_more : (g : Graph) (u v : ℕ) (found : List Reached) (seen row after : List ℕ) (place : ℕ) → IsSearched g u v found seen place → place < length found → Passing g v (node_at found place) seen row after → IsSearched g u v (found ++ reached_from place (fresh_numbers row seen)) after (place + 1)
searched_more g u v found seen row after place s within p =
    let ws = fresh_numbers row seen in
    let more = reached_from place ws in
    let names = nodes-append place found ws in
    let grown = tree_grown g.edges found place ws s.tree within (λ w h. (p.row w).0 (fresh_is row seen w h).edge) in
    let to_both : (w : ℕ) → Has w (nodes_of (found ++ more)) → Has w (nodes_of found ++ ws) = λ w h. subst (Has w) names h in
    let from_both : (w : ℕ) → Has w (nodes_of found ++ ws) → Has w (nodes_of (found ++ more)) = λ w h. subst (Has w) (sym names) h in
    record {
      count = omega (arith, within, length-append found more);
      some = omega (arith, within, length-append found more);
      start = node_kept found more 0 s.some ∙ s.start;
      tree = record { earlier = λ k lo hi. (grown k lo hi).earlier; edge = λ k lo hi. (grown k lo hi).edge };
      below = λ w h. elim (Has-append_cases w (nodes_of found) ws (to_both w h)) [
        | inl old ↦ s.below w old
        | inr new ↦ p.joined w ((p.row w).0 (fresh_is row seen w new).edge)
      ];
      seen = λ w t. elim (cases_Bool (bit_of seen w)) [
        | inl old ↦ from_both w (Has-append_front w (nodes_of found) ws (s.seen w old))
        | inr none ↦ elim (or_cases (bit_of seen w) (bit_of row w) (sym (p.seen w) ∙ t)) [
          | inl old ↦ absurd (false≢true (sym none ∙ old))
          | inr new ↦ from_both w (Has-append_back w (nodes_of found) ws (Has-fresh row seen w new none))
        ]
      ];
      marked = λ w h. p.seen w ∙ elim (Has-append_cases w (nodes_of found) ws (to_both w h)) [
        | inl old ↦ or_left (bit_of seen w) (bit_of row w) (s.marked w old)
        | inr new ↦ or_right (bit_of seen w) (bit_of row w) (fresh_is row seen w new).edge
      ];
      apart = subst Apart (sym names) (Apart-append (nodes_of found) ws s.apart (fresh_apart row seen) (λ w i j. false≢true (sym (fresh_is row seen w j).unseen ∙ s.marked w i)));
      passed = λ k w h c. elim (cases_lt k place) [
        | inl before ↦
            let old = s.passed k w before (subst (λ x. Contains g.edges (x, w)) (node_kept found more k (omega (arith, before, within))) c) in
            (p.seen w ∙ or_left (bit_of seen w) (bit_of row w) old.0, old.1)
        | inr here ↦
            let same : k ≡ place = omega (arith, here, h) in
            let edge : Contains g.edges (node_at found place, w) = subst (λ x. Contains g.edges (x, w)) (ap (node_at (found ++ more)) same ∙ node_kept found more place within) c in (
              p.seen w ∙ or_right (bit_of seen w) (bit_of row w) ((p.row w).1 edge),
              λ bad. p.apart (subst (λ y. Contains g.edges (node_at found place, y)) bad edge),
            )
      ];
    }

pub searched_next : (g : Graph) (u v : ℕ) (found next : List Reached) (seen row after : List ℕ) (place : ℕ) → IsSearched g u v found seen place → place < length found → Passing g v (node_at found place) seen row after → next ≡ found ++ reached_from place (fresh_numbers row seen) → IsSearched g u v next after (place + 1)
searched_next g u v found next seen row after place s within p e =
    subst (λ l. IsSearched g u v l after (place + 1)) (sym e) (searched_more g u v found seen row after place s within p)

pub searched_none : (g : Graph) (u v : ℕ) (seen : List ℕ) → u ≤ g.nodes → ((w : ℕ) → bit_of seen w ≡ eqb w u) → IsSearched g u v (record { node = u; from = 0 } ∷ []) seen 0
searched_none g u v seen hu bits = record {
  count = omega arith;
  some = omega arith;
  start = refl;
  tree = record { earlier = λ k lo hi. absurd (omega arith); edge = λ k lo hi. absurd (omega arith) };
  below = λ w h. elim h [ inl e ↦ omega (arith, e, hu) | inr k ↦ absurd k ];
  seen = λ w t. inl (sym (eqb-true w u (sym (bits w) ∙ t)));
  marked = λ w h. elim h [ inl e ↦ bits w ∙ eq-eqb w u (sym e) | inr k ↦ absurd k ];
  apart = (λ k. k, tt);
  passed = λ k w h c. absurd (omega arith);
}

-- there is no more to find than there are nodes
pub searched_count : (g : Graph) (u v : ℕ) (found : List Reached) (seen : List ℕ) (place : ℕ) → IsSearched g u v found seen place → length found ≤ g.nodes + 1
searched_count g u v found seen place s =
    let few = length-le_from_distinct_below (nodes_of found) (g.nodes + 1) (IsDistinct-from_Apart (nodes_of found) s.apart) (λ w t. omega (arith, s.below w (Has-from_any w (nodes_of found) t))) in
    omega (arith, few, length-map found (λ (r : Reached). r.node))

-- where each found node is passed, v is not reached
not_reached : (g : Graph) (u v : ℕ) (found : List Reached) (seen : List ℕ) (place : ℕ) → IsSearched g u v found seen place → length found ≤ place → (ws : List ℕ) (x : ℕ) → Has x (nodes_of found) → Walk g.edges x ws v → ⊥
not_reached g u v found seen place s end [] x h w =
    let k = place_of_node found x h in
    (s.passed k.0 v (omega (arith, k.1.0, end)) (subst (λ y. Contains g.edges (y, v)) (sym k.1.1) w)).1 refl
not_reached g u v found seen place s end (y ∷ ws) x h w =
    let k = place_of_node found x h in
    let next = s.passed k.0 y (omega (arith, k.1.0, end)) (subst (λ z. Contains g.edges (z, y)) (sym k.1.1) w.0) in
    not_reached g u v found seen place s end ws y (s.seen y next.0) w.1

pub searched_all : (g : Graph) (u v : ℕ) (found : List Reached) (seen : List ℕ) (place : ℕ) → IsSearched g u v found seen place → length found ≤ place → Reaches g.edges u v → ⊥
searched_all g u v found seen place s end r =
    not_reached g u v found seen place s end r.0 u (subst (λ x. Has x (nodes_of found)) s.start (Has_at_place found 0 s.some)) r.1

pub below_at : (g : Graph) (u v : ℕ) (found : List Reached) (seen : List ℕ) (place : ℕ) → IsSearched g u v found seen place → (k : ℕ) → k < length found → node_at found k ≤ g.nodes
below_at g u v found seen place s k h = s.below (node_at found k) (Has_at_place found k h)
