-- The first read in replay that does not meet the map.
use Rattle.decode_order.proofs.Prelude.{◌≡◌, ℕ, ◌+◌, ◌<◌, Bool, true, false, cond, List, [], ◌∷◌, ◌++◌, length, get_or, take, drop, Option, Some, None, refl, sym, ap, ◌∙◌, inl, inr, eqb-true, eq-eqb, map, flat_map, option_or, cases_Bool}
use Rattle.decode_order.proofs.Prelude.{cond-true, at_drop_more, map-append, take_more, Event, Store, empty, after, Meets, PlacedOp, placed_from, in_replay, held, meets, first_mismatch, rest_from}
use Rattle.serializability.specs.declared.event.Event.TheVariants.{Read, Write}
use Rattle.serializability.proofs.Replays.{after-append}

abbrev pub ops_of : List PlacedOp → List Event
ops_of ps = map (λ (p : PlacedOp). p.op) ps

-- ---- nothing mismatches exactly where each read is met
none_parts : (t : Bool) (p : ℕ × ℕ) (rest : Option (ℕ × ℕ)) → cond t rest (Some p) ≡ None → (t ≡ true) × (rest ≡ None)
none_parts true p rest e = (refl, e)
none_parts false p rest e = cc

met_first : (store : Store) (op : Event) (ops : List Event) → meets store op ≡ true → Meets (after store (op ∷ [])) ops → Meets store (op ∷ ops)
met_first store (Read x w) ops t h = (eqb-true (store x) w t, h)
met_first store (Write x w) ops t h = h

first_met : (store : Store) (op : Event) (ops : List Event) → Meets store (op ∷ ops) → (meets store op ≡ true) × Meets (after store (op ∷ [])) ops
first_met store (Read x w) ops h = (eq-eqb (store x) w h.0, h.1)
first_met store (Write x w) ops h = (refl, h)

pub meets_all : (store : Store) (ps : List PlacedOp) → first_mismatch store ps ≡ None → Meets store (ops_of ps)
meets_all store [] e = tt
meets_all store (p ∷ ps) e =
    let parts = none_parts (meets store p.op) (p.node, p.number) (first_mismatch (after store (p.op ∷ [])) ps) e in
    met_first store p.op (ops_of ps) parts.0 (meets_all (after store (p.op ∷ [])) ps parts.1)

pub no_mismatch : (store : Store) (ps : List PlacedOp) → Meets store (ops_of ps) → first_mismatch store ps ≡ None
no_mismatch store [] h = refl
no_mismatch store (p ∷ ps) h =
    let parts = first_met store p.op (ops_of ps) h in
    cond-true (meets store p.op) (first_mismatch (after store (p.op ∷ [])) ps) (Some (p.node, p.number)) parts.0 ∙ no_mismatch (after store (p.op ∷ [])) ps parts.1

-- ---- the operations of a replay
ops-placed : (v k : ℕ) (ops : List Event) → ops_of (placed_from v k ops) ≡ ops
ops-placed v k [] = refl
ops-placed v k (op ∷ ops) = ap (λ l. op ∷ l) (ops-placed v (k + 1) ops)

pub ops-in_replay : (ops : ℕ → List Event) (order : List ℕ) → ops_of (in_replay ops order) ≡ flat_map ops order
ops-in_replay ops [] = refl
ops-in_replay ops (v ∷ order) =
    map-append (λ (p : PlacedOp). p.op) (placed_from v 1 (ops v)) (in_replay ops order)
    ∙ ap (λ l. l ++ ops_of (in_replay ops order)) (ops-placed v 1 (ops v))
    ∙ ap (λ l. ops v ++ l) (ops-in_replay ops order)

-- ---- one node after the other
mismatch-met : (store : Store) (p : PlacedOp) (ps : List PlacedOp) → meets store p.op ≡ true → first_mismatch store (p ∷ ps) ≡ first_mismatch (after store (p.op ∷ [])) ps
mismatch-met store p ps t = cond-true (meets store p.op) (first_mismatch (after store (p.op ∷ [])) ps) (Some (p.node, p.number)) t

mismatch-append : (store : Store) (a b : List PlacedOp) → first_mismatch store (a ++ b) ≡ option_or (first_mismatch store a) (first_mismatch (after store (ops_of a)) b)
mismatch-append store [] b = refl
mismatch-append store (p ∷ a) b = elim (cases_Bool (meets store p.op)) [
  | inl t ↦ rw (t, after-append store (p.op ∷ []) (ops_of a)) (mismatch-append (after store (p.op ∷ [])) a b)
  | inr f ↦ rw f refl
]

-- the operations of one node so far
pub record ReplayedSoFar (old : List ℕ) (events : List Event) (i : ℕ) (store : List ℕ) : Type 0 where
  pub room : length store ≡ length old
  pub holds : held store ≡ after (held old) (take i events)
  pub rest : (v : ℕ) → first_mismatch (held old) (placed_from v 1 events) ≡ first_mismatch (held store) (placed_from v (i + 1) (drop i events))

-- one operation more
pub replayed_more : (old : List ℕ) (events : List Event) (i : ℕ) (store new : List ℕ) (d : Event) → i < length events → length new ≡ length store → meets (held store) (get_or events i d) ≡ true → held new ≡ after (held store) (get_or events i d ∷ []) → ReplayedSoFar old events i store → ReplayedSoFar old events (i + 1) new
replayed_more old events i store new d lt long t h r =
    let op = get_or events i d in
    record {
      room = long ∙ r.room;
      holds = h ∙ ap (λ s. after s (op ∷ [])) r.holds ∙ sym (after-append (held old) (take i events) (op ∷ []))
          ∙ ap (after (held old)) (sym (take_more events i d lt));
      rest = λ v. r.rest v ∙ ap (first_mismatch (held store)) (at_drop_more (placed_from v (i + 1)) events i d lt)
          ∙ mismatch-met (held store) (record { node = v; number = i + 1; op = op }) (placed_from v (i + 1 + 1) (drop (i + 1) events)) t
          ∙ ap (λ s. first_mismatch s (placed_from v (i + 1 + 1) (drop (i + 1) events))) (sym h);
    }

-- the nodes so far
pub record NodesReplayed (ops : ℕ → List Event) (order : List ℕ) (i keys : ℕ) (store : List ℕ) : Type 0 where
  pub room : length store ≡ keys
  pub rest : first_mismatch empty (in_replay ops order) ≡ first_mismatch (held store) (in_replay ops (drop i order))

in_replay_here : (ops : ℕ → List Event) (order : List ℕ) (i v : ℕ) → i < length order → v ≡ get_or order i v → in_replay ops (drop i order) ≡ placed_from v 1 (ops v) ++ in_replay ops (drop (i + 1) order)
in_replay_here ops order i v lt e = ap (in_replay ops) (rest_from order i v lt (sym e))

pub nodes_more : (ops : ℕ → List Event) (order : List ℕ) (i v keys : ℕ) (store new : List ℕ) → i < length order → v ≡ get_or order i v → length new ≡ length store → first_mismatch (held store) (placed_from v 1 (ops v)) ≡ None → held new ≡ after (held store) (ops v) → NodesReplayed ops order i keys store → NodesReplayed ops order (i + 1) keys new
nodes_more ops order i v keys store new lt e long none h r = record {
  room = long ∙ r.room;
  rest = r.rest ∙ ap (first_mismatch (held store)) (in_replay_here ops order i v lt e)
      ∙ mismatch-append (held store) (placed_from v 1 (ops v)) (in_replay ops (drop (i + 1) order))
      ∙ ap (λ o. option_or o (first_mismatch (after (held store) (ops_of (placed_from v 1 (ops v)))) (in_replay ops (drop (i + 1) order)))) none
      ∙ ap (λ s. first_mismatch s (in_replay ops (drop (i + 1) order))) (ap (after (held store)) (ops-placed v 1 (ops v)) ∙ sym h);
}

pub node_mismatch : (ops : ℕ → List Event) (order : List ℕ) (i v keys : ℕ) (store : List ℕ) (p : ℕ × ℕ) → i < length order → v ≡ get_or order i v → first_mismatch (held store) (placed_from v 1 (ops v)) ≡ Some p → NodesReplayed ops order i keys store → first_mismatch empty (in_replay ops order) ≡ Some p
node_mismatch ops order i v keys store p lt e found r =
    r.rest ∙ ap (first_mismatch (held store)) (in_replay_here ops order i v lt e)
    ∙ mismatch-append (held store) (placed_from v 1 (ops v)) (in_replay ops (drop (i + 1) order))
    ∙ ap (λ o. option_or o (first_mismatch (after (held store) (ops_of (placed_from v 1 (ops v)))) (in_replay ops (drop (i + 1) order)))) found
