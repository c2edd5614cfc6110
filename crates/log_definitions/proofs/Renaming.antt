-- A replay on keys is one on their numbers.
use Rattle.log_definitions.proofs.Prelude.{◌≡◌, ℕ, cond, eqb, not, List, [], ◌∷◌, ◌++◌, refl, sym, ap, ◌∙◌, subst, ne_eqb, and_parts, and_from, not-true, not_from_false, eqb-false, flat_map, AllByRecursion, bytes_eq, map-append, is_earlier}
use Rattle.log_definitions.proofs.Prelude.{ClientSession, key_of, Op, Read, Write, Store, write, empty, Meets, IsSerial, each_from_flat_map, keys_in, Map, set, initial, Replays, ops_of, begun_of, ended_of, IsSerialOrder, number_in}
use Rattle.log_definitions.proofs.Prelude.{event_of, events_of, log_of}
use Rattle.log_definitions.proofs.Members.{each_member}
use Rattle.log_definitions.proofs.Keys.{Listed, all_listed, numbers_differ}
use Rattle.log_definitions.proofs.Nodes.{each_op}

-- the two maps have one identity for each key
abbrev Agrees : List (List ℕ) → Map → Store → Type 0
Agrees keys m s = (k : List ℕ) → Listed keys k → s (number_in keys k) ≡ m k

agrees_set : (keys : List (List ℕ)) (m : Map) (s : Store) (key : List ℕ) (wid : ℕ) → Listed keys key → Agrees keys m s → Agrees keys (set m key wid) (write s (number_in keys key) wid)
agrees_set keys m s key wid listed h k q =
    ap (λ b. cond b wid (s (number_in keys k))) (numbers_differ keys key k listed) ∙ ap (λ v. cond (bytes_eq key k) wid v) (h k q)

abbrev pub AllListed : List (List ℕ) → List Op → Type 0
AllListed keys ops = AllByRecursion (λ o. Listed keys (key_of o)) ops

meets_numbered : (keys : List (List ℕ)) (m : Map) (s : Store) (ops : List Op) → Agrees keys m s → AllListed keys ops → Replays m ops → Meets s (events_of keys ops)
meets_numbered keys m s [] h l r = tt
meets_numbered keys m s (Read key wid ∷ ops) h l r = (h key l.0 ∙ r.0, meets_numbered keys m s ops h l.1 r.1)
meets_numbered keys m s (Write key wid ∷ ops) h l r = meets_numbered keys (set m key wid) (write s (number_in keys key) wid) ops (agrees_set keys m s key wid l.0 h) l.1 r

replays_numbered : (keys : List (List ℕ)) (m : Map) (s : Store) (ops : List Op) → Agrees keys m s → AllListed keys ops → Meets s (events_of keys ops) → Replays m ops
replays_numbered keys m s [] h l r = tt
replays_numbered keys m s (Read key wid ∷ ops) h l r = (sym (h key l.0) ∙ r.0, replays_numbered keys m s ops h l.1 r.1)
replays_numbered keys m s (Write key wid ∷ ops) h l r = replays_numbered keys (set m key wid) (write s (number_in keys key) wid) ops (agrees_set keys m s key wid l.0 h) l.1 r

-- ---- of an order
ops_in_order : (keys : List (List ℕ)) (ops : ℕ → List Op) (order : List ℕ) → events_of keys (flat_map ops order) ≡ flat_map (λ v. events_of keys (ops v)) order
ops_in_order keys ops [] = refl
ops_in_order keys ops (v ∷ order) =
    map-append (event_of keys) (ops v) (flat_map ops order) ∙ ap (λ l. events_of keys (ops v) ++ l) (ops_in_order keys ops order)

order_listed : (ss : List ClientSession) (order : List ℕ) → AllListed (keys_in ss) (flat_map (ops_of ss) order)
order_listed ss order =
    let P : Op → Type 0 = λ o. Listed (keys_in ss) (key_of o) in
    each_from_flat_map P (ops_of ss) order (each_member (λ v. AllByRecursion P (ops_of ss v)) order (λ v _. each_op P ss (all_listed ss) v))

pub serial_numbered : (ss : List ClientSession) (order : List ℕ) → IsSerialOrder ss order → IsSerial (log_of ss) order
unfolding log_of
serial_numbered ss order h =
    record {
      once = h.once;
      sessions = h.sessions;
      moments = λ a b lo hi blo bhi t.
          let both = and_parts (not (eqb a b)) (is_earlier (ended_of ss a) (begun_of ss b)) t in
          h.moments a b lo hi blo bhi (eqb-false a b (not-true (eqb a b) both.0)) both.1;
      reads = subst (Meets empty) (ops_in_order (keys_in ss) (ops_of ss) order) (meets_numbered (keys_in ss) initial empty (flat_map (ops_of ss) order) (λ k l. refl) (order_listed ss order) h.reads);
    }

pub serial_by_keys : (ss : List ClientSession) (order : List ℕ) → IsSerial (log_of ss) order → IsSerialOrder ss order
unfolding log_of
serial_by_keys ss order h =
    record {
      once = h.once;
      sessions = h.sessions;
      moments = λ a b lo hi blo bhi ne e.
          h.moments a b lo hi blo bhi (and_from (not (eqb a b)) (is_earlier (ended_of ss a) (begun_of ss b)) (not_from_false (eqb a b) (ne_eqb a b ne)) e);
      reads = replays_numbered (keys_in ss) initial empty (flat_map (ops_of ss) order) (λ k l. refl) (order_listed ss order) (subst (Meets empty) (sym (ops_in_order (keys_in ss) (ops_of ss) order)) h.reads);
    }
