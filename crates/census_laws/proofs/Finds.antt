-- What a read finds in a serial order: the last write before it, or the initial value.
use Rattle.census_laws.proofs.Prelude.{◌≡◌, ◌⊎◌, ℕ, ◌<◌, ◌≤◌, zero, suc, Bool, true, false, cond, List, [], ◌∷◌, ◌++◌, length, get_or, Option, None, Some, refl, sym, ap, subst, ◌∙◌, inl, inr, unwrap_or, arith, slice_get, flat_map}
use Rattle.census_laws.proofs.Prelude.{option_map_or, bytes_eq, flat_map-append, bytes_flip, ClientSession, Transaction, Op, Read, Write, later, Has, Contains-from_Has, Has-from_Contains, Has-append_front, Apart, Apart-from_IsDistinct}
use Rattle.census_laws.proofs.Prelude.{Apart-not_both, committed_in, initial, ops_of, set, IsSerialOrder, Map, Replays, committed_count, kept_in, node_ops, last_write}
use Rattle.std.proofs.lemmas.List.Elements.{All-contains}
use Rattle.std.proofs.lemmas.Option.{slice_get-get_or}
use Rattle.session_log.specs.declared.session.Outcome.TheVariants.{Commit}
use Rattle.log_laws.proofs.Replay.{after, Replays-append}
use Rattle.census_laws.proofs.Places.{txn_ops}

-- ---- the map behind operations
later_none : (o : Option ℕ) → o ≡ later None o
later_none None = refl
later_none (Some w) = refl

later_assoc : (a b c : Option ℕ) → later a (later b c) ≡ later (later a b) c
later_assoc a b None = refl
later_assoc a b (Some w) = refl

pub last_append : (k : List ℕ) (a b : List Op) → last_write k (a ++ b) ≡ later (last_write k a) (last_write k b)
last_append k [] b = later_none (last_write k b)
last_append k (Read key w ∷ a) b = last_append k a b
last_append k (Write key w ∷ a) b =
    ap (later (cond (bytes_eq k key) (Some w) None)) (last_append k a b) ∙ later_assoc (cond (bytes_eq k key) (Some w) None) (last_write k a) (last_write k b)

after_is : (m : Map) (ops : List Op) (k : List ℕ) → after m ops k ≡ unwrap_or (last_write k ops) (m k)
after_is m [] k = refl
after_is m (Read key w ∷ ops) k = after_is m ops k
after_is m (Write key w ∷ ops) k = after_is (set m key w) ops k ∙ joined (last_write k ops)
  where
    pick : (b : Bool) → cond b w (m k) ≡ unwrap_or (cond b (Some w) None) (m k)
    pick true = refl
    pick false = refl

    joined : (o : Option ℕ) → unwrap_or o (set m key w k) ≡ unwrap_or (later (cond (bytes_eq k key) (Some w) None) o) (m k)
    joined (Some x) = refl
    joined None = ap (λ b. cond b w (m k)) (bytes_flip key k) ∙ pick (bytes_eq k key)

pub read_finds : (m : Map) (a : List Op) (k : List ℕ) (w : ℕ) (b : List Op) → Replays m (a ++ Read k w ∷ b) → unwrap_or (last_write k a) (m k) ≡ w
read_finds m a k w b r = sym (after_is m a k) ∙ ((Replays-append m a (Read k w ∷ b)).0 r).1.0

-- ---- the order, cut at a node
pub record Cut (order : List ℕ) (v : ℕ) : Type 0 where
  pub front : List ℕ
  pub back : List ℕ
  pub is : order ≡ front ++ v ∷ back

pub cut_at : (order : List ℕ) (v : ℕ) → Has v order → Cut order v
cut_at [] v h = absurd h
cut_at (u ∷ order) v (inl e) = record { front = []; back = order; is = ap (λ x. x ∷ order) e }
cut_at (u ∷ order) v (inr h) = let c = cut_at order v h in record { front = u ∷ c.front; back = c.back; is = ap (λ l. u ∷ l) c.is }

-- the map at the node
pub at_cut : (ss : List ClientSession) (order : List ℕ) (v : ℕ) → Cut order v → Map
at_cut ss order v c = after initial (flat_map (ops_of ss) c.front)

pub replayed : (ss : List ClientSession) (order : List ℕ) → IsSerialOrder ss order → (v : ℕ) (c : Cut order v) → Replays (at_cut ss order v c) (ops_of ss v)
unfolding at_cut
replayed ss order serial v c =
    let ops = ops_of ss in
    let all = subst (Replays initial) (ap (flat_map ops) c.is ∙ flat_map-append ops c.front (v ∷ c.back)) serial.reads in
    let here = ((Replays-append initial (flat_map ops c.front) (ops v ++ flat_map ops c.back)).0 all).1 in
    ((Replays-append (after initial (flat_map ops c.front)) (ops v) (flat_map ops c.back)).0 here).0

-- an external read finds the last write before the node, or the initial value
pub found : (ss : List ClientSession) (order : List ℕ) → IsSerialOrder ss order → (v : ℕ) (c : Cut order v) (a : List Op) (k : List ℕ) (w : ℕ) (b : List Op) → ops_of ss v ≡ a ++ Read k w ∷ b → last_write k a ≡ None
    → unwrap_or (last_write k (flat_map (ops_of ss) c.front)) 0 ≡ w
unfolding at_cut
found ss order serial v c a k w b is none =
    let m = at_cut ss order v c in
    sym (after_is initial (flat_map (ops_of ss) c.front) k)
    ∙ sym (ap (λ (o : Option ℕ). unwrap_or o (m k)) none)
    ∙ read_finds m a k w b (subst (Replays m) is (replayed ss order serial v c))

pub record LastIn (ss : List ClientSession) (line : List ℕ) (k : List ℕ) (w : ℕ) : Type 0 where
  pub node : ℕ
  pub stands : Has node line
  pub last : last_write k (ops_of ss node) ≡ Some w

pub last_in : (ss : List ClientSession) (line : List ℕ) (k : List ℕ) (w : ℕ) → last_write k (flat_map (ops_of ss) line) ≡ Some w → LastIn ss line k w
last_in ss [] k w e = cc
last_in ss (v ∷ line) k w e =
    by_last (last_write k (flat_map (ops_of ss) line)) refl (sym (last_append k (ops_of ss v) (flat_map (ops_of ss) line)) ∙ e) (last_in ss line k)
  where
    by_last : (o : Option ℕ) → last_write k (flat_map (ops_of ss) line) ≡ o → later (last_write k (ops_of ss v)) o ≡ Some w → ((x : ℕ) → last_write k (flat_map (ops_of ss) line) ≡ Some x → LastIn ss line k x) → LastIn ss (v ∷ line) k w
    by_last None is h rest = record { node = v; stands = inl refl; last = h }
    by_last (Some x) is h rest = let l = rest w (is ∙ h) in record { node = l.node; stands = inr l.stands; last = l.last }

-- ---- the transaction of a node
pub record Node (ss : List ClientSession) (v : ℕ) : Type 0 where
  pub place : ℕ
  pub txn : Transaction
  pub is_next : v ≡ suc place
  pub stands : slice_get (kept_in ss) place ≡ Some txn
  pub has : ops_of ss v ≡ txn.ops

node_within : (ss : List ClientSession) (v : ℕ) → 0 < v → v ≤ length (committed_in ss) → Node ss v
node_within ss zero lo hi = absurd (omega (arith, lo))
node_within ss (suc i) lo hi =
    let count = committed_count ss in
    let none : Transaction = record { ops = []; outcome = Commit; begun = None; ended = None } in
    let at : slice_get (kept_in ss) i ≡ Some (get_or (kept_in ss) i none) = slice_get-get_or (kept_in ss) i none (omega (arith, count, hi)) in
    record {
      place = i;
      txn = get_or (kept_in ss) i none;
      is_next = refl;
      stands = at;
      has = node_ops ss i ∙ ap (λ (o : Option Transaction). option_map_or txn_ops o []) at;
    }

pub node_at : (ss : List ClientSession) (order : List ℕ) → IsSerialOrder ss order → (v : ℕ) → Has v order → Node ss v
node_at ss order serial v h =
    let within = All-contains (λ u. (0 < u) × (u ≤ length (committed_in ss))) order v serial.once.only (Contains-from_Has order v h) in
    node_within ss v within.0 within.1

within : {X : Type 0} (xs : List X) (i : ℕ) (x : X) → slice_get xs i ≡ Some x → i < length xs
within [] i x e = cc
within (y ∷ xs) zero x e = omega arith
within (y ∷ xs) (suc i) x e = let h = within xs i x e in omega (arith, h)

-- a transaction that counts as committed is a node of the order
pub listed : (ss : List ClientSession) (order : List ℕ) → IsSerialOrder ss order → (i : ℕ) (t : Transaction) → slice_get (kept_in ss) i ≡ Some t → Has (suc i) order
listed ss order serial i t e =
    let lt = within (kept_in ss) i t e in
    let count = committed_count ss in
    Has-from_Contains order (suc i) (serial.once.each (suc i) (omega arith) (omega (arith, lt, count)))

pub ops_at : (ss : List ClientSession) (i : ℕ) (t : Transaction) → slice_get (kept_in ss) i ≡ Some t → ops_of ss (suc i) ≡ t.ops
ops_at ss i t e = node_ops ss i ∙ ap (λ (o : Option Transaction). option_map_or txn_ops o []) e

pub apart_in : (ss : List ClientSession) (order : List ℕ) → IsSerialOrder ss order → Apart order
apart_in ss order serial = Apart-from_IsDistinct order serial.once.distinct

-- the node does not stand before itself
pub not_before : (ss : List ClientSession) (order : List ℕ) → IsSerialOrder ss order → (v : ℕ) (c : Cut order v) → Has v c.front → ⊥
not_before ss order serial v c h = Apart-not_both v c.front (v ∷ c.back) (subst Apart c.is (apart_in ss order serial)) h (inl refl)

pub before_in : (order : List ℕ) (v u : ℕ) (c : Cut order v) → Has u c.front → Has u order
before_in order v u c h = subst (Has u) (sym c.is) (Has-append_front u c.front (v ∷ c.back) h)

-- what was found is the initial value, or was written last
pub initial_or : (o : Option ℕ) (w : ℕ) → unwrap_or o 0 ≡ w → (w ≡ 0) ⊎ (o ≡ Some w)
initial_or None w e = inl (sym e)
initial_or (Some x) w e = inr (ap Some e)
