-- What stands before another node is shown by a right edge, and where no fault passes the test, the
-- log has its reads.
use Rattle.level_refutations.proofs.Prelude.{◌≡◌, ◌≢◌, ℕ, ◌<◌, Bool, true, false, not, ◌&&◌, List, [], ◌∷◌, ◌++◌, length, eqb, ltb, eq-eqb, eqb-true, Option, Some, None, refl, sym, ap, ◌∙◌, inl, inr, arith, take, slice_get, is_some}
use Rattle.level_refutations.proofs.Prelude.{list_any, enumerate_from, option_map_or, bytes_eq, cases_Bool, and_parts, and_from, false≢true, not-true, lt-ltb, ne_eqb, get_or_append_left, length-append, same_Some, slice_get-get_or}
use Rattle.level_refutations.proofs.Prelude.{slice_get_within, get_or_from_slice_get, bytes_eq-Decides, contains_at, ClientSession, Transaction, Op, Read, Write, ops_of, is_committed, reads_write, IsSoundLog, IsLearntLog, Level}
use Rattle.level_refutations.proofs.Prelude.{ReadCommitted, MonotonicAtomicView, ReadAtomic, Causal, last_write, ReadsBehind, IsEarlier, Direct, Past, step, path, Sees, TxnAt, OpAt, Hop, Step, txn_at, op_at, is_same, both, is_named}
use Rattle.level_refutations.proofs.Prelude.{has_key, is_of_key, is_of_initial, names_initial, is_read_where, is_first, is_external, is_session_step, is_read_step, op_of, is_step, is_path, may_see, overlooks_by, is_some_wid, leaves, place}
use Rattle.level_refutations.proofs.Prelude.{is_left_at, is_left_by, is_left_in, misses_last, misses, is_fault, Stands, Overlooks, IsForced, ShowsForced, EachIsShown, ReadsWhereNoFault}
use Rattle.std.proofs.Math.Seq.{take-append_seam}
use Rattle.std.proofs.lemmas.List.Folds.{Any-from_list_any}
use Rattle.level_refutations.specs.declared.evidence.Step.TheVariants as hop_step
use Rattle.level_refutations.specs.Laws as law
use Rattle.level_refutations.proofs.Standing.{index_of, of_numbered, found_at, standing, ops_are, session_is, lower, place_with, place_within}
use Rattle.level_refutations.proofs.Steps.{same_self, same_session, nodes_apart, places_apart, op_is}
use Rattle.level_refutations.proofs.Sights.{test_is}

-- ---- steps
names_self : (r w : Option Op) (key : List ℕ) (wid : ℕ) → r ≡ Some (Read key wid) → w ≡ Some (Write key wid) → both reads_write r w ≡ true
names_self r w key wid e f =
    ap (λ o. both reads_write o w) e ∙ ap (both reads_write (Some (Read key wid))) f ∙ and_from (bytes_eq key key) (eqb wid wid) ((bytes_eq-Decides key key).1 refl) (eq-eqb wid wid refl)

session_shown : (ss : List ClientSession) (a b : TxnAt) (u v : ℕ) → IsSoundLog ss → IsLearntLog ss → IsEarlier ss u v → Stands ss a u → Stands ss b v → is_session_step ss a b ≡ true
session_shown ss a b u v sound learnt h s r =
    let number : s.session.number ≡ r.session.number = sym (session_is ss a u s) ∙ h.session ∙ session_is ss b v r in
    and_from (eqb a.session b.session) (ltb a.txn b.txn && (is_some (txn_at ss a) && is_some (txn_at ss b))) (eq-eqb a.session b.session (same_session ss a b u v sound s r number))
    (and_from (ltb a.txn b.txn) (is_some (txn_at ss a) && is_some (txn_at ss b)) (lt-ltb a.txn b.txn (lower ss a b u v sound learnt s r number h.less))
    (and_from (is_some (txn_at ss a)) (is_some (txn_at ss b)) (ap is_some s.found) (ap is_some r.found)))

-- a read and the write that it names, by their indices
read_shown : (ss : List ClientSession) (a b : TxnAt) (u v i j : ℕ) (key : List ℕ) (wid : ℕ) → IsSoundLog ss → IsLearntLog ss → u ≢ v → slice_get (ops_of ss u) i ≡ Some (Write key wid) → slice_get (ops_of ss v) j ≡ Some (Read key wid) → Stands ss a u → Stands ss b v → is_read_step ss (op_of a i) (op_of b j) ≡ true
read_shown ss a b u v i j key wid sound learnt apart writes reads s r =
    and_from (not (is_same a b)) (is_named ss (op_of a i) (op_of b j)) (places_apart ss a b u v sound learnt s r apart)
    (names_self (op_at ss (op_of b j)) (op_at ss (op_of a i)) key wid (op_is ss (op_of b j) v r ∙ reads) (op_is ss (op_of a i) u s ∙ writes))

step_shown : (ss : List ClientSession) (a b : TxnAt) (u v : ℕ) → IsSoundLog ss → IsLearntLog ss → Direct ss u v → Stands ss a u → Stands ss b v → (why : Step) × (is_step ss a b why ≡ true)
step_shown ss a b u v sound learnt (inl h) s r = (hop_step.Session, session_shown ss a b u v sound learnt h s r)
step_shown ss a b u v sound learnt (inr h) s r =
    let i = index_of (ops_of ss u) (Write h.key h.wid) h.writes in
    let j = index_of (ops_of ss v) (Read h.key h.wid) h.reads in
    (hop_step.Read i.0 j.0, read_shown ss a b u v i.0 j.0 h.key h.wid sound learnt h.other i.1 j.1 s r)

-- ---- paths
record Shown (ss : List ClientSession) (a b : TxnAt) : Type 0 where
  pub hop : Hop
  pub hops : List Hop
  pub right : is_path ss a (hop ∷ hops) b ≡ true

abbrev one : TxnAt → TxnAt → Step → Hop
one a b why = record { from = a; to = b; step = why }

begun : (ss : List ClientSession) (a b c : TxnAt) (why : Step) (hops : List Hop) → is_step ss a b why ≡ true → is_path ss b hops c ≡ true → is_path ss a (one a b why ∷ hops) c ≡ true
begun ss a b c why hops t rest = and_from (is_same a a && is_step ss a b why) (is_path ss b hops c) (and_from (is_same a a) (is_step ss a b why) (same_self a) t) rest

-- the node with which a path begins has a place
first_place : (ss : List ClientSession) (u v : ℕ) → IsLearntLog ss → Direct ss u v → (a : TxnAt) × Stands ss a u
first_place ss u v learnt (inl h) = let lt = h.less in let le = h.high in place_within ss u learnt h.low (omega (arith, lt, le))
first_place ss u v learnt (inr h) = place_with ss u (Write h.key h.wid) learnt h.writes

end_place : (ss : List ClientSession) (u v : ℕ) → IsLearntLog ss → Past ss u v → (a : TxnAt) × Stands ss a u
end_place ss u v learnt (step x y d) = first_place ss u v learnt d
end_place ss u v learnt (path x mid y d p) = first_place ss u mid learnt d

path_shown : (ss : List ClientSession) (a b : TxnAt) (u v : ℕ) → IsSoundLog ss → IsLearntLog ss → Past ss u v → Stands ss a u → Stands ss b v → Shown ss a b
path_shown ss a b u v sound learnt (step x y d) s r =
    let f = step_shown ss a b u v sound learnt d s r in
    record { hop = one a b f.0; hops = []; right = begun ss a b b f.0 [] f.1 (same_self b) }
path_shown ss a b u v sound learnt (path x mid y d p) s r =
    let m = end_place ss mid v learnt p in
    let f = step_shown ss a m.0 u mid sound learnt d s m.1 in
    let rest = path_shown ss m.0 b mid v sound learnt p m.1 r in
    record { hop = one a m.0 f.0; hops = rest.hop ∷ rest.hops; right = begun ss a m.0 b f.0 (rest.hop ∷ rest.hops) f.1 rest.right }

-- ---- what a read sees
record Seen (level : Level) (ss : List ClientSession) (a b : TxnAt) (i : ℕ) : Type 0 where
  pub hops : List Hop
  pub right : is_path ss a hops b ≡ true
  pub may : may_see level i hops ≡ true

seen_shown : (level : Level) (ss : List ClientSession) (a b : TxnAt) (u v : ℕ) (before : List Op) (key : List ℕ) (wid : ℕ) → IsSoundLog ss → IsLearntLog ss → ReadsBehind ss v before key wid → Sees level ss u v before → Stands ss a u → Stands ss b v → Seen level ss a b (length before)
seen_shown ReadCommitted ss a b u v before key wid sound learnt reads h s r = absurd h
seen_shown MonotonicAtomicView ss a b u v before key wid sound learnt reads h s r =
    let i = index_of (ops_of ss u) (Write h.key h.wid) h.writes in
    let read = Read h.key h.wid in
    let j = index_of before read h.reads in
    let less = slice_get_within before j.0 read j.1 in
    let all = before ++ Read key wid ∷ reads.0 in
    let within : j.0 < length all = omega (arith, less, length-append before (Read key wid ∷ reads.0)) in
    let there = ap (λ l. slice_get l j.0) reads.1 ∙ slice_get-get_or all j.0 read within ∙ ap Some (get_or_append_left before (Read key wid ∷ reads.0) read j.0 less ∙ get_or_from_slice_get before j.0 read read j.1) in
    let t = read_shown ss a b u v i.0 j.0 h.key h.wid sound learnt h.other i.1 there s r in
    record { hops = one a b (hop_step.Read i.0 j.0) ∷ []; right = begun ss a b b (hop_step.Read i.0 j.0) [] t (same_self b); may = lt-ltb j.0 (length before) less }
seen_shown ReadAtomic ss a b u v before key wid sound learnt reads h s r =
    let f = step_shown ss a b u v sound learnt h s r in
    record { hops = one a b f.0 ∷ []; right = begun ss a b b f.0 [] f.1 (same_self b); may = refl }
seen_shown Causal ss a b u v before key wid sound learnt reads h s r =
    let p = path_shown ss a b u v sound learnt h s r in
    record { hops = p.hop ∷ p.hops; right = p.right; may = ap not (ne_eqb (length (p.hop ∷ p.hops)) 0 (λ e. omega (arith, e))) }

-- ---- reads in the transactions of their nodes
get_next : {X : Type 0} (xs : List X) (x : X) (ys : List X) → slice_get (xs ++ x ∷ ys) (length xs) ≡ Some x
get_next [] x ys = refl
get_next (z ∷ xs) x ys = get_next xs x ys

there : (ss : List ClientSession) (v : ℕ) (before : List Op) (key : List ℕ) (wid : ℕ) (reads : ReadsBehind ss v before key wid) → slice_get (ops_of ss v) (length before) ≡ Some (Read key wid)
there ss v before key wid reads = ap (λ l. slice_get l (length before)) reads.1 ∙ get_next before (Read key wid) reads.0

reader : (ss : List ClientSession) (v : ℕ) (before : List Op) (key : List ℕ) (wid : ℕ) → IsLearntLog ss → ReadsBehind ss v before key wid → (at : TxnAt) × Stands ss at v
reader ss v before key wid learnt reads = place_with ss v (Read key wid) learnt (contains_at (ops_of ss v) (length before) (Read key wid) (there ss v before key wid reads))

-- what a test of reads comes to there
read_is : (test : List ℕ → ℕ → List Op → Bool) (ss : List ClientSession) (b : TxnAt) (v : ℕ) (before : List Op) (key : List ℕ) (wid : ℕ) → ReadsBehind ss v before key wid → Stands ss b v → option_map_or (λ (t : Transaction). is_read_where test (take (length before) t.ops) (slice_get t.ops (length before))) (txn_at ss b) false ≡ test key wid before
read_is test ss b v before key wid reads s =
    let i = length before in
    test_is test ss (op_of b i) v s
    ∙ ap (is_read_where test (take i (ops_of ss v))) (there ss v before key wid reads)
    ∙ ap (λ l. test key wid (take i l)) reads.1
    ∙ ap (test key wid) (take-append_seam before (Read key wid ∷ reads.0))

-- an overlooked write of a node at this place
record Overlooking (level : Level) (ss : List ClientSession) (a : TxnAt) (key : List ℕ) (wid : ℕ) : Type 0 where
  pub read : OpAt
  pub write : ℕ
  pub path : List Hop
  pub stands : op_at ss read ≡ Some (Read key wid)
  pub right : overlooks_by level ss read (op_of a write) path ≡ true

overlooking : (level : Level) (ss : List ClientSession) (u v : ℕ) (before : List Op) (key : List ℕ) (wid : ℕ) (a : TxnAt) → IsSoundLog ss → IsLearntLog ss → Overlooks level ss u v before key wid → Stands ss a u → Overlooking level ss a key wid
overlooking level ss u v before key wid a sound learnt o s =
    let place = reader ss v before key wid learnt o.reads in
    let w = index_of (ops_of ss u) (Write key o.writes.0) o.writes.1 in
    let seen = seen_shown level ss a place.0 u v before key wid sound learnt o.reads o.sees s place.1 in
    let read = op_of place.0 (length before) in
    let write = op_of a w.0 in
    let stands : op_at ss read ≡ Some (Read key wid) = op_is ss read v place.1 ∙ there ss v before key wid o.reads in
    let two = is_of_key ss write read in
    let three = is_path ss a seen.hops place.0 in
    let four = may_see level (length before) seen.hops in
    let same_key : two ≡ true = ap (λ r. both has_key r (op_at ss write)) stands ∙ ap (both has_key (Some (Read key wid))) (op_is ss write u s ∙ w.1) ∙ (bytes_eq-Decides key key).1 refl in
    record {
      read = read;
      write = w.0;
      path = seen.hops;
      stands = stands;
      right = and_from (is_external ss read) (two && (three && four)) (read_is is_first ss place.0 v before key wid o.reads place.1 ∙ ap (λ l. not (is_some l)) o.external)
          (and_from two (three && four) same_key (and_from three four seen.right seen.may));
    }

-- ---- what a level forces
forced_shown : (level : Level) (ss : List ClientSession) (u t : ℕ) (a b : TxnAt) → IsSoundLog ss → IsLearntLog ss → IsForced level ss u t → Stands ss a u → Stands ss b t → ShowsForced level ss a b
forced_shown level ss u t a b sound learnt f s r =
    let o = overlooking level ss u f.reader f.before f.key f.wid a sound learnt f.overlooks s in
    let n = index_of (ops_of ss t) (Write f.key f.wid) f.found in
    let found = op_of b n.0 in
    let seen = overlooks_by level ss o.read (op_of a o.write) o.path in
    record {
      read = o.read;
      write = op_of a o.write;
      path = o.path;
      found = found;
      from = refl;
      to = refl;
      right = and_from (is_named ss found o.read) (not (is_same a b) && seen) (names_self (op_at ss o.read) (op_at ss found) f.key f.wid o.stands (op_is ss found t r ∙ n.1))
          (and_from (not (is_same a b)) seen (places_apart ss a b u t sound learnt s r f.other) o.right);
    }

pub each_is_shown : EachIsShown
each_is_shown level ss sound learnt u v (law.session x y h) a b s r = inl (step_shown ss a b u v sound learnt (inl h) s r)
each_is_shown level ss sound learnt u v (law.read x y h) a b s r = inl (step_shown ss a b u v sound learnt (inr h) s r)
each_is_shown level ss sound learnt u v (law.forced x y f) a b s r = inr (forced_shown level ss u v a b sound learnt f s r)

-- ---- what another transaction leaves
one_passes : {X : Type 0} (p : ℕ × X → Bool) (xs : List X) → list_any p (enumerate_from 0 xs) ≡ true → (x : ℕ × X) × (slice_get xs x.0 ≡ Some x.1) × (p x ≡ true)
one_passes p xs t =
    let a = Any-from_list_any p (enumerate_from 0 xs) t in
    let w = of_numbered 0 a.0 xs a.1 (slice_get-get_or (enumerate_from 0 xs) a.0 a.1 a.2 ∙ ap Some a.3) in
    let number = w.1 in
    let same : a.1.0 ≡ a.0 = omega (arith, number) in
    (a.1, ap (slice_get xs) same ∙ w.0, a.4)

pub is_wid : (wid : ℕ) (o : Option ℕ) → is_some_wid wid o ≡ true → o ≡ Some wid
is_wid wid None e = absurd (false≢true e)
is_wid wid (Some w) e = ap Some (eqb-true w wid e)

left_node : (ss : List ClientSession) (own : TxnAt) (key : List ℕ) (wid v : ℕ) → IsSoundLog ss → IsLearntLog ss → Stands ss own v → is_left_in own key wid ss ≡ true → (t : ℕ) × (t ≢ v) × (last_write key (ops_of ss t) ≡ Some wid)
left_node ss own key wid v sound learnt s e =
    let i = one_passes (is_left_by own key wid) ss e in
    let j = one_passes (is_left_at own key wid i.0.0) i.0.1.txns i.2 in
    let at = place i.0.0 j.0.0 in
    let t = j.0.1 in
    let p = and_parts (not (is_same at own)) (leaves key wid t) j.2 in
    let q = and_parts (is_committed t) (is_some_wid wid (last_write key t.ops)) p.1 in
    let found = found_at ss i.0.0 j.0.0 i.0.1 t i.1 j.1 q.0 in
    let n = standing ss at t learnt found in
    let ops : ops_of ss n.0 ≡ t.ops = ops_are ss at n.0 n.1 ∙ ap (λ (x : Transaction). x.ops) (same_Some n.1.txn t (sym n.1.found ∙ found)) in
    (n.0, nodes_apart ss at own n.0 v sound n.1 s (not-true (is_same at own) p.0), ap (last_write key) ops ∙ is_wid wid (last_write key t.ops) q.1)

-- ---- the reads of a log without faults
own_right : (ss : List ClientSession) → IsLearntLog ss → ((read : OpAt) → is_fault ss read ≡ true → ⊥) → (v : ℕ) (before : List Op) (key : List ℕ) (wid last : ℕ) → ReadsBehind ss v before key wid → last_write key before ≡ Some last → wid ≡ last
own_right ss learnt none v before key wid last reads e =
    let b = reader ss v before key wid learnt reads in
    elim (cases_Bool (eqb last wid)) [
      | inl same ↦ sym (eqb-true last wid same)
      | inr apart ↦ absurd (none (op_of b.0 (length before)) (read_is (misses ss b.0) ss b.0 v before key wid reads b.1 ∙ ap (misses_last ss b.0 key wid) e ∙ ap not apart))
    ]

external_right : (ss : List ClientSession) → IsSoundLog ss → IsLearntLog ss → ((read : OpAt) → is_fault ss read ≡ true → ⊥) → (v : ℕ) (before : List Op) (key : List ℕ) (wid : ℕ) → ReadsBehind ss v before key wid → last_write key before ≡ None → wid ≢ 0 → (t : ℕ) × (t ≢ v) × (last_write key (ops_of ss t) ≡ Some wid)
external_right ss sound learnt none v before key wid reads e nonzero =
    let b = reader ss v before key wid learnt reads in
    elim (cases_Bool (is_left_in b.0 key wid ss)) [
      | inl left ↦ left_node ss b.0 key wid v sound learnt b.1 left
      | inr lost ↦
          absurd (none (op_of b.0 (length before)) (read_is (misses ss b.0) ss b.0 v before key wid reads b.1 ∙ ap (misses_last ss b.0 key wid) e ∙ and_from (not (eqb wid 0)) (not (is_left_in b.0 key wid ss)) (ap not (ne_eqb wid 0 nonzero)) (ap not lost)))
    ]

pub reads_where_no_fault : ReadsWhereNoFault
reads_where_no_fault level ss sound learnt faultless found = record {
  own = own_right ss learnt faultless;
  left = external_right ss sound learnt faultless;
  initial = λ u v before key o. (
      let a = place_with ss u (Write key o.writes.0) learnt o.writes.1 in
      let g = overlooking level ss u v before key 0 a.0 sound learnt o a.1 in
      found g.read (op_of a.0 g.write) g.path (and_from (names_initial ss g.read) (overlooks_by level ss g.read (op_of a.0 g.write) g.path) (ap (λ x. option_map_or is_of_initial x false) g.stands) g.right)
      );
}
