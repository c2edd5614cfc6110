-- In a serial order no read is a fault.
use Rattle.census_laws.proofs.Prelude.{◌≡◌, ◌⊎◌, ℕ, zero, suc, Bool, true, false, cond, ◌&&◌, ◌||◌, eqb, List, [], ◌∷◌, ◌++◌, append_assoc, Option, None, Some, refl, sym, ap, subst, ◌∙◌, inl, inr, unwrap_or, eq-eqb, not, slice_get}
use Rattle.census_laws.proofs.Prelude.{flat_map, list_any, option_map_or, bytes_eq, false≢true, and_parts, bytes_eq-Decides, bytes_flip, ClientSession, Transaction, Op, Read, Write, ReadAnomaly, Has, Has-append_back}
use Rattle.census_laws.proofs.Prelude.{Apart-from_IsDistinct, is_committed, ops_in, resolved, txns_in, written, ops_of, set, IsSerialOrder, Map, Replays, once_resolved, one_writer, WriteOnce, WriteOnce-filter, kept_in, written-append}
use Rattle.census_laws.proofs.Prelude.{IsSoundLog, faults_behind, faults_of_txns, is_aborted, is_intermediate, is_other_read, is_unknown, last_write, passes_over, read_fault, with_key, writes_as}
use Rattle.std.proofs.lemmas.List.Folds.{list_any-append}
use Rattle.serializability.specs.declared.anomaly.ReadAnomaly.TheVariants as anomaly
use Rattle.log_definitions.proofs.Settled.{ops_resolved}
use Rattle.census_laws.proofs.Places.{fails_or, filtered_at, has_in_all, has_written, last_writes, none_found, same_at, txn_ops, Found}
use Rattle.census_laws.proofs.Finds.{at_cut, cut_at, found, initial_or, last_in, listed, node_at, not_before, ops_at, read_finds, replayed, before_in}
use Rattle.serializability.proofs.Replays.{later_none}

-- ---- identities of a sound log
pub zero_unwritten : (ss : List ClientSession) → IsSoundLog ss → Has 0 (written (ops_in (resolved ss))) → ⊥
zero_unwritten ss sound h = (Apart-from_IsDistinct (0 ∷ written (ops_in ss)) sound.writes).0 (subst (λ (ops : List Op). Has 0 (written ops)) (ops_resolved ss) h)

pub once : (ss : List ClientSession) → IsSoundLog ss → WriteOnce (txns_in (resolved ss))
once ss sound = once_resolved ss (Apart-from_IsDistinct (0 ∷ written (ops_in ss)) sound.writes).1

pub kept_once : (ss : List ClientSession) → IsSoundLog ss → WriteOnce (kept_in ss)
kept_once ss sound = WriteOnce-filter is_committed (txns_in (resolved ss)) (once ss sound)

-- ---- where a version that is read externally comes from: another transaction, whose last write of
-- the key it is
pub record Writer (ss : List ClientSession) (i : ℕ) (k : List ℕ) (w : ℕ) : Type 0 where
  pub place : ℕ
  pub txn : Transaction
  pub stands : slice_get (kept_in ss) place ≡ Some txn
  pub other : place ≡ i → ⊥
  pub last : last_write k txn.ops ≡ Some w

abbrev pub Origin : List ClientSession → ℕ → List ℕ → ℕ → Type 0
Origin ss i k w = (w ≡ 0) ⊎ Writer ss i k w

pub origin : (ss : List ClientSession) (order : List ℕ) → IsSerialOrder ss order → (i : ℕ) (t : Transaction) → slice_get (kept_in ss) i ≡ Some t → (a : List Op) (k : List ℕ) (w : ℕ) (b : List Op) → t.ops ≡ a ++ Read k w ∷ b → last_write k a ≡ None → Origin ss i k w
origin ss order serial i t at a k w b is none =
    let c = cut_at order (suc i) (listed ss order serial i t at) in
    elim (initial_or (last_write k (flat_map (ops_of ss) c.front)) w (found ss order serial (suc i) c a k w b (ops_at ss i t at ∙ is) none)) [
      | inl initial ↦ inl initial
      | inr wrote ↦
          let u = last_in ss c.front k w wrote in
          let n = node_at ss order serial u.node (before_in order (suc i) u.node c u.stands) in
          inr (record {
            place = n.place;
            txn = n.txn;
            stands = n.stands;
            other = λ same. not_before ss order serial (suc i) c (subst (λ v. Has v c.front) (n.is_next ∙ ap suc same) u.stands);
            last = sym (ap (last_write k) n.has) ∙ u.last;
          })
    ]

-- ---- each test of a read fails
and_false : (a : Bool) → (a && false) ≡ false
and_false true = refl
and_false false = refl

-- the writer stands among all transactions
abbrev pub Standing : List ClientSession → Transaction → Type 0
Standing ss t = (j : ℕ) × (slice_get (txns_in (resolved ss)) j ≡ Some t) × (is_committed t ≡ true)

pub standing : (ss : List ClientSession) (i : ℕ) (t : Transaction) → slice_get (kept_in ss) i ≡ Some t → Standing ss t
standing ss i t e = filtered_at is_committed (txns_in (resolved ss)) i t e

in_all : (k : List ℕ) (w : ℕ) (ts : List Transaction) (i : ℕ) (t : Transaction) → slice_get ts i ≡ Some t → writes_as k w t.ops ≡ true → writes_as k w (flat_map txn_ops ts) ≡ true
in_all k w [] i t e h = cc
in_all k w (u ∷ ts) zero t e h =
    let same : u ≡ t = cc in
    list_any-append _ u.ops (flat_map txn_ops ts) ∙ ap (λ b. b || writes_as k w (flat_map txn_ops ts)) (ap (λ (x : Transaction). writes_as k w x.ops) same ∙ h)
in_all k w (u ∷ ts) (suc i) t e h =
    list_any-append _ u.ops (flat_map txn_ops ts) ∙ ap (λ b. writes_as k w u.ops || b) (in_all k w ts i t e h) ∙ or_true (writes_as k w u.ops)
  where
    or_true : (b : Bool) → (b || true) ≡ true
    or_true true = refl
    or_true false = refl

-- no transaction of a log with an identity 0 that is written
written_zero : (ss : List ClientSession) → IsSoundLog ss → (j : ℕ) (t : Transaction) (k : List ℕ) (w : ℕ) → slice_get (txns_in (resolved ss)) j ≡ Some t → writes_as k w t.ops ≡ true → w ≡ 0 → ⊥
written_zero ss sound j t k w at writes none =
    zero_unwritten ss sound (has_in_all (txns_in (resolved ss)) j t 0 at (subst (λ x. Has x (written t.ops)) none (has_written k w t.ops writes)))

not_unknown : (ss : List ClientSession) (i : ℕ) (k : List ℕ) (w : ℕ) → Origin ss i k w → is_unknown (resolved ss) k w ≡ false
not_unknown ss i k w (inl none) = ap (λ b. not b && not (writes_as k w (ops_in (resolved ss)))) (eq-eqb w 0 none)
not_unknown ss i k w (inr u) =
    let s = standing ss u.place u.txn u.stands in
    ap (λ b. not (eqb w 0) && not b) (in_all k w (txns_in (resolved ss)) s.0 u.txn s.1 (last_writes k w u.txn.ops u.last)) ∙ and_false (not (eqb w 0))

-- a transaction that writes the version is its writer
same_writer : (ss : List ClientSession) → IsSoundLog ss → (i : ℕ) (k : List ℕ) (w : ℕ) (u : Writer ss i k w) (j : ℕ) (t : Transaction) → slice_get (txns_in (resolved ss)) j ≡ Some t → writes_as k w t.ops ≡ true → u.txn ≡ t
same_writer ss sound i k w u j t at writes =
    let txns = txns_in (resolved ss) in
    let s = standing ss u.place u.txn u.stands in
    same_at txns s.0 j u.txn t s.1 at (one_writer txns s.0 j u.txn t w (once ss sound) s.1 at (has_written k w u.txn.ops (last_writes k w u.txn.ops u.last)) (has_written k w t.ops writes))

not_aborted : (ss : List ClientSession) → IsSoundLog ss → (i : ℕ) (k : List ℕ) (w : ℕ) → Origin ss i k w → is_aborted (resolved ss) k w ≡ false
not_aborted ss sound i k w origin = none_found test txns (none origin)
  where
    txns : List Transaction
    txns = txns_in (resolved ss)

    test : Transaction → Bool
    test t = not (is_committed t) && writes_as k w t.ops

    none : Origin ss i k w → Found test txns → ⊥
    none from f =
        let both = and_parts (not (is_committed f.item)) (writes_as k w f.item.ops) f.passes in
        elim from [
          | inl first ↦ written_zero ss sound f.place f.item k w f.stands both.1 first
          | inr u ↦
              let same = same_writer ss sound i k w u f.place f.item f.stands both.1 in
              let s = standing ss u.place u.txn u.stands in
              false≢true (sym (ap not (sym (ap is_committed same) ∙ s.2)) ∙ both.0)
        ]

not_future : (ss : List ClientSession) → IsSoundLog ss → (i : ℕ) (t : Transaction) → slice_get (kept_in ss) i ≡ Some t → (a : List Op) (k : List ℕ) (w : ℕ) (b : List Op) → t.ops ≡ a ++ Read k w ∷ b → Origin ss i k w → writes_as k w b ≡ false
not_future ss sound i t at a k w b is from = fails_or (writes_as k w b) none
  where
    own : writes_as k w b ≡ true → Has w (written t.ops)
    own writes = subst (λ (ops : List Op). Has w (written ops)) (sym is) (subst (Has w) (sym (written-append a (Read k w ∷ b))) (Has-append_back w (written a) (written b) (has_written k w b writes)))

    none : writes_as k w b ≡ true → ⊥
    none writes = elim from [
      | inl first ↦
          let s = standing ss i t at in
          zero_unwritten ss sound (has_in_all (txns_in (resolved ss)) s.0 t 0 s.1 (subst (λ x. Has x (written t.ops)) first (own writes)))
      | inr u ↦ u.other (one_writer (kept_in ss) u.place i u.txn t w (kept_once ss sound) u.stands at (has_written k w u.txn.ops (last_writes k w u.txn.ops u.last)) (own writes))
    ]

not_intermediate : (ss : List ClientSession) → IsSoundLog ss → (i : ℕ) (k : List ℕ) (w : ℕ) → Origin ss i k w → is_intermediate (resolved ss) k w ≡ false
not_intermediate ss sound i k w origin = none_found test txns (none origin)
  where
    txns : List Transaction
    txns = txns_in (resolved ss)

    test : Transaction → Bool
    test t = is_committed t && passes_over k w t.ops

    none : Origin ss i k w → Found test txns → ⊥
    none from f =
        let passes = (and_parts (is_committed f.item) (passes_over k w f.item.ops) f.passes).1 in
        let both = and_parts (writes_as k w f.item.ops) (not (option_map_or (λ v. eqb v w) (last_write k f.item.ops) false)) passes in
        elim from [
          | inl first ↦ written_zero ss sound f.place f.item k w f.stands both.0 first
          | inr u ↦
              let same = same_writer ss sound i k w u f.place f.item f.stands both.0 in
              let last : last_write k f.item.ops ≡ Some w = ap (λ (t : Transaction). last_write k t.ops) (sym same) ∙ u.last in
              false≢true (sym (ap not (ap (λ (o : Option ℕ). option_map_or (λ v. eqb v w) o false) last ∙ eq-eqb w w refl)) ∙ both.1)
        ]

not_written : (b : Bool) (w : ℕ) → cond b (Some w) None ≡ None → b ≡ false
not_written true w e = cc
not_written false w e = refl

not_split : (m : Map) (a rest : List Op) (k : List ℕ) (w : ℕ) → last_write k a ≡ None → m k ≡ w → Replays m (a ++ rest) → list_any (is_other_read k w) a ≡ false
not_split m [] rest k w none holds r = refl
not_split m (Read key v ∷ a) rest k w none holds r =
    ap (λ b. b || list_any (is_other_read k w) a) (this (bytes_eq k key) (bytes_eq-Decides k key).0) ∙ not_split m a rest k w none holds r.1
  where
    this : (b : Bool) → (b ≡ true → k ≡ key) → (b && not (eqb v w)) ≡ false
    this true same = ap not (eq-eqb v w (sym r.0 ∙ ap m (sym (same refl)) ∙ holds))
    this false same = refl
not_split m (Write key v ∷ a) rest k w none holds r =
    let both = later_none (cond (bytes_eq k key) (Some v) None) (last_write k a) none in
    let kept : set m key v k ≡ m k = ap (λ b. cond b v (m k)) (bytes_flip key k ∙ not_written (bytes_eq k key) v both.0) in
    not_split (set m key v) a rest k w both.1 (kept ∙ holds) r

-- ---- no read is a fault
skipped : (b : Bool) (x rest : Option ReadAnomaly) → b ≡ false → rest ≡ None → cond b x rest ≡ None
skipped true x rest e h = absurd (false≢true (sym e))
skipped false x rest e h = h

read_clean : (ss : List ClientSession) (order : List ℕ) → IsSoundLog ss → IsSerialOrder ss order → (i : ℕ) (t : Transaction) → slice_get (kept_in ss) i ≡ Some t → (a : List Op) (k : List ℕ) (w : ℕ) (b : List Op) → t.ops ≡ a ++ Read k w ∷ b
    → (own : Option ℕ) → last_write k a ≡ own → read_fault (resolved ss) a k w b own ≡ None
read_clean ss order sound serial i t at a k w b is (Some own) last =
    let c = cut_at order (suc i) (listed ss order serial i t at) in
    let m = at_cut ss order (suc i) c in
    let finds = read_finds m a k w b (subst (Replays m) (ops_at ss i t at ∙ is) (replayed ss order serial (suc i) c)) in
    ap (λ e. cond e None (Some anomaly.OwnWriteMissed)) (eq-eqb own w (sym (ap (λ (o : Option ℕ). unwrap_or o (m k)) last) ∙ finds))
read_clean ss order sound serial i t at a k w b is None last =
    let c = cut_at order (suc i) (listed ss order serial i t at) in
    let m = at_cut ss order (suc i) c in
    let replays = subst (Replays m) (ops_at ss i t at ∙ is) (replayed ss order serial (suc i) c) in
    let holds : m k ≡ w = sym (ap (λ (o : Option ℕ). unwrap_or o (m k)) last) ∙ read_finds m a k w b replays in
    let from = origin ss order serial i t at a k w b is last in
    skipped (is_unknown (resolved ss) k w) _ _ (not_unknown ss i k w from) (
    skipped (is_aborted (resolved ss) k w) _ _ (not_aborted ss sound i k w from) (
    skipped (writes_as k w b) _ _ (not_future ss sound i t at a k w b is from) (
    skipped (is_intermediate (resolved ss) k w) _ _ (not_intermediate ss sound i k w from) (
    skipped (list_any (is_other_read k w) a) _ _ (not_split m a (Read k w ∷ b) k w last holds replays) refl))))

behind_clean : (rs : List ClientSession) (ops : List Op) → ((a : List Op) (k : List ℕ) (w : ℕ) (b : List Op) → ops ≡ a ++ Read k w ∷ b → read_fault rs a k w b (last_write k a) ≡ None)
    → (before behind : List Op) → ops ≡ before ++ behind → faults_behind rs before behind ≡ []
behind_clean rs ops clean before [] is = refl
behind_clean rs ops clean before (Read k w ∷ behind) is =
    ap (λ o. with_key o k ++ faults_behind rs (before ++ Read k w ∷ []) behind) (clean before k w behind is)
    ∙ behind_clean rs ops clean (before ++ Read k w ∷ []) behind (is ∙ sym (append_assoc before (Read k w ∷ []) behind))
behind_clean rs ops clean before (Write k w ∷ behind) is =
    behind_clean rs ops clean (before ++ Write k w ∷ []) behind (is ∙ sym (append_assoc before (Write k w ∷ []) behind))

all_clean : (rs : List ClientSession) (ts : List Transaction) → ((i : ℕ) (t : Transaction) → slice_get ts i ≡ Some t → faults_behind rs [] t.ops ≡ []) → faults_of_txns rs ts ≡ []
all_clean rs [] f = refl
all_clean rs (t ∷ ts) f = ap (λ l. l ++ faults_of_txns rs ts) (f 0 t refl) ∙ all_clean rs ts (λ i u e. f (suc i) u e)

pub no_faults : (ss : List ClientSession) (order : List ℕ) → IsSoundLog ss → IsSerialOrder ss order → faults_of_txns (resolved ss) (kept_in ss) ≡ []
no_faults ss order sound serial =
    all_clean (resolved ss) (kept_in ss) (λ i t at. behind_clean (resolved ss) t.ops (λ a k w b is. read_clean ss order sound serial i t at a k w b is (last_write k a) refl) [] t.ops refl)
