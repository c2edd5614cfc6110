-- The node that a refused replay names is one of the log's.
use Rattle.cobra_cli.proofs.Prelude.{◌≡◌, ◌⊎◌, ℕ, suc, ◌<◌, ◌≤◌, Bool, true, false, cond, List, [], ◌∷◌, Option, None, Some, refl, subst, inl, inr, arith, Log, Store, empty, after, ReplayFault, lists_once, first_early, first_before_ended}
use Rattle.cobra_cli.proofs.Prelude.{PlacedOp, placed_from, in_replay, meets, first_mismatch, replay_fault}
use Rattle.std.specs.List.{All, AllByRecursion, enumerate_from}
use Rattle.std.specs.Option.{option_map, option_or}
use Rattle.serializability.specs.declared.event.Event.{Event}
use Rattle.serializability.proofs.Places.{each_from_flat_map, each_from_map}
use Rattle.decode_order.specs.declared.fault.ReplayFault.TheVariants.{NotAPermutation, SessionOrder, MomentOrder, ReadMismatch}

chosen : {X : Type 0} (b : Bool) (x y : X) (rest : Option X) → cond b (Some x) rest ≡ Some y → (x ≡ y) ⊎ (rest ≡ Some y)
chosen true x y rest e = inl cc
chosen false x y rest e = inr e

skipped : {X : Type 0} (b : Bool) (x y : X) (rest : Option X) → cond b rest (Some x) ≡ Some y → (x ≡ y) ⊎ (rest ≡ Some y)
skipped true x y rest e = inr e
skipped false x y rest e = inl cc

early_one : (P : ℕ → Type 0) (session : ℕ → ℕ) (order : List ℕ) (v : ℕ) → AllByRecursion P order → first_early session order ≡ Some v → P v
early_one P session [] v h e = cc
early_one P session (u ∷ behind) v h e = elim (chosen _ u v (first_early session behind) e) [
  | inl same ↦ subst P same h.0
  | inr rest ↦ early_one P session behind v h.1 rest
]

ended_one : (P : ℕ → Type 0) (earlier : ℕ → ℕ → Bool) (order : List ℕ) (v : ℕ) → AllByRecursion P order → first_before_ended earlier order ≡ Some v → P v
ended_one P earlier [] v h e = cc
ended_one P earlier (u ∷ behind) v h e = elim (chosen _ u v (first_before_ended earlier behind) e) [
  | inl same ↦ subst P same h.0
  | inr rest ↦ ended_one P earlier behind v h.1 rest
]

mismatch_one : (Q : ℕ → Type 0) (store : Store) (ps : List PlacedOp) (m : ℕ × ℕ) → AllByRecursion (λ (p : PlacedOp). Q p.node) ps → first_mismatch store ps ≡ Some m → Q m.0
mismatch_one Q store [] m h e = cc
mismatch_one Q store (q ∷ ps) m h e = elim (skipped (meets store q.op) (q.node, q.number) m (first_mismatch (after store (q.op ∷ [])) ps) e) [
  | inl same ↦ subst (λ (pair : ℕ × ℕ). Q pair.0) same h.0
  | inr rest ↦ mismatch_one Q (after store (q.op ∷ [])) ps m h.1 rest
]

constant : {X : Type 0} (Q : Type 0) (xs : List X) → Q → AllByRecursion (λ x. Q) xs
constant Q [] q = tt
constant Q (x ∷ xs) q = (q, constant Q xs q)

by_recursion : (P : ℕ → Type 0) (xs : List ℕ) → All P xs → AllByRecursion P xs
by_recursion P [] h = tt
by_recursion P (x ∷ xs) h = (h 0 0 (omega arith), by_recursion P xs (λ k d lt. h (suc k) d (omega arith)))

abbrev Within : ℕ → ℕ → Type 0
Within n v = (0 < v) × (v ≤ n)

placed_within : (n : ℕ) (ops : ℕ → List Event) (order : List ℕ) → AllByRecursion (Within n) order → AllByRecursion (λ (p : PlacedOp). Within n p.node) (in_replay ops order)
placed_within n ops order h = each_from_flat_map (λ (p : PlacedOp). Within n p.node) (λ v. placed_from v 1 (ops v)) order (each_node order h)
  where
    each_node : (order : List ℕ) → AllByRecursion (Within n) order → AllByRecursion (λ v. AllByRecursion (λ (p : PlacedOp). Within n p.node) (placed_from v 1 (ops v))) order
    each_node [] h = tt
    each_node (v ∷ rest) h = (each_from_map (λ (p : PlacedOp). Within n p.node) (λ e. record { node = v; number = e.0; op = e.1 }) (enumerate_from 1 (ops v)) (constant (Within n v) (enumerate_from 1 (ops v)) h.0), each_node rest h.1)

abbrev whole : Bool → Option ℕ → Option ℕ → Option (ℕ × ℕ) → Option ReplayFault
whole listed early ended missed =
    cond listed (option_or (option_map (λ v. SessionOrder v) early) (option_or (option_map (λ v. MomentOrder v) ended) (option_map (λ (p : ℕ × ℕ). ReadMismatch p.0 p.1) missed))) (Some NotAPermutation)

early_is : (listed : Bool) (early ended : Option ℕ) (missed : Option (ℕ × ℕ)) (v : ℕ) → whole listed early ended missed ≡ Some (SessionOrder v) → early ≡ Some v
early_is true (Some u) ended missed v e = cc
early_is true None (Some u) missed v e = cc
early_is true None None (Some p) v e = cc
early_is true None None None v e = cc
early_is false early ended missed v e = cc

ended_is : (listed : Bool) (early ended : Option ℕ) (missed : Option (ℕ × ℕ)) (v : ℕ) → whole listed early ended missed ≡ Some (MomentOrder v) → ended ≡ Some v
ended_is true (Some u) ended missed v e = cc
ended_is true None (Some u) missed v e = cc
ended_is true None None (Some p) v e = cc
ended_is true None None None v e = cc
ended_is false early ended missed v e = cc

missed_is : (listed : Bool) (early ended : Option ℕ) (missed : Option (ℕ × ℕ)) (v k : ℕ) → whole listed early ended missed ≡ Some (ReadMismatch v k) → (p : ℕ × ℕ) × ((missed ≡ Some p) × (p.0 ≡ v))
missed_is true (Some u) ended missed v k e = cc
missed_is true None (Some u) missed v k e = cc
missed_is true None None (Some p) v k e = (p, (refl, cc))
missed_is true None None None v k e = cc
missed_is false early ended missed v k e = cc

pub early_within : (log : Log) (order : List ℕ) (v : ℕ) → All (Within log.nodes) order → replay_fault log order ≡ Some (SessionOrder v) → v ≤ log.nodes
unfolding replay_fault
early_within log order v h e =
    (early_one (Within log.nodes) log.session order v (by_recursion (Within log.nodes) order h)
    (early_is (lists_once log.nodes order) (first_early log.session order) (first_before_ended log.earlier order) (first_mismatch empty (in_replay log.ops order)) v e)).1

pub ended_within : (log : Log) (order : List ℕ) (v : ℕ) → All (Within log.nodes) order → replay_fault log order ≡ Some (MomentOrder v) → v ≤ log.nodes
unfolding replay_fault
ended_within log order v h e =
    (ended_one (Within log.nodes) log.earlier order v (by_recursion (Within log.nodes) order h)
    (ended_is (lists_once log.nodes order) (first_early log.session order) (first_before_ended log.earlier order) (first_mismatch empty (in_replay log.ops order)) v e)).1

pub mismatch_within : (log : Log) (order : List ℕ) (v k : ℕ) → All (Within log.nodes) order → replay_fault log order ≡ Some (ReadMismatch v k) → v ≤ log.nodes
unfolding replay_fault
mismatch_within log order v k h e =
    let m = missed_is (lists_once log.nodes order) (first_early log.session order) (first_before_ended log.earlier order) (first_mismatch empty (in_replay log.ops order)) v k e in
    let within = mismatch_one (Within log.nodes) empty (in_replay log.ops order) m.0
    (placed_within log.nodes log.ops order (by_recursion (Within log.nodes) order h)) m.1.0 in
    subst (λ n. n ≤ log.nodes) m.1.1 within.1
