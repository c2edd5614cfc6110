-- The anomaly of an external read by the write that it names.
use Rattle.anomalies.proofs.Prelude.{◌≡◌, ◌≢◌, ℕ, Bool, true, false, eqb, cond, not, ◌&&◌, List, ◌∷◌, ◌++◌, Option, None, Some, sym, ap, ◌∙◌, inl, inr, arith, append_assoc, eq-eqb, ne_eqb, list_any, option_map_or, false≢true, cond-true}
use Rattle.anomalies.proofs.Prelude.{cond-false, false_from_ne_true, and_left, and_right, and_from, not_from_true, not_from_false, Event, Read, Write, ReadAnomaly, Unknown, Aborted, Future, Intermediate, Log, last_write, WritesAfter}
use Rattle.anomalies.proofs.Prelude.{IsNumbered, committed, writes_as, is_unknown, is_aborted, is_intermediate, external_anomaly, Has-from_range, range-from_Has, any_found, any_from, wrote_is, StandsAt, split_anomaly}
use Rattle.session_history.specs.Writes.{IsUnwritten, IsNodesWrite, IsWrite}
use Rattle.anomaly_laws.specs.Aborted.{WritesAborted}
use Rattle.anomaly_laws.specs.Meaning.{IsIntermediateWrite}
use Rattle.anomaly_laws.proofs.Lists.{contains_at}
use Rattle.anomaly_laws.proofs.Writes.{writes_split, writes_at, writes_behind}
use Rattle.anomaly_laws.proofs.Tests.{aborted_writes, intermediate_write, aborted_from as aborted}
use Rattle.session_history.proofs.Identified.{writes_where_contained}
use Rattle.anomalies.proofs.Sound.{IsSound, same_at, same_key}

-- ---- the five tests in turn
pick_unknown : (a : Bool) (o : Option ReadAnomaly) → a ≡ true → cond a (Some Unknown) o ≡ Some Unknown
pick_unknown a o e = cond-true a (Some Unknown) o e

pick_aborted : (a b : Bool) (o : Option ReadAnomaly) → a ≡ false → b ≡ true → cond a (Some Unknown) (cond b (Some Aborted) o) ≡ Some Aborted
pick_aborted a b o e f = cond-false a (Some Unknown) (cond b (Some Aborted) o) e ∙ cond-true b (Some Aborted) o f

pick_later : (a b : Bool) (o : Option ReadAnomaly) → a ≡ false → b ≡ false → cond a (Some Unknown) (cond b (Some Aborted) o) ≡ o
pick_later a b o e f = cond-false a (Some Unknown) (cond b (Some Aborted) o) e ∙ cond-false b (Some Aborted) o f

pick_intermediate : (c d : Bool) (o : Option ReadAnomaly) → c ≡ false → d ≡ true → cond c (Some Future) (cond d (Some Intermediate) o) ≡ Some Intermediate
pick_intermediate c d o e f = cond-false c (Some Future) (cond d (Some Intermediate) o) e ∙ cond-true d (Some Intermediate) o f

pick_none : (c d : Bool) (o : Option ReadAnomaly) → c ≡ false → d ≡ false → cond c (Some Future) (cond d (Some Intermediate) o) ≡ o
pick_none c d o e f = cond-false c (Some Future) (cond d (Some Intermediate) o) e ∙ cond-false d (Some Intermediate) o f

-- ---- what each test says
abbrev nodes_write : Log → ℕ → ℕ → Bool
nodes_write log x w = list_any (λ u. writes_as x w (log.ops u)) (committed log)

unwritten_by_nodes : (log : Log) (x w : ℕ) → ((u : ℕ) (before : List Event) → WritesAfter log u before x w → ⊥) → nodes_write log x w ≡ false
unwritten_by_nodes log x w h = false_from_ne_true (nodes_write log x w) (λ t.
    (let f = any_found (λ u. writes_as x w (log.ops u)) (committed log) t in
    let range = range-from_Has f.0 1 log.nodes f.1.1 in
    let s = writes_split x w (log.ops f.0) f.1.0 in
    h f.0 s.before (omega (arith, range.0), omega (arith, range.1), (s.behind, s.stands))))

written_by_node : (log : Log) (u x w : ℕ) (before : List Event) → WritesAfter log u before x w → nodes_write log x w ≡ true
written_by_node log u x w before a =
    any_from (λ k. writes_as x w (log.ops k)) (committed log) u (writes_at x w (log.ops u) before a.2.0 a.2.1)
    (Has-from_range u 1 log.nodes (omega (arith, a.0)) (omega (arith, a.1)))

not_aborted : (log : Log) (x w : ℕ) → (WritesAborted log x w → ⊥) → is_aborted log x w ≡ false
not_aborted log x w h = false_from_ne_true (is_aborted log x w) (λ t. h (aborted_writes log x w t))

not_future : (x w : ℕ) (ops : List Event) → ((before behind : List Event) → ops ≡ before ++ Write x w ∷ behind → ⊥) → writes_as x w ops ≡ false
not_future x w ops h = false_from_ne_true (writes_as x w ops) (λ t. (let s = writes_split x w ops t in h s.before s.behind s.stands))

not_intermediate : (log : Log) (v x w : ℕ) → (IsIntermediateWrite log v x w → ⊥) → is_intermediate log v x w ≡ false
not_intermediate log v x w h = false_from_ne_true (is_intermediate log v x w) (λ t. h (intermediate_write log v x w t))

intermediate : (log : Log) (v u x w : ℕ) (before : List Event) → WritesAfter log u before x w → u ≢ v → last_write x (log.ops u) ≢ Some w → is_intermediate log v x w ≡ true
intermediate log v u x w before a ne unlike =
    let final = option_map_or (λ y. eqb y w) (last_write x (log.ops u)) false in
    let other : final ≡ false = false_from_ne_true final (λ t. unlike (wrote_is (last_write x (log.ops u)) w t)) in
    any_from (λ k. not (eqb k v) && (writes_as x w (log.ops k) && not (option_map_or (λ y. eqb y w) (last_write x (log.ops k)) false))) (committed log) u
    (and_from (not (eqb u v)) (writes_as x w (log.ops u) && not final) (not_from_false (eqb u v) (ne_eqb u v ne))
    (and_from (writes_as x w (log.ops u)) (not final) (writes_at x w (log.ops u) before a.2.0 a.2.1) (not_from_false final other)))
    (Has-from_range u 1 log.nodes (omega (arith, a.0)) (omega (arith, a.1)))

unknown : (log : Log) (x w : ℕ) → w ≢ 0 → nodes_write log x w ≡ false → is_aborted log x w ≡ false → is_unknown log x w ≡ true
unknown log x w ne n a = grind (arith, and_from, not_from_false)

known_zero : (log : Log) (x w : ℕ) → w ≡ 0 → is_unknown log x w ≡ false
known_zero log x w e = and_left (not (eqb w 0)) (not (nodes_write log x w) && not (is_aborted log x w)) (not_from_true (eqb w 0) (eq-eqb w 0 e))

known_node : (log : Log) (x w : ℕ) → nodes_write log x w ≡ true → is_unknown log x w ≡ false
known_node log x w n = grind (arith, and_right, and_left, not_from_true)

known_aborted : (log : Log) (x w : ℕ) → is_aborted log x w ≡ true → is_unknown log x w ≡ false
known_aborted log x w a = grind (arith, and_right, not_from_true)

-- ---- a read of x as w in node v
behind_read : (log : Log) (v x w : ℕ) (before behind front back : List Event) → StandsAt log v before (Read x w) behind → behind ≡ front ++ Write x w ∷ back → WritesAfter log v (before ++ Read x w ∷ front) x w
behind_read log v x w before behind front back s e =
    (s.low, s.high, (back, s.stands ∙ ap (λ l. before ++ Read x w ∷ l) e ∙ sym (append_assoc before (Read x w ∷ front) (Write x w ∷ back))))

pub zero_read : (log : Log) → IsSound log → (v x w : ℕ) (before behind : List Event) → StandsAt log v before (Read x w) behind → w ≡ 0 → external_anomaly log v before x w behind ≡ split_anomaly x w before
zero_read log sound v x w before behind s z =
    let never : (u : ℕ) (front : List Event) → WritesAfter log u front x w → ⊥ =
    λ u front a. omega (arith, sound.numbered.nonzero u x w front a, z) in
    pick_later (is_unknown log x w) (is_aborted log x w) _ (known_zero log x w z)
    (not_aborted log x w (λ a. omega (arith, sound.numbered.aborted_nonzero x w a.0 a.1 a.2, z)))
    ∙ pick_none (writes_as x w behind) (is_intermediate log v x w) _
    (not_future x w behind (λ front back e. never v (before ++ Read x w ∷ front) (behind_read log v x w before behind front back s e)))
    (not_intermediate log v x w (λ i. never i.writer i.before i.writes))

pub unwritten_read : (log : Log) (v x w : ℕ) (before behind : List Event) → w ≢ 0 → IsUnwritten log w → external_anomaly log v before x w behind ≡ Some Unknown
unwritten_read log v x w before behind ne h =
    pick_unknown (is_unknown log x w) _ (unknown log x w ne
    (unwritten_by_nodes log x w (λ u front a. h.committed u x a.0 a.1 (contains_at (log.ops u) front (Write x w) a.2.0 a.2.1)))
    (not_aborted log x w (λ a. h.aborted x a.0 a.1 a.2)))

-- ---- where some transaction writes w
node_writes : (log : Log) (u x w : ℕ) (last : Bool) → IsNodesWrite log u x w last → (before : List Event) × WritesAfter log u before x w
node_writes log u x w last h =
    let s = writes_split x w (log.ops u) (writes_where_contained x w (log.ops u) h.stands) in
    (s.before, (h.node.0, h.node.1, (s.behind, s.stands)))

one_key : (log : Log) → IsNumbered log → (u k x y w : ℕ) (a b : List Event) → WritesAfter log u a x w → WritesAfter log k b y w → x ≡ y
one_key log numbered u k x y w a b p q =
    let same = numbered.distinct u k x y w a b p q in
    same_key x y w (same_at b (Write x w) (Write y w) p.2.0 q.2.0 (ap (λ f. f ++ Write x w ∷ p.2.0) (sym same.1) ∙ sym p.2.1 ∙ ap log.ops same.0 ∙ q.2.1))

pub other_key_read : (log : Log) → IsSound log → (v x w y u : ℕ) (last : Bool) (before behind : List Event) → w ≢ 0 → IsWrite log w y u last → y ≢ x → external_anomaly log v before x w behind ≡ Some Unknown
other_key_read log sound v x w y u last before behind ne (inl h) other =
    pick_unknown (is_unknown log x w) _ (unknown log x w ne
    (unwritten_by_nodes log x w (λ k front a. sound.numbered.aborted k x y w front h.1.0 a h.1.1 h.1.2))
    (not_aborted log x w (λ a. other (sound.aborted_once y x w h.1.0 a.0 h.1.1 h.1.2 a.1 a.2))))
other_key_read log sound v x w y u last before behind ne (inr h) other =
    let here = node_writes log u y w last h in
    pick_unknown (is_unknown log x w) _ (unknown log x w ne
    (unwritten_by_nodes log x w (λ k front a. other (one_key log sound.numbered u k y x w here.0 front here.1 a)))
    (not_aborted log x w (λ a. sound.numbered.aborted u y x w here.0 a.0 here.1 a.1 a.2)))

pub aborted_read : (log : Log) (v x w u : ℕ) (last : Bool) (before behind : List Event) → IsWrite log w x u last → u ≡ 0 → external_anomaly log v before x w behind ≡ Some Aborted
aborted_read log v x w u last before behind v8 z = grind (arith, aborted, pick_aborted, known_aborted)

nodes_own : (log : Log) (x w u : ℕ) (last : Bool) → IsWrite log w x u last → u ≢ 0 → IsNodesWrite log u x w last
nodes_own log x w u last (inl h) ne = absurd (ne h.0)
nodes_own log x w u last (inr h) ne = h

-- no aborted transaction writes what a node does
past_aborted : (log : Log) → IsSound log → (u x w : ℕ) (before : List Event) (o : Option ReadAnomaly) → WritesAfter log u before x w → cond (is_unknown log x w) (Some Unknown) (cond (is_aborted log x w) (Some Aborted) o) ≡ o
past_aborted log sound u x w before o a =
    pick_later (is_unknown log x w) (is_aborted log x w) o (known_node log x w (written_by_node log u x w before a))
    (not_aborted log x w (λ b. sound.numbered.aborted u x x w before b.0 a b.1 b.2))

pub future_read : (log : Log) → IsSound log → (v x w u : ℕ) (last : Bool) (before behind : List Event) → StandsAt log v before (Read x w) behind → last_write x before ≡ None → IsWrite log w x u last → u ≢ 0 → u ≡ v → external_anomaly log v before x w behind ≡ Some Future
future_read log sound v x w u last before behind s external write ne same =
    let h = nodes_own log x w u last write ne in
    let a = node_writes log u x w last h in
    let own : writes_as x w (log.ops v) ≡ true = ap (λ k. writes_as x w (log.ops k)) (sym same) ∙ writes_where_contained x w (log.ops u) h.stands in
    past_aborted log sound u x w a.0 _ a.1
    ∙ cond-true (writes_as x w behind) (Some Future) _ (writes_behind x w w (log.ops v) before behind s.stands external own)

not_own_future : (log : Log) → IsSound log → (v x w u : ℕ) (before behind a : List Event) → StandsAt log v before (Read x w) behind → WritesAfter log u a x w → u ≢ v → writes_as x w behind ≡ false
not_own_future log sound v x w u before behind a s written ne =
    not_future x w behind (λ front back e.
    ne (sound.numbered.distinct u v x x w a (before ++ Read x w ∷ front) written (behind_read log v x w before behind front back s e)).0)

pub final_read : (log : Log) → IsSound log → (v x w u : ℕ) (last : Bool) (before behind : List Event) → StandsAt log v before (Read x w) behind → IsWrite log w x u last → u ≢ 0 → u ≢ v → last ≡ true → external_anomaly log v before x w behind ≡ split_anomaly x w before
final_read log sound v x w u last before behind s write ne apart final =
    let h = nodes_own log x w u last write ne in
    let a = node_writes log u x w last h in
    past_aborted log sound u x w a.0 _ a.1
    ∙ pick_none (writes_as x w behind) (is_intermediate log v x w) _ (not_own_future log sound v x w u before behind a.0 s a.1 apart)
    (not_intermediate log v x w (λ i.
    (let same = sound.numbered.distinct u i.writer x x w a.0 i.before a.1 i.writes in
    let ends : Some i.final ≡ Some w = sym i.ends ∙ ap (λ k. last_write x (log.ops k)) (sym same.0) ∙ h.is_last.0 final in
    i.differs cc)))

pub intermediate_read : (log : Log) → IsSound log → (v x w u : ℕ) (last : Bool) (before behind : List Event) → StandsAt log v before (Read x w) behind → IsWrite log w x u last → u ≢ 0 → u ≢ v → last ≡ false → external_anomaly log v before x w behind ≡ Some Intermediate
intermediate_read log sound v x w u last before behind s write ne apart early =
    let h = nodes_own log x w u last write ne in
    let a = node_writes log u x w last h in
    past_aborted log sound u x w a.0 _ a.1
    ∙ pick_intermediate (writes_as x w behind) (is_intermediate log v x w) _ (not_own_future log sound v x w u before behind a.0 s a.1 apart)
    (intermediate log v u x w a.0 a.1 apart (λ e. false≢true (sym early ∙ h.is_last.1 e)))
