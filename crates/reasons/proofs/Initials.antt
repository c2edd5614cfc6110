-- The walk back from a node to node 0, and the operation that begins a chain behind that of the
-- initial value.
use Rattle.reasons.proofs.Prelude.{◌≡◌, ℕ, zero, suc, ◌+◌, ◌<◌, ◌≤◌, false, List, [], ◌∷◌, length, None, Some, refl, sym, ap, ◌∙◌, subst, inl, inr, arith, nat_eq, AllByRecursion, IsDistinct, ne_eqb, cases_lt, Log, IsClean, IsFinal, source}
use Rattle.reasons.proofs.Prelude.{source_is, source_within, each_weaker, log_of, number_in, ClientSession, some_one, IsBackIn, FollowsInitial, IsBegun, IsBeginning, BeginsAt, slice_get_within, Write, keys_in, IsNode, Link, AreLinked}
use Rattle.reasons.proofs.Prelude.{left_by, IsOfInitialBefore, source_of_read, within, node_from, final_at, KeyWrite, IsFirstRead, NoneBefore, IsLeastInitial, NoneInitial}
use Rattle.std.proofs.lemmas.Map.Steps.{length-le_from_distinct_below}
use Rattle.chain_laws.proofs.Maximal.{below_all}
use Rattle.session_history.proofs.Kept.{no_ops_at_zero}
use Rattle.write_chains.proofs.Backwards.{none_at_zero}
use Rattle.serializability.specs.declared.event.Event.TheVariants as event
use Rattle.reason_laws.proofs.Found.{Trail, link_on, initial_from}
use Rattle.chain_laws.proofs.Coalesced.{none_some}
use Rattle.reason_laws.proofs.Kept.{unread_source}
use Rattle.reasons.proofs.Ops.{event_at, op_at}

-- so many steps back from v stands first
pub record Walked (log : Log) (x v first step : ℕ) : Type 0 where
  pub there : (n : ℕ) → IsBackIn log x n first → IsBackIn log x (n + step) v
  pub here : (n : ℕ) → IsBackIn log x n v → (l : ℕ) × ((n ≡ l + step) × IsBackIn log x l first)

pub zero_unread : (ss : List ClientSession) (x : ℕ) → source (log_of ss) 0 x ≡ None
zero_unread ss x = none_at_zero (log_of ss) x (no_ops_at_zero ss)

module _ (log : Log) (x : ℕ) (none : source log 0 x ≡ None) where
  no_source : (v u : ℕ) → v ≡ 0 → source log v x ≡ Some u → ⊥
  no_source v u z e = let bad : None ≡ Some u = sym none ∙ ap (λ n. source log n x) (sym z) ∙ e in cc

  back_once : (m n v : ℕ) → IsBackIn log x m v → IsBackIn log x n v → m ≡ n
  back_once zero zero v b d = refl
  back_once zero (suc n) v b d = absurd (no_source v d.0 b d.1.0)
  back_once (suc m) zero v b d = absurd (no_source v b.0 d b.1.0)
  back_once (suc m) (suc n) v b d = let same = some_one (source log v x) d.0 b.0 d.1.0 b.1.0 in ap suc (back_once m n b.0 b.1.1 (subst (IsBackIn log x n) same d.1.1))

  -- ---- the way is no longer than the nodes are many
  -- v and what stands before it, down to node 0
  abbrev line : (n v : ℕ) → IsBackIn log x n v → List ℕ
  line zero v b = []
  line (suc n) v b = v ∷ line n b.0 b.1.1

  line_length : (n v : ℕ) (b : IsBackIn log x n v) → length (line n v b) ≡ n
  line_length zero v b = refl
  line_length (suc n) v b = ap suc (line_length n b.0 b.1.1)

  record IsOn (m u : ℕ) : Type 0 where
    steps : ℕ
    few : steps ≤ m
    back : IsBackIn log x steps u

  all_on : (m n v : ℕ) → n ≤ m → (b : IsBackIn log x n v) → AllByRecursion (IsOn m) (line n v b)
  all_on m zero v le b = tt
  all_on m (suc n) v le b = (record { steps = suc n; few = le; back = b }, all_on m n b.0 (omega (arith, le)) b.1.1)

  apart : (n v : ℕ) (b : IsBackIn log x n v) → IsDistinct nat_eq (line n v b)
  unfolding IsDistinct
  apart zero v b = tt
  apart (suc n) v b = (
    each_weaker (IsOn n) (λ u. nat_eq v u ≡ false) (λ u h. ne_eqb v u (λ e. (let same = back_once (suc n) h.steps v b (subst (IsBackIn log x h.steps) (sym e) h.back) in let few = h.few in omega (arith, same, few)))) (line n b.0 b.1.1) (all_on n n b.0 (omega arith) b.1.1),
    apart n b.0 b.1.1,
  )

  each_within : (n v : ℕ) → v ≤ log.nodes → (b : IsBackIn log x n v) → AllByRecursion (λ u. u ≤ log.nodes) (line n v b)
  each_within zero v le b = tt
  each_within (suc n) v le b = (le, each_within n b.0 (source_within log v x b.0 b.1.0) b.1.1)

  short : (n v : ℕ) → v ≤ log.nodes → IsBackIn log x n v → n ≤ log.nodes + 1
  short n v le b =
      let few = length-le_from_distinct_below (line n v b) (log.nodes + 1) (apart n v b) (below_all log.nodes (line n v b) (each_within n v le b)) in
      omega (arith, few, line_length n v b)

  -- ---- the walk
  one_back : (n v s : ℕ) → source log v x ≡ Some s → IsBackIn log x n v → (k : ℕ) × ((n ≡ suc k) × IsBackIn log x k s)
  one_back zero v s e b = absurd (no_source v s b e)
  one_back (suc n) v s e b = (n, (refl, subst (IsBackIn log x n) (some_one (source log v x) b.0 s b.1.0 e) b.1.1))

  pub walk_on : (v first s step : ℕ) → Walked log x v first step → source log first x ≡ Some s → Walked log x v s (step + 1)
  walk_on v first s step w e = record {
    there = λ n b. (let k : suc n + step ≡ n + (step + 1) = omega arith in subst (λ k. IsBackIn log x k v) k (w.there (suc n) (s, (e, b))));
    here = λ n b. (let h = w.here n b in let o = one_back h.0 first s e h.1.1 in (o.0, (omega (arith, h.1.0, o.1.0), o.1.1)));
  }

  follows : (n v : ℕ) → 0 < v → IsBackIn log x n v → FollowsInitial log x v
  follows zero v low b = absurd (omega (arith, low, b))
  follows (suc n) v low b = record { steps = n; back = b }

  ends_at : (n v : ℕ) → source log v x ≡ None → IsBackIn log x n v → v ≡ 0
  ends_at zero v e b = b
  ends_at (suc n) v e b = let bad : None ≡ Some b.0 = sym e ∙ b.1.0 in cc

  pub ended : (v first step : ℕ) → 0 < v → Walked log x v first step → source log first x ≡ None → (first ≡ 0 → FollowsInitial log x v) × (FollowsInitial log x v → first ≡ 0)
  ended v first step low w e = (λ z. follows (0 + step) v low (w.there 0 z), λ f. (let h = w.here (suc f.steps) f.back in ends_at h.0 first e h.1.1))

  pub too_far : (v first step : ℕ) → v ≤ log.nodes → Walked log x v first step → log.nodes + 2 ≤ step → FollowsInitial log x v → ⊥
  too_far v first step high w far f = let h = w.here (suc f.steps) f.back in omega (arith, h.1.0, far, short (suc f.steps) v high f.back)

-- ---- links, one after the other
-- node 0 reads nothing
positive : (ss : List ClientSession) (u s x : ℕ) → source (log_of ss) u x ≡ Some s → 0 < u
positive ss zero s x e = absurd (none_some (source (log_of ss) 0 x) s (zero_unread ss x) e)
positive ss (suc u) s x e = omega arith

trail : (ss : List ClientSession) → IsClean (log_of ss) → (key : List ℕ) (n u y : ℕ) → u ≤ (log_of ss).nodes → IsFinal (log_of ss) u (number_in (keys_in ss) key) y → IsBackIn (log_of ss) (number_in (keys_in ss) key) n u → Trail ss key y
trail ss clean key zero u y hi (inl f) b = record { links = []; linked = tt; left = sym f.1 }
trail ss clean key zero u y hi (inr f) b = absurd (omega (arith, f.0, b))
trail ss clean key (suc n) u y hi f b =
    let x = number_in (keys_in ss) key in
    let lo = positive ss u b.0 x b.1.0 in
    let g = source_is (log_of ss) clean u x b.0 lo hi b.1.0 in
    link_on ss clean key u b.0 y g.w (node_from ss u lo hi) b.1.0 f g.final
    (trail ss clean key n b.0 g.w (source_within (log_of ss) u x b.0 b.1.0) g.final b.1.1)

-- ---- from the log
pub initial_is : (ss : List ClientSession) → IsClean (log_of ss) → (a b read : ℕ) (o : KeyWrite) → IsNode ss a → IsNode ss b → BeginsAt (log_of ss) a b o → IsFirstRead ss a o.key read → IsOfInitialBefore ss a read b o.place
initial_is ss clean a b read o first second g r =
    let write = op_at ss b o.place (event.Write o.key g.wid) g.stands in
    let x = number_in (keys_in ss) write.key in
    let begun = subst (IsBegun (log_of ss) a b) {y = x} (sym write.number) g.begun in
    let back = begun.1.back in
    let own = subst (λ n. IsFirstRead ss a n read) {y = x} (sym write.number) r in
    let from = source_is (log_of ss) clean a x back.0 first.0 (within ss a first) back.1.0 in
    let t = trail ss clean write.key begun.1.steps back.0 from.w (source_within (log_of ss) a x back.0 back.1.0) from.final back.1.1 in
    initial_from ss clean a read b o.place write.key from.w g.wid first second t (own.reads write.key back.0 from.w refl back.1.0 from.final) write.stands begun.0

-- ---- from the sessions
link_final : (ss : List ClientSession) (key : List ℕ) (wid : ℕ) (l : Link) (ls : List Link) → AreLinked ss key wid (l ∷ ls) → IsFinal (log_of ss) l.node (number_in (keys_in ss) key) l.wid
link_final ss key wid l ls linked = inr (linked.0.0, within ss l.node linked.0, final_at ss l.node l.write key l.wid linked.1.1.0)

record EndsIn (log : Log) (x wid : ℕ) : Type 0 where
  pub node : ℕ
  pub final : IsFinal log node x wid
  pub steps : ℕ
  pub back : IsBackIn log x steps node

end_of : (ss : List ClientSession) → IsClean (log_of ss) → (key : List ℕ) (wid : ℕ) (links : List Link) → AreLinked ss key wid links → EndsIn (log_of ss) (number_in (keys_in ss) key) wid → EndsIn (log_of ss) (number_in (keys_in ss) key) (left_by wid links)
end_of ss clean key wid [] linked h = h
end_of ss clean key wid (l ∷ ls) linked h =
    end_of ss clean key l.wid ls linked.1.1.1 (record { node = l.node; final = link_final ss key wid l ls linked; steps = suc h.steps; back = (h.node, (source_of_read ss clean l.node l.read key wid h.node linked.0 linked.1.0 h.final, h.back)) })

begun : (ss : List ClientSession) → IsClean (log_of ss) → (a i b j : ℕ) (r : IsOfInitialBefore ss a i b j) → IsBegun (log_of ss) a b (number_in (keys_in ss) r.key)
begun ss clean a i b j r =
    let t = end_of ss clean r.key 0 r.links r.linked (record { node = 0; final = inl (refl, refl); steps = 0; back = refl }) in
    let reads = source_of_read ss clean a i r.key (left_by 0 r.links) t.node r.first r.reads t.final in
    (unread_source ss clean b r.key r.second.0 (within ss b r.second) r.unread, record { steps = t.steps; back = (t.node, (reads, t.back)) })

not_earlier : (ss : List ClientSession) → IsClean (log_of ss) → (a b n : ℕ) → NoneBefore (IsBeginning (log_of ss) a b) ((log_of ss).ops b) n → (i j : ℕ) → IsOfInitialBefore ss a i b j → n ≤ j
not_earlier ss clean a b n h i j r = elim (cases_lt j n) [
  | inl lt ↦ absurd (h.none j (event.Write (number_in (keys_in ss) r.key) r.wid) lt (event_at ss b j (Write r.key r.wid) r.writes) (begun ss clean a i b j r))
  | inr le ↦ le
]

pub none_initial : (ss : List ClientSession) → IsClean (log_of ss) → (a b : ℕ) → NoneBefore (IsBeginning (log_of ss) a b) ((log_of ss).ops b) (length ((log_of ss).ops b)) → NoneInitial ss a b
none_initial ss clean a b h i j r =
    let ops = (log_of ss).ops b in
    let within = slice_get_within ops j (event.Write (number_in (keys_in ss) r.key) r.wid) (event_at ss b j (Write r.key r.wid) r.writes) in
    absurd (omega (arith, within, not_earlier ss clean a b (length ops) h i j r))

pub initial_least : (ss : List ClientSession) → IsClean (log_of ss) → (a b read : ℕ) (o : KeyWrite) → BeginsAt (log_of ss) a b o → IsFirstRead ss a o.key read → IsLeastInitial ss a read b o.place
initial_least ss clean a b read o g f = record {
  second = not_earlier ss clean a b o.place g.first;
  first = λ i r.
      (let found : Some (event.Write (number_in (keys_in ss) r.key) r.wid) ≡ Some (event.Write o.key g.wid) = sym (event_at ss b o.place (Write r.key r.wid) r.writes) ∙ g.stands in
      f.first r.key i (left_by 0 r.links) (cc) r.reads.read);
}
