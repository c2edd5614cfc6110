-- Each known edge between transactions has a reason.
use Rattle.std.proofs.Common.{◌≡◌, ◌≢◌, ◌⊎◌, ℕ, zero, suc, ◌+◌, ◌<◌, ◌≤◌, true, eqb, not, List, [], ◌∷◌, ◌++◌, Option, None, Some, refl, sym, ap, ◌∙◌, subst, inl, inr, arith}
use Rattle.std.specs.List.{filter, flat_map, range_with_len, AllByRecursion, Contains}
use Rattle.std.proofs.lemmas.Bool.{false≢true, and_parts, not-true, eqb-false, ltb-true}
use Rattle.list_lemmas.proofs.Options.{some_of}
use Rattle.session_log.specs.Moments.{is_earlier}
use Rattle.session_log.specs.Text.{ClientSession}
use Rattle.session_log.specs.declared.session.Op.TheVariants.{Write}
use Rattle.serializability.specs.Log.{Log, precedes}
use Rattle.serializability.specs.Reads.{last_write, IsFinal, IsClean}
use Rattle.serializability.specs.Polygraph.{Edge, arcs, is_arc, committed, source}
use Rattle.serializability.proofs.Places.{each_from_range, each_from_flat_map, each_from_map, each_from_filter}
use Rattle.serializability.proofs.Sources.{reads_from_is, one_final}
use Rattle.serializability.proofs.Serial.{each_from_arcs, arc_cases, some_cases}
use Rattle.reach_laws.proofs.Walks.{each_contained}
use Rattle.chain_laws.specs.Chains.{readers, next, tail_from, tail, is_head, heads, inner_at, inner_edges, edges_to, chain_first, initial_first}
use Rattle.chain_laws.proofs.Walks.{next_is, step_some, step_none, Steps, Head}
use Rattle.chain_laws.proofs.Coalesced.{head_parts, each_from_readers, none_some}
use Rattle.log_definitions.specs.WellFormed.{keys_in}
use Rattle.log_definitions.specs.Serial.{begun_of, ended_of}
use Rattle.log_definitions.specs.Numbers.{number_in, log_of}
use Rattle.reason_laws.specs.Reasons.{IsNode, IsOpAt, ReadsAt, WritesLastAt, Link, AreLinked, left_by, AreOfSession, IsReadBy, IsOverwrittenBy, IsOfInitialBefore, EndsBefore}
use Rattle.reason_laws.proofs.Numbers.{wrote, node_from, session_is, earlier_is, writes_key, reads_from, key_read}

-- ---- arcs
pub final_positive : (log : Log) (v x w : ℕ) → 0 < v → IsFinal log v x w → last_write x (log.ops v) ≡ Some w
final_positive log v x w lo (inl z) = absurd (omega (arith, z.0, lo))
final_positive log v x w lo (inr f) = f.2

read_reason : (ss : List ClientSession) → IsClean (log_of ss) → (a b x : ℕ) → IsNode ss a → IsNode ss b → source (log_of ss) b x ≡ Some a → (i : ℕ) × ((j : ℕ) × IsReadBy ss a i b j)
read_reason ss clean a b x first second e =
    let k = key_read ss clean b a x second e in
    let n = number_in (keys_in ss) k.0 in
    let r = reads_from ss clean b a k.0 second (sym (ap (source (log_of ss) b) k.1) ∙ e) in
    let w = writes_key ss a n r.wid k.0 refl (final_positive (log_of ss) a n r.wid first.0 r.final) in
    (w.0, (r.place, record { first = first; second = second; apart = r.other; key = k.0; wid = r.wid; writes = w.1.write; reads = r.reads.read }))

ends_before : (ss : List ClientSession) (a b : ℕ) → IsNode ss a → IsNode ss b → a ≢ b → (o p : Option ℕ) → ended_of ss a ≡ o → begun_of ss b ≡ p → is_earlier o p ≡ true → EndsBefore ss a b
ends_before ss a b first second apart None p e f t = absurd (false≢true t)
ends_before ss a b first second apart (Some x) None e f t = absurd (false≢true t)
ends_before ss a b first second apart (Some x) (Some y) e f t = record { first = first; second = second; apart = apart; end = x; begin = y; ended = e; begun = f; earlier = ltb-true x y t }

end_reason : (ss : List ClientSession) (a b : ℕ) → IsNode ss a → IsNode ss b → precedes (log_of ss) a b ≡ true → EndsBefore ss a b
end_reason ss a b first second t =
    let p = and_parts (not (eqb a b)) ((log_of ss).earlier a b) t in
    ends_before ss a b first second (eqb-false a b (not-true (eqb a b) p.0)) (ended_of ss a) (begun_of ss b) refl refl (sym (earlier_is ss a b) ∙ p.1)

abbrev pub ArcReason : List ClientSession → ℕ → ℕ → Type 0
ArcReason ss a b = AreOfSession ss a b ⊎ (((i : ℕ) × ((j : ℕ) × IsReadBy ss a i b j)) ⊎ EndsBefore ss a b)

reason_of_arc : (ss : List ClientSession) → IsClean (log_of ss) → (a b : ℕ) → a ≤ (log_of ss).nodes → b ≤ (log_of ss).nodes → is_arc (log_of ss) (a, b) ≡ true → 0 < a → ArcReason ss a b
reason_of_arc ss clean a b ahi bhi t alo =
    let c = arc_cases (log_of ss) a b t in
    let first = node_from ss a alo ahi in
    let second = node_from ss b c.0 bhi in
    elim c.1 [
      | inl h ↦ elim h [
        | inl z ↦ absurd (omega (arith, z, alo))
        | inr s ↦ inl (record { first = first; second = second; order = omega (arith, s.0); session = sym (session_is ss a) ∙ s.1 ∙ session_is ss b })
      ]
      | inr h ↦ elim h [
        | inl reads ↦ let f = reads_from_is (log_of ss) b a reads in inr (inl (read_reason ss clean a b f.0 first second f.1))
        | inr ended ↦ inr (inr (end_reason ss a b first second ended))
      ]
    ]

pub arc_reason : (ss : List ClientSession) → IsClean (log_of ss) → (a b : ℕ) → 0 < a → Contains (arcs (log_of ss)) (a, b) → ArcReason ss a b
arc_reason ss clean a b lo c =
    let Q : Edge → Type 0 = λ e. 0 < e.0 → ArcReason ss e.0 e.1 in
    each_contained Q (arcs (log_of ss)) (a, b) (each_from_arcs (log_of ss) Q (λ u v hu hv t. reason_of_arc ss clean u v hu hv t)) c lo

-- ---- inner edges
each_numbered : (Q : Edge → Type 0) (f : ℕ → List Edge) (a n : ℕ) → ((k : ℕ) → AllByRecursion Q (f k)) → AllByRecursion Q (flat_map f (range_with_len a n))
each_numbered Q f a n h = each_from_flat_map Q f (range_with_len a n) (each_from_range (λ k. AllByRecursion Q (f k)) a n (λ k lo hi. h k))

each_inner_at : (log : Log) (Q : Edge → Type 0) (x w : ℕ) (o : Option ℕ) → ((v r : ℕ) → o ≡ Some v → 0 < r → r ≤ log.nodes → source log r x ≡ Some w → r ≢ v → Q (r, v)) → AllByRecursion Q (inner_at log x w o)
each_inner_at log Q x w None h = tt
each_inner_at log Q x w (Some u) h =
    let P : ℕ → Type 0 = λ r. Q (r, u) in
    each_from_map Q (λ r. (r, u)) (filter (λ r. not (eqb r u)) (readers log x w))
    (each_from_filter P (λ r. not (eqb r u)) (readers log x w)
    (each_from_readers log x w (λ r. not (eqb r u) ≡ true → P r) (λ r lo hi from t. h u r refl lo hi from (eqb-false r u (not-true (eqb r u) t)))))

overwritten_reason : (ss : List ClientSession) → IsClean (log_of ss) → (key : List ℕ) (w v r : ℕ) → next (log_of ss) (number_in (keys_in ss) key) w ≡ Some v → IsNode ss r → source (log_of ss) r (number_in (keys_in ss) key) ≡ Some w → r ≢ v → (i : ℕ) × ((j : ℕ) × IsOverwrittenBy ss r i v j)
overwritten_reason ss clean key w v r e node from apart =
    let x = number_in (keys_in ss) key in
    let k = next_is (log_of ss) x w v e in
    let second = node_from ss v k.low k.high in
    let y = some_of (last_write x ((log_of ss).ops v)) k.writer in
    let write = writes_key ss v x y.0 key refl y.1 in
    let f = reads_from ss clean r w key node from in
    let g = reads_from ss clean v w key second k.from in
    let same = subst (ReadsAt ss v g.place key) (one_final (log_of ss) w x g.wid f.wid g.final f.final) g.reads in
    (f.place, (write.0, record { first = node; second = second; apart = apart; key = key; wid = f.wid; next = y.0; also = g.place; reads = f.reads; reads_too = same; writes = write.1.write }))

pub inner_reason : (ss : List ClientSession) → IsClean (log_of ss) → (a b : ℕ) → 0 < a → Contains (inner_edges (log_of ss)) (a, b) → (i : ℕ) × ((j : ℕ) × IsOverwrittenBy ss a i b j)
inner_reason ss clean a b lo c =
    let log = log_of ss in
    let Q : Edge → Type 0 = λ e. (i : ℕ) × ((j : ℕ) × IsOverwrittenBy ss e.0 i e.1 j) in
    each_contained Q (inner_edges log) (a, b)
    (each_numbered Q (λ x. flat_map (λ w. inner_at log x w (next log x w)) (range_with_len 0 (log.nodes + 1))) 0 log.keys (λ x.
    each_numbered Q (λ w. inner_at log x w (next log x w)) 0 (log.nodes + 1) (λ w.
    each_inner_at log Q x w (next log x w) (λ v r e rlo rhi from apart.
    let k = key_read ss clean r w x (node_from ss r rlo rhi) from in
    overwritten_reason ss clean k.0 w v r (sym (ap (λ n. next log n w) k.1) ∙ e) (node_from ss r rlo rhi) (sym (ap (source log r) k.1) ∙ from) apart))))
    c

-- ---- links of a chain, one after the other
linked_more : (ss : List ClientSession) (key : List ℕ) (wid : ℕ) (ls : List Link) (l : Link) → AreLinked ss key wid ls → IsNode ss l.node → ReadsAt ss l.node l.read key (left_by wid ls) → WritesLastAt ss l.node l.write key l.wid → AreLinked ss key wid (ls ++ l ∷ [])
linked_more ss key wid [] l linked n r w = (n, (r, (w, tt)))
linked_more ss key wid (k ∷ ls) l linked n r w = (linked.0, (linked.1.0, (linked.1.1.0, linked_more ss key k.wid ls l linked.1.1.1 n r w)))

left_more : (wid : ℕ) (ls : List Link) (l : Link) → left_by wid (ls ++ l ∷ []) ≡ l.wid
left_more wid [] l = refl
left_more wid (k ∷ ls) l = left_more k.wid ls l

-- links from the initial value to this identity
pub record Trail (ss : List ClientSession) (key : List ℕ) (wid : ℕ) : Type 0 where
  pub links : List Link
  pub linked : AreLinked ss key 0 links
  pub left : left_by 0 links ≡ wid

pub link_on : (ss : List ClientSession) → IsClean (log_of ss) → (key : List ℕ) (u s y w : ℕ) → IsNode ss u → source (log_of ss) u (number_in (keys_in ss) key) ≡ Some s → IsFinal (log_of ss) u (number_in (keys_in ss) key) y → IsFinal (log_of ss) s (number_in (keys_in ss) key) w → Trail ss key w → Trail ss key y
link_on ss clean key u s y w node e (inl z) before t = absurd (omega (arith, z.0, node.0))
link_on ss clean key u s y w node e (inr f) before t =
    let x = number_in (keys_in ss) key in
    let r = reads_from ss clean u s key node e in
    let same : r.wid ≡ w = one_final (log_of ss) s x r.wid w r.final before in
    let write = writes_key ss u x y key refl f.2 in
    let link : Link = record { node = u; read = r.place; write = write.0; wid = y } in
    record {
      links = t.links ++ link ∷ [];
      linked = linked_more ss key 0 t.links link t.linked node (subst (λ n. ReadsAt ss u r.place key n) (same ∙ sym t.left) r.reads) write.1;
      left = left_more 0 t.links link;
    }

-- links to the node that stands so many steps behind node 0
pub trail_of : (ss : List ClientSession) → IsClean (log_of ss) → (key : List ℕ) (m u y : ℕ) → Steps (log_of ss) (number_in (keys_in ss) key) m 0 u → IsFinal (log_of ss) u (number_in (keys_in ss) key) y → Trail ss key y
trail_of ss clean key zero u y s (inl z) = record { links = []; linked = tt; left = sym z.1 }
trail_of ss clean key zero u y s (inr f) = absurd (omega (arith, s, f.0))
trail_of ss clean key (suc m) u y s final =
    let n = next_is (log_of ss) (number_in (keys_in ss) key) s.0 u s.1.1 in
    let node = node_from ss u n.low n.high in
    let r = reads_from ss clean u s.0 key node n.from in
    link_on ss clean key u s.0 y r.wid node n.from final r.final (trail_of ss clean key m s.0 r.wid s.1.0 r.final)

-- a read from the chain of the initial value stands before who reads the key from nobody and writes it
pub initial_from : (ss : List ClientSession) → IsClean (log_of ss) → (a i b j : ℕ) (key : List ℕ) (wid next : ℕ) → IsNode ss a → IsNode ss b → Trail ss key wid → ReadsAt ss a i key wid → IsOpAt ss b j (Write key next) → source (log_of ss) b (number_in (keys_in ss) key) ≡ None → IsOfInitialBefore ss a i b j
initial_from ss clean a i b j key wid next first second t reads writes none =
    let unread : (i v : ℕ) → ReadsAt ss b i key v → ⊥ = λ i v read. (let f = wrote ss clean b i key v second read in none_some (source (log_of ss) b (number_in (keys_in ss) key)) f.node none f.is) in
    record {
      first = first;
      second = second;
      apart = λ e. unread i wid (subst (λ n. ReadsAt ss n i key wid) e reads);
      key = key;
      wid = next;
      links = t.links;
      linked = t.linked;
      reads = subst (ReadsAt ss a i key) (sym t.left) reads;
      writes = writes;
      unread = unread;
    }

-- ---- the chain of the initial value
each_edge_to : (Q : Edge → Type 0) (t b : ℕ) (rs : List ℕ) → Q (t, b) → AllByRecursion (λ r. Q (r, b)) rs → AllByRecursion Q (edges_to t b rs)
each_edge_to Q t b [] h k = (h, tt)
each_edge_to Q t b (r ∷ rs) h k = (k.0, each_from_map Q (λ q. (q, b)) rs k.1)

each_initial : (log : Log) (Q : Edge → Type 0) → ((x b : ℕ) → Head log x b → Q (tail log x 0, b)) → ((x b r : ℕ) → Head log x b → 0 < r → r ≤ log.nodes → source log r x ≡ Some (tail log x 0) → Q (r, b)) → AllByRecursion Q (initial_first log)
each_initial log Q last reader =
    each_numbered Q (λ x. flat_map (chain_first log x 0) (heads log x)) 0 log.keys (λ x.
    each_from_flat_map Q (chain_first log x 0) (heads log x)
    (each_from_filter (λ b. AllByRecursion Q (chain_first log x 0 b)) (is_head log x) (committed log)
    (each_from_range (λ b. is_head log x b ≡ true → AllByRecursion Q (chain_first log x 0 b)) 1 log.nodes (λ b lo' hi' t.
    let head : Head log x b = record { low = omega arith; high = omega arith; test = t } in
    each_edge_to Q (tail log x 0) b (readers log x (tail log x 0)) (last x b head)
    (each_from_readers log x (tail log x 0) (λ r. Q (r, b)) (λ r. reader x b r head))))))

steps_on : (log : Log) (x f u m : ℕ) → Steps log x m 0 u → (k : ℕ) × Steps log x k 0 (tail_from log x f u)
steps_on log x zero u m s = (m, s)
steps_on log x (suc f) u m s = elim (some_cases (next log x u)) [
  | inl e ↦ (m, subst (Steps log x m 0) (sym (step_none log x f u e)) s)
  | inr v ↦ let r = steps_on log x f v.0 (suc m) (u, (s, v.1)) in (r.0, subst (Steps log x r.0 0) (sym (step_some log x f u v.0 v.1)) r.1)
]

-- a head, and a node that reads its key from one that stands so many steps behind node 0
module _ (ss : List ClientSession) (clean : IsClean (log_of ss)) (x b : ℕ) (head : Head (log_of ss) x b) where
  reason_of_head : (a u m : ℕ) → IsNode ss a → source (log_of ss) a x ≡ Some u → Steps (log_of ss) x m 0 u → (i : ℕ) × ((j : ℕ) × IsOfInitialBefore ss a i b j)
  reason_of_head a u m node from steps =
      let log = log_of ss in
      let p = head_parts log x b head.test in
      let k = key_read ss clean a u x node from in
      let y = some_of (last_write x (log.ops b)) p.writer in
      let write = writes_key ss b x y.0 k.0 (sym k.1) y.1 in
      let r = reads_from ss clean a u k.0 node (sym (ap (source log a) k.1) ∙ from) in
      let t = trail_of ss clean k.0 m u r.wid (subst (λ n. Steps log n m 0 u) k.1 steps) r.final in
      (r.place, (write.0, initial_from ss clean a r.place b write.0 k.0 r.wid y.0 node (node_from ss b head.low head.high) t r.reads write.1.write (sym (ap (source log b) k.1) ∙ p.none)))

  last_reason : (m v : ℕ) → Steps (log_of ss) x m 0 v → 0 < v → (i : ℕ) × ((j : ℕ) × IsOfInitialBefore ss v i b j)
  last_reason zero v s lo = absurd (omega (arith, s, lo))
  last_reason (suc m) v s lo = let n = next_is (log_of ss) x s.0 v s.1.1 in reason_of_head v s.0 m (node_from ss v n.low n.high) n.from s.1.0

pub initial_reason : (ss : List ClientSession) → IsClean (log_of ss) → (a b : ℕ) → 0 < a → Contains (initial_first (log_of ss)) (a, b) → (i : ℕ) × ((j : ℕ) × IsOfInitialBefore ss a i b j)
initial_reason ss clean a b lo c =
    let log = log_of ss in
    let Q : Edge → Type 0 = λ e. 0 < e.0 → (i : ℕ) × ((j : ℕ) × IsOfInitialBefore ss e.0 i e.1 j) in
    let steps : (x : ℕ) → (k : ℕ) × Steps log x k 0 (tail log x 0) = λ x. steps_on log x log.nodes 0 0 refl in
    each_contained Q (initial_first log) (a, b)
    (each_initial log Q (λ x h head. last_reason ss clean x h head (steps x).0 (tail log x 0) (steps x).1) (λ x h r head rlo rhi from _. reason_of_head ss clean x h head r (tail log x 0) (steps x).0 (node_from ss r rlo rhi) from (steps x).1))
    c lo
