-- An order fits the chains of a clean history exactly when it fits its bipaths.
use Rattle.chain_laws.proofs.Prelude.{◌≡◌, ◌≢◌, ◌⊎◌, ℕ, zero, suc, ◌+◌, ◌<◌, ◌≤◌, true, eqb, not, List, [], ◌∷◌, ◌++◌, Option, None, Some, refl, sym, ap, ◌∙◌, subst, inl, inr, arith, ne_eqb, is_some, map, filter, flat_map, AllByRecursion}
use Rattle.chain_laws.proofs.Prelude.{cases_eq, cases_order, and_parts, not-true, not_from_false, eqb-false, Log, Before, last_write, IsClean, option_map_or, none_of, Edge, Keeps, KeepsOne, Fits, arcs, bipath_polygraph, all_nodes}
use Rattle.chain_laws.proofs.Prelude.{committed, all_keys, source, each_of_range, each_from_range, each_of_append, each_from_append, each_of_flat_map, each_from_flat_map, each_of_map, each_from_map, each_of_filter, each_from_filter}
use Rattle.chain_laws.proofs.Prelude.{source_is, wrote_is, wrote_from, KeepsBipaths, arcs_kept, bipaths_kept, keeps_bipaths, rival_from, rival_is, source_within, some_cases, none_not_some, zero_first, writes, reads_key, readers, next}
use Rattle.chain_laws.proofs.Prelude.{tail_from, tail, is_head, heads, inner_at, inner_edges, edges_to, chain_first, initial_first, chain_choice, chain_choices, chain_polygraph, at, places_apart}
use Rattle.serializability.specs.Pairs.{pairs_of}
use Rattle.serializability.proofs.EachPair.{each_pair_from, each_pair_of}
use Rattle.chain_laws.proofs.Walks.{next_is, Setting, reader_behind, next_behind, tail_next, tail_none, tail_behind, Steps, one_step, followed, Head, head_of}

-- ---- what it is to keep chains, in words of places
-- the chain of a stands before b
record After (log : Log) (order : List ℕ) (x a b : ℕ) : Type 0 where
  pub last : at order (tail log x a) < at order b
  pub reader : (r : ℕ) → 0 < r → r ≤ log.nodes → source log r x ≡ Some (tail log x a) → at order r < at order b

record ChainsKept (log : Log) (order : List ℕ) : Type 0 where
  pub inner : (x w v r : ℕ) → x < log.keys → w ≤ log.nodes → next log x w ≡ Some v → 0 < r → r ≤ log.nodes → source log r x ≡ Some w → r ≢ v → at order r < at order v
  pub initial : (x h : ℕ) → x < log.keys → Head log x h → After log order x 0 h
  pub pair : (x a b : ℕ) → x < log.keys → Head log x a → Head log x b → a ≢ b → After log order x a b ⊎ After log order x b a

pub record HeadParts (log : Log) (x h : ℕ) : Type 0 where
  pub writer : writes log x h ≡ true
  pub none : source log h x ≡ None

pub head_parts : (log : Log) (x h : ℕ) → is_head log x h ≡ true → HeadParts log x h
head_parts log x h t =
    let p = and_parts (writes log x h) _ t in
    record { writer = p.0; none = none_of (source log h x) (not-true (is_some (source log h x)) p.1) }

pub none_some : (o : Option ℕ) (v : ℕ) → o ≡ None → o ≡ Some v → ⊥
none_some o v a b = let e : None ≡ Some v = sym a ∙ b in cc

apart_before : (order : List ℕ) (u v : ℕ) → at order u < at order v → v ≢ u
apart_before order u v h e = let same = ap (at order) e in omega (arith, same, h)

-- ---- from the bipaths
rival_before : (log : Log) (order : List ℕ) → KeepsBipaths log order → (x r w k : ℕ) → x < log.keys → 0 < r → r ≤ log.nodes → source log r x ≡ Some w → 0 < k → k ≤ log.nodes → writes log x k ≡ true → k ≢ w → k ≢ r → (at order k < at order w) ⊎ (at order r < at order k)
rival_before log order keeps x r w k key lo hi from klo khi t nw nr =
    let y = some_cases (last_write x (log.ops k)) in
    elim y [
      | inl e ↦ absurd (none_not_some _ e t)
      | inr e ↦ elim (keeps r x w k lo hi key from klo khi (rival_from log x w r k e.0 e.1 nw nr)) [
        | inl b ↦ inl b.0
        | inr b ↦ inr b.0
      ]
    ]

-- a writer that stands behind one of a chain, and begins another, stands behind its last
last_before : (log : Log) (order : List ℕ) → Setting log order → KeepsBipaths log order → (x b : ℕ) → x < log.keys → Head log x b → (f w : ℕ) → at order w < at order b → at order (tail_from log x f w) < at order b
last_before log order s keeps x b key h zero w lt = lt
last_before log order s keeps x b key h (suc f) w lt = elim (some_cases (next log x w)) [
  | inl e ↦
      let same : tail_from log x (suc f) w ≡ w = ap (λ o. option_map_or (tail_from log x f) o w) e in
      subst (λ q. at order q < at order b) (sym same) lt
  | inr v ↦
      let k = next_is log x w v.0 v.1 in
      let p = head_parts log x b h.test in
      let same : tail_from log x (suc f) w ≡ tail_from log x f v.0 = ap (λ o. option_map_or (tail_from log x f) o w) v.1 in
      let other : b ≢ v.0 = λ e. none_some (source log v.0 x) w (subst (λ q. source log q x ≡ None) e p.none) k.from in
      subst (λ q. at order q < at order b) (sym same)
      (elim (rival_before log order keeps x v.0 w b key k.low k.high k.from h.low h.high p.writer (apart_before order w b lt) other) [
        | inl back ↦ absurd (omega (arith, back, lt))
        | inr ahead ↦ last_before log order s keeps x b key h f v.0 ahead
      ])
]

after_kept : (log : Log) (order : List ℕ) → Setting log order → KeepsBipaths log order → (x a b : ℕ) → x < log.keys → Head log x b → at order a < at order b → After log order x a b
after_kept log order s keeps x a b key h lt =
    let p = head_parts log x b h.test in
    let last = last_before log order s keeps x b key h log.nodes a lt in
    record {
      last = last;
      reader = λ r lo hi from.
          (let other : b ≢ r = λ e. none_some (source log r x) (tail log x a) (subst (λ q. source log q x ≡ None) e p.none) from in
          elim (rival_before log order keeps x r (tail log x a) b key lo hi from h.low h.high p.writer (apart_before order (tail log x a) b last) other) [
            | inl back ↦ absurd (omega (arith, back, last))
            | inr ahead ↦ ahead
          ]);
    }

chains_kept : (log : Log) (order : List ℕ) → Setting log order → KeepsBipaths log order → ChainsKept log order
chains_kept log order s keeps = record {
  inner = λ x w v r key hw e lo hi from ne.
      (let k = next_is log x w v e in
      let ahead = next_behind log order s x w v key e in
      elim (rival_before log order keeps x r w v key lo hi from k.low k.high k.writer (apart_before order w v ahead) (λ q. ne (sym q))) [
        | inl back ↦ absurd (omega (arith, back, ahead))
        | inr b ↦ b
      ]);
  initial = λ x h key head. after_kept log order s keeps x 0 h key head (zero_first order h head.low);
  pair = λ x a b key ha hb ne.
      (elim (cases_order (at order a) (at order b)) [
        | inl same ↦ absurd (places_apart log.nodes order s.once a b ha.high ne same)
        | inr o ↦ elim o [
          | inl lt ↦ inl (after_kept log order s keeps x a b key hb lt)
          | inr lt ↦ inr (after_kept log order s keeps x b a key ha lt)
        ]
      ]);
}

-- ---- from the chains
-- r reads from w, whose chain stands before k
reader_first : (log : Log) (order : List ℕ) → Setting log order → ChainsKept log order → (x a b r w : ℕ) → x < log.keys → 0 < r → r ≤ log.nodes → w ≤ log.nodes → source log r x ≡ Some w → tail log x a ≡ tail log x w → After log order x a b → at order r < at order b
reader_first log order s kept x a b r w key lo hi hw from same after = elim (some_cases (next log x w)) [
  | inl e ↦
      let is : w ≡ tail log x a = sym (same ∙ tail_none log order s x w key hw e) in
      after.reader r lo hi (from ∙ ap Some is)
  | inr v ↦
      let k = next_is log x w v.0 v.1 in
      let end : tail log x a ≡ tail log x v.0 = same ∙ tail_next log order s x w v.0 key hw v.1 in
      let place = ap (at order) end in
      let far = tail_behind log order s x key log.nodes v.0 in
      elim (cases_eq r v.0) [
        | inl e ↦ let here = ap (at order) e in omega (arith, here, far, place, after.last)
        | inr ne ↦ omega (arith, kept.inner x w v.0 r key hw v.1 lo hi from ne, far, place, after.last)
      ]
]

same_head : (log : Log) (order : List ℕ) → Setting log order → ChainsKept log order → (x r w k h p q : ℕ) → x < log.keys → 0 < r → r ≤ log.nodes → w ≤ log.nodes → source log r x ≡ Some w → k ≢ w → k ≢ r → Steps log x p h w → Steps log x q h k → (at order k < at order w) ⊎ (at order r < at order k)
same_head log order s kept x r w k h p q key lo hi hw from nw nr fw fk = elim (cases_order p q) [
  | inl e ↦ absurd (nw (one_step log x q h k w fk (subst (λ i. Steps log x i h w) e fw)))
  | inr o ↦ elim o [
    | inl lt ↦
        let f = followed log order s x key q p h w k lt fw fk in
        inr (elim (cases_eq r f.v) [
          | inl e ↦
              let here = ap (at order) e in
              let apart = places_apart log.nodes order s.once r k hi (λ same. nr (sym same)) in
              omega (arith, here, f.upto, apart)
          | inr ne ↦ omega (arith, kept.inner x w f.v r key hw f.is lo hi from ne, f.upto)
        ])
    | inr lt ↦
        let f = followed log order s x key p q h k w lt fk fw in
        inl (omega (arith, next_behind log order s x k f.v key f.is, f.upto))
  ]
]

-- the two chains' heads, one before the other
heads_apart : (log : Log) (order : List ℕ) → ChainsKept log order → (x a b : ℕ) → x < log.keys → (a ≡ 0) ⊎ Head log x a → (b ≡ 0) ⊎ Head log x b → a ≢ b → After log order x a b ⊎ After log order x b a
heads_apart log order kept x a b key (inl p) (inl q) ne = absurd (ne (p ∙ sym q))
heads_apart log order kept x a b key (inl p) (inr q) ne = inl (subst (λ n. After log order x n b) (sym p) (kept.initial x b key q))
heads_apart log order kept x a b key (inr p) (inl q) ne = inr (subst (λ n. After log order x n a) (sym q) (kept.initial x a key p))
heads_apart log order kept x a b key (inr p) (inr q) ne = kept.pair x a b key p q ne

rival_kept : (log : Log) (order : List ℕ) → Setting log order → ChainsKept log order → (x r w k : ℕ) → x < log.keys → 0 < r → r ≤ log.nodes → source log r x ≡ Some w → 0 < k → k ≤ log.nodes → writes log x k ≡ true → k ≢ w → k ≢ r → (at order k < at order w) ⊎ (at order r < at order k)
rival_kept log order s kept x r w k key lo hi from klo khi t nw nr =
    let hw = source_within log s.clean r x w lo hi from in
    let kind : (w ≡ 0) ⊎ (writes log x w ≡ true) = elim (source_is log s.clean r x w lo hi from).final [ inl z ↦ inl z.0 | inr y ↦ inr (ap is_some y.2) ] in
    let a = head_of log order s x key (suc (at order w)) w (omega arith) hw kind in
    let b = head_of log order s x key (suc (at order k)) k (omega arith) khi (inr t) in
    elim (cases_eq b.head a.head) [
      | inl e ↦ same_head log order s kept x r w k a.head a.steps b.steps key lo hi hw from nw nr a.far (subst (λ h. Steps log x b.steps h k) e b.far)
      | inr ne ↦ elim (heads_apart log order kept x a.head b.head key a.kind b.kind (λ e. ne (sym e))) [
        | inl after ↦ inr (omega (arith, reader_first log order s kept x a.head b.head r w key lo hi hw from a.tails after, b.upto))
        | inr after ↦
            let place = ap (at order) b.tails in
            inl (omega (arith, tail_behind log order s x key log.nodes k, place, after.last, a.upto))
      ]
    ]

bipaths_from : (log : Log) (order : List ℕ) → Setting log order → ChainsKept log order → KeepsBipaths log order
bipaths_from log order s kept r x w k lo hi key from klo khi t =
    let p = rival_is log x w r k t in
    elim (rival_kept log order s kept x r w k key lo hi from klo khi p.0 p.1 p.2) [
      | inl b ↦ inl (b, tt)
      | inr b ↦ inr (b, tt)
    ]

-- ---- the lists of edges
edges_kept : (order : List ℕ) (t b : ℕ) (rs : List ℕ) → at order t < at order b → AllByRecursion (λ r. at order r < at order b) rs → Keeps order (edges_to t b rs)
edges_kept order t b [] h k = (h, tt)
edges_kept order t b (r ∷ rs) h k = (k.0, each_from_map (λ (e : Edge). at order e.0 < at order e.1) (λ q. (q, b)) rs k.1)

edges_last : (order : List ℕ) (t b : ℕ) (rs : List ℕ) → AllByRecursion (λ r. at order t < at order r) rs → Keeps order (edges_to t b rs) → at order t < at order b
edges_last order t b [] behind k = k.0
edges_last order t b (r ∷ rs) behind k = omega (arith, behind.0, k.0)

edges_each : (order : List ℕ) (t b : ℕ) (rs : List ℕ) → Keeps order (edges_to t b rs) → AllByRecursion (λ r. at order r < at order b) rs
edges_each order t b [] k = tt
edges_each order t b (r ∷ rs) k = (k.0, each_of_map (λ (e : Edge). at order e.0 < at order e.1) (λ q. (q, b)) rs k.1)

pub each_of_readers : (log : Log) (x w : ℕ) (P : ℕ → Type 0) → AllByRecursion P (readers log x w) → (r : ℕ) → 0 < r → r ≤ log.nodes → source log r x ≡ Some w → P r
each_of_readers log x w P h r lo hi from =
    each_of_range (λ q. reads_key log x w q ≡ true → P q) 1 log.nodes (each_of_filter P (reads_key log x w) (committed log) h) r (omega arith) (omega arith)
    (wrote_from (source log r x) w from)

pub each_from_readers : (log : Log) (x w : ℕ) (P : ℕ → Type 0) → ((r : ℕ) → 0 < r → r ≤ log.nodes → source log r x ≡ Some w → P r) → AllByRecursion P (readers log x w)
each_from_readers log x w P h =
    each_from_filter P (reads_key log x w) (committed log)
    (each_from_range (λ q. reads_key log x w q ≡ true → P q) 1 log.nodes (λ r lo hi t. h r (omega arith) (omega arith) (wrote_is (source log r x) w t)))

first_kept : (log : Log) (order : List ℕ) (x a b : ℕ) → After log order x a b → Keeps order (chain_first log x a b)
first_kept log order x a b after =
    edges_kept order (tail log x a) b (readers log x (tail log x a)) after.last
    (each_from_readers log x (tail log x a) (λ r. at order r < at order b) after.reader)

kept_first : (log : Log) (order : List ℕ) → Setting log order → (x a b : ℕ) → x < log.keys → Keeps order (chain_first log x a b) → After log order x a b
kept_first log order s x a b key k =
    let t = tail log x a in
    record {
      last = edges_last order t b (readers log x t) (each_from_readers log x t (λ r. at order t < at order r) (λ r lo hi from. reader_behind log order s x r t key lo hi from)) k;
      reader = each_of_readers log x t (λ r. at order r < at order b) (edges_each order t b (readers log x t) k);
    }

inner_of : (log : Log) (order : List ℕ) (x w v r : ℕ) (o : Option ℕ) → o ≡ Some v → Keeps order (inner_at log x w o) → 0 < r → r ≤ log.nodes → source log r x ≡ Some w → r ≢ v → at order r < at order v
inner_of log order x w v r None e k lo hi from ne = cc
inner_of log order x w v r (Some u) e k lo hi from ne =
    let same : u ≡ v = cc in
    let P : ℕ → Type 0 = λ q. at order q < at order u in
    let all = each_of_map (λ (d : Edge). at order d.0 < at order d.1) (λ q. (q, u)) (filter (λ q. not (eqb q u)) (readers log x w)) k in
    let each = each_of_filter P (λ q. not (eqb q u)) (readers log x w) all in
    subst (λ q. at order r < at order q) same
    (each_of_readers log x w (λ q. not (eqb q u) ≡ true → P q) each r lo hi from (not_from_false (eqb r u) (ne_eqb r u (λ q. ne (q ∙ same)))))

of_inner : (log : Log) (order : List ℕ) (x w : ℕ) (o : Option ℕ) → ((v r : ℕ) → o ≡ Some v → 0 < r → r ≤ log.nodes → source log r x ≡ Some w → r ≢ v → at order r < at order v) → Keeps order (inner_at log x w o)
of_inner log order x w None h = tt
of_inner log order x w (Some u) h =
    let P : ℕ → Type 0 = λ q. at order q < at order u in
    each_from_map (λ (d : Edge). at order d.0 < at order d.1) (λ q. (q, u)) (filter (λ q. not (eqb q u)) (readers log x w))
    (each_from_filter P (λ q. not (eqb q u)) (readers log x w)
    (each_from_readers log x w (λ q. not (eqb q u) ≡ true → P q) (λ r lo hi from t. h u r refl lo hi from (eqb-false r u (not-true (eqb r u) t)))))

-- ---- both ways
abbrev kept : List ℕ → Edge → Type 0
kept order e = Before order e.0 e.1

known_from : (log : Log) (order : List ℕ) → Keeps order (arcs log) → ChainsKept log order → Keeps order (chain_polygraph log).known
known_from log order a c =
    let K = kept order in
    each_from_append K (arcs log ++ inner_edges log) (initial_first log)
    (each_from_append K (arcs log) (inner_edges log) a
    (each_from_flat_map K (λ x. flat_map (λ w. inner_at log x w (next log x w)) (all_nodes log)) (all_keys log)
    (each_from_range (λ x. Keeps order (flat_map (λ w. inner_at log x w (next log x w)) (all_nodes log))) 0 log.keys (λ x lo hi.
    each_from_flat_map K (λ w. inner_at log x w (next log x w)) (all_nodes log)
    (each_from_range (λ w. Keeps order (inner_at log x w (next log x w))) 0 (log.nodes + 1) (λ w lo' hi'.
    of_inner log order x w (next log x w) (λ v r e rlo rhi from ne. c.inner x w v r (omega arith) (omega arith) e rlo rhi from ne)))))))
    (each_from_flat_map K (λ x. flat_map (chain_first log x 0) (heads log x)) (all_keys log)
    (each_from_range (λ x. Keeps order (flat_map (chain_first log x 0) (heads log x))) 0 log.keys (λ x lo hi.
    each_from_flat_map K (chain_first log x 0) (heads log x)
    (each_from_filter (λ h. Keeps order (chain_first log x 0 h)) (is_head log x) (committed log)
    (each_from_range (λ h. is_head log x h ≡ true → Keeps order (chain_first log x 0 h)) 1 log.nodes (λ h lo' hi' t.
    first_kept log order x 0 h (c.initial x h (omega arith) (record { low = omega arith; high = omega arith; test = t }))))))))

choices_from : (log : Log) (order : List ℕ) → ChainsKept log order → AllByRecursion (KeepsOne order) (chain_choices log)
choices_from log order c =
    let K = KeepsOne order in
    each_from_flat_map K (λ x. map (chain_choice log x) (pairs_of (heads log x))) (all_keys log)
    (each_from_range (λ x. AllByRecursion (KeepsOne order) (map (chain_choice log x) (pairs_of (heads log x)))) 0 log.keys (λ x lo hi.
    each_from_map K (chain_choice log x) (pairs_of (heads log x))
    (each_pair_from (λ p. KeepsOne order (chain_choice log x p)) (is_head log x) 1 log.nodes (λ a b la lt hb ta tb.
    elim (c.pair x a b (omega arith) (record { low = omega arith; high = omega arith; test = ta }) (record { low = omega arith; high = omega arith; test = tb }) (λ e. omega (arith, e, lt))) [
      | inl f ↦ inl (first_kept log order x a b f)
      | inr f ↦ inr (first_kept log order x b a f)
    ]))))

chains_of : (log : Log) (order : List ℕ) → Setting log order → Keeps order (inner_edges log) → Keeps order (initial_first log) → AllByRecursion (KeepsOne order) (chain_choices log) → ChainsKept log order
chains_of log order s i f c =
    let K = kept order in
    let inner = each_of_range (λ x. Keeps order (flat_map (λ w. inner_at log x w (next log x w)) (all_nodes log))) 0 log.keys
    (each_of_flat_map K (λ x. flat_map (λ w. inner_at log x w (next log x w)) (all_nodes log)) (all_keys log) i) in
    let first = each_of_range (λ x. Keeps order (flat_map (chain_first log x 0) (heads log x))) 0 log.keys
    (each_of_flat_map K (λ x. flat_map (chain_first log x 0) (heads log x)) (all_keys log) f) in
    let choice = each_of_range (λ x. AllByRecursion (KeepsOne order) (map (chain_choice log x) (pairs_of (heads log x)))) 0 log.keys
    (each_of_flat_map (KeepsOne order) (λ x. map (chain_choice log x) (pairs_of (heads log x))) (all_keys log) c) in
    let one : (x a b : ℕ) → x < log.keys → Head log x a → Head log x b → a < b → After log order x a b ⊎ After log order x b a = λ x a b key ha hb lt.
    (elim (each_pair_of (λ p. KeepsOne order (chain_choice log x p)) (is_head log x) 1 log.nodes
    (each_of_map (KeepsOne order) (chain_choice log x) (pairs_of (heads log x)) (choice x (omega arith) (omega arith)))
    a b (omega (arith, ha.low)) lt (omega (arith, hb.high)) ha.test hb.test) [
      | inl k ↦ inl (kept_first log order s x a b key k)
      | inr k ↦ inr (kept_first log order s x b a key k)
    ]) in
    record {
      inner = λ x w v r key hw e lo hi from ne.
          inner_of log order x w v r (next log x w) e
          (each_of_range (λ q. Keeps order (inner_at log x q (next log x q))) 0 (log.nodes + 1)
          (each_of_flat_map K (λ q. inner_at log x q (next log x q)) (all_nodes log) (inner x (omega arith) (omega arith))) w (omega arith) (omega arith))
          lo hi from ne;
      initial = λ x h key head. kept_first log order s x 0 h key
          (each_of_range (λ q. is_head log x q ≡ true → Keeps order (chain_first log x 0 q)) 1 log.nodes
          (each_of_filter (λ q. Keeps order (chain_first log x 0 q)) (is_head log x) (committed log)
          (each_of_flat_map K (chain_first log x 0) (heads log x) (first x (omega arith) (omega arith))))
          h (omega (arith, head.low)) (omega (arith, head.high)) head.test);
      pair = λ x a b key ha hb ne. (elim (cases_order a b) [
        | inl e ↦ absurd (ne e)
        | inr o ↦ elim o [
          | inl lt ↦ one x a b key ha hb lt
          | inr lt ↦ elim (one x b a key hb ha lt) [ inl k ↦ inr k | inr k ↦ inl k ]
        ]
      ]);
    }

pub chains_fit : (log : Log) → IsClean log → (order : List ℕ) → Fits (bipath_polygraph log) order → Fits (chain_polygraph log) order
chains_fit log clean order f =
    let s : Setting log order = record { clean = clean; once = f.once; keeps = arcs_kept log order f.known } in
    let c = chains_kept log order s (bipaths_kept log order f.choices) in
    record { once = f.once; known = known_from log order f.known c; choices = choices_from log order c }

pub bipaths_fit : (log : Log) → IsClean log → (order : List ℕ) → Fits (chain_polygraph log) order → Fits (bipath_polygraph log) order
bipaths_fit log clean order f =
    let K = kept order in
    let b = each_of_append K (arcs log ++ inner_edges log) (initial_first log) f.known in
    let a = each_of_append K (arcs log) (inner_edges log) b.0 in
    let s : Setting log order = record { clean = clean; once = f.once; keeps = arcs_kept log order a.0 } in
    let c = chains_of log order s a.1 b.1 f.choices in
    record { once = f.once; known = a.0; choices = keeps_bipaths log order (bipaths_from log order s c) }
