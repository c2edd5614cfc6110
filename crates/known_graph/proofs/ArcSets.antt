-- Edges that are added to a graph, until they are the arcs of a log.
use Rattle.known_graph.proofs.Prelude.{◌≡◌, ◌⊎◌, ◌↔◌, ℕ, ◌+◌, ◌<◌, ◌≤◌, Bool, true, eqb, ◌||◌, List, length, get_or, take, refl, sym, ap, ◌∙◌, subst, inl, inr, arith, eq-eqb, ne_eqb, eqb-true, not, Contains, filter, list_any, cases_lt}
use Rattle.known_graph.proofs.Prelude.{or_cases, or_left, or_right, and_from, list_any_more, same_bool, Log, precedes, Edge, arcs, is_arc, reads_from, arc_cases, arc_from_zero, arc_from_read, arc_from_moments, Graph, all_pairs}
use Rattle.known_graph.proofs.Prelude.{IsKnownGraph, arc_graph}
use Rattle.known_graph.proofs.Listed.{In, In-from_Contains, Contains-from_In, In-filter, In-of_filter, In-of_pairs, filter_same}
use Rattle.known_graph.proofs.Edges.{pair_same}

-- ---- the arc of a session
pub session_added : (old new : List Edge) (session : ℕ → ℕ) (b v : ℕ) → b + 1 ≡ v → session b ≡ session v → ((e : Edge) → (Contains new e ↔ (Contains old e ⊎ (e ≡ (b, v))))) → (e : Edge) → (Contains new e ↔ (Contains old e ⊎ ((e.1 ≡ v) × (e.0 + 1 ≡ v) × (session e.0 ≡ session v))))
session_added old new session b v next same added e = (
  λ c. elim ((added e).0 c) [
    | inl h ↦ inl h
    | inr h ↦ inr (ap (λ (x : Edge). x.1) h, ap (λ (x : Edge). x.0 + 1) h ∙ next, ap (λ (x : Edge). session x.0) h ∙ same)
  ],
  λ d. elim d [
    | inl h ↦ (added e).1 (inl h)
    | inr h ↦ (added e).1 (inr (pair_same e b v (omega (arith, h.1, next)) h.0))
  ],
)

-- ---- the arcs from those that a node reads from
abbrev pub is_source : {X : Type 0} → (X → ℕ) → List X → ℕ → Bool
is_source source reads u = list_any (λ r. eqb (source r) u) reads

pub source_added : {X : Type 0} (source : X → ℕ) (reads : List X) (i : ℕ) (read : X) (v : ℕ) (old now new : List Edge) → i < length reads → read ≡ get_or reads i read → ((e : Edge) → (Contains new e ↔ (Contains now e ⊎ (e ≡ (source read, v))))) → ((e : Edge) → (Contains now e ↔ (Contains old e ⊎ ((e.1 ≡ v) × (is_source source (take i reads) e.0 ≡ true))))) → (e : Edge) → (Contains new e ↔ (Contains old e ⊎ ((e.1 ≡ v) × (is_source source (take (i + 1) reads) e.0 ≡ true))))
source_added source reads i read v old now new lt is added before e =
    let more : is_source source (take (i + 1) reads) e.0 ≡ (is_source source (take i reads) e.0 || eqb (source read) e.0) =
    list_any_more (λ r. eqb (source r) e.0) reads i read lt ∙ ap (λ r. is_source source (take i reads) e.0 || eqb (source r) e.0) (sym is) in (
      λ c. elim ((added e).0 c) [
        | inl h ↦ elim ((before e).0 h) [
          | inl k ↦ inl k
          | inr k ↦ inr (k.0, more ∙ or_left (is_source source (take i reads) e.0) (eqb (source read) e.0) k.1)
        ]
        | inr h ↦ inr (ap (λ (x : Edge). x.1) h, more ∙ or_right (is_source source (take i reads) e.0) (eqb (source read) e.0) (eq-eqb (source read) e.0 (sym (ap (λ (x : Edge). x.0) h))))
      ],
      λ d. elim d [
        | inl k ↦ (added e).1 (inl ((before e).1 (inl k)))
        | inr k ↦ elim (or_cases (is_source source (take i reads) e.0) (eqb (source read) e.0) (sym more ∙ k.1)) [
          | inl t ↦ (added e).1 (inl ((before e).1 (inr (k.0, t))))
          | inr t ↦ (added e).1 (inr (pair_same e (source read) v (sym (eqb-true (source read) e.0 t)) k.0))
        ]
      ],
    )

-- ---- the arcs to nodes below one
-- an edge from node 0, and one to the next of a session, to a reader, or to a node that began behind the end of another
abbrev pub IsFirst : Log → Edge → Type 0
IsFirst log e = (e.0 ≡ 0) × (0 < e.1) × (e.1 ≤ log.nodes)

abbrev pub HasCause : Log → ℕ → ℕ → Type 0
HasCause log u v = ((u + 1 ≡ v) × (log.session u ≡ log.session v)) ⊎ (reads_from log v u ≡ true) ⊎ ((0 < u) × (u ≤ log.nodes) × (precedes log u v ≡ true))

abbrev pub IsLater : Log → Edge → Type 0
IsLater log e = HasCause log e.0 e.1

pub record HasArcsBelow (log : Log) (n : ℕ) (g : Graph) : Type 0 where
  pub nodes : g.nodes ≡ log.nodes
  pub known : IsKnownGraph g
  pub edges : (e : Edge) → (Contains g.edges e ↔ (IsFirst log e ⊎ ((0 < e.1) × (e.1 < n) × IsLater log e)))

later_at : (log : Log) (e : Edge) (v : ℕ) → e.1 ≡ v → HasCause log e.0 v → IsLater log e
later_at log e v p h = subst (HasCause log e.0) (sym p) h

at_later : (log : Log) (e : Edge) (v : ℕ) → e.1 ≡ v → IsLater log e → HasCause log e.0 v
at_later log e v p h = subst (HasCause log e.0) p h

pub arcs_none : (log : Log) (g : Graph) → g.nodes ≡ log.nodes → IsKnownGraph g → ((e : Edge) → (Contains g.edges e ↔ ((e.0 ≡ 0) × (0 < e.1) × (e.1 ≤ log.nodes)))) → HasArcsBelow log 1 g
arcs_none log g count known edges = record {
  nodes = count;
  known = known;
  edges = λ e. (
    λ c. inl ((edges e).0 c),
    λ d. elim d [ inl h ↦ (edges e).1 h | inr h ↦ absurd (omega (arith, h.0, h.1)) ],
  );
}

pub arcs_more : (log : Log) (v n : ℕ) (old mid next new : Graph) → 0 < n → v ≡ n → HasArcsBelow log n old → mid.nodes ≡ old.nodes → next.nodes ≡ mid.nodes → new.nodes ≡ next.nodes → IsKnownGraph new
    → ((e : Edge) → (Contains mid.edges e ↔ (Contains old.edges e ⊎ ((e.1 ≡ v) × (e.0 + 1 ≡ v) × (log.session e.0 ≡ log.session v)))))
    → ((e : Edge) → (Contains next.edges e ↔ (Contains mid.edges e ⊎ ((e.1 ≡ v) × (reads_from log v e.0 ≡ true)))))
    → ((e : Edge) → (Contains new.edges e ↔ (Contains next.edges e ⊎ ((e.1 ≡ v) × (0 < e.0) × (e.0 ≤ log.nodes) × (precedes log e.0 v ≡ true)))))
    → HasArcsBelow log (n + 1) new
arcs_more log v n old mid next new lo here below a b c known session reads moments = record {
  nodes = count;
  known = known;
  edges = λ e. (
    λ is. elim ((moments e).0 is) [
      | inl g ↦ elim ((reads e).0 g) [
        | inl h ↦ elim ((session e).0 h) [
          | inl k ↦ elim ((below.edges e).0 k) [
            | inl f ↦ inl f
            | inr l ↦ inr (l.0, omega (arith, l.1), l.2)
          ]
          | inr k ↦ here_now e k.0 (inl (k.1, k.2))
        ]
        | inr h ↦ here_now e h.0 (inr (inl h.1))
      ]
      | inr g ↦ here_now e g.0 (inr (inr (g.1, g.2, g.3)))
    ],
    λ d. elim d [
      | inl f ↦ kept e ((below.edges e).1 (inl f))
      | inr l ↦ elim (cases_lt e.1 n) [
        | inl lt ↦ kept e ((below.edges e).1 (inr (l.0, lt, l.2)))
        | inr ge ↦
            let p : e.1 ≡ v = omega (arith, ge, l.1, here) in
            elim (at_later log e v p l.2) [
              | inl s ↦ (moments e).1 (inl ((reads e).1 (inl ((session e).1 (inr (p, s.0, s.1))))))
              | inr r ↦ elim r [
                | inl t ↦ (moments e).1 (inl ((reads e).1 (inr (p, t))))
                | inr t ↦ (moments e).1 (inr (p, t.0, t.1, t.2))
              ]
            ]
      ]
    ],
  );
}
  where
    count : new.nodes ≡ log.nodes
    count = c ∙ b ∙ a ∙ below.nodes

    here_now : (e : Edge) → e.1 ≡ v → HasCause log e.0 v → IsFirst log e ⊎ ((0 < e.1) × (e.1 < n + 1) × IsLater log e)
    here_now e p cause = inr (omega (arith, p, here, lo), omega (arith, p, here), later_at log e v p cause)

    kept : (e : Edge) → Contains old.edges e → Contains new.edges e
    kept e is = (moments e).1 (inl ((reads e).1 (inl ((session e).1 (inl is)))))

-- ---- all arcs
arc_from_session : (log : Log) (u v : ℕ) → u + 1 ≡ v → log.session u ≡ log.session v → is_arc log (u, v) ≡ true
arc_from_session log u v next same =
    and_from (not (eqb v 0)) _ (ap not (ne_eqb v 0 (λ z. absurd (omega (arith, z, next)))))
    (or_right (eqb u 0) _ (or_left _ (reads_from log v u || precedes log u v) (and_from (eqb (u + 1) v) _ (eq-eqb (u + 1) v next) (eq-eqb (log.session u) (log.session v) same))))

arc_of : (log : Log) (e : Edge) → IsFirst log e ⊎ ((0 < e.1) × (e.1 < log.nodes + 1) × IsLater log e) → is_arc log e ≡ true
arc_of log e (inl f) = ap (λ u. is_arc log (u, e.1)) f.0 ∙ arc_from_zero log e.1 f.1
arc_of log e (inr (lo, hi, inl s)) = arc_from_session log e.0 e.1 s.0 s.1
arc_of log e (inr (lo, hi, inr (inl r))) = arc_from_read log e.1 e.0 lo r
arc_of log e (inr (lo, hi, inr (inr m))) = arc_from_moments log e.0 e.1 lo m.2

parts_of : (log : Log) (e : Edge) → e.0 ≤ log.nodes → e.1 ≤ log.nodes → is_arc log e ≡ true → IsFirst log e ⊎ ((0 < e.1) × (e.1 < log.nodes + 1) × IsLater log e)
parts_of log e ui hi t =
    let a = arc_cases log e.0 e.1 t in
    elim a.1 [
      | inl h ↦ elim h [
        | inl z ↦ inl (z, a.0, hi)
        | inr s ↦ inr (a.0, omega (arith, hi), inl s)
      ]
      | inr h ↦ elim h [
        | inl r ↦ inr (a.0, omega (arith, hi), inr (inl r))
        | inr m ↦ elim (cases_lt 0 e.0) [
          | inl lo ↦ inr (a.0, omega (arith, hi), inr (inr (lo, ui, m)))
          | inr none ↦ inl (omega (arith, none), a.0, hi)
        ]
      ]
    ]

arcs_listed : (log : Log) → arcs log ≡ filter (is_arc log) (all_pairs log.nodes)
unfolding all_pairs
arcs_listed log = refl

pub arcs_all : (log : Log) (n : ℕ) (g : Graph) → n ≡ log.nodes + 1 → HasArcsBelow log n g → g ≡ arc_graph log
arcs_all log n g end h =
    let all = all_pairs g.nodes in
    let listed = h.known.listed in
    let whole : (e : Edge) → In e all → h.known.test e ≡ is_arc log e = λ e i.
    (let ends = In-of_pairs e g.nodes i in
    same_bool (h.known.test e) (is_arc log e)
    (λ t. (let c : Contains g.edges e = subst (λ l. Contains l e) (sym listed) (Contains-from_In (filter h.known.test all) e (In-filter h.known.test e all i t)) in
    arc_of log e (subst (λ m. IsFirst log e ⊎ ((0 < e.1) × (e.1 < m) × IsLater log e)) end ((h.edges e).0 c))))
    (λ t. (let c = (h.edges e).1 (subst (λ m. IsFirst log e ⊎ ((0 < e.1) × (e.1 < m) × IsLater log e)) (sym end) (parts_of log e (omega (arith, ends.0, h.nodes)) (omega (arith, ends.1, h.nodes)) t)) in
    (In-of_filter h.known.test e all (In-from_Contains (filter h.known.test all) e (subst (λ l. Contains l e) listed c))).1))) in
    let edges : g.edges ≡ arcs log = listed ∙ filter_same h.known.test (is_arc log) all whole ∙ ap (λ m. filter (is_arc log) (all_pairs m)) h.nodes ∙ sym (arcs_listed log) in
    ap (λ m. (let x : Graph = record { nodes = m; edges = g.edges } in x)) h.nodes ∙ ap (λ l. (let x : Graph = record { nodes = log.nodes; edges = l } in x)) edges

-- tests that agree, of where edges to a node come from
pub source_all : (v : ℕ) (old new : List Edge) (p q : ℕ → Bool) → ((u : ℕ) → p u ≡ q u) → ((e : Edge) → (Contains new e ↔ (Contains old e ⊎ ((e.1 ≡ v) × (p e.0 ≡ true))))) → (e : Edge) → (Contains new e ↔ (Contains old e ⊎ ((e.1 ≡ v) × (q e.0 ≡ true))))
source_all v old new p q same h e = (
  λ c. elim ((h e).0 c) [ inl k ↦ inl k | inr k ↦ inr (k.0, sym (same e.0) ∙ k.1) ],
  λ d. elim d [ inl k ↦ (h e).1 (inl k) | inr k ↦ (h e).1 (inr (k.0, same e.0 ∙ k.1)) ],
)
