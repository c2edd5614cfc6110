-- Rows that grow by an edge.
use Rattle.reach_rows.proofs.Prelude.{◌≡◌, ◌≢◌, ◌⊎◌, ◌↔◌, ℕ, ◌+◌, ◌<◌, ◌≤◌, refl, sym, ap, ◌∙◌, subst, inl, inr, arith, Contains, cases_eq, cases_lt, Edge, Graph, Reaches, IsBitGraph, pair_same, AreRowsOf, AddsEdge, IsGrown}
use Rattle.reach_rows.proofs.Walking.{IsGrownReach, grown_reach, grown_same}

-- the rows below x have grown
pub record IsGrownTo (old now : Graph) (u v x : ℕ) : Type 0 where
  pub nodes : now.nodes ≡ old.nodes
  pub graph : IsBitGraph now
  pub grown : (a w : ℕ) → a < x → (Contains now.edges (a, w) ↔ IsGrown old.edges u v (a, w))
  pub rest : (a w : ℕ) → x ≤ a → (Contains now.edges (a, w) ↔ Contains old.edges (a, w))

pub grown_none : (old : Graph) (u v : ℕ) → IsBitGraph old → IsGrownTo old old u v 0
grown_none old u v graph = record { nodes = refl; graph = graph; grown = λ a w h. absurd (omega arith); rest = λ a w h. (λ c. c, λ c. c) }

-- a row stays, as its node neither is u nor reaches it
pub grown_past : (old now : Graph) (u v x : ℕ) → IsGrownTo old now u v x → x ≢ u → (Contains now.edges (x, u) → ⊥) → IsGrownTo old now u v (x + 1)
grown_past old now u v x h ne apart = record {
  nodes = h.nodes;
  graph = h.graph;
  grown = λ a w lt. elim (cases_eq a x) [
    | inl e ↦ (
      λ c. inl ((h.rest a w (omega (arith, e))).0 c),
      λ g. elim g [
        | inl c ↦ (h.rest a w (omega (arith, e))).1 c
        | inr p ↦ elim p.0 [
          | inl same ↦ absurd (ne (sym e ∙ same))
          | inr c ↦ absurd (apart (subst (λ y. Contains now.edges (y, u)) e ((h.rest a u (omega (arith, e))).1 c)))
        ]
      ],
    )
    | inr other ↦ h.grown a w (omega (arith, other))
  ];
  rest = λ a w le. h.rest a w (omega arith);
}

-- a row grows
pub record IsRowGrown (now next : Graph) (v x : ℕ) : Type 0 where
  pub nodes : next.nodes ≡ now.nodes
  pub graph : IsBitGraph next
  pub edges : (a w : ℕ) → (Contains next.edges (a, w) ↔ (Contains now.edges (a, w) ⊎ ((a ≡ x) × ((w ≡ v) ⊎ Contains now.edges (v, w)))))

pub row_grown : (now mid next : Graph) (v x : ℕ) → next.nodes ≡ now.nodes → IsBitGraph next
    → ((a w : ℕ) → (Contains mid.edges (a, w) ↔ (Contains now.edges (a, w) ⊎ ((a ≡ x) × Contains now.edges (v, w))))) → ((e : Edge) → (Contains next.edges e ↔ (Contains mid.edges e ⊎ (e ≡ (x, v))))) → IsRowGrown now next v x
row_grown now mid next v x nodes graph joins sets = record {
  nodes = nodes;
  graph = graph;
  edges = λ a w. (
    λ c. elim ((sets (a, w)).0 c) [
      | inl k ↦ elim ((joins a w).0 k) [ inl d ↦ inl d | inr p ↦ inr (p.0, inr p.1) ]
      | inr s ↦ inr (ap (λ (y : Edge). y.0) s, inl (ap (λ (y : Edge). y.1) s))
    ],
    λ d. elim d [
      | inl k ↦ (sets (a, w)).1 (inl ((joins a w).1 (inl k)))
      | inr p ↦ elim p.1 [
        | inl e ↦ (sets (a, w)).1 (inr (pair_same (a, w) x v p.0 e))
        | inr k ↦ (sets (a, w)).1 (inl ((joins a w).1 (inr (p.0, k))))
      ]
    ],
  );
}

-- row v with the bit of v, whether or not it has grown
v_before : (old now : Graph) (u v x w : ℕ) → IsGrownTo old now u v x → Contains now.edges (v, w) → (w ≡ v) ⊎ Contains old.edges (v, w)
v_before old now u v x w h c = elim (cases_lt v x) [
  | inl lt ↦ elim ((h.grown v w lt).0 c) [ inl k ↦ inr k | inr p ↦ p.1 ]
  | inr ge ↦ inr ((h.rest v w ge).0 c)
]

v_now : (old now : Graph) (u v x w : ℕ) → IsGrownTo old now u v x → Contains old.edges (v, w) → Contains now.edges (v, w)
v_now old now u v x w h c = elim (cases_lt v x) [
  | inl lt ↦ (h.grown v w lt).1 (inl c)
  | inr ge ↦ (h.rest v w ge).1 c
]

pub grown_here : (old now next : Graph) (u v x : ℕ) → IsGrownTo old now u v x → (x ≡ u) ⊎ Contains now.edges (x, u) → IsRowGrown now next v x → IsGrownTo old next u v (x + 1)
grown_here old now next u v x h joins g =
    let same_row : (a w : ℕ) → a ≢ x → (Contains next.edges (a, w) ↔ Contains now.edges (a, w)) = λ a w ne. (
      λ c. elim ((g.edges a w).0 c) [ inl k ↦ k | inr p ↦ absurd (ne p.0) ],
      λ k. (g.edges a w).1 (inl k),
    ) in
    record {
      nodes = g.nodes ∙ h.nodes;
      graph = g.graph;
      grown = λ a w lt. elim (cases_eq a x) [
        | inl e ↦
            let from : (a ≡ u) ⊎ Contains old.edges (a, u) =
            elim joins [ inl s ↦ inl (e ∙ s) | inr c ↦ inr ((h.rest a u (omega (arith, e))).0 (subst (λ y. Contains now.edges (y, u)) (sym e) c)) ] in (
              λ c. elim ((g.edges a w).0 c) [
                | inl k ↦ inl ((h.rest a w (omega (arith, e))).0 k)
                | inr p ↦ elim p.1 [ inl s ↦ inr (from, inl s) | inr k ↦ inr (from, v_before old now u v x w h k) ]
              ],
              λ d. elim d [
                | inl k ↦ (g.edges a w).1 (inl ((h.rest a w (omega (arith, e))).1 k))
                | inr p ↦ elim p.1 [ inl s ↦ (g.edges a w).1 (inr (e, inl s)) | inr k ↦ (g.edges a w).1 (inr (e, inr (v_now old now u v x w h k))) ]
              ],
            )
        | inr other ↦
            let there = h.grown a w (omega (arith, other)) in
            (λ c. there.0 ((same_row a w other).0 c), λ d. (same_row a w other).1 (there.1 d))
      ];
      rest = λ a w le. (let there = h.rest a w (omega arith) in
          let other : a ≢ x = omega arith in
          (λ c. there.0 ((same_row a w other).0 c), λ k. (same_row a w other).1 (there.1 k)));
    }

-- ---- what all rows say once they have grown
pub grown_all : (old now : Graph) (u v x : ℕ) → IsBitGraph old → u ≤ old.nodes → old.nodes < x → IsGrownTo old now u v x → (a w : ℕ) → (Contains now.edges (a, w) ↔ IsGrown old.edges u v (a, w))
grown_all old now u v x graph hu all h a w = elim (cases_lt a x) [
  | inl lt ↦ h.grown a w lt
  | inr ge ↦ (
    λ c. inl ((h.rest a w ge).0 c),
    λ g. elim g [
      | inl c ↦ (h.rest a w ge).1 c
      | inr p ↦ elim p.0 [
        | inl e ↦ absurd (omega (arith, e, ge, all, hu))
        | inr c ↦ absurd (omega (arith, (graph.joined (a, u) c).0, ge, all))
      ]
    ],
  )
]

-- ---- the rows of a graph with an edge more
to_reach : (rows graph : Graph) (u v x w : ℕ) → AreRowsOf rows graph → IsGrown rows.edges u v (x, w) → IsGrownReach graph.edges u v x w
to_reach rows graph u v x w h (inl c) = inl ((h.reach x w).0 c)
to_reach rows graph u v x w h (inr (p, q)) = inr (
  (elim p [ inl e ↦ inl e | inr c ↦ inr ((h.reach x u).0 c) ]),
  (elim q [ inl e ↦ inl e | inr c ↦ inr ((h.reach v w).0 c) ]),
)

of_reach : (rows graph : Graph) (u v x w : ℕ) → AreRowsOf rows graph → IsGrownReach graph.edges u v x w → IsGrown rows.edges u v (x, w)
of_reach rows graph u v x w h (inl r) = inl ((h.reach x w).1 r)
of_reach rows graph u v x w h (inr (p, q)) = inr (
  (elim p [ inl e ↦ inl e | inr r ↦ inr ((h.reach x u).1 r) ]),
  (elim q [ inl e ↦ inl e | inr r ↦ inr ((h.reach v w).1 r) ]),
)

pub rows_grown : (rows next : Graph) (u v : ℕ) (old new : Graph) → ((x w : ℕ) → (Contains next.edges (x, w) ↔ IsGrown rows.edges u v (x, w))) → next.nodes ≡ rows.nodes → IsBitGraph next → AreRowsOf rows old → AddsEdge old new (u, v)
    → AreRowsOf next new
rows_grown rows next u v old new grown nodes graph h more = record {
  nodes = nodes ∙ h.nodes ∙ sym more.nodes;
  reach = λ x w. (
    λ c. (grown_reach old.edges new.edges u v more.edges x w).1 (to_reach rows old u v x w h ((grown x w).0 c)),
    λ r. (grown x w).1 (of_reach rows old u v x w h ((grown_reach old.edges new.edges u v more.edges x w).0 r)),
  );
  test = graph.test;
  listed = graph.listed;
}

-- where u reached v already
pub rows_kept : (rows old new : Graph) (u v : ℕ) → Reaches old.edges u v → AreRowsOf rows old → AddsEdge old new (u, v) → AreRowsOf rows new
rows_kept rows old new u v uv h more = record {
  nodes = h.nodes ∙ sym more.nodes;
  reach = λ x w. (
    λ c. (grown_reach old.edges new.edges u v more.edges x w).1 (inl ((h.reach x w).0 c)),
    λ r. (h.reach x w).1 (grown_same old.edges u v x w uv ((grown_reach old.edges new.edges u v more.edges x w).0 r)),
  );
  test = h.test;
  listed = h.listed;
}
