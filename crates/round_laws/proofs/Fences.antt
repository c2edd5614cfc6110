-- The rule of fences makes rounds.
use Rattle.round_laws.proofs.Prelude.{◌≡◌, ◌≢◌, ◌⊎◌, ℕ, ◌<◌, ◌≤◌, Bool, false, eqb, eqb-true, not, List, [], ◌∷◌, ◌++◌, refl, sym, ap, ◌∙◌, subst, inl, inr, arith, nat_le, Contains, cases_Bool, cases_eq, cases_order, false≢true, and_parts}
use Rattle.round_laws.proofs.Prelude.{bytes_eq-Decides, behind, ClientSession, Read, Write, Committed, committed_in, IsSoundLog, of_kept, kept, first_or_behind, nodes_of, in_order, nodes_are, snapshot_reads, Keeper, Leads, itself}
use Rattle.round_laws.proofs.Prelude.{by_session, by_read, is_fence, bare, bare_node, IsFirst, IsLast, IsReadBy, FencesMakeRounds, ClosingLeaves}
use Rattle.round_laws.proofs.Steps.{leads_trans}
use Rattle.round_laws.proofs.Joined.{placed, bare_learnt, opens_at, one_at, not_true}
use Rattle.round_laws.proofs.Given.{apart_of, learnt_of, rest_nodes, opens_where, leads_wider, bare_set}

-- ---- each session has a first and a last node
-- by an order of places: at or before, at or behind
record Extreme (R : ℕ → ℕ → Type 0) (nodes : List Committed) (m : Committed) (s : ℕ) : Type 0 where
  pub node : Committed
  pub is : (node ≡ m) ⊎ Contains nodes node
  pub session : node.session ≡ s
  pub bound : R node.place m.place
  pub all : (k : Committed) → Contains nodes k → k.session ≡ s → R node.place k.place

record IsTotal (R : ℕ → ℕ → Type 0) : Type 0 where
  pub same : (a : ℕ) → R a a
  pub joins : (a b c : ℕ) → R a b → R b c → R a c
  pub either : (a b : ℕ) → R a b ⊎ R b a

extreme : (R : ℕ → ℕ → Type 0) → IsTotal R → (nodes : List Committed) (m : Committed) (s : ℕ) → m.session ≡ s → Extreme R nodes m s
extreme R t [] m s e = record { node = m; is = inl refl; session = e; bound = t.same m.place; all = λ k c _. absurd (omega (arith, c.1)) }
extreme R t (x ∷ xs) m s e = elim (cases_eq x.session s) [
  | inr other ↦ with_rest (λ same. absurd (other same)) (extreme R t xs m s e)
  | inl same ↦ elim (t.either m.place x.place) [
    | inl le ↦ with_rest (λ _. le) (extreme R t xs m s e)
    | inr ge ↦
        let r = extreme R t xs x s same in
        record {
          node = r.node;
          is = elim r.is [ inl i ↦ inr (0, omega arith, sym i) | inr c ↦ inr (behind x xs r.node c) ];
          session = r.session;
          bound = t.joins r.node.place x.place m.place r.bound ge;
          all = λ k c u. elim (first_or_behind x xs k c) [
            | inl i ↦ subst (λ (n : Committed). R r.node.place n.place) i r.bound
            | inr d ↦ r.all k d u
          ];
        }
  ]
]
  where
    with_rest : (x.session ≡ s → R m.place x.place) → Extreme R xs m s → Extreme R (x ∷ xs) m s
    with_rest f r = record {
      node = r.node;
      is = elim r.is [ inl i ↦ inl i | inr c ↦ inr (behind x xs r.node c) ];
      session = r.session;
      bound = r.bound;
      all = λ k c u. elim (first_or_behind x xs k c) [
        | inl i ↦ subst (λ (n : Committed). R r.node.place n.place) i (t.joins r.node.place m.place x.place r.bound (f (ap (λ (n : Committed). n.session) i ∙ u)))
        | inr d ↦ r.all k d u
      ];
    }

either_order : (a b : ℕ) → (a ≤ b) ⊎ (b ≤ a)
either_order a b = elim (cases_order a b) [
  | inl same ↦ inl (omega (arith, same))
  | inr apart ↦ elim apart [ inl less ↦ inl (omega (arith, less)) | inr more ↦ inr (omega (arith, more)) ]
]

least : (nodes : List Committed) (m : Committed) (s : ℕ) → m.session ≡ s → Extreme (λ a b. a ≤ b) nodes m s
least = extreme (λ a b. a ≤ b) (record { same = λ a. omega arith; joins = λ a b c h k. omega (arith, h, k); either = either_order })

greatest : (nodes : List Committed) (m : Committed) (s : ℕ) → m.session ≡ s → Extreme (λ a b. b ≤ a) nodes m s
greatest = extreme (λ a b. b ≤ a) (record { same = λ a. omega arith; joins = λ a b c h k. omega (arith, h, k); either = λ a b. either_order b a })

-- ---- nodes of one session lead to each other by their places
up : (all nodes : List Committed) (ss : List ClientSession) → IsSoundLog ss → ((n : Committed) → Contains all n → Contains (nodes_of ss) n) → (a c : Committed) → Contains all a → Contains all c → a.session ≡ c.session → a.place ≤ c.place → Contains nodes c → Leads nodes a c
up all nodes ss sound sub a c ca cc s le d = elim (cases_order a.place c.place) [
  | inl same ↦ subst (Leads nodes a) (one_at (nodes_of ss) (in_order ss (apart_of ss sound)) a c (sub a ca) (sub c cc) s same) (itself a)
  | inr apart ↦ elim apart [
    | inl less ↦ by_session a c c d s less (itself c)
    | inr more ↦ absurd (omega (arith, more, le))
  ]
]

-- ---- the closing
pub to_closing : (keeper : Keeper) (ss : List ClientSession) → IsSoundLog ss → (nodes : List Committed) → ((n : Committed) → Contains nodes n → Contains (nodes_of ss) n) → (closing : Committed) → Contains nodes closing → closing.session ≡ keeper.session → IsLast nodes closing → ((n : Committed) → Contains nodes n → n.session ≢ keeper.session → IsLast nodes n → IsReadBy n closing) → (a : Committed) → Contains nodes a → Leads nodes a closing
to_closing keeper ss sound nodes sub closing is s last ends a c = elim (cases_eq a.session keeper.session) [
  | inl same ↦ up nodes nodes ss sound sub a closing c is (same ∙ sym s) (last a c (same ∙ sym s)) is
  | inr other ↦
      let g = greatest nodes a a.session refl in
      let d : Contains nodes g.node = elim g.is [ inl e ↦ subst (Contains nodes) (sym e) c | inr d ↦ d ] in
      let read = ends g.node d (λ e. other (sym g.session ∙ e)) (λ m k t. g.all m k (t ∙ g.session)) in
      leads_trans nodes a g.node closing (up nodes nodes ss sound sub a g.node c d (sym g.session) g.bound d)
      (by_read g.node closing closing read.key read.wid is read.writes read.reads (itself closing))
]

-- ---- the opening
pub from_opening : (keeper : Keeper) (ss : List ClientSession) → IsSoundLog ss → (o : Committed) → Contains (nodes_of ss) o → o.session ≡ keeper.session → o.place ≡ 1 → (wid : ℕ) → Contains o.ops (Write keeper.fence wid) → ((n : Committed) → Contains (nodes_of ss) n → n.session ≢ keeper.session → IsFirst (nodes_of ss) n → Contains (snapshot_reads n.ops) (Read keeper.fence wid)) → (a : Committed) → Contains ((bare_node keeper o ∷ []) ++ rest_nodes keeper ss) a → Leads ((bare_node keeper o ∷ []) ++ rest_nodes keeper ss) (bare_node keeper o) a
from_opening keeper ss sound o has s p wid fence begins a c = elim (first_or_behind (bare_node keeper o) (rest_nodes keeper ss) a c) [
  | inl e ↦ subst (Leads all (bare_node keeper o)) e (itself (bare_node keeper o))
  | inr r ↦ of_rest r
]
  where
    late : Committed → Bool
    late m = not (opens_at keeper 1 m)

    all : List Committed
    all = (bare_node keeper o ∷ []) ++ rest_nodes keeper ss

    in_all : (n : Committed) → Contains (rest_nodes keeper ss) n → Contains all n
    in_all n d = behind (bare_node keeper o) (rest_nodes keeper ss) n d

    in_log : (n : Committed) → Contains (rest_nodes keeper ss) n → Contains (nodes_of ss) n
    in_log n d = (of_kept late (nodes_of ss) n d).0

    no_opening : (n : Committed) → n.session ≢ keeper.session → opens_at keeper 1 n ≡ false
    no_opening n ne = elim (cases_Bool (opens_at keeper 1 n)) [
      | inl t ↦ absurd (ne (eqb-true n.session keeper.session (and_parts (eqb n.session keeper.session) (nat_le n.place 1) t).0))
      | inr f ↦ f
    ]

    other_session : (n : Committed) → Contains (nodes_of ss) n → n.session ≢ keeper.session → Contains (rest_nodes keeper ss) n
    other_session n d ne = kept late (nodes_of ss) n d (ap not (no_opening n ne))

    is_fence_write : Contains (bare_node keeper o).ops (Write keeper.fence wid)
    is_fence_write = kept (is_fence keeper) o.ops (Write keeper.fence wid) fence ((bytes_eq-Decides keeper.fence keeper.fence).1 refl)

    behind_opening : (n : Committed) → Contains (rest_nodes keeper ss) n → n.session ≡ keeper.session → 1 < n.place
    behind_opening n d e = elim (cases_order n.place 1) [
      | inr apart ↦ elim apart [
        | inr more ↦ more
        | inl less ↦ absurd (let lo = placed ss n (in_log n d) in omega (arith, lo, less))
      ]
      | inl at ↦ absurd (false≢true (sym (not_true (opens_at keeper 1 n) (of_kept late (nodes_of ss) n d).1) ∙ opens_where keeper 1 n e (omega (arith, at))))
    ]

    of_rest : Contains (rest_nodes keeper ss) a → Leads all (bare_node keeper o) a
    of_rest r = elim (cases_eq a.session keeper.session) [
      | inl same ↦ (let lt = behind_opening a r same in by_session (bare_node keeper o) a a (in_all a r) (s ∙ sym same) (omega (arith, lt, p)) (itself a))
      | inr other ↦
          let l = least (nodes_of ss) a a.session refl in
          let d : Contains (nodes_of ss) l.node = elim l.is [ inl e ↦ subst (Contains (nodes_of ss)) (sym e) (in_log a r) | inr d ↦ d ] in
          let ne : l.node.session ≢ keeper.session = λ e. other (sym l.session ∙ e) in
          let read = begins l.node d ne (λ m k t. l.all m k (t ∙ l.session)) in
          by_read (bare_node keeper o) l.node a keeper.fence wid (in_all l.node (other_session l.node d ne)) is_fence_write read
          (up (nodes_of ss) all ss sound (λ n k. k) l.node a d (in_log a r) l.session l.bound (in_all a r))
    ]

unfoldable pub fences_make_rounds : FencesMakeRounds
fences_make_rounds keeper ss sound learnt h =
    let are = learnt_of ss learnt in
    let is = nodes_are ss are in
    let bare_is = nodes_are (bare keeper ss) (bare_learnt keeper ss are) in
    let o = h.opening in
    let has : Contains (nodes_of ss) o = subst (λ l. Contains l o) is h.is_node in
    let same = bare_set keeper ss sound o has h.session h.place in
    let all = (bare_node keeper o ∷ []) ++ rest_nodes keeper ss in
    record {
      sound = sound;
      learnt = learnt;
      opened = record {
        opening = o;
        is_node = h.is_node;
        session = h.session;
        place = h.place;
        writes = h.writes;
        first = λ a c. subst (λ l. Leads l (bare_node keeper o) a) (sym bare_is) (leads_wider all (nodes_of (bare keeper ss)) (λ n. (same n).1) (bare_node keeper o) a
            (from_opening keeper ss sound o has h.session h.place h.wid h.fence
            (λ n d ne f. h.begins n (subst (λ l. Contains l n) (sym is) d) ne (λ m k t. f m (subst (λ l. Contains l m) is k) t)) a
            ((same a).0 (subst (λ l. Contains l a) bare_is c))));
      };
      closed = record {
        closing = h.closing;
        is_node = h.is_last_node;
        session = h.last_session;
        last = to_closing keeper ss sound (committed_in ss) (λ n d. subst (λ l. Contains l n) is d) h.closing h.is_last_node h.last_session h.last h.ends;
      };
    }

pub closing_leaves : ClosingLeaves
closing_leaves keeper ss closed key wid reads none = record {
  reader = closed.closing;
  is_node = closed.is_node;
  reads = reads;
  leaves = none;
  behind = λ a v c w. closed.last a c;
}
