-- The operations of a run are those of its rounds.
use Rattle.round_laws.proofs.Prelude.{◌⊎◌, ℕ, eqb, cond, not, map, List, [], ◌∷◌, ◌++◌, refl, sym, subst, inl, inr, arith, filter, Contains, cases_Bool, Contains-append_left, Contains-append_right, Contains-append_cases, behind}
use Rattle.round_laws.proofs.Prelude.{ClientSession, Transaction, Op, txns_in, ops_in, of_kept, of_mapped, of_flat, in_flat, first_or_behind, Keeper, is_fence, bare_txn, bare_txns, bare, txns_at, has_number, joined, run_of_two}

-- an operation, where it stands
record Stands (ss : List ClientSession) (o : Op) : Type 0 where
  pub session : ClientSession
  pub is_session : Contains ss session
  pub txn : Transaction
  pub is_txn : Contains session.txns txn
  pub is_op : Contains txn.ops o

stands : (ss : List ClientSession) (o : Op) → Contains (ops_in ss) o → Stands ss o
stands ss o c =
    let t = of_flat (λ (t : Transaction). t.ops) (txns_in ss) o c in
    let s = of_flat (λ (s : ClientSession). s.txns) ss t.0 t.1 in
    record { session = s.0; is_session = s.1; txn = t.0; is_txn = s.2; is_op = t.2 }

there : (ss : List ClientSession) (o : Op) → Stands ss o → Contains (ops_in ss) o
there ss o s = in_flat (λ (t : Transaction). t.ops) (txns_in ss) s.txn o (in_flat (λ (s : ClientSession). s.txns) ss s.session s.txn s.is_session s.is_txn) s.is_op

txn_at : (ss : List ClientSession) (n : ℕ) (t : Transaction) → Contains (txns_at ss n) t → (s : ClientSession) × (Contains ss s) × (Contains s.txns t)
txn_at [] n t c = absurd (omega (arith, c.1))
txn_at (s ∷ ss) n t c = elim (cases_Bool (eqb s.number n)) [
  | inl e ↦
      let d : Contains (s.txns ++ txns_at ss n) t = rw e at c in
      elim (Contains-append_cases s.txns (txns_at ss n) t d) [
        | inl f ↦ (s, (0, omega arith, refl), f)
        | inr f ↦ let r = txn_at ss n t f in (r.0, behind s ss r.0 r.1, r.2)
      ]
  | inr e ↦
      let d : Contains (txns_at ss n) t = rw e at c in
      let r = txn_at ss n t d in (r.0, behind s ss r.0 r.1, r.2)
]

abbrev with_more : List ClientSession → ClientSession → ClientSession
with_more second s = record { number = s.number; txns = s.txns ++ txns_at second s.number }

pub joined_ops : (first second : List ClientSession) (o : Op) → Contains (ops_in (joined first second)) o → Contains (ops_in first) o ⊎ Contains (ops_in second) o
joined_ops first second o c =
    let s = stands (joined first second) o c in
    elim (Contains-append_cases (map (with_more second) first) (filter (λ s. not (has_number first s.number)) second) s.session s.is_session) [
      | inl d ↦
          let r = of_mapped (with_more second) first s.session d in
          let t : Contains (r.0.txns ++ txns_at second r.0.number) s.txn = subst (λ (x : ClientSession). Contains x.txns s.txn) (sym r.2) s.is_txn in
          elim (Contains-append_cases r.0.txns (txns_at second r.0.number) s.txn t) [
            | inl f ↦ inl (there first o (record { session = r.0; is_session = r.1; txn = s.txn; is_txn = f; is_op = s.is_op }))
            | inr f ↦ let q = txn_at second r.0.number s.txn f in inr (there second o (record { session = q.0; is_session = q.1; txn = s.txn; is_txn = q.2; is_op = s.is_op }))
          ]
      | inr d ↦ inr (there second o (record { session = s.session; is_session = (of_kept (λ (s : ClientSession). not (has_number first s.number)) second s.session d).0; txn = s.txn; is_txn = s.is_txn; is_op = s.is_op }))
    ]

bare_op : (keeper : Keeper) (ts : List Transaction) (t : Transaction) (o : Op) → Contains (bare_txns keeper ts) t → Contains t.ops o → (u : Transaction) × (Contains ts u) × (Contains u.ops o)
bare_op keeper [] t o c d = absurd (omega (arith, c.1))
bare_op keeper (u ∷ us) t o c d = elim (first_or_behind (bare_txn keeper u) us t c) [
  | inl e ↦ (u, (0, omega arith, refl), (of_kept (is_fence keeper) u.ops o (subst (λ (x : Transaction). Contains x.ops o) (sym e) d)).0)
  | inr f ↦ (t, behind u us t f, d)
]

abbrev bared : Keeper → ClientSession → ClientSession
bared keeper s = record { number = s.number; txns = cond (eqb s.number keeper.session) (bare_txns keeper s.txns) s.txns }

pub bare_ops : (keeper : Keeper) (ss : List ClientSession) (o : Op) → Contains (ops_in (bare keeper ss)) o → Contains (ops_in ss) o
bare_ops keeper ss o c =
    let s = stands (bare keeper ss) o c in
    let r = of_mapped (bared keeper) ss s.session s.is_session in
    let t : Contains (bared keeper r.0).txns s.txn = subst (λ (x : ClientSession). Contains x.txns s.txn) (sym r.2) s.is_txn in
    elim (cases_Bool (eqb r.0.number keeper.session)) [
      | inl e ↦
          let d : Contains (bare_txns keeper r.0.txns) s.txn = rw e at t in
          let q = bare_op keeper r.0.txns s.txn o d s.is_op in
          there ss o (record { session = r.0; is_session = r.1; txn = q.0; is_txn = q.1; is_op = q.2 })
      | inr e ↦
          let d : Contains r.0.txns s.txn = rw e at t in
          there ss o (record { session = r.0; is_session = r.1; txn = s.txn; is_txn = d; is_op = s.is_op })
    ]

pub run_ops : (keeper : Keeper) (first second : List ClientSession) (o : Op) → Contains (ops_in (run_of_two keeper first second)) o → Contains (ops_in first ++ ops_in second) o
run_ops keeper first second o c = elim (joined_ops first (bare keeper second) o c) [
  | inl d ↦ Contains-append_left (ops_in first) (ops_in second) o d
  | inr d ↦ Contains-append_right (ops_in first) (ops_in second) o (bare_ops keeper second o d)
]
