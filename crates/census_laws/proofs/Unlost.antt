-- In a serial order no two transactions update one version.
use Rattle.census_laws.proofs.Prelude.{◌≡◌, ℕ, suc, true, false, cond, eqb, List, [], ◌∷◌, ◌++◌, append_assoc, Option, None, Some, refl, sym, ap, subst, ◌∙◌, inl, inr, unwrap_or, arith, slice_get, nat_lt, count_by, is_some, flat_map}
use Rattle.census_laws.proofs.Prelude.{option_map_or, bytes_eq, cases_Bool, false≢true, and_parts, eqb-true, flat_map-append, bytes_eq-Decides, ClientSession, Transaction, Op, Read, Write, later, Has, Has-append_back, Has-append_cases}
use Rattle.census_laws.proofs.Prelude.{Has-append_front, Apart, Apart-not_both, resolved, txns_in, written, ops_of, IsSerialOrder, one_writer, kept_in, IsSoundLog, last_write, first_read, is_lost, loses_by, updates}
use Rattle.census_laws.proofs.Places.{has_in_all, has_written, last_writes, none_found, two_counted, Found}
use Rattle.census_laws.proofs.Finds.{apart_in, cut_at, found, initial_or, last_append, last_in, listed, node_at, ops_at, Cut}
use Rattle.census_laws.proofs.Faultless.{kept_once, standing, zero_unwritten}

-- ---- what an update says of operations
record FirstRead (k : List ℕ) (w : ℕ) (ops : List Op) : Type 0 where
  pub before : List Op
  pub behind : List Op
  pub is : ops ≡ before ++ Read k w ∷ behind
  pub none : last_write k before ≡ None

first_at : (k : List ℕ) (w : ℕ) (ops : List Op) → first_read k ops ≡ Some w → FirstRead k w ops
first_at k w [] e = cc
first_at k w (Read key v ∷ ops) e = elim (cases_Bool (bytes_eq k key)) [
  | inl same ↦
      let is : v ≡ w = some v w (ap (λ b. cond b (Some v) (first_read k ops)) (sym same) ∙ e) in
      record { before = []; behind = ops; is = ap (λ l. Read l v ∷ ops) (sym ((bytes_eq-Decides k key).0 same)) ∙ ap (λ x. Read k x ∷ ops) is; none = refl }
  | inr other ↦
      let rest = first_at k w ops (ap (λ b. cond b (Some v) (first_read k ops)) (sym other) ∙ e) in
      record { before = Read key v ∷ rest.before; behind = rest.behind; is = ap (λ l. Read key v ∷ l) rest.is; none = rest.none }
]
  where
    some : (x y : ℕ) → Some x ≡ Some y → x ≡ y
    some x y h = cc
first_at k w (Write key v ∷ ops) e = elim (cases_Bool (bytes_eq k key)) [
  | inl same ↦ absurd (none_some (ap (λ b. cond b None (first_read k ops)) (sym same) ∙ e))
  | inr other ↦
      let rest = first_at k w ops (ap (λ b. cond b None (first_read k ops)) (sym other) ∙ e) in
      record {
        before = Write key v ∷ rest.before;
        behind = rest.behind;
        is = ap (λ l. Write key v ∷ l) rest.is;
        none = ap (λ b. later (cond b (Some v) None) (last_write k rest.before)) other ∙ ap (later None) rest.none;
      }
]
  where
    none_some : None ≡ Some w → ⊥
    none_some h = cc

reads_first : (o : Option ℕ) (w : ℕ) → option_map_or (λ r. eqb r w) o false ≡ true → o ≡ Some w
reads_first None w e = absurd (false≢true e)
reads_first (Some r) w e = ap Some (eqb-true r w e)

some_value : (o : Option ℕ) → is_some o ≡ true → (x : ℕ) × (o ≡ Some x)
some_value None e = absurd (false≢true e)
some_value (Some x) e = (x, refl)

-- ---- two updates of one version, of which one stands before the other
later_some : (o : Option ℕ) (a : Option ℕ) (x : ℕ) → o ≡ Some x → later a o ≡ Some x
later_some o a x e = ap (later a) e

written_behind : (ss : List ClientSession) (v : ℕ) (line : List ℕ) (k : List ℕ) (x : ℕ) → last_write k (ops_of ss v) ≡ Some x → (y : ℕ) × (last_write k (flat_map (ops_of ss) (v ∷ line)) ≡ Some y)
written_behind ss v line k x e = by_last (last_write k (flat_map (ops_of ss) line)) refl
  where
    by_last : (o : Option ℕ) → last_write k (flat_map (ops_of ss) line) ≡ o → (y : ℕ) × (last_write k (flat_map (ops_of ss) (v ∷ line)) ≡ Some y)
    by_last None is = (x, last_append k (ops_of ss v) (flat_map (ops_of ss) line) ∙ ap (later (last_write k (ops_of ss v))) is ∙ e)
    by_last (Some y) is = (y, last_append k (ops_of ss v) (flat_map (ops_of ss) line) ∙ ap (later (last_write k (ops_of ss v))) is)

-- a transaction at a place, which updates the version
record Update (ss : List ClientSession) (k : List ℕ) (w : ℕ) (i : ℕ) : Type 0 where
  pub txn : Transaction
  pub stands : slice_get (kept_in ss) i ≡ Some txn
  pub first : FirstRead k w txn.ops
  pub value : ℕ
  pub writes : last_write k txn.ops ≡ Some value

before_other : (ss : List ClientSession) (order : List ℕ) → IsSoundLog ss → IsSerialOrder ss order → (k : List ℕ) (w i j : ℕ) → Update ss k w i → Update ss k w j → (c : Cut order (suc j)) → Has (suc i) c.front → ⊥
before_other ss order sound serial k w i j a b c before =
    let ops = ops_of ss in
    let v = suc i in
    let d = cut_at c.front v before in
    let e : Cut order v = record { front = d.front; back = d.back ++ suc j ∷ c.back; is = c.is ∙ ap (λ l. l ++ suc j ∷ c.back) d.is ∙ append_assoc d.front (v ∷ d.back) (suc j ∷ c.back) } in
    let one = initial_or (last_write k (flat_map ops e.front)) w (found ss order serial v e a.first.before k w a.first.behind (ops_at ss i a.txn a.stands ∙ a.first.is) a.first.none) in
    let two = found ss order serial (suc j) c b.first.before k w b.first.behind (ops_at ss j b.txn b.stands ∙ b.first.is) b.first.none in
    let own = written_behind ss v d.back k a.value (ap (last_write k) (ops_at ss i a.txn a.stands) ∙ a.writes) in
    let all : last_write k (flat_map ops c.front) ≡ Some own.0 =
    ap (λ l. last_write k (flat_map ops l)) d.is ∙ ap (last_write k) (flat_map-append ops d.front (v ∷ d.back))
    ∙ last_append k (flat_map ops d.front) (flat_map ops (v ∷ d.back)) ∙ later_some (last_write k (flat_map ops (v ∷ d.back))) (last_write k (flat_map ops d.front)) own.0 own.1 in
    let same : own.0 ≡ w = sym (ap (λ (o : Option ℕ). unwrap_or o 0) all) ∙ two in
    let u = last_in ss (v ∷ d.back) k w (own.1 ∙ ap Some same) in
    let whole : order ≡ d.front ++ ((v ∷ d.back) ++ suc j ∷ c.back) = c.is ∙ ap (λ l. l ++ suc j ∷ c.back) d.is ∙ append_assoc d.front (v ∷ d.back) (suc j ∷ c.back) in
    let n = node_at ss order serial u.node (subst (Has u.node) (sym whole) (Has-append_back u.node d.front ((v ∷ d.back) ++ suc j ∷ c.back) (Has-append_front u.node (v ∷ d.back) (suc j ∷ c.back) u.stands))) in
    let in_n : Has w (written n.txn.ops) = has_written k w n.txn.ops (last_writes k w n.txn.ops (sym (ap (last_write k) n.has) ∙ u.last)) in
    elim one [
      | inl none ↦
          let s = standing ss n.place n.txn n.stands in
          zero_unwritten ss sound (has_in_all (txns_in (resolved ss)) s.0 n.txn 0 s.1 (subst (λ x. Has x (written n.txn.ops)) none in_n))
      | inr wrote ↦
          let x = last_in ss d.front k w wrote in
          let m = node_at ss order serial x.node (subst (Has x.node) (sym whole) (Has-append_front x.node d.front ((v ∷ d.back) ++ suc j ∷ c.back) x.stands)) in
          let in_m : Has w (written m.txn.ops) = has_written k w m.txn.ops (last_writes k w m.txn.ops (sym (ap (last_write k) m.has) ∙ x.last)) in
          let place = one_writer (kept_in ss) m.place n.place m.txn n.txn w (kept_once ss sound) m.stands n.stands in_m in_n in
          let node : x.node ≡ u.node = m.is_next ∙ ap suc place ∙ sym n.is_next in
          Apart-not_both u.node d.front ((v ∷ d.back) ++ suc j ∷ c.back) (subst Apart whole (apart_in ss order serial)) (subst (λ y. Has y d.front) node x.stands) (Has-append_front u.node (v ∷ d.back) (suc j ∷ c.back) u.stands)
    ]

two_updates : (ss : List ClientSession) (order : List ℕ) → IsSoundLog ss → IsSerialOrder ss order → (k : List ℕ) (w i j : ℕ) → Update ss k w i → Update ss k w j → (i ≡ j → ⊥) → ⊥
two_updates ss order sound serial k w i j a b apart =
    let c = cut_at order (suc j) (listed ss order serial j b.txn b.stands) in
    elim (Has-append_cases (suc i) c.front (suc j ∷ c.back) (subst (Has (suc i)) c.is (listed ss order serial i a.txn a.stands))) [
      | inl before ↦ before_other ss order sound serial k w i j a b c before
      | inr behind ↦ elim behind [
        | inl same ↦ apart (omega (arith, same))
        | inr there ↦
            let d = cut_at c.back (suc i) there in
            let e : Cut order (suc i) = record { front = c.front ++ suc j ∷ d.front; back = d.back; is = c.is ∙ ap (λ l. c.front ++ suc j ∷ l) d.is ∙ sym (append_assoc c.front (suc j ∷ d.front) (suc i ∷ d.back)) } in
            before_other ss order sound serial k w j i b a e (Has-append_back (suc j) c.front (suc j ∷ d.front) (inl refl))
      ]
    ]

update_at : (ss : List ClientSession) (k : List ℕ) (w i : ℕ) (t : Transaction) → slice_get (kept_in ss) i ≡ Some t → updates k w t ≡ true → Update ss k w i
update_at ss k w i t at h =
    let both = and_parts (option_map_or (λ r. eqb r w) (first_read k t.ops) false) (is_some (last_write k t.ops)) h in
    let wrote = some_value (last_write k t.ops) both.1 in
    record { txn = t; stands = at; first = first_at k w t.ops (reads_first (first_read k t.ops) w both.0); value = wrote.0; writes = wrote.1 }

pub not_lost : (ss : List ClientSession) (order : List ℕ) → IsSoundLog ss → IsSerialOrder ss order → (i : ℕ) (t : Transaction) → slice_get (kept_in ss) i ≡ Some t → is_lost (kept_in ss) t ≡ false
not_lost ss order sound serial i t at = none_found (loses_by (kept_in ss) t) t.ops none
  where
    by_op : (op : Op) → loses_by (kept_in ss) t op ≡ true → ⊥
    by_op (Write k w) h = false≢true h
    by_op (Read k w) h =
        let two = two_counted (updates k w) (kept_in ss) (and_parts (updates k w t) (nat_lt 1 (count_by (updates k w) (kept_in ss))) h).1 in
        two_updates ss order sound serial k w two.first.place two.second.place
        (update_at ss k w two.first.place two.first.item two.first.stands two.first.passes)
        (update_at ss k w two.second.place two.second.item two.second.stands two.second.passes) two.apart

    none : Found (loses_by (kept_in ss) t) t.ops → ⊥
    none f = by_op f.item f.passes
