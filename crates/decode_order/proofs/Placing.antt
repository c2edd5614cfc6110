-- Nodes that are put at the places that their ranks say.
use Rattle.decode_order.proofs.Prelude.{◌≡◌, ◌≢◌, ℕ, ◌+◌, ◌-◌, ◌<◌, ◌≤◌, Bool, List, length, get_or, ap, ◌∙◌, subst, inl, inr, arith, sym, slice_set, cases_lt, get_or_default, ext_get_or, get_or-set_same, get_or-set_other, length-set}
use Rattle.decode_order.proofs.Prelude.{IsOrder, IsDecoded, rank, rank-apart, rank-pos, rank-zero, rank-le, rank-onto}

-- ---- one more node is put at its place
pub record Placed (n : ℕ) (r : ℕ → ℕ → Bool) (items : List ℕ) (v : ℕ) : Type 0 where
  pub room : length items ≡ n
  pub each : (u : ℕ) → 0 < u → u < v → get_or items (rank n r u - 1) 0 ≡ u

pub rank_within : (n : ℕ) (r : ℕ → ℕ → Bool) → IsOrder n r → (v : ℕ) → 0 < v → v ≤ n → rank n r v - 1 < n
rank_within n r o v lo hi = omega (arith, rank-le n r o v hi, rank-pos n r o v lo hi)

pub placed_more : (n : ℕ) (r : ℕ → ℕ → Bool) → IsOrder n r → (items : List ℕ) (v : ℕ) → 0 < v → v ≤ n → Placed n r items v → Placed n r (slice_set items (rank n r v - 1) v) (v + 1)
placed_more n r o items v lo hi h =
    let within = rank_within n r o v lo hi in
    record {
      room = length-set items (rank n r v - 1) v ∙ h.room;
      each = λ u low high. elim (cases_lt u v) [
        | inl lt ↦
            let apart : rank n r u - 1 ≢ rank n r v - 1 = λ e. (
            let same = rank-apart n r o u v (omega arith) hi (omega (arith, e, rank-pos n r o u low (omega arith), rank-pos n r o v lo hi)) in omega (arith, same)) in
            get_or-set_other items (rank n r v - 1) (rank n r u - 1) v 0 apart ∙ h.each u low lt
        | inr ge ↦
            let e : v ≡ u = omega arith in
            subst (λ k. get_or (slice_set items (rank n r v - 1) v) (rank n r k - 1) 0 ≡ k) e
            (get_or-set_same items (rank n r v - 1) v 0 (omega (arith, within, h.room)))
      ];
    }

-- ---- each place is taken once all nodes are put
pub record Taken (n : ℕ) (r : ℕ → ℕ → Bool) (items : List ℕ) (p : ℕ) : Type 0 where
  pub node : ℕ
  pub range : (0 < node) × (node ≤ n)
  pub rank : rank n r node ≡ p + 1
  pub here : get_or items p 0 ≡ node

pub taken : (n : ℕ) (r : ℕ → ℕ → Bool) → IsOrder n r → (items : List ℕ) → Placed n r items (n + 1) → (p : ℕ) → p < n → Taken n r items p
taken n r o items h p lt =
    let v = rank-onto n r o (p + 1) (omega arith) in
    let pos : 0 < v.0 = elim (cases_lt 0 v.0) [
      | inl lo ↦ lo
      | inr z ↦ let e : v.0 ≡ 0 = omega arith in absurd (let same = ap (rank n r) e in omega (arith, same, v.1.1, rank-zero n r o))
    ] in
    let at : rank n r v.0 - 1 ≡ p = omega (arith, v.1.1) in
    record {
      node = v.0;
      range = (pos, v.1.0);
      rank = v.1.1;
      here = subst (λ k. get_or items k 0 ≡ v.0) at (h.each v.0 pos (omega (arith, v.1.0)));
    }

pub decoded_where_placed : (n : ℕ) (r : ℕ → ℕ → Bool) → IsOrder n r → (items : List ℕ) → Placed n r items (n + 1) → IsDecoded n r items
decoded_where_placed n r o items h = record {
  places = h.room;
  nodes = λ p d lt. (
      let t = taken n r o items h p (omega (arith, h.room)) in
      let at : get_or items p d ≡ t.node = get_or_default items p d 0 lt ∙ t.here in
      (omega (arith, at, t.range.0), omega (arith, at, t.range.1)));
  each = λ p lt. (
      let t = taken n r o items h p (omega (arith, h.room)) in
      ap (rank n r) t.here ∙ t.rank);
}

-- no other list has each node at its place
pub decoded_once : (n : ℕ) (r : ℕ → ℕ → Bool) → IsOrder n r → (a b : List ℕ) → IsDecoded n r a → IsDecoded n r b → a ≡ b
decoded_once n r o a b p q = ext_get_or 0 a b (p.places ∙ sym q.places) (λ i lt.
    let there : i < length b = omega (arith, lt, p.places, q.places) in
    rank-apart n r o (get_or a i 0) (get_or b i 0) (p.nodes i 0 lt).1 (q.nodes i 0 there).1 (p.each i lt ∙ sym (q.each i there)))
