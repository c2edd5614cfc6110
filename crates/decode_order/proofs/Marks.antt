-- Marks for the nodes of a list.
use Rattle.decode_order.proofs.Prelude.{◌≡◌, ℕ, ◌+◌, ◌<◌, ◌≤◌, Bool, true, false, List, [], ◌∷◌, ◌++◌, length, get_or, take, drop, refl, sym, ap, ◌∙◌, subst, inl, inr, arith, slice_set, cases_eq, true≢false, get_or-set_same}
use Rattle.decode_order.proofs.Prelude.{get_or-set_other, length-set, ListsOnce, Has, Apart, Has-append_front, Has-append_back, Has-append_cases, Apart-not_both, front_more, around, Apart-push, once_apart}

-- exactly the nodes of the line are marked
pub record Marked (n : ℕ) (line : List ℕ) (marks : List Bool) : Type 0 where
  pub room : length marks ≡ n + 1
  pub marked : (v : ℕ) → v ≤ n → get_or marks v false ≡ true → Has v line
  pub unmarked : (v : ℕ) → v ≤ n → get_or marks v false ≡ false → Has v line → ⊥

pub marked_more : (n : ℕ) (line : List ℕ) (marks : List Bool) (v : ℕ) → v ≤ n → Marked n line marks → Marked n (line ++ v ∷ []) (slice_set marks v true)
marked_more n line marks v hi m = record {
  room = length-set marks v true ∙ m.room;
  marked = λ u h t. elim (cases_eq u v) [
    | inl e ↦ Has-append_back u line (v ∷ []) (inl (sym e))
    | inr ne ↦ Has-append_front u line (v ∷ []) (m.marked u h (sym (get_or-set_other marks v u true false ne) ∙ t))
  ];
  unmarked = λ u h f k. elim (cases_eq u v) [
    | inl e ↦
        let here : get_or (slice_set marks v true) u false ≡ true =
        ap (λ w. get_or (slice_set marks v true) w false) e ∙ get_or-set_same marks v true false (omega (arith, m.room)) in
        true≢false (sym here ∙ f)
    | inr ne ↦ elim (Has-append_cases u line (v ∷ []) k) [
      | inl front ↦ m.unmarked u h (sym (get_or-set_other marks v u true false ne) ∙ f) front
      | inr last ↦ elim last [ inl e ↦ ne (sym e) | inr none ↦ none ]
    ]
  ];
}

-- ---- nodes that were listed once so far
pub record OnceSoFar (n : ℕ) (order : List ℕ) (i : ℕ) (marks : List Bool) : Type 0 where
  pub front : Marked n (take i order) marks
  pub apart : Apart (take i order)
  pub within : (v : ℕ) → Has v (take i order) → (0 < v) × (v ≤ n)

pub once_more : (n : ℕ) (order : List ℕ) (i v : ℕ) (marks : List Bool) → i < length order → get_or order i v ≡ v → 0 < v → v ≤ n → get_or marks v false ≡ false → OnceSoFar n order i marks → OnceSoFar n order (i + 1) (slice_set marks v true)
once_more n order i v marks lt e lo hi new o =
    let more = front_more order i v lt e in
    record {
      front = subst (λ l. Marked n l (slice_set marks v true)) (sym more) (marked_more n (take i order) marks v hi o.front);
      apart = subst Apart (sym more) (Apart-push (take i order) v o.apart (o.front.unmarked v hi new));
      within = λ u h. elim (Has-append_cases u (take i order) (v ∷ []) (subst (Has u) more h)) [
        | inl k ↦ o.within u k
        | inr k ↦ elim k [ inl same ↦ (omega (arith, same), omega (arith, same)) | inr none ↦ absurd none ]
      ];
    }

-- ---- lists that do not have each node once

pub not_once_twice : (n : ℕ) (order : List ℕ) (i v : ℕ) → i < length order → get_or order i v ≡ v → Has v (take i order) → ListsOnce n order → ⊥
not_once_twice n order i v lt e h once =
    Apart-not_both v (take i order) (v ∷ drop (i + 1) order) (subst Apart (around order i v lt e) (once_apart n order once)) h (inl refl)
