-- Places of the nodes of an order.
use Rattle.polygraph.proofs.Prelude.{◌≡◌, ℕ, zero, suc, ◌+◌, ◌<◌, ◌≤◌, List, [], ◌∷◌, ◌++◌, length, get_or, take, drop, replicate, refl, sym, ap, ◌∙◌, subst, inl, inr, arith, slice_set, nat_eq, list_any, cases_eq, cases_Bool, false≢true}
use Rattle.polygraph.proofs.Prelude.{get_or-set_same, get_or-set_other, length-set, length-take-le, take_all, place_of, ListsOnce, Has, Apart, Has-append_front, Has-append_back, Has-append_cases, Apart-not_both, Has-from_Contains}
use Rattle.polygraph.proofs.Prelude.{place_of-here, place_of-further, place_of-back, behind_zero, ArePlaces, Has-from_any, any-from_Has, once_apart, once_from}
use Rattle.serializability.proofs.Fronts.{front_more, around, Apart-push}

place_of-stays : (v : ℕ) (f b : List ℕ) → Has v f → place_of (f ++ b) v ≡ place_of f v
place_of-stays v [] b h = absurd h
place_of-stays v (u ∷ f) b h = elim (cases_eq u v) [
  | inl e ↦ subst (λ w. place_of (u ∷ (f ++ b)) w ≡ place_of (u ∷ f) w) e (place_of-here u (f ++ b) ∙ sym (place_of-here u f))
  | inr ne ↦ elim h [
    | inl e ↦ absurd (ne e)
    | inr k ↦ place_of-further u v (f ++ b) ne ∙ ap suc (place_of-stays v f b k) ∙ sym (place_of-further u v f ne)
  ]
]

-- ---- nodes that were placed so far
pub record PlacedSoFar (n : ℕ) (order : List ℕ) (i : ℕ) (places : List ℕ) : Type 0 where
  pub room : length places ≡ 1001
  pub placed : (v : ℕ) → v ≤ n → Has v (take i order) → get_or places v 0 ≡ suc (place_of (take i order) v)
  pub unplaced : (v : ℕ) → v ≤ n → (Has v (take i order) → ⊥) → get_or places v 0 ≡ 0
  pub apart : Apart (take i order)
  pub within : (v : ℕ) → Has v (take i order) → (0 < v) × (v ≤ n)

record PlacesFront (n : ℕ) (line places : List ℕ) : Type 0 where
  pub placed : (v : ℕ) → v ≤ n → Has v line → get_or places v 0 ≡ suc (place_of line v)
  pub unplaced : (v : ℕ) → v ≤ n → (Has v line → ⊥) → get_or places v 0 ≡ 0
  pub apart : Apart line
  pub within : (v : ℕ) → Has v line → (0 < v) × (v ≤ n)

front_placed : (n : ℕ) (line places : List ℕ) (v : ℕ) → 0 < v → v ≤ n → v < length places → (Has v line → ⊥) → PlacesFront n line places → PlacesFront n (line ++ v ∷ []) (slice_set places v (length line + 1))
front_placed n line places v lo hi room new o = record {
  placed = λ u h k. elim (cases_eq u v) [
    | inl e ↦
        let P : ℕ → Type 0 = λ w. get_or (slice_set places v (length line + 1)) w 0 ≡ suc (place_of (line ++ v ∷ []) w) in
        let here : get_or (slice_set places v (length line + 1)) v 0 ≡ length line + 1 = get_or-set_same places v (length line + 1) 0 room in
        subst P (sym e) (omega (arith, here, place_of-back v line (v ∷ []) new, place_of-here v []))
    | inr ne ↦ elim (Has-append_cases u line (v ∷ []) k) [
      | inl front ↦
          get_or-set_other places v u (length line + 1) 0 ne ∙ o.placed u h front ∙ ap suc (sym (place_of-stays u line (v ∷ []) front))
      | inr last ↦ elim last [ inl e ↦ absurd (ne (sym e)) | inr none ↦ absurd none ]
    ]
  ];
  unplaced = λ u h absent. elim (cases_eq u v) [
    | inl e ↦ absurd (absent (Has-append_back u line (v ∷ []) (inl (sym e))))
    | inr ne ↦ get_or-set_other places v u (length line + 1) 0 ne ∙ o.unplaced u h (λ k. absent (Has-append_front u line (v ∷ []) k))
  ];
  apart = Apart-push line v o.apart new;
  within = λ u k. elim (Has-append_cases u line (v ∷ []) k) [
    | inl front ↦ o.within u front
    | inr last ↦ elim last [ inl e ↦ (omega (arith, e), omega (arith, e)) | inr none ↦ absurd none ]
  ];
}

pub not_placed : (n : ℕ) (order : List ℕ) (i v : ℕ) (places : List ℕ) → v ≤ n → get_or places v 0 ≡ 0 → PlacedSoFar n order i places → Has v (take i order) → ⊥
not_placed n order i v places hi z o h = omega (arith, z, o.placed v hi h)

pub placed_more : (n : ℕ) (order : List ℕ) (i v : ℕ) (places : List ℕ) → n ≤ 1000 → i < length order → get_or order i v ≡ v → 0 < v → v ≤ n → get_or places v 0 ≡ 0 → PlacedSoFar n order i places →
    PlacedSoFar n order (i + 1) (slice_set places v (i + 1))
placed_more n order i v places few lt here lo hi z o =
    let len : length (take i order) ≡ i = length-take-le i order (omega arith) in
    let more = front_more order i v lt here in
    let front = front_placed n (take i order) places v lo hi (omega (arith, o.room)) (not_placed n order i v places hi z o)
    (record { placed = o.placed; unplaced = o.unplaced; apart = o.apart; within = o.within }) in
    let counted = subst (λ k. PlacesFront n (take i order ++ v ∷ []) (slice_set places v (k + 1))) len front in
    let next = subst (λ l. PlacesFront n l (slice_set places v (i + 1))) (sym more) counted in
    record { room = length-set places v (i + 1) ∙ o.room; placed = next.placed; unplaced = next.unplaced; apart = next.apart; within = next.within }

-- ---- lists that do not have each node once

pub not_once_twice : (n : ℕ) (order : List ℕ) (i v : ℕ) (places : List ℕ) → i < length order → get_or order i v ≡ v → v ≤ n → (get_or places v 0 ≡ 0 → ⊥) → PlacedSoFar n order i places → ListsOnce n order → ⊥
not_once_twice n order i v places lt e hi taken o once =
    elim (cases_Bool (list_any (nat_eq v) (take i order))) [
      | inl t ↦ Apart-not_both v (take i order) (v ∷ drop (i + 1) order) (subst Apart (around order i v lt e) (once_apart n order once)) (Has-from_any v (take i order) t) (inl refl)
      | inr f ↦ taken (o.unplaced v hi (λ h. false≢true (sym f ∙ any-from_Has v (take i order) h)))
    ]

-- ---- no node is placed, and all are
pub zeroes : (n v : ℕ) → get_or {A = ℕ} (replicate n 0) v 0 ≡ 0
zeroes zero v = refl
zeroes (suc n) zero = refl
zeroes (suc n) (suc v) = zeroes n v

pub nothing_placed : (n : ℕ) (order places : List ℕ) → length places ≡ 1001 → ((v : ℕ) → get_or places v 0 ≡ 0) → PlacedSoFar n order 0 places
nothing_placed n order places room zeroes = record {
  room = room;
  placed = λ v hi h. absurd h;
  unplaced = λ v hi absent. zeroes v;
  apart = tt;
  within = λ v h. absurd h;
}

pub once_placed : (n : ℕ) (order : List ℕ) (i : ℕ) (places : List ℕ) → length order ≡ n → length order ≤ i → PlacedSoFar n order i places → ListsOnce n order
once_placed n order i places long end o =
    let all : take i order ≡ order = take_all i order end in
    once_from n order long (subst Apart all o.apart) (λ v h. o.within v (subst (Has v) (sym all) h))

pub all_placed : (n : ℕ) (order : List ℕ) (i : ℕ) (places : List ℕ) → length order ≡ n → length order ≤ i → PlacedSoFar n order i places → ArePlaces n order places
all_placed n order i places long end o =
    let all : take i order ≡ order = take_all i order end in
    let once = once_placed n order i places long end o in
    record {
      each = λ v hi. elim (cases_eq v 0) [
        | inl z ↦
            let none : Has 0 (take i order) → ⊥ = λ h. omega (arith, (o.within 0 h).0) in
            let empty : get_or places 0 0 ≡ 0 = o.unplaced 0 (omega arith) none in
            subst (λ w. get_or places w 0 ≡ place_of (0 ∷ order) w) (sym z) (empty ∙ sym (place_of-here 0 order))
        | inr ne ↦
            let lo : 0 < v = omega (arith, ne) in
            let h : Has v order = Has-from_Contains order v (once.each v lo hi) in
            let there = o.placed v hi (subst (Has v) (sym all) h) in
            there ∙ ap (λ l. suc (place_of l v)) all ∙ sym (behind_zero order v lo)
      ];
    }
