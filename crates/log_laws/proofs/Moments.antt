-- What stands where in a line, by moments, sessions and reads.
use Rattle.log_laws.proofs.Prelude.{◌≡◌, ◌≢◌, ℕ, ◌<◌, List, Some, refl, sym, ap, ◌∙◌, inl, inr, arith, slice_get, Contains, cases_order, slice_get-get_or, Write, Committed, Map}
use Rattle.log_laws.proofs.Lines.{MayPrecede, EachPair}
use Rattle.log_laws.proofs.Orders.{pair_at}

-- ---- a place of a node in a line
pub place_in : (line : List Committed) (n : Committed) → Contains line n → (i : ℕ) × (slice_get line i ≡ Some n)
place_in line n c = (c.0, slice_get-get_or line c.0 n c.1 ∙ ap Some c.2)

pub one_node : (line : List Committed) (i j : ℕ) (a b : Committed) → slice_get line i ≡ Some a → slice_get line j ≡ Some b → i ≡ j → a ≡ b
one_node line i j a b e f same = let some : Some a ≡ Some b = sym e ∙ ap (slice_get line) same ∙ f in cc

pub one_place : (line : List Committed) (i j : ℕ) (a : Committed) → EachPair MayPrecede line → slice_get line i ≡ Some a → slice_get line j ≡ Some a → i ≡ j
one_place line i j a h e f = elim (cases_order i j) [
  | inl same ↦ same
  | inr apart ↦ elim apart [
    | inl less ↦ absurd (let lt = (pair_at MayPrecede line i j a a h e f less).0 refl in omega (arith, lt))
    | inr more ↦ absurd (let lt = (pair_at MayPrecede line j i a a h f e more).0 refl in omega (arith, lt))
  ]
]

-- of two nodes of a session the one with the earlier place stands first
pub by_places : (line : List Committed) (i j : ℕ) (a b : Committed) → EachPair MayPrecede line → slice_get line i ≡ Some a → slice_get line j ≡ Some b → a.session ≡ b.session → a.place < b.place → i < j
by_places line i j a b h e f s lt = elim (cases_order i j) [
  | inl same ↦ absurd (let p : a.place ≡ b.place = ap (λ (n : Committed). n.place) (one_node line i j a b e f same) in omega (arith, p, lt))
  | inr apart ↦ elim apart [
    | inl less ↦ less
    | inr more ↦ absurd (let gt = (pair_at MayPrecede line j i b a h f e more).0 (sym s) in omega (arith, gt, lt))
  ]
]

-- what these nodes write no other node of the line does, and the map has not
abbrev pub Alone : Map → List Committed → List Committed → Type 0
Alone from nodes line = (a b : Committed) (key : List ℕ) (wid : ℕ) → Contains nodes a → Contains line b → Contains a.ops (Write key wid) → Contains b.ops (Write key wid) → (b ≡ a) × (from key ≢ wid)
