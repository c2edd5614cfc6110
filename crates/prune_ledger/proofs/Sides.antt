-- The edges of kept sides.
use Rattle.prune_ledger.proofs.Prelude.{◌≡◌, ◌⊎◌, ℕ, zero, suc, ◌+◌, Bool, true, false, cond, eqb, ◌&&◌, List, [], ◌∷◌, ◌++◌, Option, None, Some, refl, sym, ap, subst, inl, inr, arith, eqb-true, eq-eqb, slice_get, option_map_or, false≢true}
use Rattle.prune_ledger.proofs.Prelude.{and_parts, and_from, or_cases, or_left, or_right, same_Some, Edge, Choice, Polygraph, In, In-append_left, In-append_right, In-append_cases, Side, One, Two, edges_of, Sides, EachNumbered, kept_from}
use Rattle.prune_ledger.proofs.Prelude.{edges_with, Entry, same_side, sides_in, same_is, same_itself, side_of, edges_after}

-- ---- a choice by its number
pub record ChoiceAt (choices : List Choice) (c : ℕ) : Type 0 where
  pub choice : Choice
  pub at : slice_get choices c ≡ Some choice

pub side_is : (choices : List Choice) (c : ℕ) (h : Choice) (side : Side) → slice_get choices c ≡ Some h → side_of choices c side ≡ edges_of h side
side_is choices c h side at = ap (λ o. option_map_or (λ k. edges_of k side) o []) at

choice_with : (choices : List Choice) (c : ℕ) (o : Option Choice) (side : Side) (x : Edge) → slice_get choices c ≡ o → In x (option_map_or (λ h. edges_of h side) o []) → ChoiceAt choices c
choice_with choices c None side x e i = absurd i
choice_with choices c (Some h) side x e i = record { choice = h; at = e }

-- a choice of which a side has an edge is there
pub choice_of_edge : (choices : List Choice) (c : ℕ) (side : Side) (x : Edge) → In x (side_of choices c side) → ChoiceAt choices c
choice_of_edge choices c side x i = choice_with choices c (slice_get choices c) side x refl i

pub numbered_at : (P : ℕ → Choice → Type 0) (c : ℕ) (hs : List Choice) (k : ℕ) (h : Choice) → EachNumbered P c hs → slice_get hs k ≡ Some h → P (c + k) h
numbered_at P c [] k h n e = absurd (cc)
numbered_at P c (x ∷ xs) zero h n e = let i : c ≡ c + 0 = omega arith in subst (λ m. P m h) i (subst (P c) (same_Some x h e) n.0)
numbered_at P c (x ∷ xs) (suc k) h n e = let i : c + 1 + k ≡ c + suc k = omega arith in subst (λ m. P m h) i (numbered_at P (c + 1) xs k h n.1 e)

pub numbered_first : (P : ℕ → Choice → Type 0) (hs : List Choice) (k : ℕ) (h : Choice) → EachNumbered P 0 hs → slice_get hs k ≡ Some h → P k h
numbered_first P hs k h n e = let z : 0 + k ≡ k = omega arith in subst (λ m. P m h) z (numbered_at P 0 hs k h n e)

-- ---- edges of the sides in a set
pub record KeptAt (sides : Sides) (c : ℕ) (hs : List Choice) (x : Edge) : Type 0 where
  pub number : ℕ
  pub choice : Choice
  pub side : Side
  pub at : slice_get hs number ≡ Some choice
  pub chosen : sides (c + number) side ≡ true
  pub within : In x (edges_of choice side)

of_part : (x : Edge) (b : Bool) (xs : List Edge) → In x (cond b xs []) → (b ≡ true) × In x xs
of_part x true xs i = (refl, i)
of_part x false xs i = absurd i

to_part : (x : Edge) (b : Bool) (xs : List Edge) → b ≡ true → In x xs → In x (cond b xs [])
to_part x true xs t i = i
to_part x false xs t i = absurd (false≢true t)

kept_here : (sides : Sides) (c : ℕ) (h : Choice) (hs : List Choice) (x : Edge) (side : Side) → sides c side ≡ true → In x (edges_of h side) → KeptAt sides c (h ∷ hs) x
kept_here sides c h hs x side t i = record {
  number = 0;
  choice = h;
  side = side;
  at = refl;
  chosen = (let z : c ≡ c + 0 = omega arith in subst (λ m. sides m side ≡ true) z t);
  within = i;
}

kept_there : (sides : Sides) (c : ℕ) (h : Choice) (hs : List Choice) (x : Edge) → KeptAt sides (c + 1) hs x → KeptAt sides c (h ∷ hs) x
kept_there sides c h hs x k = record {
  number = suc k.number;
  choice = k.choice;
  side = k.side;
  at = k.at;
  chosen = (let z : c + 1 + k.number ≡ c + suc k.number = omega arith in subst (λ m. sides m k.side ≡ true) z k.chosen);
  within = k.within;
}

pub kept_at : (sides : Sides) (c : ℕ) (hs : List Choice) (x : Edge) → In x (kept_from sides c hs) → KeptAt sides c hs x
kept_at sides c [] x i = absurd i
kept_at sides c (h ∷ hs) x i =
    elim (In-append_cases x (cond (sides c One) h.one [] ++ cond (sides c Two) h.two []) (kept_from sides (c + 1) hs) i) [
      | inl ab ↦ (elim (In-append_cases x (cond (sides c One) h.one []) (cond (sides c Two) h.two []) ab) [
        | inl a ↦ (let r = of_part x (sides c One) h.one a in kept_here sides c h hs x One r.0 r.1)
        | inr b ↦ (let r = of_part x (sides c Two) h.two b in kept_here sides c h hs x Two r.0 r.1)
      ])
      | inr r ↦ kept_there sides c h hs x (kept_at sides (c + 1) hs x r)
    ]

here_kept : (sides : Sides) (c : ℕ) (h : Choice) (hs : List Choice) (x : Edge) (side : Side) → sides c side ≡ true → In x (edges_of h side) → In x (kept_from sides c (h ∷ hs))
here_kept sides c h hs x One t i =
    In-append_left x (cond (sides c One) h.one [] ++ cond (sides c Two) h.two []) (kept_from sides (c + 1) hs)
    (In-append_left x (cond (sides c One) h.one []) (cond (sides c Two) h.two []) (to_part x (sides c One) h.one t i))
here_kept sides c h hs x Two t i =
    In-append_left x (cond (sides c One) h.one [] ++ cond (sides c Two) h.two []) (kept_from sides (c + 1) hs)
    (In-append_right x (cond (sides c One) h.one []) (cond (sides c Two) h.two []) (to_part x (sides c Two) h.two t i))

pub at_kept : (sides : Sides) (c : ℕ) (hs : List Choice) (x : Edge) (k : ℕ) (h : Choice) (side : Side) → slice_get hs k ≡ Some h → sides (c + k) side ≡ true → In x (edges_of h side) → In x (kept_from sides c hs)
at_kept sides c [] x k h side at t i = absurd (cc)
at_kept sides c (g ∷ hs) x zero h side at t i =
    let z : c + 0 ≡ c = omega arith in
    here_kept sides c g hs x side (subst (λ m. sides m side ≡ true) z t) (subst (λ (f : Choice). In x (edges_of f side)) (sym (same_Some g h at)) i)
at_kept sides c (g ∷ hs) x (suc k) h side at t i =
    let z : c + suc k ≡ c + 1 + k = omega arith in
    In-append_right x (cond (sides c One) g.one [] ++ cond (sides c Two) g.two []) (kept_from sides (c + 1) hs)
    (at_kept sides (c + 1) hs x k h side at (subst (λ m. sides m side ≡ true) z t) i)

-- ---- the edges of a polygraph with sides
pub known_with : (p : Polygraph) (sides : Sides) (x : Edge) → In x p.known → In x (edges_with p sides)
known_with p sides x i = In-append_left x p.known (kept_from sides 0 p.choices) i

pub side_with : (p : Polygraph) (sides : Sides) (x : Edge) (c : ℕ) (side : Side) → sides c side ≡ true → In x (side_of p.choices c side) → In x (edges_with p sides)
side_with p sides x c side t i =
    let g = choice_of_edge p.choices c side x i in
    let z : c ≡ 0 + c = omega arith in
    In-append_right x p.known (kept_from sides 0 p.choices)
    (at_kept sides 0 p.choices x c g.choice side g.at (subst (λ m. sides m side ≡ true) z t) (subst (In x) (side_is p.choices c g.choice side g.at) i))

-- it is known, or of a side in the set
pub record SideAt (p : Polygraph) (sides : Sides) (x : Edge) : Type 0 where
  pub number : ℕ
  pub side : Side
  pub chosen : sides number side ≡ true
  pub within : In x (side_of p.choices number side)

pub with_cases : (p : Polygraph) (sides : Sides) (x : Edge) → In x (edges_with p sides) → In x p.known ⊎ SideAt p sides x
with_cases p sides x i = elim (In-append_cases x p.known (kept_from sides 0 p.choices) i) [
  | inl a ↦ inl a
  | inr b ↦ (let k = kept_at sides 0 p.choices x b in
      let z : 0 + k.number ≡ k.number = omega arith in
      inr (record {
        number = k.number;
        side = k.side;
        chosen = subst (λ m. sides m k.side ≡ true) z k.chosen;
        within = subst (In x) (sym (side_is p.choices k.number k.choice k.side k.at)) k.within;
      }))
]

-- ---- one side more
pub more_kept : (p : Polygraph) (kept : List Entry) (e : Entry) (x : Edge) → In x (edges_after p kept) → In x (edges_after p (e ∷ kept))
more_kept p kept e x i = elim (with_cases p (sides_in kept) x i) [
  | inl a ↦ known_with p (sides_in (e ∷ kept)) x a
  | inr s ↦ side_with p (sides_in (e ∷ kept)) x s.number s.side (or_right (eqb e.0 s.number && same_side e.1 s.side) (sides_in kept s.number s.side) s.chosen) s.within
]

pub new_chosen : (kept : List Entry) (e : Entry) → sides_in (e ∷ kept) e.0 e.1 ≡ true
new_chosen kept e = or_left (eqb e.0 e.0 && same_side e.1 e.1) (sides_in kept e.0 e.1) (and_from (eqb e.0 e.0) (same_side e.1 e.1) (eq-eqb e.0 e.0 refl) (same_itself e.1))

pub new_kept : (p : Polygraph) (kept : List Entry) (e : Entry) (x : Edge) → In x (side_of p.choices e.0 e.1) → In x (edges_after p (e ∷ kept))
new_kept p kept e x i = side_with p (sides_in (e ∷ kept)) x e.0 e.1 (new_chosen kept e) i

pub kept_cases : (p : Polygraph) (kept : List Entry) (e : Entry) (x : Edge) → In x (edges_after p (e ∷ kept)) → In x (edges_after p kept) ⊎ In x (side_of p.choices e.0 e.1)
kept_cases p kept e x i = elim (with_cases p (sides_in (e ∷ kept)) x i) [
  | inl a ↦ inl (known_with p (sides_in kept) x a)
  | inr s ↦ (elim (or_cases (eqb e.0 s.number && same_side e.1 s.side) (sides_in kept s.number s.side) s.chosen) [
    | inl t ↦ (let b = and_parts (eqb e.0 s.number) (same_side e.1 s.side) t in
        let c : e.0 ≡ s.number = eqb-true e.0 s.number b.0 in
        let d : e.1 ≡ s.side = same_is e.1 s.side b.1 in
        inr (subst (λ (w : Side). In x (side_of p.choices e.0 w)) (sym d) (subst (λ (n : ℕ). In x (side_of p.choices n s.side)) (sym c) s.within)))
    | inr t ↦ inl (side_with p (sides_in kept) x s.number s.side t s.within)
  ])
]

pub no_kept : (p : Polygraph) (x : Edge) → In x (edges_after p []) → In x p.known
no_kept p x i = elim (with_cases p (sides_in []) x i) [ inl a ↦ a | inr s ↦ absurd (false≢true s.chosen) ]
