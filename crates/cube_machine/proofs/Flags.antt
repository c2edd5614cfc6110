-- Flags of the sides that a cube decides.
use Rattle.cube_machine.proofs.Prelude.{◌≡◌, ℕ, Bool, true, false, not, eqb, ◌&&◌, ◌||◌, List, [], ◌∷◌, Option, None, Some, refl, sym, ap, ◌∙◌, slice_get, option_map_or, eqb-true, or_parts, and_parts, either_way, Side, One, Two, same_side}
use Rattle.cube_machine.proofs.Prelude.{sides_in, Cube, is_decided, either, flag_of, flag_at, is_flagged, is_odd, IsOnce, SideFlags}

-- ---- one of both
once_more : (h f p : Bool) → either h f ≡ either f (either (either h p) p)
once_more true true true = refl
once_more true true false = refl
once_more true false true = refl
once_more true false false = refl
once_more false true true = refl
once_more false true false = refl
once_more false false true = refl
once_more false false false = refl

-- ---- up by one node
pub odd_none : (at : Cube) (c : ℕ) (s : Side) → at ≡ [] → is_odd at c s ≡ false
unfolding is_odd
odd_none at c s e = ap (λ (cube : Cube). is_odd cube c s) e

pub odd_more : (at above : Cube) (k c : ℕ) (side s : Side) → at ≡ (k, side) ∷ above → is_odd at c s ≡ either (eqb k c && same_side side s) (is_odd above c s)
unfolding is_odd
odd_more at above k c side s e = ap (λ (cube : Cube). is_odd cube c s) e

pub gone_up : (f g : Bool) (at above : Cube) (k c : ℕ) (side s : Side) → at ≡ (k, side) ∷ above → g ≡ either (eqb k c && same_side side s) f → g ≡ either f (either (is_odd at c s) (is_odd above c s))
gone_up f g at above k c side s e h =
    h ∙ once_more (eqb k c && same_side side s) f (is_odd above c s) ∙ ap (λ b. either f (either b (is_odd above c s))) (sym (odd_more at above k c side s e))

-- ---- cubes that decide no choice twice
undecided : (cube : Cube) (c : ℕ) (s : Side) → is_decided cube c ≡ false → sides_in cube c s ≡ false
undecided [] c s f = refl
undecided (x ∷ cube) c s f =
    let p = or_parts (eqb x.0 c) (is_decided cube c) f in
    (λ i. (p.0 i && same_side x.1 s) || undecided cube c s p.1 i)

one_of : (h : Bool) (a b : Bool) → a ≡ b → (h ≡ true → b ≡ false) → either h a ≡ (h || b)
one_of true a b e none = ap not (e ∙ none refl)
one_of false a b e none = e

pub odd_once : (cube : Cube) (c : ℕ) (s : Side) → IsOnce cube → is_odd cube c s ≡ sides_in cube c s
unfolding is_odd IsOnce
odd_once [] c s o = refl
odd_once (x ∷ cube) c s o =
    one_of (eqb x.0 c && same_side x.1 s) (is_odd cube c s) (sides_in cube c s) (odd_once cube c s o.1)
    (λ t. (let p = and_parts (eqb x.0 c) (same_side x.1 s) t in undecided cube c s (ap (is_decided cube) (sym (eqb-true x.0 c p.0)) ∙ o.0)))

pub some_side : (b : Bool) (s : Side) → ((b && same_side s One) || (b && same_side s Two)) ≡ b
some_side true One = refl
some_side true Two = refl
some_side false s = refl

decided_sides : (cube : Cube) (c : ℕ) → (sides_in cube c One || sides_in cube c Two) ≡ is_decided cube c
decided_sides [] c = refl
decided_sides (x ∷ cube) c =
    either_way (eqb x.0 c && same_side x.1 One) (sides_in cube c One) (eqb x.0 c && same_side x.1 Two) (sides_in cube c Two)
    ∙ (λ i. some_side (eqb x.0 c) x.1 i || decided_sides cube c i)

flagged_sides : (o : Option SideFlags) → option_map_or (λ (f : SideFlags). f.one || f.two) o false ≡ (option_map_or (λ f. flag_of f One) o false || option_map_or (λ f. flag_of f Two) o false)
flagged_sides None = refl
flagged_sides (Some f) = refl

-- a choice is flagged where it is decided
pub flagged_is : (flags : List SideFlags) (cube : Cube) (c : ℕ) → IsOnce cube → ((side : Side) → flag_at flags c side ≡ is_odd cube c side) → is_flagged flags c ≡ is_decided cube c
flagged_is flags cube c once each =
    flagged_sides (slice_get flags c)
    ∙ (λ i. (let a = each One ∙ odd_once cube c One once in a i) || (let b = each Two ∙ odd_once cube c Two once in b i))
    ∙ decided_sides cube c
