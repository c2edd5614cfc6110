-- What pruning keeps.
use Rattle.std.proofs.Common.{◌≡◌, ◌↔◌, ℕ, zero, suc, ◌+◌, ◌<◌, Bool, true, false, ltb, cond, ◌&&◌, ◌||◌, List, [], ◌∷◌, ◌++◌, length, get_or, Option, Some, refl, sym, ap, ◌∙◌, subst, inl, inr, arith}
use Rattle.std.specs.Prelude.{slice_get}
use Rattle.std.specs.Option.{option_map_or}
use Rattle.std.specs.List.{Contains, AllByRecursion, list_any}
use Rattle.std.proofs.lemmas.Bool.{cases_Bool, false≢true, and_parts, and_from, or_cases, or_left, or_right, lt-ltb, ltb-true}
use Rattle.serializability.specs.Replay.{place_of, Before}
use Rattle.serializability.specs.Polygraph.{Edge, Choice, Polygraph, Keeps, KeepsOne, Fits}
use Rattle.serializability.proofs.Places.{each_of_append, each_from_append}
use Rattle.pruning_laws.specs.declared.side.Side.{Side}
use Rattle.pruning_laws.specs.declared.side.Side.TheVariants.{One, Two}
use Rattle.reach_laws.specs.Reach.{Reaches, IsCyclic}
use Rattle.pruning_laws.specs.Forced.{edges_of, other, Sides, EachNumbered, kept_from, edges_with, IsRefuted, IsClosed, IsForced, IsDead, open_from, pruned}
use Rattle.reach_laws.proofs.Walks.{each_contained, each_from_contained, reach_kept, no_cycle_kept, reach_in}

-- ---- facts of numbered choices
pub numbered_and : (P Q R : ℕ → Choice → Type 0) (c : ℕ) (hs : List Choice) → ((c : ℕ) (h : Choice) → P c h → Q c h → R c h) → EachNumbered P c hs → EachNumbered Q c hs → EachNumbered R c hs
numbered_and P Q R c [] f p q = tt
numbered_and P Q R c (h ∷ hs) f p q = (f c h p.0 q.0, numbered_and P Q R (c + 1) hs f p.1 q.1)

pub numbered_from : (P : Choice → Type 0) (c : ℕ) (hs : List Choice) → AllByRecursion P hs → EachNumbered (λ c h. P h) c hs
numbered_from P c [] a = tt
numbered_from P c (h ∷ hs) a = (a.0, numbered_from P (c + 1) hs a.1)

numbered_get : (f : ℕ → Option Choice) (c : ℕ) (hs : List Choice) → ((i : ℕ) → f (c + i) ≡ slice_get hs i) → EachNumbered (λ c h. f c ≡ Some h) c hs
numbered_get f c [] e = tt
numbered_get f c (h ∷ hs) e =
    let here : c ≡ c + 0 = omega arith in
    (ap f here ∙ e 0, numbered_get f (c + 1) hs (λ i. (let there : c + 1 + i ≡ c + suc i = omega arith in ap f there ∙ e (suc i))))

-- ---- the sides that an order keeps
abbrev pub keeps_test : List ℕ → List Edge → Bool
keeps_test order [] = true
keeps_test order (e ∷ edges) = ltb (place_of (0 ∷ order) e.0) (place_of (0 ∷ order) e.1) && keeps_test order edges

pub keeps_tested : (order : List ℕ) (edges : List Edge) → Keeps order edges → keeps_test order edges ≡ true
keeps_tested order [] k = refl
keeps_tested order (e ∷ edges) k = and_from (ltb (place_of (0 ∷ order) e.0) (place_of (0 ∷ order) e.1)) (keeps_test order edges) (lt-ltb _ _ k.0) (keeps_tested order edges k.1)

pub tested_keeps : (order : List ℕ) (edges : List Edge) → keeps_test order edges ≡ true → Keeps order edges
tested_keeps order [] t = tt
tested_keeps order (e ∷ edges) t =
    let p = and_parts (ltb (place_of (0 ∷ order) e.0) (place_of (0 ∷ order) e.1)) (keeps_test order edges) t in
    (ltb-true _ _ p.0, tested_keeps order edges p.1)

abbrev kept_sides : Polygraph → List ℕ → Sides
kept_sides p order = λ c s. option_map_or (λ h. keeps_test order (edges_of h s)) (slice_get p.choices c) false

abbrev KeptWhere : Sides → List ℕ → ℕ → Choice → Type 0
KeptWhere sides order c h = (s : Side) → sides c s ≡ true → Keeps order (edges_of h s)

abbrev pub IsAt : Polygraph → ℕ → Choice → Type 0
IsAt p c h = slice_get p.choices c ≡ Some h

pub numbered : (p : Polygraph) → EachNumbered (IsAt p) 0 p.choices
numbered p = numbered_get (slice_get p.choices) 0 p.choices (λ i. (let e : 0 + i ≡ i = omega arith in ap (slice_get p.choices) e))

side_test : (p : Polygraph) (order : List ℕ) (c : ℕ) (h : Choice) (s : Side) → IsAt p c h → kept_sides p order c s ≡ keeps_test order (edges_of h s)
side_test p order c h s e = ap (λ o. option_map_or (λ q. keeps_test order (edges_of q s)) o false) e

pub part_kept : (order : List ℕ) (b : Bool) (edges : List Edge) → (b ≡ true → Keeps order edges) → Keeps order (cond b edges [])
part_kept order true edges h = h refl
part_kept order false edges h = tt

kept_from_where : (sides : Sides) (order : List ℕ) (c : ℕ) (hs : List Choice) → EachNumbered (KeptWhere sides order) c hs → Keeps order (kept_from sides c hs)
kept_from_where sides order c [] k = tt
kept_from_where sides order c (h ∷ hs) k =
    let K : Edge → Type 0 = λ e. Before order e.0 e.1 in
    each_from_append K (cond (sides c One) h.one [] ++ cond (sides c Two) h.two []) (kept_from sides (c + 1) hs)
    (each_from_append K (cond (sides c One) h.one []) (cond (sides c Two) h.two [])
    (part_kept order (sides c One) h.one (k.0 One)) (part_kept order (sides c Two) h.two (k.0 Two)))
    (kept_from_where sides order (c + 1) hs k.1)

edges_kept : (p : Polygraph) (sides : Sides) (order : List ℕ) → Keeps order p.known → EachNumbered (KeptWhere sides order) 0 p.choices → Keeps order (edges_with p sides)
edges_kept p sides order known k =
    each_from_append (λ (e : Edge). Before order e.0 e.1) p.known (kept_from sides 0 p.choices) known (kept_from_where sides order 0 p.choices k)

not_both : (order : List ℕ) (edges side : List Edge) → Keeps order edges → IsRefuted edges side → Keeps order side → ⊥
not_both order edges side k r s =
    let ahead = each_contained (λ (e : Edge). Before order e.0 e.1) side (r.0, r.1.0) s r.1.1.0 in
    let back = reach_kept order edges r.1.0 r.0 k r.1.1.1 in
    omega (arith, ahead, back)

other_kept : (p : Polygraph) (order : List ℕ) (edges : List Edge) → Keeps order edges → (c : ℕ) (h : Choice) → IsAt p c h → KeepsOne order h → (s : Side) → IsRefuted edges (edges_of h s) → kept_sides p order c (other s) ≡ true
other_kept p order edges k c h at (inl one) One r = absurd (not_both order edges h.one k r one)
other_kept p order edges k c h at (inr two) One r = side_test p order c h Two at ∙ keeps_tested order h.two two
other_kept p order edges k c h at (inl one) Two r = side_test p order c h One at ∙ keeps_tested order h.one one
other_kept p order edges k c h at (inr two) Two r = absurd (not_both order edges h.two k r two)

kept_closed : (p : Polygraph) (order : List ℕ) → Fits p order → IsClosed p (kept_sides p order)
kept_closed p order f =
    let where_kept = numbered_and (IsAt p) (IsAt p) (KeptWhere (kept_sides p order) order) 0 p.choices
    (λ c h at _. λ s t. tested_keeps order (edges_of h s) (sym (side_test p order c h s at) ∙ t)) (numbered p) (numbered p) in
    let k = edges_kept p (kept_sides p order) order f.known where_kept in
    record {
      rule = numbered_and (IsAt p) (λ c h. KeepsOne order h) (λ c h. (s : Side) → IsRefuted (edges_with p (kept_sides p order)) (edges_of h s) → kept_sides p order c (other s) ≡ true) 0 p.choices
          (λ c h at one. other_kept p order (edges_with p (kept_sides p order)) k c h at one) (numbered p) (numbered_from (KeepsOne order) 0 p.choices f.choices);
    }

pub forced_kept : (p : Polygraph) (forced : Sides) → IsForced p forced → (order : List ℕ) → Fits p order → Keeps order (edges_with p forced)
forced_kept p forced f order fits =
    edges_kept p forced order fits.known
    (numbered_and (IsAt p) (λ c h. (s : Side) → forced c s ≡ true → kept_sides p order c s ≡ true) (KeptWhere forced order) 0 p.choices
    (λ c h at sub. λ s t. tested_keeps order (edges_of h s) (sym (side_test p order c h s at) ∙ sub s t))
    (numbered p) (f.least (kept_sides p order) (kept_closed p order fits)))

-- ---- both ways
some_open : (P : Choice → Type 0) (b : Bool) (h : Choice) (hs : List Choice) → P h → AllByRecursion P hs → AllByRecursion P (cond b hs (h ∷ hs))
some_open P true h hs a k = k
some_open P false h hs a k = (a, k)

pub each_open : (P : Choice → Type 0) (sides : Sides) (c : ℕ) (hs : List Choice) → AllByRecursion P hs → AllByRecursion P (open_from sides c hs)
each_open P sides c [] k = tt
each_open P sides c (h ∷ hs) k = some_open P (sides c One || sides c Two) h (open_from sides (c + 1) hs) k.0 (each_open P sides (c + 1) hs k.1)

pub fits_pruned : (p : Polygraph) (forced : Sides) → IsForced p forced → (order : List ℕ) → Fits p order → Fits (pruned p forced) order
fits_pruned p forced f order fits = record {
  once = fits.once;
  known = forced_kept p forced f order fits;
  choices = each_open (KeepsOne order) forced 0 p.choices fits.choices;
}

record OneOf (P : Choice → Type 0) (b : Bool) (h : Choice) (hs : List Choice) : Type 0 where
  pub this : (b ≡ false) → P h
  pub rest : AllByRecursion P hs

one_of : (P : Choice → Type 0) (b : Bool) (h : Choice) (hs : List Choice) → AllByRecursion P (cond b hs (h ∷ hs)) → OneOf P b h hs
one_of P true h hs k = record { this = λ e. absurd (false≢true (sym e)); rest = k }
one_of P false h hs k = record { this = λ e. k.0; rest = k.1 }

pub part_of : (order : List ℕ) (b : Bool) (edges : List Edge) → b ≡ true → Keeps order (cond b edges []) → Keeps order edges
part_of order true edges e k = k
part_of order false edges e k = absurd (false≢true e)

choices_kept : (sides : Sides) (order : List ℕ) (c : ℕ) (hs : List Choice) → Keeps order (kept_from sides c hs) → AllByRecursion (KeepsOne order) (open_from sides c hs) → AllByRecursion (KeepsOne order) hs
choices_kept sides order c [] k o = tt
choices_kept sides order c (h ∷ hs) k o =
    let K : Edge → Type 0 = λ e. Before order e.0 e.1 in
    let a = each_of_append K (cond (sides c One) h.one [] ++ cond (sides c Two) h.two []) (kept_from sides (c + 1) hs) k in
    let b = each_of_append K (cond (sides c One) h.one []) (cond (sides c Two) h.two []) a.0 in
    let d = one_of (KeepsOne order) (sides c One || sides c Two) h (open_from sides (c + 1) hs) o in (
      elim (cases_Bool (sides c One || sides c Two)) [
        | inl t ↦ elim (or_cases (sides c One) (sides c Two) t) [
          | inl e ↦ inl (part_of order (sides c One) h.one e b.0)
          | inr e ↦ inr (part_of order (sides c Two) h.two e b.1)
        ]
        | inr f ↦ d.this f
      ],
      choices_kept sides order (c + 1) hs a.1 d.rest,
    )

pub pruned_fits : (p : Polygraph) (forced : Sides) (order : List ℕ) → Fits (pruned p forced) order → Fits p order
pruned_fits p forced order f =
    let a = each_of_append (λ (e : Edge). Before order e.0 e.1) p.known (kept_from forced 0 p.choices) f.known in
    record { once = f.once; known = a.0; choices = choices_kept forced order 0 p.choices a.1 f.choices }

pub none_fits : (p : Polygraph) → IsDead p → (order : List ℕ) → Fits p order → ⊥
none_fits p dead order fits =
    let where_kept = numbered_and (IsAt p) (IsAt p) (KeptWhere (kept_sides p order) order) 0 p.choices
    (λ c h at _. λ s t. tested_keeps order (edges_of h s) (sym (side_test p order c h s at) ∙ t)) (numbered p) (numbered p) in
    no_cycle_kept order (edges_with p (kept_sides p order)) (edges_kept p (kept_sides p order) order fits.known where_kept)
    (dead (kept_sides p order) (kept_closed p order fits))

-- ---- a greater set keeps more edges
abbrev In : List Edge → Edge → Type 0
In edges e = Contains edges e

part_in : (edges side : List Edge) (a b : Bool) → (a ≡ true → b ≡ true) → AllByRecursion (In edges) (cond b side []) → AllByRecursion (In edges) (cond a side [])
part_in edges side true true h k = k
part_in edges side true false h k = absurd (false≢true (h refl))
part_in edges side false b h k = tt

kept_in : (edges : List Edge) (f g : Sides) (c : ℕ) (hs : List Choice) → EachNumbered (λ c h. (s : Side) → f c s ≡ true → g c s ≡ true) c hs → AllByRecursion (In edges) (kept_from g c hs) → AllByRecursion (In edges) (kept_from f c hs)
kept_in edges f g c [] sub k = tt
kept_in edges f g c (h ∷ hs) sub k =
    let I : Edge → Type 0 = In edges in
    let a = each_of_append I (cond (g c One) h.one [] ++ cond (g c Two) h.two []) (kept_from g (c + 1) hs) k in
    let b = each_of_append I (cond (g c One) h.one []) (cond (g c Two) h.two []) a.0 in
    each_from_append I (cond (f c One) h.one [] ++ cond (f c Two) h.two []) (kept_from f (c + 1) hs)
    (each_from_append I (cond (f c One) h.one []) (cond (f c Two) h.two [])
    (part_in edges h.one (f c One) (g c One) (sub.0 One) b.0) (part_in edges h.two (f c Two) (g c Two) (sub.0 Two) b.1))
    (kept_in edges f g (c + 1) hs sub.1 a.1)

pub edges_in : (p : Polygraph) (f g : Sides) → EachNumbered (λ c h. (s : Side) → f c s ≡ true → g c s ≡ true) 0 p.choices → AllByRecursion (In (edges_with p g)) (edges_with p f)
edges_in p f g sub =
    let I : Edge → Type 0 = In (edges_with p g) in
    let a = each_of_append I p.known (kept_from g 0 p.choices) (each_from_contained I (edges_with p g) (λ e c. c)) in
    each_from_append I p.known (kept_from f 0 p.choices) a.0 (kept_in (edges_with p g) f g 0 p.choices sub a.1)

pub dead_from : (p : Polygraph) (forced : Sides) → IsForced p forced → IsCyclic (edges_with p forced) → IsDead p
dead_from p forced f cycle g closed =
    (cycle.0, reach_in (edges_with p forced) (edges_with p g) (edges_in p forced g (f.least g closed)) cycle.0 cycle.0 cycle.1)

pub dead_cycle : (p : Polygraph) (forced : Sides) → IsForced p forced → IsDead p → IsCyclic (edges_with p forced)
dead_cycle p forced f dead = dead forced f.closed

-- ---- a forced side stands against a refuted one
abbrev against : (ℕ → ℕ → Bool) → List Edge → Bool
against known side = list_any (λ e. known e.1 e.0) side

against_at : (known : ℕ → ℕ → Bool) (side : List Edge) (k u v : ℕ) → k < length side → get_or side k (u, v) ≡ (u, v) → known v u ≡ true → against known side ≡ true
against_at known [] k u v h e t = absurd (omega arith)
against_at known (d ∷ side) zero u v h e t = or_left (known d.1 d.0) (against known side) (subst (λ (q : Edge). known q.1 q.0 ≡ true) (sym e) t)
against_at known (d ∷ side) (suc k) u v h e t = or_right (known d.1 d.0) (against known side) (against_at known side k u v (omega arith) e t)

against_from : (known : ℕ → ℕ → Bool) (side : List Edge) (u v : ℕ) → Contains side (u, v) → known v u ≡ true → against known side ≡ true
against_from known side u v c t = against_at known side c.0 u v c.1 c.2 t

against_is : (known : ℕ → ℕ → Bool) (side all : List Edge) → AllByRecursion (Contains all) side → against known side ≡ true → (u : ℕ) × ((v : ℕ) × (Contains all (u, v) × (known v u ≡ true)))
against_is known [] all a t = absurd (false≢true t)
against_is known (e ∷ side) all a t = elim (or_cases (known e.1 e.0) (against known side) t) [
  | inl h ↦ (e.0, (e.1, (a.0, h)))
  | inr h ↦ against_is known side all a.1 h
]

abbrev backed : Polygraph → Sides → (ℕ → ℕ → Bool) → Sides
backed p forced known = λ c s. forced c s && option_map_or (λ h. against known (edges_of h (other s))) (slice_get p.choices c) false

backed_test : (p : Polygraph) (known : ℕ → ℕ → Bool) (c : ℕ) (h : Choice) (s : Side) → IsAt p c h → option_map_or (λ h. against known (edges_of h (other s))) (slice_get p.choices c) false ≡ against known (edges_of h (other s))
backed_test p known c h s e = ap (λ o. option_map_or (λ h. against known (edges_of h (other s))) o false) e

pub other_other : (s : Side) → other (other s) ≡ s
other_other One = refl
other_other Two = refl

pub forced_refuted : (p : Polygraph) (forced : Sides) → IsForced p forced → (known : ℕ → ℕ → Bool) → ((u v : ℕ) → (known u v ≡ true ↔ Reaches (edges_with p forced) u v)) →
    EachNumbered (λ c h. (s : Side) → forced c s ≡ true → IsRefuted (edges_with p forced) (edges_of h (other s))) 0 p.choices
forced_refuted p forced f known is =
    let G = backed p forced known in
    let fewer = numbered_and (IsAt p) (IsAt p) (λ c h. (s : Side) → G c s ≡ true → forced c s ≡ true) 0 p.choices
    (λ c h at _. λ s t. (and_parts (forced c s) _ t).0) (numbered p) (numbered p) in
    let sub = edges_in p G forced fewer in
    let closed : IsClosed p G = record {
      rule = numbered_and (IsAt p) (λ c h. (s : Side) → IsRefuted (edges_with p forced) (edges_of h s) → forced c (other s) ≡ true)
          (λ c h. (s : Side) → IsRefuted (edges_with p G) (edges_of h s) → G c (other s) ≡ true) 0 p.choices
          (λ c h at rule. λ s r.
          (let reach = reach_in (edges_with p G) (edges_with p forced) sub r.1.0 r.0 r.1.1.1 in
          let side = subst (λ q. Contains (edges_of h q) (r.0, r.1.0)) (sym (other_other s)) r.1.1.0 in
          and_from (forced c (other s)) _ (rule s (r.0, (r.1.0, (r.1.1.0, reach))))
          (backed_test p known c h (other s) at ∙ against_from known (edges_of h (other (other s))) r.0 r.1.0 side ((is r.1.0 r.0).1 reach))))
          (numbered p) f.closed.rule;
    } in
    numbered_and (IsAt p) (λ c h. (s : Side) → forced c s ≡ true → G c s ≡ true) (λ c h. (s : Side) → forced c s ≡ true → IsRefuted (edges_with p forced) (edges_of h (other s))) 0 p.choices
    (λ c h at more. λ s t.
    (let g = and_parts (forced c s) _ (more s t) in
    let side = edges_of h (other s) in
    let a = against_is known side side (each_from_contained (Contains side) side (λ e k. k)) (sym (backed_test p known c h s at) ∙ g.1) in
    (a.0, (a.1.0, (a.1.1.0, (is a.1.0 a.0).0 a.1.1.1)))))
    (numbered p) (f.least G closed)

pub forced_both_ways : (p : Polygraph) (forced : Sides) → IsForced p forced → (known : ℕ → ℕ → Bool) → ((u v : ℕ) → (known u v ≡ true ↔ Reaches (edges_with p forced) u v)) →
    EachNumbered (λ c h. (s : Side) → (forced c (other s) ≡ true ↔ IsRefuted (edges_with p forced) (edges_of h s))) 0 p.choices
forced_both_ways p forced f known is =
    numbered_and (λ c h. (s : Side) → forced c s ≡ true → IsRefuted (edges_with p forced) (edges_of h (other s))) (λ c h. (s : Side) → IsRefuted (edges_with p forced) (edges_of h s) → forced c (other s) ≡ true)
    (λ c h. (s : Side) → (forced c (other s) ≡ true ↔ IsRefuted (edges_with p forced) (edges_of h s))) 0 p.choices
    (λ c h back rule. λ s. ((λ t. subst (λ q. IsRefuted (edges_with p forced) (edges_of h q)) (other_other s) (back (other s) t)), rule s))
    (forced_refuted p forced f known is) f.closed.rule
