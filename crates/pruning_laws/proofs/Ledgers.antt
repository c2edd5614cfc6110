-- What a ledger keeps is forced.
use Rattle.std.proofs.Common.{◌≡◌, true, eqb, ◌&&◌, List, [], ◌∷◌, Option, Some, refl, sym, ◌∙◌, subst, inl, inr, eqb-true}
use Rattle.std.specs.Prelude.{slice_get}
use Rattle.std.proofs.lemmas.Bool.{false≢true, and_parts, or_cases}
use Rattle.serializability.specs.Polygraph.{Choice, Polygraph}
use Rattle.pruning_laws.specs.declared.side.Side.{Side}
use Rattle.pruning_laws.specs.declared.side.Side.TheVariants.{One, Two}
use Rattle.reach_laws.specs.Reach.{IsCyclic}
use Rattle.pruning_laws.specs.Forced.{edges_of, other, Sides, EachNumbered, edges_with, IsRefuted, IsClosed, IsForced, IsDead}
use Rattle.pruning_laws.specs.Ledger.{same_side, Entry, sides_in, IsLedger}
use Rattle.reach_laws.proofs.Walks.{reach_in}
use Rattle.pruning_laws.proofs.Pruned.{IsAt, numbered, numbered_and, edges_in, other_other}

pub same_is : (a b : Side) → same_side a b ≡ true → a ≡ b
same_is One One t = refl
same_is One Two t = absurd (false≢true t)
same_is Two One t = absurd (false≢true t)
same_is Two Two t = refl

pub same_itself : (a : Side) → same_side a a ≡ true
same_itself One = refl
same_itself Two = refl

one_choice : (o : Option Choice) (g h : Choice) → o ≡ Some g → o ≡ Some h → g ≡ h
one_choice o g h a b = let e : Some g ≡ Some h = sym a ∙ b in cc

-- each entry is in each closed set
pub entries_in : (p : Polygraph) (sides : Sides) → IsClosed p sides → (entries : List Entry) → IsLedger p entries → EachNumbered (λ c h. (s : Side) → sides_in entries c s ≡ true → sides c s ≡ true) 0 p.choices
entries_in p sides closed [] l =
    numbered_and (IsAt p) (IsAt p) (λ c h. (s : Side) → sides_in [] c s ≡ true → sides c s ≡ true) 0 p.choices (λ c h at _. λ s t. absurd (false≢true t)) (numbered p) (numbered p)
entries_in p sides closed (e ∷ entries) l =
    let sub = entries_in p sides closed entries l.1 in
    let more = edges_in p (sides_in entries) sides sub in
    let here = numbered_and (IsAt p) (λ c h. (s : Side) → IsRefuted (edges_with p sides) (edges_of h s) → sides c (other s) ≡ true)
    (λ c h. (s : Side) → ((eqb e.0 c && same_side e.1 s) ≡ true) → sides c s ≡ true) 0 p.choices
    (λ c h at rule. λ s t.
    (let b = and_parts (eqb e.0 c) (same_side e.1 s) t in
    let c' : e.0 ≡ c = eqb-true e.0 c b.0 in
    let s' : e.1 ≡ s = same_is e.1 s b.1 in
    let h' : l.0.0 ≡ h = one_choice (slice_get p.choices c) l.0.0 h (subst (λ q. slice_get p.choices q ≡ Some l.0.0) c' l.0.1.0) at in
    let r = l.0.1.1 in
    let side = subst (λ q. IsRefuted (edges_with p sides) (edges_of h (other q))) s'
    (subst (λ q. IsRefuted (edges_with p sides) (edges_of q (other e.1))) h'
    (r.0, (r.1.0, (r.1.1.0, reach_in (edges_with p (sides_in entries)) (edges_with p sides) more r.1.0 r.0 r.1.1.1)))) in
    subst (λ q. sides c q ≡ true) (other_other s) (rule (other s) side)))
    (numbered p) closed.rule in
    numbered_and (λ c h. (s : Side) → ((eqb e.0 c && same_side e.1 s) ≡ true) → sides c s ≡ true) (λ c h. (s : Side) → sides_in entries c s ≡ true → sides c s ≡ true)
    (λ c h. (s : Side) → sides_in (e ∷ entries) c s ≡ true → sides c s ≡ true) 0 p.choices
    (λ c h first rest. λ s t. elim (or_cases (eqb e.0 c && same_side e.1 s) (sides_in entries c s) t) [ inl a ↦ first s a | inr a ↦ rest s a ])
    here sub

pub ledger_forced : (p : Polygraph) (entries : List Entry) → IsLedger p entries → IsClosed p (sides_in entries) → IsForced p (sides_in entries)
ledger_forced p entries l closed = record { closed = closed; least = λ sides g. entries_in p sides g entries l }

pub ledger_dead : (p : Polygraph) (entries : List Entry) → IsLedger p entries → IsCyclic (edges_with p (sides_in entries)) → IsDead p
ledger_dead p entries l cycle sides g =
    (cycle.0, reach_in (edges_with p (sides_in entries)) (edges_with p sides) (edges_in p (sides_in entries) sides (entries_in p sides g entries l)) cycle.0 cycle.0 cycle.1)
