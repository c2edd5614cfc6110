-- The edges of all sides by their targets.
use Rattle.std.proofs.Common.{◌≡◌, ℕ, ◌+◌, ◌<◌, Bool, true, false, cond, eqb, ◌&&◌, ◌||◌, List, [], ◌∷◌, ◌++◌, length, get_or, take, Option, Some, refl, sym, ap, ◌∙◌, inl, inr, arith, Vec, Global}
use Rattle.std.specs.Prelude.{slice_get, slice_set}
use Rattle.std.specs.Option.{option_map_or}
use Rattle.std.specs.List.{list_any}
use Rattle.std.proofs.lemmas.Bool.{cases_eq, ne_eqb, eq-eqb}
use Rattle.std.proofs.lemmas.Option.{slice_get_within, get_or_from_slice_get}
use Rattle.std.proofs.lemmas.List.{take_more, length-take-le}
use Rattle.std.proofs.lemmas.List.Folds.{list_any-append}
use Rattle.std.proofs.Math.Bool.{or-false, or_assoc}
use Rattle.serializability.specs.Polygraph.{Edge, Choice}
use Rattle.pruning_laws.specs.declared.side.Side.TheVariants.{One, Two}
use Rattle.pruning_laws.specs.Forced.{Sides, kept_from}
use Rattle.known_graph.specs.Tests.{has_edge}
use Rattle.known_graph.proofs.Rows.{edge_append}
use Rattle.side_edges.specs.Listed.{list_of, is_listed, AddsEntry, AddsSide, HasSides}
use Rattle.side_edges.specs.declared.SideEdge.{SideEdge}
use Rattle.side_edges.proofs.Lists.{slice_get-set_same, slice_get-set_other}

-- ---- lists by number
pub entry_pushed : (lists : List (Vec SideEdge Global)) (t : ℕ) (old new : Vec SideEdge Global) (x : SideEdge) → slice_get lists t ≡ Some old → new.items ≡ old.items ++ x ∷ [] → AddsEntry t x lists (slice_set lists t new)
entry_pushed lists t old new x at pushed = record {
  each = λ sides e. elim (cases_eq t e.1) [
    | inl same ↦
        (let f : SideEdge → Bool = λ y. eqb y.source e.0 && sides y.choice y.side in
        let now : list_of (slice_set lists t new) e.1 ≡ new.items = ap (list_of (slice_set lists t new)) (sym same) ∙ ap (λ (o : Option (Vec SideEdge Global)). option_map_or (λ (l : Vec SideEdge Global). l.items) o []) (slice_get-set_same lists t new (slice_get_within lists t old at)) in
        let before : list_of lists e.1 ≡ old.items = ap (list_of lists) (sym same) ∙ ap (λ (o : Option (Vec SideEdge Global)). option_map_or (λ (l : Vec SideEdge Global). l.items) o []) at in
        ap (list_any f) (now ∙ pushed) ∙ list_any-append f old.items (x ∷ [])
        ∙ (λ i. list_any f (let b = sym before in b i) || (let z = or-false (f x) in z i))
        ∙ ap (λ b. is_listed sides lists e || (b && f x)) (sym (eq-eqb t e.1 same)))
    | inr ne ↦
        (let f : SideEdge → Bool = λ y. eqb y.source e.0 && sides y.choice y.side in
        ap (λ (o : Option (Vec SideEdge Global)). list_any f (option_map_or (λ (l : Vec SideEdge Global). l.items) o [])) (slice_get-set_other lists t e.1 new (λ s. ne (sym s)))
        ∙ sym (or-false (is_listed sides lists e)) ∙ ap (λ b. is_listed sides lists e || (b && f x)) (sym (ne_eqb t e.1 ne)))
  ];
}

-- ---- all choices
part_edge : (b : Bool) (xs : List Edge) (e : Edge) → has_edge (cond b xs []) e ≡ (b && has_edge xs e)
part_edge true xs e = refl
part_edge false xs e = refl

pub kept_edge : (sides : Sides) (k : ℕ) (h : Choice) (hs : List Choice) (e : Edge) → has_edge (kept_from sides k (h ∷ hs)) e ≡ (((sides k One && has_edge h.one e) || (sides k Two && has_edge h.two e)) || has_edge (kept_from sides (k + 1) hs) e)
kept_edge sides k h hs e =
    edge_append (cond (sides k One) h.one [] ++ cond (sides k Two) h.two []) (kept_from sides (k + 1) hs) e
    ∙ ap (λ b. b || has_edge (kept_from sides (k + 1) hs) e)
    (edge_append (cond (sides k One) h.one []) (cond (sides k Two) h.two []) e
    ∙ (λ i. part_edge (sides k One) h.one e i || part_edge (sides k Two) h.two e i))

kept_last : (sides : Sides) (k n : ℕ) (hs : List Choice) (h : Choice) (e : Edge) → n ≡ k + length hs → has_edge (kept_from sides k (hs ++ h ∷ [])) e ≡ (has_edge (kept_from sides k hs) e || ((sides n One && has_edge h.one e) || (sides n Two && has_edge h.two e)))
kept_last sides k n [] h e z =
    let same : k ≡ n = omega (arith, z) in
    kept_edge sides k h [] e ∙ or-false ((sides k One && has_edge h.one e) || (sides k Two && has_edge h.two e))
    ∙ ap (λ m. (sides m One && has_edge h.one e) || (sides m Two && has_edge h.two e)) same
kept_last sides k n (g ∷ hs) h e z =
    let here = (sides k One && has_edge g.one e) || (sides k Two && has_edge g.two e) in
    let last = (sides n One && has_edge h.one e) || (sides n Two && has_edge h.two e) in
    kept_edge sides k g (hs ++ h ∷ []) e
    ∙ ap (λ b. here || b) (kept_last sides (k + 1) n hs h e (omega (arith, z)))
    ∙ sym (or_assoc here (has_edge (kept_from sides (k + 1) hs) e) last)
    ∙ ap (λ b. b || last) (sym (kept_edge sides k g hs e))

pub sides_more : (choices : List Choice) (k : ℕ) (h g : Choice) (old now next : List (Vec SideEdge Global)) → k < length choices → slice_get choices k ≡ Some h → slice_get choices k ≡ Some g
    → HasSides (take k choices) old → AddsSide k One h.one old now → AddsSide k Two g.two now next → HasSides (take (k + 1) choices) next
sides_more choices k h g old now next lt at also a one two = record {
  each = λ sides e.
      (let l = length-take-le k choices (omega (arith, lt)) in
      let n : k ≡ 0 + length (take k choices) = omega (arith, l) in
      let same : g ≡ h = cc in
      let read : get_or choices k h ≡ h = get_or_from_slice_get choices k h h at in
      two.each sides e
      ∙ ap (λ b. b || (sides k Two && has_edge g.two e)) (one.each sides e)
      ∙ (λ i. (a.each sides e i || (sides k One && has_edge h.one e)) || (sides k Two && has_edge (same i).two e))
      ∙ or_assoc (has_edge (kept_from sides 0 (take k choices)) e) (sides k One && has_edge h.one e) (sides k Two && has_edge h.two e)
      ∙ sym (kept_last sides 0 k (take k choices) h e n)
      ∙ ap (λ (l : List Choice). has_edge (kept_from sides 0 l) e) (ap (λ (x : Choice). take k choices ++ x ∷ []) (sym read) ∙ sym (take_more choices k h lt)));
}
