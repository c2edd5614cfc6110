-- Cycles in the edges of a cube, by what is listed and flagged.
use Rattle.cube_machine.proofs.Prelude.{◌≡◌, ℕ, ◌+◌, ◌<◌, ◌≤◌, Bool, ◌&&◌, ◌||◌, List, [], ◌∷◌, length, drop, refl, sym, ap, ◌∙◌, arith, Vec, Global, slice_index, nat_lt, eq-eqb, Edge, Choice, Polygraph, Side, One, Two, Sides, kept_from}
use Rattle.cube_machine.proofs.Prelude.{sides_in, has_edge, leads, edge_append, Cube, edges_under, is_cycle, HasSides, SideEdge, kept_edge, flag_at, is_among, leads_by, is_cycle_by, SideFlags}

kept_same : (f g : Sides) (k : ℕ) (hs : List Choice) (e : Edge) → ((c : ℕ) (s : Side) → k ≤ c → c < k + length hs → f c s ≡ g c s) → has_edge (kept_from f k hs) e ≡ has_edge (kept_from g k hs) e
kept_same f g k [] e h = refl
kept_same f g k (x ∷ hs) e h =
    kept_edge f k x hs e
    ∙ (λ i. ((h k One (omega arith) (omega arith) i && has_edge x.one e) || (h k Two (omega arith) (omega arith) i && has_edge x.two e)) || kept_same f g (k + 1) hs e (λ c s lo hi. h c s (omega (arith, lo)) (omega (arith, hi))) i)
    ∙ sym (kept_edge g k x hs e)

among_under : (p : Polygraph) (cube : Cube) (known : List Edge) (lists : List (Vec SideEdge Global)) (flags : List SideFlags) → known ≡ p.known → HasSides p.choices lists
    → ((c : ℕ) (side : Side) → c < length p.choices → flag_at flags c side ≡ sides_in cube c side) → (e : Edge) → is_among known lists flags e ≡ has_edge (edges_under p cube) e
among_under p cube known lists flags same has each e =
    (λ i. has_edge (same i) e || has.each (flag_at flags) e i)
    ∙ ap (λ b. has_edge p.known e || b) (kept_same (flag_at flags) (sides_in cube) 0 p.choices e (λ c s lo hi. each c s (omega (arith, hi))))
    ∙ sym (edge_append p.known (kept_from (sides_in cube) 0 p.choices) e)

leads_same : (t : Edge → Bool) (edges : List Edge) → ((e : Edge) → t e ≡ has_edge edges e) → (u : ℕ) (line : List ℕ) (v : ℕ) → leads_by t u line v ≡ leads edges u line v
leads_same t edges h u [] v = refl
leads_same t edges h u (w ∷ ws) v = λ i. h (u, w) i && leads_same t edges h w ws v i

pub cycle_under : (p : Polygraph) (cube : Cube) (known : List Edge) (lists : List (Vec SideEdge Global)) (flags : List SideFlags) (line : List ℕ) → known ≡ p.known → HasSides p.choices lists
    → ((c : ℕ) (side : Side) → c < length p.choices → flag_at flags c side ≡ sides_in cube c side) → is_cycle_by (is_among known lists flags) line ≡ is_cycle (edges_under p cube) line
cycle_under p cube known lists flags line same has each =
    let u = slice_index line 0 in
    ap (λ b. nat_lt 1 (length line) && b)
    (leads_same (is_among known lists flags) (edges_under p cube) (among_under p cube known lists flags same has each) u (drop 1 line) u
    ∙ ap (λ b. b && leads (edges_under p cube) u (drop 1 line) u) (sym (eq-eqb u u refl)))
