-- Which edges lead from a chain to those behind it.
use Rattle.tell_steps.proofs.Prelude.{◌≡◌, ℕ, ◌<◌, true, false, Some, List, [], ◌∷◌, length, get_or, sym, ap, ◌∙◌, eqb-true, eq-eqb, arith, ◌==◌, Contains, list_any, false≢true, list_any_at, slice_get-get_or, contains_at, mapped, Edge}
use Rattle.tell_steps.proofs.Prelude.{edges_to}
use Rattle.std.proofs.lemmas.Map.Views.{Contains-from_any}
use Rattle.tell_steps.proofs.Ledgers.{get_map}

pub any_edge : (t b n : ℕ) (rs : List ℕ) → list_any (λ y. y == n) rs ≡ true → Contains (edges_to t b rs) (n, b)
any_edge t b n [] e = absurd (false≢true e)
any_edge t b n (r ∷ rs) e = mapped (λ q. (q, b)) (r ∷ rs) n (Contains-from_any {eq = λ x y. y == x} (λ x y is. sym (eqb-true y x is)) n (r ∷ rs) e)

-- from no other nodes
pub no_edge : (t b n : ℕ) (rs : List ℕ) → 0 < length rs → list_any (λ y. y == n) rs ≡ false → Contains (edges_to t b rs) (n, b) → ⊥
no_edge t b n [] some e c = omega (arith, some)
no_edge t b n (r ∷ rs) some e c =
    let edge : Edge = (n, b) in
    let g = get_map (λ q. (q, b)) (r ∷ rs) c.0 edge (slice_get-get_or (edges_to t b (r ∷ rs)) c.0 edge c.1 ∙ ap Some c.2) in
    let at = contains_at (r ∷ rs) c.0 g.0 g.1.0 in
    false≢true (sym e ∙ list_any_at (λ y. y == n) (r ∷ rs) at.0 g.0 at.1 (eq-eqb (get_or (r ∷ rs) at.0 g.0) n (at.2 ∙ ap (λ (d : Edge). d.0) g.1.1)))
