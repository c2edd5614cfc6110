-- Two forced sets of a polygraph hold the same sides, and two formulas of it are the same.
use Rattle.order_laws.proofs.Prelude.{◌≡◌, ℕ, ◌+◌, true, cond, ◌||◌, List, [], ◌∷◌, ◌++◌, refl, ap, ◌∙◌, subst, Edge, Choice, Polygraph, Known, Side, One, Two, Sides, EachNumbered, kept_from, edges_with, IsForced, open_from, pruned}
use Rattle.order_laws.proofs.Prelude.{numbered_and, reduced, IsReach}
use Rattle.std.proofs.Math.Path.{fun_ext}
use Rattle.list_lemmas.proofs.Bools.{same_bool}

-- ---- one forced set
abbrev pub Agree : Sides → Sides → ℕ → Choice → Type 0
Agree forced same c h = (side : Side) → forced c side ≡ same c side

pub one_forced : (p : Polygraph) (forced same : Sides) → IsForced p forced → IsForced p same → EachNumbered (λ c h. (side : Side) → forced c side ≡ same c side) 0 p.choices
one_forced p forced same f g =
    numbered_and (λ c h. (s : Side) → forced c s ≡ true → same c s ≡ true) (λ c h. (s : Side) → same c s ≡ true → forced c s ≡ true) (Agree forced same) 0 p.choices
    (λ c h there back. λ s. same_bool (forced c s) (same c s) (there s) (back s))
    (f.least same g.closed) (g.least forced f.closed)

same_kept : (forced same : Sides) (c : ℕ) (hs : List Choice) → EachNumbered (Agree forced same) c hs → kept_from forced c hs ≡ kept_from same c hs
same_kept forced same c [] k = refl
same_kept forced same c (h ∷ hs) k =
    rw (k.0 One, k.0 Two) (ap (λ rest. cond (same c One) h.one [] ++ cond (same c Two) h.two [] ++ rest) (same_kept forced same (c + 1) hs k.1))

same_open : (forced same : Sides) (c : ℕ) (hs : List Choice) → EachNumbered (Agree forced same) c hs → open_from forced c hs ≡ open_from same c hs
same_open forced same c [] k = refl
same_open forced same c (h ∷ hs) k =
    rw (k.0 One, k.0 Two) (ap (λ rest. cond (same c One || same c Two) rest (h ∷ rest)) (same_open forced same (c + 1) hs k.1))

-- ---- one formula
-- the same edges, known and kept, and the same open choices
pub same_edges : (p : Polygraph) (forced same : Sides) → IsForced p forced → IsForced p same → edges_with p forced ≡ edges_with p same
same_edges p forced same f g = ap (λ kept. p.known ++ kept) (same_kept forced same 0 p.choices (one_forced p forced same f g))

pub same_pruned : (p : Polygraph) (forced same : Sides) → IsForced p forced → IsForced p same → pruned p forced ≡ pruned p same
same_pruned p forced same f g =
    let with_edges : List Edge → Polygraph = λ edges. record { nodes = p.nodes; known = edges; choices = open_from forced 0 p.choices } in
    let with_choices : List Choice → Polygraph = λ hs. record { nodes = p.nodes; known = edges_with p same; choices = hs } in
    ap with_edges (same_edges p forced same f g) ∙ ap with_choices (same_open forced same 0 p.choices (one_forced p forced same f g))

-- what reaches what is one function
pub same_known : (edges more : List Edge) → edges ≡ more → (known knows : Known) → IsReach edges known → IsReach more knows → known ≡ knows
same_known edges more e known knows is are =
    fun_ext (λ u. fun_ext (λ v.
    let there : IsReach more known = subst (λ es. IsReach es known) e is in
    same_bool (known u v) (knows u v) (λ t. (are.each u v).1 ((there.each u v).0 t)) (λ t. (there.each u v).1 ((are.each u v).0 t))))

pub same_formula : (p : Polygraph) (forced same : Sides) (known knows : Known) → IsForced p forced → IsForced p same → IsReach (edges_with p forced) known → IsReach (edges_with p same) knows → reduced known (pruned p forced) ≡ reduced knows (pruned p same)
same_formula p forced same known knows f g is are =
    ap (λ k. reduced k (pruned p forced)) (same_known (edges_with p forced) (edges_with p same) (same_edges p forced same f g) known knows is are)
    ∙ ap (λ q. reduced knows q) (same_pruned p forced same f g)
