-- Cubes that are kept, and views by steps.
use Rattle.branch_search.proofs.Prelude.{◌≡◌, ℕ, zero, suc, ◌<◌, ◌≤◌, ◌==◌, Bool, List, [], ◌∷◌, ◌++◌, length, Option, Some, None, refl, sym, ap, ◌∙◌, subst, arith, slice_get, slice_index_or, if◌then◌else◌, find, position_or_len}
use Rattle.branch_search.proofs.Prelude.{option_map, ne_eqb, Polygraph, View, opened, decided, place_in, kept_view, view_after, AreViews, AreLed}
use Rattle.std.proofs.lemmas.Grind.{common_steps}
use Rattle.std.proofs.lemmas.List.Folds.{find_at}
use Rattle.branch_search.specs.declared.retrace.KeptCube.{KeptCube}
use Rattle.branch_search.specs.declared.retrace.Step.{Step}

abbrev is_of : ℕ → KeptCube → Bool
is_of node k = k.node == node

-- ---- what is kept
at_index : {A : Type 0} (xs : List A) (i : ℕ) (d : A) → i < length xs → slice_get xs i ≡ Some (slice_index_or xs i d)
at_index [] i d lt = absurd (omega (arith, lt))
at_index (x ∷ xs) zero d lt = refl
at_index (x ∷ xs) (suc i) d lt = at_index xs i d (omega (arith, lt))

past : {A : Type 0} (xs : List A) (k : ℕ) → length xs ≤ k → slice_get xs k ≡ None
past [] k le = refl
past (x ∷ xs) zero le = absurd (omega (arith, le))
past (x ∷ xs) (suc k) le = past xs k (omega (arith, le))

find_first : (kept : List KeptCube) (node i : ℕ) (k : KeptCube) → place_in kept node ≡ Some i → i < length kept → k ≡ slice_index_or kept i k → find (is_of node) kept ≡ Some k
find_first kept node i k e lt at =
    let here : position_or_len (is_of node) kept ≡ i = grind (arith, common_steps) in
    find_at (is_of node) kept ∙ ap (λ n. slice_get kept n) here ∙ at_index kept i k lt ∙ ap (λ x. Some x) (sym at)

find_none : (kept : List KeptCube) (node : ℕ) → place_in kept node ≡ None → find (is_of node) kept ≡ None
find_none kept node e =
    let beyond : length kept ≤ position_or_len (is_of node) kept = grind (arith, common_steps) in
    find_at (is_of node) kept ∙ past kept (position_or_len (is_of node) kept) beyond

by_find : (kept : List KeptCube) (p : Polygraph) (node : ℕ) (found : Option KeptCube) → (node ≡ 0 → ⊥) → find (is_of node) kept ≡ found → kept_view kept p node ≡ option_map (λ k. k.view) found
by_find kept p node found other e =
    ap (λ t. if t then Some (opened p) else option_map (λ k. k.view) (find (is_of node) kept)) (ne_eqb node 0 other) ∙ ap (λ f. option_map (λ k. k.view) f) e

pub view_kept : (kept : List KeptCube) (p : Polygraph) (node i : ℕ) (k : KeptCube) → (node ≡ 0 → ⊥) → place_in kept node ≡ Some i → i < length kept → k ≡ slice_index_or kept i k → kept_view kept p node ≡ Some k.view
view_kept kept p node i k other e lt at = by_find kept p node (Some k) other (find_first kept node i k e lt at)

pub view_unkept : (kept : List KeptCube) (p : Polygraph) (node : ℕ) → (node ≡ 0 → ⊥) → place_in kept node ≡ None → kept_view kept p node ≡ None
view_unkept kept p node other e = by_find kept p node None other (find_none kept node e)

-- ---- steps
view_after_more : (steps : List Step) (s : Step) (v : View) → view_after (steps ++ s ∷ []) v ≡ view_after steps (decided v s.choice s.side)
view_after_more [] s v = refl
view_after_more (x ∷ steps) s v = ap (λ (w : View). decided w x.choice x.side) (view_after_more steps s v)

-- the last of the steps is taken
pub step_taken : (old new : List Step) (s : Step) (v w : View) → old ≡ new ++ s ∷ [] → w ≡ decided v s.choice s.side → view_after new w ≡ view_after old v
step_taken old new s v w e d = ap (λ (u : View). view_after new u) d ∙ sym (view_after_more new s v) ∙ ap (λ (l : List Step). view_after l v) (sym e)

led_before : (view_of : ℕ → View) (new : List Step) (s : Step) (v : View) → AreLed view_of v (new ++ s ∷ []) → (decided v s.choice s.side ≡ view_of s.node) × AreLed view_of (decided v s.choice s.side) new
led_before view_of [] s v led = (led.0, tt)
led_before view_of (x ∷ new) s v led = let rest = led_before view_of new s v led.1 in (rest.0, (sym (view_after_more (x ∷ new) s v) ∙ led.0, rest.1))

-- then the view is that of the step's node, and the other steps lead on from it
pub led_on : (view_of : ℕ → View) (old new : List Step) (s : Step) (v w : View) → old ≡ new ++ s ∷ [] → w ≡ decided v s.choice s.side → AreLed view_of v old → (w ≡ view_of s.node) × AreLed view_of w new
led_on view_of old new s v w e d led = subst (λ (u : View). (u ≡ view_of s.node) × AreLed view_of u new) (sym d) (led_before view_of new s v (subst (λ (l : List Step). AreLed view_of v l) e led))

-- what was kept are views, and what is left leads on
pub record AreKept (fn_kept kept : List KeptCube) (fn_ahead ahead : List Step) (fn_view v : View) : Type 0 where
  pub each : (view_of : ℕ → View) → AreViews view_of fn_kept → AreLed view_of fn_view fn_ahead → AreViews view_of kept × AreLed view_of v ahead

module _ (fn_kept kept : List KeptCube) (fn_ahead old new : List Step) (s : Step) (fn_view v w : View) (k : AreKept fn_kept kept fn_ahead old fn_view v) (e : old ≡ new ++ s ∷ []) (d : w ≡ decided v s.choice s.side) where
  pub kept_on : AreKept fn_kept kept fn_ahead new fn_view w
  kept_on = record {
    each = λ view_of views led. (let now = k.each view_of views led in (now.0, (led_on view_of old new s v w e d now.1).1));
  }

  pub kept_more : (more : List KeptCube) (ahead : List Step) → ahead ≡ new → ((view_of : ℕ → View) → AreViews view_of kept → w ≡ view_of s.node → AreViews view_of more) → AreKept fn_kept more fn_ahead ahead fn_view w
  kept_more more ahead same keeps = record {
    each = λ view_of views led. (
        let now = k.each view_of views led in
        let on = led_on view_of old new s v w e d now.1 in
        (keeps view_of now.0 on.0, subst (λ (l : List Step). AreLed view_of w l) (sym same) on.1)
        );
  }
