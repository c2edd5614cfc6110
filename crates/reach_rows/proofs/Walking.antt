-- Walks where there is one edge more.
use Rattle.reach_rows.proofs.Prelude.{◌≡◌, ◌⊎◌, ◌↔◌, ℕ, List, [], ◌∷◌, refl, sym, ap, subst, inl, inr, arith, Contains, Edge, Walk, Reaches, reach_joined}

-- x reached w before, or it was or reached u, and w is v or was reached by v
abbrev pub IsGrownReach : List Edge → ℕ → ℕ → ℕ → ℕ → Type 0
IsGrownReach old u v x w = Reaches old x w ⊎ (((x ≡ u) ⊎ Reaches old x u) × ((w ≡ v) ⊎ Reaches old v w))

abbrev pub AreMore : List Edge → List Edge → ℕ → ℕ → Type 0
AreMore old new u v = (e : Edge) → (Contains new e ↔ (Contains old e ⊎ (e ≡ (u, v))))

first_step : (old : List Edge) (u v x y w : ℕ) → Contains old (x, y) ⊎ (let e : Edge = (x, y) in e ≡ (u, v)) → IsGrownReach old u v y w → IsGrownReach old u v x w
first_step old u v x y w (inl c) (inl r) = inl (reach_joined old x y w ([], c) r)
first_step old u v x y w (inl c) (inr (inl e, to)) = inr (inr ([], subst (λ z. Contains old (x, z)) e c), to)
first_step old u v x y w (inl c) (inr (inr r, to)) = inr (inr (reach_joined old x y u ([], c) r), to)
first_step old u v x y w (inr e) (inl r) = inr (inl (ap (λ (p : Edge). p.0) e), inr (subst (λ z. Reaches old z w) (ap (λ (p : Edge). p.1) e) r))
first_step old u v x y w (inr e) (inr (from, to)) = inr (inl (ap (λ (p : Edge). p.0) e), to)

last_step : (old : List Edge) (u v x w : ℕ) → Contains old (x, w) ⊎ (let e : Edge = (x, w) in e ≡ (u, v)) → IsGrownReach old u v x w
last_step old u v x w v5 = grind arith

grown_walk : (old new : List Edge) (u v : ℕ) → AreMore old new u v → (ws : List ℕ) (x w : ℕ) → Walk new x ws w → IsGrownReach old u v x w
grown_walk old new u v more [] x w c = last_step old u v x w ((more (x, w)).0 c)
grown_walk old new u v more (y ∷ ws) x w c = first_step old u v x y w ((more (x, y)).0 c.0) (grown_walk old new u v more ws y w c.1)

kept_walk : (old new : List Edge) (u v : ℕ) → AreMore old new u v → (ws : List ℕ) (x w : ℕ) → Walk old x ws w → Walk new x ws w
kept_walk old new u v more [] x w c = (more (x, w)).1 (inl c)
kept_walk old new u v more (y ∷ ws) x w c = ((more (x, y)).1 (inl c.0), kept_walk old new u v more ws y w c.1)

kept_reach : (old new : List Edge) (u v : ℕ) → AreMore old new u v → (x w : ℕ) → Reaches old x w → Reaches new x w
kept_reach old new u v more x w r = (r.0, kept_walk old new u v more r.0 x w r.1)

to_end : (old new : List Edge) (u v : ℕ) → AreMore old new u v → (x : ℕ) → (x ≡ u) ⊎ Reaches old x u → Reaches new x v
to_end old new u v more x (inl e) = let edge : Reaches new u v = ([], (more (u, v)).1 (inr refl)) in subst (λ z. Reaches new z v) (sym e) edge
to_end old new u v more x (inr r) = reach_joined new x u v (kept_reach old new u v more x u r) ([], (more (u, v)).1 (inr refl))

on_from_end : (old new : List Edge) (u v : ℕ) → AreMore old new u v → (x w : ℕ) → Reaches new x v → (w ≡ v) ⊎ Reaches old v w → Reaches new x w
on_from_end old new u v more x w r (inl e) = subst (λ z. Reaches new x z) (sym e) r
on_from_end old new u v more x w r (inr s) = reach_joined new x v w r (kept_reach old new u v more v w s)

new_reach : (old new : List Edge) (u v : ℕ) → AreMore old new u v → (x w : ℕ) → IsGrownReach old u v x w → Reaches new x w
new_reach old new u v more x w (inl r) = kept_reach old new u v more x w r
new_reach old new u v more x w (inr (from, to)) = on_from_end old new u v more x w (to_end old new u v more x from) to

pub grown_reach : (old new : List Edge) (u v : ℕ) → AreMore old new u v → (x w : ℕ) → (Reaches new x w ↔ IsGrownReach old u v x w)
grown_reach old new u v more x w = (λ r. grown_walk old new u v more r.0 x w r.1, new_reach old new u v more x w)

-- where u reached v already, nothing is reached that was not
pub grown_same : (old : List Edge) (u v x w : ℕ) → Reaches old u v → IsGrownReach old u v x w → Reaches old x w
grown_same old u v x w uv (inl r) = r
grown_same old u v x w uv (inr (inl e, inl f)) = subst (λ z. Reaches old z w) (sym e) (subst (λ z. Reaches old u z) (sym f) uv)
grown_same old u v x w uv (inr (inl e, inr s)) = subst (λ z. Reaches old z w) (sym e) (reach_joined old u v w uv s)
grown_same old u v x w uv (inr (inr r, inl f)) = reach_joined old x u w r (subst (λ z. Reaches old u z) (sym f) uv)
grown_same old u v x w uv (inr (inr r, inr s)) = reach_joined old x u w r (reach_joined old u v w uv s)
