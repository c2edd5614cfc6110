-- What a replay meets, piece by piece.
use Rattle.serializability.proofs.Prelude.{◌≡◌, ◌⊎◌, ℕ, Bool, true, false, eqb, cond, List, [], ◌∷◌, ◌++◌, Option, None, Some, refl, sym, ap, ◌∙◌, subst, inl, inr, unwrap_or, flat_map, flat_map-append, Event, Read, Write, Store, write}
use Rattle.serializability.proofs.Prelude.{after, Meets, later, last_write}
use Rattle.serializability.proofs.Places.{Has}

pub after-append : (s : Store) (a b : List Event) → after s (a ++ b) ≡ after (after s a) b
after-append s [] b = refl
after-append s (Read k w ∷ a) b = after-append s a b
after-append s (Write k w ∷ a) b = after-append (write s k w) a b

later-unwrap : (b : Bool) (w d : ℕ) (o : Option ℕ) → unwrap_or o (cond b w d) ≡ unwrap_or (later (cond b (Some w) None) o) d
later-unwrap true w d None = refl
later-unwrap true w d (Some v) = refl
later-unwrap false w d None = refl
later-unwrap false w d (Some v) = refl

-- a key holds its last write, or what it held before
pub after_is : (s : Store) (ops : List Event) (x : ℕ) → after s ops x ≡ unwrap_or (last_write x ops) (s x)
after_is s [] x = refl
after_is s (Read k w ∷ ops) x = after_is s ops x
after_is s (Write k w ∷ ops) x = after_is (write s k w) ops x ∙ later-unwrap (eqb k x) w (s x) (last_write x ops)

later-assoc : (a b c : Option ℕ) → later a (later b c) ≡ later (later a b) c
later-assoc a b None = refl
later-assoc a b (Some w) = refl

pub later-None : (b : Option ℕ) → later None b ≡ b
later-None None = refl
later-None (Some w) = refl

pub last_write-append : (x : ℕ) (a b : List Event) → last_write x (a ++ b) ≡ later (last_write x a) (last_write x b)
last_write-append x [] b = sym (later-None (last_write x b))
last_write-append x (Read k w ∷ a) b = last_write-append x a b
last_write-append x (Write k w ∷ a) b =
    ap (later (cond (eqb k x) (Some w) None)) (last_write-append x a b)
    ∙ later-assoc (cond (eqb k x) (Some w) None) (last_write x a) (last_write x b)

pub Meets-of_append : (s : Store) (a b : List Event) → Meets s (a ++ b) → Meets s a × Meets (after s a) b
Meets-of_append s [] b h = (tt, h)
Meets-of_append s (Read k w ∷ a) b h = let r = Meets-of_append s a b h.1 in ((h.0, r.0), r.1)
Meets-of_append s (Write k w ∷ a) b h = Meets-of_append (write s k w) a b h

pub Meets-from_append : (s : Store) (a b : List Event) → Meets s a → Meets (after s a) b → Meets s (a ++ b)
Meets-from_append s [] b h k = k
Meets-from_append s (Read x w ∷ a) b h k = (h.0, Meets-from_append s a b h.1 k)
Meets-from_append s (Write x w ∷ a) b h k = Meets-from_append (write s x w) a b h k

-- the replay meets each read
pub Meets_read : (s : Store) (before behind : List Event) (x w : ℕ) → Meets s (before ++ Read x w ∷ behind) → after s before x ≡ w
Meets_read s before behind x w h = (Meets-of_append s before (Read x w ∷ behind) h).1.0

pub Meets-from_reads : (s : Store) (ops : List Event) → ((before behind : List Event) (x w : ℕ) → ops ≡ before ++ Read x w ∷ behind → after s before x ≡ w) → Meets s ops
Meets-from_reads s [] h = tt
Meets-from_reads s (Read k v ∷ ops) h = (h [] ops k v refl, Meets-from_reads s ops (λ before behind x w e. h (Read k v ∷ before) behind x w (ap (λ l. Read k v ∷ l) e)))
Meets-from_reads s (Write k v ∷ ops) h = Meets-from_reads (write s k v) ops (λ before behind x w e. h (Write k v ∷ before) behind x w (ap (λ l. Write k v ∷ l) e))

-- the replay of an order meets what each of its nodes reads
pub Meets_node : (s : Store) (ops : ℕ → List Event) (f b : List ℕ) (v : ℕ) → Meets s (flat_map ops (f ++ v ∷ b)) → Meets (after s (flat_map ops f)) (ops v)
Meets_node s ops f b v h =
    let all = subst (Meets s) (flat_map-append ops f (v ∷ b)) h in
    (Meets-of_append (after s (flat_map ops f)) (ops v) (flat_map ops b) (Meets-of_append s (flat_map ops f) (ops v ++ flat_map ops b) all).1).0

pub Meets-from_nodes : (s : Store) (ops : ℕ → List Event) (order : List ℕ) → ((f b : List ℕ) (v : ℕ) → order ≡ f ++ v ∷ b → Meets (after s (flat_map ops f)) (ops v)) → Meets s (flat_map ops order)
Meets-from_nodes s ops [] h = tt
Meets-from_nodes s ops (u ∷ us) h = Meets-from_append s (ops u) (flat_map ops us) (h [] us u refl)
    (Meets-from_nodes (after s (ops u)) ops us (λ f b v e.
    let P : Store → Type 0 = λ t. Meets t (ops v) in
    subst P (after-append s (ops u) (flat_map ops f)) (h (u ∷ f) b v (ap (λ l. u ∷ l) e))))

-- ---- the last writer of a key among the nodes of a list
later_cases : (a b : Option ℕ) (w : ℕ) → later a b ≡ Some w → (b ≡ Some w) ⊎ ((b ≡ None) × (a ≡ Some w))
later_cases a None w e = inr (refl, e)
later_cases a (Some v) w e = inl e

pub later_none : (a b : Option ℕ) → later a b ≡ None → (a ≡ None) × (b ≡ None)
later_none a None e = (e, refl)
later_none a (Some v) e = cc

pub record LastWriter (ops : ℕ → List Event) (x w : ℕ) (line : List ℕ) : Type 0 where
  pub front : List ℕ
  pub writer : ℕ
  pub back : List ℕ
  pub stands : line ≡ front ++ writer ∷ back
  pub wrote : last_write x (ops writer) ≡ Some w
  pub none_behind : last_write x (flat_map ops back) ≡ None

pub last_writer : (ops : ℕ → List Event) (x w : ℕ) (line : List ℕ) → last_write x (flat_map ops line) ≡ Some w → LastWriter ops x w line
last_writer ops x w [] e = cc
last_writer ops x w (u ∷ us) e =
    elim (later_cases (last_write x (ops u)) (last_write x (flat_map ops us)) w (sym (last_write-append x (ops u) (flat_map ops us)) ∙ e)) [
      | inl behind ↦ let l = last_writer ops x w us behind in
          record { front = u ∷ l.front; writer = l.writer; back = l.back; stands = ap (λ k. u ∷ k) l.stands; wrote = l.wrote; none_behind = l.none_behind }
      | inr here ↦ record { front = []; writer = u; back = us; stands = refl; wrote = here.1; none_behind = here.0 }
    ]

pub no_writer : (ops : ℕ → List Event) (x : ℕ) (line : List ℕ) (u : ℕ) → last_write x (flat_map ops line) ≡ None → Has u line → last_write x (ops u) ≡ None
no_writer ops x [] u e h = absurd h
no_writer ops x (v ∷ vs) u e (inl here) =
    ap (λ n. last_write x (ops n)) (sym here) ∙ (later_none _ _ (sym (last_write-append x (ops v) (flat_map ops vs)) ∙ e)).0
no_writer ops x (v ∷ vs) u e (inr h) =
    no_writer ops x vs u (later_none _ _ (sym (last_write-append x (ops v) (flat_map ops vs)) ∙ e)).1 h

pub no_writer_from : (ops : ℕ → List Event) (x : ℕ) (line : List ℕ) → ((u : ℕ) → Has u line → last_write x (ops u) ≡ None) → last_write x (flat_map ops line) ≡ None
no_writer_from ops x [] h = refl
no_writer_from ops x (v ∷ vs) h =
    last_write-append x (ops v) (flat_map ops vs)
    ∙ ap (λ o. later o (last_write x (flat_map ops vs))) (h v (inl refl))
    ∙ ap (later None) (no_writer_from ops x vs (λ u k. h u (inr k)))
