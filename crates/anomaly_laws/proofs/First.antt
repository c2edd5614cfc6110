-- The first read of a log that is an anomaly.
use Rattle.anomaly_laws.proofs.Prelude.{◌≡◌, ◌⊎◌, ℕ, zero, suc, ◌+◌, ◌<◌, ◌≤◌, List, [], ◌∷◌, ◌++◌, length, Option, None, Some, refl, sym, ap, ◌∙◌, subst, inl, inr, arith, append_assoc, map, AllByRecursion, flat_map, range_with_len}
use Rattle.anomaly_laws.proofs.Prelude.{option_or, cases_eq, append-nil, Event, Anomaly, Place, places_from, first_some}
use Rattle.list_lemmas.proofs.Options.{option_or_assoc}
use Rattle.anomaly_laws.proofs.Listed.{place}

pub or_some : {X : Type 0} (o p : Option X) (x : X) → option_or o p ≡ Some x → (o ≡ Some x) ⊎ ((o ≡ None) × (p ≡ Some x))
or_some None p x e = inr (refl, e)
or_some (Some y) p x e = inl e

pub first-append : {X : Type 0} (f : X → Option Anomaly) (xs ys : List X) → first_some (map f (xs ++ ys)) ≡ option_or (first_some (map f xs)) (first_some (map f ys))
first-append f [] ys = refl
first-append f (x ∷ xs) ys = ap (option_or (f x)) (first-append f xs ys) ∙ option_or_assoc (f x) (first_some (map f xs)) (first_some (map f ys))

-- what holds of each anomaly of a list holds of the first
pub of_first : (P : Anomaly → Type 0) (xs : List Anomaly) (a : Anomaly) → AllByRecursion P xs → first_some (map (λ b. Some b) xs) ≡ Some a → P a
of_first P [] a h e = cc
of_first P (b ∷ xs) a h e = (let same : b ≡ a = cc in subst P same h.0)

-- ---- among the nodes
pub record FirstNode (f : Place → Option Anomaly) (g : ℕ → List Place) (low n : ℕ) (a : Anomaly) : Type 0 where
  pub node : ℕ
  pub from : low ≤ node
  pub below : node < low + n
  pub here : first_some (map f (g node)) ≡ Some a
  pub earlier : (u : ℕ) → low ≤ u → u < node → first_some (map f (g u)) ≡ None

pub first_node : (f : Place → Option Anomaly) (g : ℕ → List Place) (low n : ℕ) (a : Anomaly) → first_some (map f (flat_map g (range_with_len low n))) ≡ Some a → FirstNode f g low n a
first_node f g low zero a e = cc
first_node f g low (suc n) a e =
    let rest = flat_map g (range_with_len (low + 1) n) in
    elim (or_some (first_some (map f (g low))) (first_some (map f rest)) a (sym (first-append f (g low) rest) ∙ e)) [
      | inl h ↦ record { node = low; from = omega arith; below = omega arith; here = h; earlier = λ u lo lt. absurd (omega arith) }
      | inr h ↦
          let r = first_node f g (low + 1) n a h.1 in
          record {
            node = r.node;
            from = omega (arith, r.from);
            below = omega (arith, r.below);
            here = r.here;
            earlier = λ u lo lt. elim (cases_eq low u) [
              | inl s ↦ ap (λ k. first_some (map f (g k))) (sym s) ∙ h.0
              | inr ne ↦ r.earlier u (omega (arith, ne)) lt
            ];
          }
    ]

-- ---- among the operations of a node
pub record FirstOperation (f : Place → Option Anomaly) (v : ℕ) (front back : List Event) (a : Anomaly) : Type 0 where
  pub mid : List Event
  pub event : Event
  pub behind : List Event
  pub stands : back ≡ mid ++ event ∷ behind
  pub here : f (place v (front ++ mid) event behind) ≡ Some a
  pub earlier : (m : List Event) (e : Event) (b : List Event) → back ≡ m ++ e ∷ b → length m < length mid → f (place v (front ++ m) e b) ≡ None

-- one operation further
behind_one : (f : Place → Option Anomaly) (v : ℕ) (front back : List Event) (d : Event) (n : ℕ) → f (place v front d back) ≡ None → ((m : List Event) (e : Event) (b : List Event) → back ≡ m ++ e ∷ b → length m < n → f (place v ((front ++ d ∷ []) ++ m) e b) ≡ None) → (m : List Event) (e : Event) (b : List Event) → d ∷ back ≡ m ++ e ∷ b → length m < suc n → f (place v (front ++ m) e b) ≡ None
behind_one f v front back d n here later [] e b s lt =
    let head : d ≡ e = cc in
    let tail : back ≡ b = cc in
    ap (λ l. f (place v l e b)) (append-nil front) ∙ ap (λ c. f (place v front c b)) (sym head) ∙ ap (λ l. f (place v front d l)) (sym tail) ∙ here
behind_one f v front back d n here later (c ∷ m) e b s lt =
    let head : d ≡ c = cc in
    let tail : back ≡ m ++ e ∷ b = cc in
    ap (λ l. f (place v l e b)) (ap (λ k. front ++ k ∷ m) (sym head) ∙ sym (append_assoc front (d ∷ []) m)) ∙ later m e b tail (omega arith)

pub first_operation : (f : Place → Option Anomaly) (v : ℕ) (front back : List Event) (a : Anomaly) → first_some (map f (places_from v front back)) ≡ Some a → FirstOperation f v front back a
first_operation f v front [] a e = cc
first_operation f v front (d ∷ back) a e =
    elim (or_some (f (place v front d back)) (first_some (map f (places_from v (front ++ d ∷ []) back))) a e) [
      | inl h ↦ record {
        mid = [];
        event = d;
        behind = back;
        stands = refl;
        here = ap (λ l. f (place v l d back)) (append-nil front) ∙ h;
        earlier = λ m c b s lt. absurd (omega arith);
      }
      | inr h ↦
          let r = first_operation f v (front ++ d ∷ []) back a h.1 in
          record {
            mid = d ∷ r.mid;
            event = r.event;
            behind = r.behind;
            stands = ap (λ l. d ∷ l) r.stands;
            here = ap (λ l. f (place v l r.event r.behind)) (sym (append_assoc front (d ∷ []) r.mid)) ∙ r.here;
            earlier = behind_one f v front back d (length r.mid) h.0 r.earlier;
          }
    ]
