-- Operations on keys of two kinds replay as those of each kind do.
use Rattle.point_laws.proofs.Prelude.{◌≡◌, ℕ, Bool, true, false, not, List, [], ◌∷◌, ◌++◌, refl, sym, ap, ◌∙◌, inl, inr, ◌↔◌, filter, flat_map, bytes_eq, cases_Bool, false≢true, filter-append, bytes_eq-Decides, Op, Read, Write, key_of, Map}
use Rattle.point_laws.proofs.Prelude.{set, Replays}

-- the operation is on a key of this kind, or on another
abbrev pub on : (List ℕ → Bool) → Op → Bool
on own o = own (key_of o)

abbrev pub off : (List ℕ → Bool) → Op → Bool
off own o = not (on own o)

-- maps that have the same on keys of a kind
abbrev Agree : (List ℕ → Bool) → Bool → Map → Map → Type 0
Agree own is m n = (key : List ℕ) → own key ≡ is → m key ≡ n key

both_set : (own : List ℕ → Bool) (is : Bool) (m n : Map) (key : List ℕ) (wid : ℕ) → Agree own is m n → Agree own is (set m key wid) (set n key wid)
both_set own is m n key wid f k e = elim (cases_Bool (bytes_eq key k)) [
  | inl t ↦ rw t refl
  | inr t ↦ rw t (f k e)
]

one_set : (own : List ℕ → Bool) (is other : Bool) (m n : Map) (key : List ℕ) (wid : ℕ) → (is ≡ other → ⊥) → own key ≡ other → Agree own is m n → Agree own is (set m key wid) n
one_set own is other m n key wid differ e f k g = elim (cases_Bool (bytes_eq key k)) [
  | inl t ↦ absurd (differ (sym g ∙ ap own (sym ((bytes_eq-Decides key k).0 t)) ∙ e))
  | inr t ↦ rw t (f k g)
]

two_kinds : (own : List ℕ → Bool) (ops : List Op) (m n k : Map) → Agree own true m n → Agree own false m k → (Replays m ops ↔ (Replays n (filter (on own) ops) × Replays k (filter (off own) ops)))
two_kinds own [] m n k f g = (λ r. (tt, tt), λ r. tt)
two_kinds own (Read key wid ∷ ops) m n k f g =
    let later = two_kinds own ops m n k f g in
    elim (cases_Bool (own key)) [
      | inl e ↦ let same = f key e in rw e ((λ r. ((sym same ∙ r.0, (later.0 r.1).0), (later.0 r.1).1)), (λ r. (same ∙ r.0.0, later.1 (r.0.1, r.1))))
      | inr e ↦ let same = g key e in rw e ((λ r. ((later.0 r.1).0, (sym same ∙ r.0, (later.0 r.1).1))), (λ r. (same ∙ r.1.0, later.1 (r.0, r.1.1))))
    ]
two_kinds own (Write key wid ∷ ops) m n k f g = elim (cases_Bool (own key)) [
  | inl e ↦ let later = two_kinds own ops (set m key wid) (set n key wid) k (both_set own true m n key wid f) (one_set own false true m k key wid false≢true e g) in rw e later
  | inr e ↦ let later = two_kinds own ops (set m key wid) n (set k key wid) (one_set own true false m n key wid (λ h. false≢true (sym h)) e f) (both_set own false m k key wid g) in rw e later
]

pub by_kind : (own : List ℕ → Bool) (ops : List Op) (m : Map) → (Replays m ops ↔ (Replays m (filter (on own) ops) × Replays m (filter (off own) ops)))
by_kind own ops m = two_kinds own ops m m m (λ key e. refl) (λ key e. refl)

-- of lists that are joined
pub kind_of_flat : {X : Type 0} (p : Op → Bool) (f g : X → List Op) (xs : List X) → ((x : X) → filter p (f x) ≡ g x) → filter p (flat_map f xs) ≡ flat_map g xs
kind_of_flat p f g [] h = refl
kind_of_flat p f g (x ∷ xs) h =
    filter-append p (f x) (flat_map f xs) ∙ ap (λ l. l ++ filter p (flat_map f xs)) (h x) ∙ ap (λ l. g x ++ l) (kind_of_flat p f g xs h)

pub same_flat : {X Y : Type 0} (f g : X → List Y) (xs : List X) → ((x : X) → f x ≡ g x) → flat_map f xs ≡ flat_map g xs
same_flat f g [] h = refl
same_flat f g (x ∷ xs) h = ap (λ l. l ++ flat_map f xs) (h x) ∙ ap (λ l. g x ++ l) (same_flat f g xs h)
