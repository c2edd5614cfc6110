-- A replay meets its reads without the transactions of which no other reads a write.
use Rattle.log_definitions.proofs.Prelude.{◌≡◌, ◌⊎◌, ℕ, zero, suc, Bool, true, false, List, [], ◌∷◌, ◌++◌, refl, sym, ap, ◌∙◌, subst, inl, inr, arith, filter, flat_map, AllByRecursion, Contains, bytes_eq, cases_Bool, bytes_eq-Decides, Op}
use Rattle.log_definitions.proofs.Prelude.{Read, Write, Map, set, initial, Replays}

-- the operation reads nothing of what is dropped
abbrev pub ReadsKept : (List ℕ → ℕ → Type 0) → Op → Type 0
ReadsKept D (Read key wid) = D key wid → ⊥
ReadsKept D (Write key wid) = Unit {0}

-- what the operation writes is dropped
abbrev pub WritesDropped : (List ℕ → ℕ → Type 0) → Op → Type 0
WritesDropped D (Read key wid) = Unit {0}
WritesDropped D (Write key wid) = D key wid

-- of the operations of a transaction that is kept, and of one that is dropped
abbrev pub OpsFact : (List ℕ → ℕ → Type 0) → Bool → List Op → Type 0
OpsFact D true ops = AllByRecursion (ReadsKept D) ops
OpsFact D false ops = AllByRecursion (WritesDropped D) ops

-- the maps of a replay with the dropped operations and of one without them
abbrev Follows : (List ℕ → ℕ → Type 0) → Map → Map → Type 0
Follows D m n = (key : List ℕ) → (m key ≡ n key) ⊎ D key (m key)

-- what is met behind the one map is met behind the other
abbrev Carries : (List ℕ → ℕ → Type 0) → List Op → List Op → Type 0
Carries D with_them without = (m n : Map) → Follows D m n → Replays m with_them → Replays n without

follows_both : (D : List ℕ → ℕ → Type 0) (m n : Map) (key : List ℕ) (wid : ℕ) → Follows D m n → Follows D (set m key wid) (set n key wid)
follows_both D m n key wid f k = elim (cases_Bool (bytes_eq key k)) [
  | inl e ↦ rw e (inl refl)
  | inr e ↦ rw e (f k)
]

follows_dropped : (D : List ℕ → ℕ → Type 0) (m n : Map) (key : List ℕ) (wid : ℕ) → D key wid → Follows D m n → Follows D (set m key wid) n
follows_dropped D m n key wid d f k = elim (cases_Bool (bytes_eq key k)) [
  | inl e ↦ rw e (inr (subst (λ l. D l wid) ((bytes_eq-Decides key k).0 e) d))
  | inr e ↦ rw e (f k)
]

met_still : (D : List ℕ → ℕ → Type 0) (m n : Map) (key : List ℕ) (wid : ℕ) → (D key wid → ⊥) → m key ≡ wid → (m key ≡ n key) ⊎ D key (m key) → n key ≡ wid
met_still D m n key wid h e (inl same) = sym same ∙ e
met_still D m n key wid h e (inr d) = absurd (h (subst (D key) e d))

kept_ops : (D : List ℕ → ℕ → Type 0) (ops a b : List Op) → AllByRecursion (ReadsKept D) ops → Carries D a b → Carries D (ops ++ a) (ops ++ b)
kept_ops D [] a b h c = c
kept_ops D (Read key wid ∷ ops) a b h c = λ m n f r. (met_still D m n key wid h.0 r.0 (f key), kept_ops D ops a b h.1 c m n f r.1)
kept_ops D (Write key wid ∷ ops) a b h c = λ m n f r. kept_ops D ops a b h.1 c (set m key wid) (set n key wid) (follows_both D m n key wid f) r

dropped_ops : (D : List ℕ → ℕ → Type 0) (ops a b : List Op) → AllByRecursion (WritesDropped D) ops → Carries D a b → Carries D (ops ++ a) b
dropped_ops D [] a b h c = c
dropped_ops D (Read key wid ∷ ops) a b h c = λ m n f r. dropped_ops D ops a b h.1 c m n f r.1
dropped_ops D (Write key wid ∷ ops) a b h c = λ m n f r. dropped_ops D ops a b h.1 c (set m key wid) n (follows_dropped D m n key wid h.0 f) r

carried : (D : List ℕ → ℕ → Type 0) (ops : ℕ → List Op) (keeps : ℕ → Bool) (order : List ℕ) → ((v : ℕ) → OpsFact D (keeps v) (ops v)) → Carries D (flat_map ops order) (flat_map ops (filter keeps order))
carried D ops keeps [] h = λ m n f r. tt
carried D ops keeps (v ∷ order) h =
    let all = flat_map ops order in
    let kept = flat_map ops (filter keeps order) in
    elim (cases_Bool (keeps v)) [
      | inl e ↦ rw e (kept_ops D (ops v) all kept (subst (λ b. OpsFact D b (ops v)) e (h v)) (carried D ops keeps order h))
      | inr e ↦ rw e (dropped_ops D (ops v) all kept (subst (λ b. OpsFact D b (ops v)) e (h v)) (carried D ops keeps order h))
    ]

pub replays_kept : (D : List ℕ → ℕ → Type 0) (ops : ℕ → List Op) (keeps : ℕ → Bool) (order : List ℕ) → ((v : ℕ) → OpsFact D (keeps v) (ops v)) → Replays initial (flat_map ops order) → Replays initial (flat_map ops (filter keeps order))
replays_kept D ops keeps order h = carried D ops keeps order h initial initial (λ key. inl refl)

-- ---- a read that is met names a write, or what the map had at first
pub met_by_write : (ops : List Op) (m : Map) (key : List ℕ) (wid : ℕ) → Replays m ops → Contains ops (Read key wid) → (m key ≡ wid) ⊎ Contains ops (Write key wid)
met_by_write [] m key wid r c = absurd (omega (arith, c.1))
met_by_write (o ∷ ops) m key wid r (zero, lt, e) = inl (subst (λ p. Replays m (p ∷ ops)) e r).0
met_by_write (Read k w ∷ ops) m key wid r (suc i, lt, e) = elim (met_by_write ops m key wid r.1 (i, omega (arith, lt), e)) [
  | inl had ↦ inl had
  | inr c ↦ inr (suc c.0, omega (arith, c.1), c.2)
]
met_by_write (Write k w ∷ ops) m key wid r (suc i, lt, e) = elim (met_by_write ops (set m k w) key wid r (i, omega (arith, lt), e)) [
  | inl had ↦ elim (cases_Bool (bytes_eq k key)) [
    | inl same ↦
        let is : w ≡ wid = rw same at had in
        inr (0, omega arith, ap (λ l. Write l w) ((bytes_eq-Decides k key).0 same) ∙ ap (Write key) is)
    | inr other ↦ inl (rw other at had)
  ]
  | inr c ↦ inr (suc c.0, omega (arith, c.1), c.2)
]
