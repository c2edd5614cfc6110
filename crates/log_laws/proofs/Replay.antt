-- Replay from what is held at a cut, and reads behind a replay.
use Rattle.log_laws.proofs.Prelude.{◌≡◌, ◌⊎◌, ℕ, suc, List, [], ◌∷◌, ◌++◌, refl, sym, ap, ◌∙◌, inl, inr, arith, ◌↔◌, AllByRecursion, Contains, cases_Bool, Op, Read, Write, Map, set, Replays}
use Rattle.std.specs.Str.{bytes_eq}
use Rattle.std.proofs.lemmas.Slice.Eq.{bytes_eq-Decides}

-- ---- from maps that agree at each read operations replay alike
abbrev pub Agrees : Map → Map → Op → Type 0
Agrees from other (Read key wid) = (from key ≡ wid) ↔ (other key ≡ wid)
Agrees from other (Write key wid) = Unit {0}

-- the maps behind the one and behind the other, at each key: none wrote it, or both did
abbrev Follows : Map → Map → Map → Map → Type 0
Follows from other m n = (key : List ℕ) → ((m key ≡ from key) × (n key ≡ other key)) ⊎ (m key ≡ n key)

follows_set : (from other m n : Map) (key : List ℕ) (wid : ℕ) → Follows from other m n → Follows from other (set m key wid) (set n key wid)
follows_set from other m n key wid f k = elim (cases_Bool (bytes_eq key k)) [
  | inl e ↦ rw e (inr refl)
  | inr e ↦ rw e (f k)
]

read_agrees : (from other m n w : ℕ) → ((m ≡ from) × (n ≡ other)) ⊎ (m ≡ n) → ((from ≡ w) ↔ (other ≡ w)) → ((m ≡ w) ↔ (n ≡ w))
read_agrees from other m n w (inl none) h = (λ e. none.1 ∙ h.0 (sym none.0 ∙ e), λ e. none.0 ∙ h.1 (sym none.1 ∙ e))
read_agrees from other m n w (inr both) h = (λ e. sym both ∙ e, λ e. both ∙ e)

agree_behind : (from other : Map) (ops : List Op) (m n : Map) → Follows from other m n → AllByRecursion (Agrees from other) ops → (Replays m ops ↔ Replays n ops)
agree_behind from other [] m n f h = (λ r. r, λ r. r)
agree_behind from other (Read key wid ∷ ops) m n f h =
    let here = read_agrees (from key) (other key) (m key) (n key) wid (f key) h.0 in
    let behind = agree_behind from other ops m n f h.1 in
    (λ r. (here.0 r.0, behind.0 r.1), λ r. (here.1 r.0, behind.1 r.1))
agree_behind from other (Write key wid ∷ ops) m n f h = agree_behind from other ops (set m key wid) (set n key wid) (follows_set from other m n key wid f) h.1

pub replays_agree : (from other : Map) (ops : List Op) → AllByRecursion (Agrees from other) ops → (Replays from ops ↔ Replays other ops)
replays_agree from other ops h = agree_behind from other ops from other (λ key. inl (refl, refl)) h

-- ---- the map behind operations
abbrev pub after : Map → List Op → Map
after m [] = m
after m (Read key wid ∷ ops) = after m ops
after m (Write key wid ∷ ops) = after (set m key wid) ops

pub Replays-append : (m : Map) (a b : List Op) → (Replays m (a ++ b) ↔ (Replays m a × Replays (after m a) b))
Replays-append m [] b = (λ r. (tt, r), λ r. r.1)
Replays-append m (Read key wid ∷ a) b =
    let rest = Replays-append m a b in
    (λ r. ((r.0, (rest.0 r.1).0), (rest.0 r.1).1), λ r. (r.0.0, rest.1 (r.0.1, r.1)))
Replays-append m (Write key wid ∷ a) b = Replays-append (set m key wid) a b

pub after-append : (m : Map) (a b : List Op) → after m (a ++ b) ≡ after (after m a) b
after-append m [] b = refl
after-append m (Read key wid ∷ a) b = after-append m a b
after-append m (Write key wid ∷ a) b = after-append (set m key wid) a b

-- a key has what it had, or what was written
pub had_or_written : (ops : List Op) (m : Map) (key : List ℕ) → (after m ops key ≡ m key) ⊎ Contains ops (Write key (after m ops key))
had_or_written [] m key = inl refl
had_or_written (Read k w ∷ ops) m key = elim (had_or_written ops m key) [
  | inl had ↦ inl had
  | inr c ↦ inr (suc c.0, omega (arith, c.1), c.2)
]
had_or_written (Write k w ∷ ops) m key = elim (had_or_written ops (set m k w) key) [
  | inl had ↦ elim (cases_Bool (bytes_eq k key)) [
    | inl same ↦ let is : after (set m k w) ops key ≡ w = rw same at had in
        inr (0, omega arith, ap (λ l. Write l w) ((bytes_eq-Decides k key).0 same) ∙ ap (Write key) (sym is))
    | inr other ↦ inl (rw other at had)
  ]
  | inr c ↦ inr (suc c.0, omega (arith, c.1), c.2)
]
