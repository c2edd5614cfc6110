-- What the states behind all operations of a transaction say of it.
use Rattle.census.proofs.Prelude.{◌≡◌, ℕ, Bool, true, false, cond, ◌&&◌, ◌||◌, eqb, List, [], ◌∷◌, Option, None, Some, refl, sym, ap, ◌∙◌, inl, inr, not, is_some, list_any, option_map_or, bytes_eq, cases_Bool, false≢true, eqb-true}
use Rattle.census.proofs.Prelude.{and_parts, or_left, bytes_eq-Decides, eqb_flip, and_first, Transaction, Op, Read, Write, States, last_write, writes_as, passes_over, first_read, updates, state_of, at_read, at_write, reads_as, is_passed}
use Rattle.census.proofs.Prelude.{updates_by, AreBehind}
use Rattle.census.proofs.Truth.{together}
use Rattle.census.proofs.Along.{written_in, read_in}

same_version : (f : List ℕ → ℕ → Bool) (k key : List ℕ) (w v : ℕ) → ((bytes_eq k key && eqb w v) && f key v) ≡ ((bytes_eq k key && eqb w v) && f k w)
same_version f k key w v = elim (cases_Bool (bytes_eq k key && eqb w v)) [
  | inl e ↦
      let both = and_parts (bytes_eq k key) (eqb w v) e in
      rw e (ap (λ x. f x v) (sym ((bytes_eq-Decides k key).0 both.0)) ∙ ap (f k) (sym (eqb-true w v both.1)))
  | inr e ↦ rw e refl
]

pub all_at_read : (f : List ℕ → ℕ → Bool) (k : List ℕ) (w : ℕ) (ops : List Op) → list_any (at_read f k w) ops ≡ (reads_as k w ops && f k w)
all_at_read f k w [] = refl
all_at_read f k w (Write key v ∷ ops) = all_at_read f k w ops
all_at_read f k w (Read key v ∷ ops) =
    ap (λ b. b || list_any (at_read f k w) ops) (same_version f k key w v)
    ∙ ap (λ b. ((bytes_eq k key && eqb w v) && f k w) || b) (all_at_read f k w ops)
    ∙ together (bytes_eq k key && eqb w v) (reads_as k w ops) (f k w)

pub all_at_write : (f : List ℕ → ℕ → Bool) (k : List ℕ) (w : ℕ) (ops : List Op) → list_any (at_write f k w) ops ≡ (writes_as k w ops && f k w)
all_at_write f k w [] = refl
all_at_write f k w (Read key v ∷ ops) = all_at_write f k w ops
all_at_write f k w (Write key v ∷ ops) =
    ap (λ b. b || list_any (at_write f k w) ops) (same_version f k key w v)
    ∙ ap (λ b. ((bytes_eq k key && eqb w v) && f k w) || b) (all_at_write f k w ops)
    ∙ together (bytes_eq k key && eqb w v) (writes_as k w ops) (f k w)

pub passed_are : (ops : List Op) (states : States) → AreBehind ops states → (k : List ℕ) (w : ℕ) → list_any (at_write (is_passed states) k w) ops ≡ passes_over k w ops
passed_are ops states behind k w =
    all_at_write (is_passed states) k w ops
    ∙ ap (λ (o : Option ℕ). writes_as k w ops && not (option_map_or (λ v. eqb v w) o false)) (ap (λ s. s.written) (behind.each k) ∙ written_in k ops)

-- ---- updates
pub updates_are : (ops : List Op) (states : States) → AreBehind ops states → (k : List ℕ) (w : ℕ) → updates_by states k w ≡ (option_map_or (λ r. eqb r w) (first_read k ops) false && is_some (last_write k ops))
updates_are ops states behind k w =
    ap (λ (o : Option ℕ). option_map_or (λ r. eqb r w) o false && is_some (state_of states k).written) (ap (λ s. s.read) (behind.each k) ∙ read_in k ops)
    ∙ ap (λ (o : Option ℕ). option_map_or (λ r. eqb r w) (first_read k ops) false && is_some o) (ap (λ s. s.written) (behind.each k) ∙ written_in k ops)

there_read : (b : Bool) (v w : ℕ) (o : Option ℕ) (rest : Bool) → (option_map_or (λ r. eqb r w) o false ≡ true → rest ≡ true) → option_map_or (λ r. eqb r w) (cond b (Some v) o) false ≡ true → ((b && eqb w v) || rest) ≡ true
there_read true v w o rest f h = or_left (eqb w v) rest (eqb_flip w v ∙ h)
there_read false v w o rest f h = f h

there_write : (b : Bool) (w : ℕ) (o : Option ℕ) (rest : Bool) → (option_map_or (λ r. eqb r w) o false ≡ true → rest ≡ true) → option_map_or (λ r. eqb r w) (cond b None o) false ≡ true → rest ≡ true
there_write true w o rest f h = absurd (false≢true h)
there_write false w o rest f h = f h

pub read_there : (k : List ℕ) (w : ℕ) (ops : List Op) → option_map_or (λ r. eqb r w) (first_read k ops) false ≡ true → reads_as k w ops ≡ true
read_there k w [] e = absurd (false≢true e)
read_there k w (Read key v ∷ ops) e = there_read (bytes_eq k key) v w (first_read k ops) (reads_as k w ops) (read_there k w ops) e
read_there k w (Write key v ∷ ops) e = there_write (bytes_eq k key) w (first_read k ops) (reads_as k w ops) (read_there k w ops) e

absorbed : (r u : Bool) → (u ≡ true → r ≡ true) → (r && u) ≡ u
absorbed r true h = ap (λ b. b && true) (h refl)
absorbed true false h = refl
absorbed false false h = refl

absorbed_in : (r u x : Bool) → (u ≡ true → r ≡ true) → (r && (u && x)) ≡ (u && x)
absorbed_in r u x h = absorbed r (u && x) (λ e. h (and_first u x e))

-- an update is a read
pub updated_reads : (t : Transaction) (states : States) → AreBehind t.ops states → (k : List ℕ) (w : ℕ) → list_any (at_read (updates_by states) k w) t.ops ≡ updates k w t
updated_reads t states behind k w =
    all_at_read (updates_by states) k w t.ops
    ∙ ap (λ b. reads_as k w t.ops && b) (updates_are t.ops states behind k w)
    ∙ absorbed (reads_as k w t.ops) (updates k w t) (λ e. read_there k w t.ops (and_first (option_map_or (λ r. eqb r w) (first_read k t.ops) false) (is_some (last_write k t.ops)) e))

pub updated_again : (t : Transaction) (states : States) (before : List ℕ → ℕ → Bool) → AreBehind t.ops states → (k : List ℕ) (w : ℕ) → list_any (at_read (λ key wid. updates_by states key wid && before key wid) k w) t.ops ≡ (updates k w t && before k w)
updated_again t states before behind k w =
    all_at_read (λ key wid. updates_by states key wid && before key wid) k w t.ops
    ∙ ap (λ b. reads_as k w t.ops && (b && before k w)) (updates_are t.ops states behind k w)
    ∙ absorbed_in (reads_as k w t.ops) (updates k w t) (before k w) (λ e. read_there k w t.ops (and_first (option_map_or (λ r. eqb r w) (first_read k t.ops) false) (is_some (last_write k t.ops)) e))
