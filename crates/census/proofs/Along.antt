-- What operations did with a key, up to some place.
use Rattle.census.proofs.Prelude.{◌≡◌, ℕ, ◌+◌, ◌<◌, Bool, true, false, cond, ◌&&◌, ◌||◌, eqb, List, [], ◌∷◌, ◌++◌, length, take, get_or, Option, None, Some, refl, sym, ap, ◌∙◌, inl, inr, arith, not, list_any, bytes_eq, cases_Bool, eqb-true}
use Rattle.census.proofs.Prelude.{front_more, key_of, Op, Read, Write, KeyState, last_write, is_other_read, writes_as, first_read, after, after_read, differs, differs_from, state_behind, state_in, untouched}
use Rattle.serializability.specs.Reads.{later}
use Rattle.census.proofs.Truth.{or_none, or_assoc}
use Rattle.serializability.proofs.Replays.{later_none}

pub pushed : (k : List ℕ) (s : KeyState) (ops : List Op) (op : Op) → state_behind k s (ops ++ op ∷ []) ≡ cond (bytes_eq k (key_of op)) (after (state_behind k s ops) op) (state_behind k s ops)
pushed k s [] op = refl
pushed k s (o ∷ ops) op = pushed k (cond (bytes_eq k (key_of o)) (after s o) s) ops op

-- one operation more
pub one_more : (k : List ℕ) (ops : List Op) (i : ℕ) (op : Op) (old new : KeyState) → i < length ops → op ≡ get_or ops i op → old ≡ state_in k (take i ops) → new ≡ cond (bytes_eq k (key_of op)) (after old op) old → new ≡ state_in k (take (i + 1) ops)
one_more k ops i op old new lt is before here =
    here
    ∙ ap (λ s. cond (bytes_eq k (key_of op)) (after s op) s) before
    ∙ sym (pushed k untouched (take i ops) op)
    ∙ ap (state_in k) (sym (front_more ops i op lt is))

-- ---- the last write
later_assoc : (a b c : Option ℕ) → later a (later b c) ≡ later (later a b) c
later_assoc a b None = refl
later_assoc a b (Some w) = refl

read_keeps : (o r : Option ℕ) (m : Bool) (w : ℕ) → (after_read o r m w).written ≡ o
read_keeps (Some own) r m w = refl
read_keeps None None m w = refl
read_keeps None (Some f) m w = refl

pub written_is : (k : List ℕ) (s : KeyState) (ops : List Op) → (state_behind k s ops).written ≡ later s.written (last_write k ops)
written_is k s [] = refl
written_is k s (Read key w ∷ ops) =
    written_is k (cond (bytes_eq k key) (after s (Read key w)) s) ops
    ∙ ap (λ o. later o (last_write k ops)) (kept (bytes_eq k key))
  where
    kept : (b : Bool) → (cond b (after s (Read key w)) s).written ≡ s.written
    kept true = read_keeps s.written s.read s.mixed w
    kept false = refl
written_is k s (Write key w ∷ ops) =
    written_is k (cond (bytes_eq k key) (after s (Write key w)) s) ops
    ∙ next (bytes_eq k key)
  where
    next : (b : Bool) → later (cond b (after s (Write key w)) s).written (last_write k ops) ≡ later s.written (later (cond b (Some w) None) (last_write k ops))
    next true = sym (later_assoc s.written (Some w) (last_write k ops))
    next false = sym (later_assoc s.written None (last_write k ops))

later_of_none : (o : Option ℕ) → later None o ≡ o
later_of_none None = refl
later_of_none (Some w) = refl

pub written_in : (k : List ℕ) (ops : List Op) → (state_in k ops).written ≡ last_write k ops
written_in k ops = written_is k untouched ops ∙ later_of_none (last_write k ops)

-- ---- the first read
abbrev known : Option ℕ → Option ℕ → Option ℕ → Option ℕ
known (Some own) r o = r
known None None o = o
known None (Some f) o = Some f

known_none : (o r : Option ℕ) → r ≡ known o r None
known_none (Some own) r = refl
known_none None None = refl
known_none None (Some f) = refl

reads_once : (o r : Option ℕ) (m : Bool) (w : ℕ) (x : Option ℕ) → known (after_read o r m w).written (after_read o r m w).read x ≡ known o r (Some w)
reads_once (Some own) r m w x = refl
reads_once None None m w x = refl
reads_once None (Some f) m w x = refl

read_is : (k : List ℕ) (s : KeyState) (ops : List Op) → (state_behind k s ops).read ≡ known s.written s.read (first_read k ops)
read_is k s [] = known_none s.written s.read
read_is k s (Read key w ∷ ops) = read_is k (cond (bytes_eq k key) (after s (Read key w)) s) ops ∙ next (bytes_eq k key)
  where
    next : (b : Bool) → known (cond b (after s (Read key w)) s).written (cond b (after s (Read key w)) s).read (first_read k ops) ≡ known s.written s.read (cond b (Some w) (first_read k ops))
    next true = reads_once s.written s.read s.mixed w (first_read k ops)
    next false = refl
read_is k s (Write key w ∷ ops) = read_is k (cond (bytes_eq k key) (after s (Write key w)) s) ops ∙ next (bytes_eq k key)
  where
    next : (b : Bool) → known (cond b (after s (Write key w)) s).written (cond b (after s (Write key w)) s).read (first_read k ops) ≡ known s.written s.read (cond b None (first_read k ops))
    next true = known_none s.written s.read
    next false = refl

pub read_in : (k : List ℕ) (ops : List Op) → (state_in k ops).read ≡ first_read k ops
read_in k ops = read_is k untouched ops

-- ---- no write
not_written : (b : Bool) (w : ℕ) → cond b (Some w) None ≡ None → b ≡ false
not_written true w e = cc
not_written false w e = refl

pub no_write : (k : List ℕ) (w : ℕ) (ops : List Op) → last_write k ops ≡ None → writes_as k w ops ≡ false
no_write k w [] e = refl
no_write k w (Read key v ∷ ops) e = no_write k w ops e
no_write k w (Write key v ∷ ops) e =
    let both = later_none (cond (bytes_eq k key) (Some v) None) (last_write k ops) e in
    ap (λ b. (b && eqb w v) || writes_as k w ops) (not_written (bytes_eq k key) v both.0) ∙ no_write k w ops both.1

-- ---- reads that name another identity
shift : (f v w : ℕ) (m any : Bool) → ((not (eqb f w) || (m || not (eqb f v))) || any) ≡ ((not (eqb f w) || m) || (not (eqb v w) || any))
shift f v w m any = elim (cases_Bool (eqb f w)) [
  | inl e ↦
      let same : eqb f v ≡ eqb v w = ap (λ x. eqb x v) (eqb-true f w e) ∙ flip w v in
      rw e (ap (λ b. (m || not b) || any) same ∙ or_assoc m (not (eqb v w)) any)
  | inr e ↦ rw e refl
]
  where
    flip : (a b : ℕ) → eqb a b ≡ eqb b a
    flip a b = grind arith

abbrev read_only : Option ℕ → Bool → KeyState
read_only r m = record { written = None; read = r; mixed = m }

split_read : (k : List ℕ) (w v : ℕ) (key : List ℕ) (ops : List Op) → ((r : Option ℕ) (m : Bool) → differs (state_behind k (read_only r m) ops) w ≡ (differs_from r m w || list_any (is_other_read k w) ops))
    → (b : Bool) (r : Option ℕ) (m : Bool) → differs (state_behind k (cond b (after (read_only r m) (Read key v)) (read_only r m)) ops) w ≡ (differs_from r m w || ((b && not (eqb v w)) || list_any (is_other_read k w) ops))
split_read k w v key ops rest true None m = rest (Some v) false ∙ ap (λ b. b || list_any (is_other_read k w) ops) (sym (or_none (not (eqb v w))))
split_read k w v key ops rest true (Some f) m = rest (Some f) (m || not (eqb f v)) ∙ shift f v w m (list_any (is_other_read k w) ops)
split_read k w v key ops rest false r m = rest r m

split_is : (k : List ℕ) (w : ℕ) (ops : List Op) → last_write k ops ≡ None → (r : Option ℕ) (m : Bool) → differs (state_behind k (read_only r m) ops) w ≡ (differs_from r m w || list_any (is_other_read k w) ops)
split_is k w [] e r m = or_none (differs_from r m w)
split_is k w (Read key v ∷ ops) e r m = split_read k w v key ops (split_is k w ops e) (bytes_eq k key) r m
split_is k w (Write key v ∷ ops) e r m =
    let both = later_none (cond (bytes_eq k key) (Some v) None) (last_write k ops) e in
    ap (λ b. differs (state_behind k (cond b (after (read_only r m) (Write key v)) (read_only r m)) ops) w) (not_written (bytes_eq k key) v both.0)
    ∙ split_is k w ops both.1 r m

pub split_in : (k : List ℕ) (w : ℕ) (ops : List Op) → last_write k ops ≡ None → differs (state_in k ops) w ≡ list_any (is_other_read k w) ops
split_in k w ops e = split_is k w ops e None false
