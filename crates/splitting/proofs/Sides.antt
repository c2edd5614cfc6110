-- What one operation adds without locks.
use Rattle.splitting.proofs.Prelude.{◌≡◌, ℕ, true, false, ◌||◌, List, [], ◌∷◌, ◌++◌, sym, ap, ◌∙◌, append_assoc, list_any, is_eq, nat_cmp, slice_cmp, bytes_eq, Op, Read, Write, is_in, snapshot_reads_behind, rest_behind, has, AreSides}
use Rattle.splitting.specs.declared.bare.Sides.{Sides}

pub no_sides : (s : Sides) → s.written.keys ≡ [] → s.reads.items ≡ [] → s.rest.items ≡ [] → (ops : List Op) → AreSides ops s ops
no_sides s none reads rest ops = record {
  before = [];
  written = λ key. ap (λ l. list_any (λ k. is_eq (slice_cmp nat_cmp key k.now)) l) none;
  reads = ap (λ l. l ++ snapshot_reads_behind [] ops) reads;
  rest = ap (λ l. l ++ rest_behind [] ops) rest;
}

-- a read of a key that was written before
pub own_read : (ops behind : List Op) (s n : Sides) (key : List ℕ) (wid : ℕ) → has s.written key ≡ true → n.written ≡ s.written → n.reads.items ≡ s.reads.items → n.rest.items ≡ s.rest.items ++ Read key wid ∷ [] → AreSides ops s (Read key wid ∷ behind) → AreSides ops n behind
own_read ops behind s n key wid e written reads rest h =
    let own : is_in h.before key ≡ true = sym (h.written key) ∙ e in
    record {
      before = h.before;
      written = λ k. ap (λ w. has w k) written ∙ h.written k;
      reads = ap (λ l. l ++ snapshot_reads_behind h.before behind) reads ∙ rw own at h.reads;
      rest = ap (λ l. l ++ rest_behind h.before behind) rest ∙ append_assoc s.rest.items (Read key wid ∷ []) (rest_behind h.before behind) ∙ rw own at h.rest;
    }

-- a read from the snapshot
pub other_read : (ops behind : List Op) (s n : Sides) (key : List ℕ) (wid : ℕ) → has s.written key ≡ false → n.written ≡ s.written → n.reads.items ≡ s.reads.items ++ Read key wid ∷ [] → n.rest.items ≡ s.rest.items → AreSides ops s (Read key wid ∷ behind) → AreSides ops n behind
other_read ops behind s n key wid e written reads rest h =
    let other : is_in h.before key ≡ false = sym (h.written key) ∙ e in
    record {
      before = h.before;
      written = λ k. ap (λ w. has w k) written ∙ h.written k;
      reads = ap (λ l. l ++ snapshot_reads_behind h.before behind) reads ∙ append_assoc s.reads.items (Read key wid ∷ []) (snapshot_reads_behind h.before behind) ∙ rw other at h.reads;
      rest = ap (λ l. l ++ rest_behind h.before behind) rest ∙ rw other at h.rest;
    }

pub one_write : (ops behind : List Op) (s n : Sides) (key : List ℕ) (wid : ℕ) → ((k : List ℕ) → has n.written k ≡ (bytes_eq k key || has s.written k)) → n.reads.items ≡ s.reads.items → n.rest.items ≡ s.rest.items ++ Write key wid ∷ [] → AreSides ops s (Write key wid ∷ behind) → AreSides ops n behind
one_write ops behind s n key wid more reads rest h = record {
  before = key ∷ h.before;
  written = λ k. more k ∙ ap (λ b. bytes_eq k key || b) (h.written k);
  reads = ap (λ l. l ++ snapshot_reads_behind (key ∷ h.before) behind) reads ∙ h.reads;
  rest = ap (λ l. l ++ rest_behind (key ∷ h.before) behind) rest ∙ append_assoc s.rest.items (Write key wid ∷ []) (rest_behind (key ∷ h.before) behind) ∙ h.rest;
}
