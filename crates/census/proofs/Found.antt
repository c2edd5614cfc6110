-- A version is found by its identity and its key exactly where it is one of those that were added.
use Rattle.census.proofs.Prelude.{◌≡◌, ℕ, Bool, true, false, cond, ◌&&◌, ◌||◌, eqb, List, refl, ap, ◌∙◌, nat_cmp, arith, bytes_eq, is_eq, ordering_then, slice_cmp, Ordering, BTreeSet, contains_by, is_eq-slice_cmp, eq_then, bytes_flip}
use Rattle.census.proofs.Prelude.{eqb_flip, version_cmp}
use Rattle.std.specs.BTreeSet.{UpdatesBy}
use denote.Ref.{Bor}

abbrev ref : List ℕ → Bor (List ℕ)
ref key = record { ref_ptr = (0, 0); now = key }

abbrev pub pair_cmp : ℕ × Bor (List ℕ) → ℕ × Bor (List ℕ) → Ordering
pair_cmp a b = ordering_then (nat_cmp a.0 b.0) (slice_cmp nat_cmp a.1.now b.1.now)

same_number : (a b : ℕ) → is_eq (nat_cmp a b) ≡ eqb a b
same_number a b = grind arith

swapped : (a b : Bool) → (a && b) ≡ (b && a)
swapped true true = refl
swapped true false = refl
swapped false true = refl
swapped false false = refl

either : (a b : Bool) → cond a true b ≡ (b || a)
either true true = refl
either true false = refl
either false true = refl
either false false = refl

is_found : (key : List ℕ) (wid : ℕ) (k : List ℕ) (w : ℕ) → is_eq (version_cmp key wid (w, ref k)) ≡ (bytes_eq k key && eqb w wid)
is_found key wid k w =
    eq_then (nat_cmp wid w) (slice_cmp nat_cmp key k)
    ∙ ap (λ b. b && is_eq (slice_cmp nat_cmp key k)) (same_number wid w ∙ eqb_flip wid w)
    ∙ ap (λ b. eqb w wid && b) (is_eq-slice_cmp key k ∙ bytes_flip key k)
    ∙ swapped (eqb w wid) (bytes_eq k key)

pub added : (old new : BTreeSet (ℕ × Bor (List ℕ))) (key : List ℕ) (wid : ℕ) → UpdatesBy pair_cmp (version_cmp key wid) old new true
    → (k : List ℕ) (w : ℕ) → contains_by (version_cmp k w) new ≡ (contains_by (version_cmp k w) old || (bytes_eq k key && eqb w wid))
added old new key wid h k w =
    h.0 (w, ref k)
    ∙ ap (λ b. cond b true (contains_by (version_cmp k w) old)) (is_found key wid k w)
    ∙ either (bytes_eq k key && eqb w wid) (contains_by (version_cmp k w) old)
