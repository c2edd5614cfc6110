-- The keys that were written before.
use Rattle.splitting.proofs.Prelude.{◌≡◌, ℕ, Bool, true, false, not, cond, ◌||◌, List, [], ◌∷◌, refl, sym, ap, ◌∙◌, inl, inr, arith, subst, slice_cmp, bytes_eq, cases_Bool, bytes_eq-Decides, Op, Read, Write, is_in, first_writes_behind, has}
use Rattle.splitting.proofs.Prelude.{cond_or, bytes_flip}
use Rattle.std.proofs.Common.{nat_cmp}
use Rattle.std.specs.BTreeSet.{BTreeSet, UpdatesBy}
use Rattle.std.proofs.lemmas.Map.Text.{is_eq-slice_cmp}
use Rattle.std.specs.declared.cmp.Ordering.{Ordering}
use denote.Ref.{Bor}

abbrev ref : List ℕ → Bor (List ℕ)
ref key = record { ref_ptr = (0, 0); now = key }

abbrev pub ref_cmp : Bor (List ℕ) → Bor (List ℕ) → Ordering
ref_cmp a b = slice_cmp nat_cmp a.now b.now

-- one key more
pub has_more : (old new : BTreeSet (Bor (List ℕ))) (key : List ℕ) → UpdatesBy ref_cmp (λ k. slice_cmp nat_cmp key k.now) old new true → (k : List ℕ) → has new k ≡ (bytes_eq k key || has old k)
has_more old new key h k =
    h.0 (ref k)
    ∙ ap (λ b. cond b true (has old k)) (is_eq-slice_cmp key k ∙ bytes_flip key k)
    ∙ cond_or (bytes_eq k key) (has old k)

or_same : (a b : Bool) → (a ≡ true → b ≡ true) → b ≡ (a || b)
or_same v0 v1 f = grind arith

pub in_already : (before : List (List ℕ)) (key : List ℕ) → is_in before key ≡ true → (k : List ℕ) → is_in before k ≡ is_in (key ∷ before) k
in_already before key e k =
    or_same (bytes_eq k key) (is_in before k) (λ t. subst (λ j. is_in before j ≡ true) (sym ((bytes_eq-Decides k key).0 t)) e)

pub firsts_same : (a b : List (List ℕ)) → ((k : List ℕ) → is_in a k ≡ is_in b k) → (ops : List Op) → first_writes_behind a ops ≡ first_writes_behind b ops
firsts_same a b f [] = refl
firsts_same a b f (Read key wid ∷ ops) = firsts_same a b f ops
firsts_same a b f (Write key wid ∷ ops) = elim (cases_Bool (is_in a key)) [
  | inl e ↦ let d : is_in b key ≡ true = sym (f key) ∙ e in rw (e, d) (firsts_same a b f ops)
  | inr e ↦ let d : is_in b key ≡ false = sym (f key) ∙ e in rw (e, d) (ap (λ l. (key, wid) ∷ l) (firsts_same (key ∷ a) (key ∷ b) (λ k. ap (λ t. bytes_eq k key || t) (f k)) ops))
]

-- what an insertion says of the key before
pub was_in : (added old : Bool) → added ≡ not old → added ≡ false → old ≡ true
was_in v0 v1 e f = grind arith

pub was_not_in : (added old : Bool) → added ≡ not old → added ≡ true → old ≡ false
was_not_in v0 v1 e f = grind arith
