-- A key is found by its mark and its bytes exactly where it is found by its bytes.
use Rattle.std.proofs.Common.{◌≡◌, ◌⊎◌, ℕ, Bool, true, false, cond, ◌&&◌, List, Some, refl, ap, ◌∙◌, subst, inl, inr, nat_cmp, arith}
use Rattle.std.specs.Str.{bytes_eq}
use Rattle.std.specs.Ordering.{is_eq, ordering_then}
use Rattle.std.specs.Cmp.Lexicographic.{slice_cmp}
use Rattle.std.specs.declared.cmp.Ordering.{Ordering}
use Rattle.std.specs.BTreeMap.{BTreeMap, UpdatesBy}
use Rattle.std.proofs.lemmas.Bool.{cases_Bool}
use Rattle.std.proofs.lemmas.Map.Text.{is_eq-slice_cmp}
use Rattle.std.proofs.lemmas.Slice.Eq.{bytes_eq-Decides}
use Rattle.key_tables.specs.Table.{mark_of, entry_cmp, held_in}
use denote.Ref.{Bor}
use Rattle.list_lemmas.proofs.Comparisons.{eq_then}

same_mark : (n : ℕ) → is_eq (nat_cmp n n) ≡ true
same_mark n = grind arith

and_false : (b : Bool) → (b && false) ≡ false
and_false true = refl
and_false false = refl

is_found : (key k : List ℕ) → is_eq (ordering_then (nat_cmp (mark_of key) (mark_of k)) (slice_cmp nat_cmp key k)) ≡ bytes_eq key k
is_found key k = eq_then (nat_cmp (mark_of key) (mark_of k)) (slice_cmp nat_cmp key k) ∙ ap (λ b. is_eq (nat_cmp (mark_of key) (mark_of k)) && b) (is_eq-slice_cmp key k) ∙ both (cases_Bool (bytes_eq key k))
  where
    both : (bytes_eq key k ≡ true) ⊎ (bytes_eq key k ≡ false) → (is_eq (nat_cmp (mark_of key) (mark_of k)) && bytes_eq key k) ≡ bytes_eq key k
    both (inl e) = rw e (ap (λ b. b && true) (subst (λ l. is_eq (nat_cmp (mark_of key) (mark_of l)) ≡ true) ((bytes_eq-Decides key k).0 e) (same_mark (mark_of key))))
    both (inr e) = rw e (and_false (is_eq (nat_cmp (mark_of key) (mark_of k))))

abbrev ref : List ℕ → Bor (List ℕ)
ref key = record { ref_ptr = (0, 0); now = key }

abbrev pub pair_cmp : ℕ × Bor (List ℕ) → ℕ × Bor (List ℕ) → Ordering
pair_cmp a b = ordering_then (nat_cmp a.0 b.0) (slice_cmp nat_cmp a.1.now b.1.now)

pub updated : (old new : BTreeMap (ℕ × Bor (List ℕ)) ℕ) (key : List ℕ) (mark value : ℕ) → mark ≡ mark_of key → UpdatesBy pair_cmp (entry_cmp mark key) old new (Some value)
    → (k : List ℕ) → held_in new k ≡ cond (bytes_eq key k) (Some value) (held_in old k)
updated old new key mark value e h k =
    h.0 (mark_of k, ref k)
    ∙ ap (λ b. cond b (Some value) (held_in old k)) (ap (λ m. is_eq (entry_cmp m key (mark_of k, ref k))) e ∙ is_found key k)
