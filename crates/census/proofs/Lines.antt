-- The worst keys of a table are those of its entries.
use Rattle.census.proofs.Prelude.{◌≡◌, ◌⊎◌, ℕ, ◌<◌, Bool, true, false, cond, List, [], ◌∷◌, ◌++◌, map, length, Option, None, Some, refl, sym, ap, subst, ◌∙◌, inl, inr, unwrap_or, arith, ForSome, All, AllByRecursion, Contains}
use Rattle.census.proofs.Prelude.{IsStrictlySortedBy, keys_of, lookup, bytes_eq, Less, get_by, is_at, All-from_recursion, sorted_head, sorted_tail, is_eq-slice_cmp, bytes_eq-Decides, KeyFaults, entry_cmp, count_in, AreWorst, IsWorse}
use Rattle.census.proofs.Held.{ref_cmp}
use Rattle.census.proofs.Counted.{CountTable}
use Rattle.census.proofs.Ranks.{all_pairs, contained, of_one, weaker, Among, AreNamedBefore, AreTop}
use denote.Ref.{Bor}

abbrev pub Entry : Type 0
Entry = Bor (List ℕ) × ℕ

abbrev pub line_of : Entry → KeyFaults
line_of e = record { key = e.0.now; faults = e.1 }

at_it : (P : Bor (List ℕ) → Type 0) (seen : List Entry) (e : Entry) (rest : List Entry) → AllByRecursion P (keys_of (seen ++ e ∷ rest)) → P e.0
at_it P [] e rest all = all.0
at_it P (x ∷ seen) e rest all = at_it P seen e rest all.1

pub named_before : (seen : List Entry) (e : Entry) (rest : List Entry) → IsStrictlySortedBy ref_cmp (keys_of (seen ++ e ∷ rest)) → AreNamedBefore (line_of e) (map line_of seen)
named_before [] e rest sorted = tt
named_before (x ∷ seen) e rest sorted = (
  at_it (λ y. ref_cmp x.0 y ≡ Less) seen e rest (sorted_head ref_cmp x.0 (keys_of (seen ++ e ∷ rest)) sorted),
  named_before seen e rest (sorted_tail ref_cmp x.0 (keys_of (seen ++ e ∷ rest)) sorted),
)

all_lines : (P : KeyFaults → Type 0) (Q : Entry → Type 0) → ((e : Entry) → Q e → P (line_of e)) → (es : List Entry) → AllByRecursion Q es → AllByRecursion P (map line_of es)
all_lines P Q f [] all = tt
all_lines P Q f (e ∷ es) all = (f e all.0, all_lines P Q f es all.1)

looked_up : (key : List ℕ) (n : ℕ) (es : List Entry) → lookup (is_at (entry_cmp key)) es ≡ Some n → Among (record { key = key; faults = n }) (map line_of es)
looked_up key n [] e = absurd (none_some e)
  where
    none_some : None ≡ Some n → ⊥
    none_some h = cc
looked_up key n (x ∷ es) e = at (bytes_eq key x.0.now) (bytes_eq-Decides key x.0.now).0 (ap (λ b. cond b (Some x.1) (lookup (is_at (entry_cmp key)) es)) (sym (is_eq-slice_cmp key x.0.now)) ∙ e) (looked_up key n es)
  where
    at : (b : Bool) → (b ≡ true → key ≡ x.0.now) → cond b (Some x.1) (lookup (is_at (entry_cmp key)) es) ≡ Some n
        → (lookup (is_at (entry_cmp key)) es ≡ Some n → Among (record { key = key; faults = n }) (map line_of es)) → Among (record { key = key; faults = n }) (map line_of (x ∷ es))
    at true same is rest = inl (ap (λ (m : ℕ). line m x.0.now) (some is) ∙ ap (line n) (sym (same refl)))
      where
        line : ℕ → List ℕ → KeyFaults
        line m k = record { key = k; faults = m }

        some : Some x.1 ≡ Some n → x.1 ≡ n
        some h = cc
    at false same is rest = inr (rest is)

-- it has as many faults as the table says, and some
abbrev Counted : CountTable → KeyFaults → Type 0
Counted table l = (0 < l.faults) × (l.faults ≡ count_in table l.key)

abbrev IsHeld : List KeyFaults → KeyFaults → Type 0
IsHeld lines x = Contains lines x ⊎ ((length lines ≡ 10) × All (λ (l : KeyFaults). IsWorse l x) lines)

pub worst_are : (table : CountTable) (lines : List KeyFaults) → AllByRecursion (λ (e : Entry). get_by (entry_cmp e.0.now) table ≡ Some e.1) table.entries → ((k : List ℕ) → ForSome (get_by (entry_cmp k) table) (λ n. 0 < n))
    → AreTop (map line_of table.entries) lines → AreWorst (count_in table) lines
worst_are table lines gets positive top = record {
  counted = All-from_recursion (Counted table) lines (weaker (λ l. Among l all) (Counted table) (λ l at. of_one (Counted table) all l each at) lines top.known);
  ordered = all_pairs lines top.ranked;
  few = top.few;
  rest = λ key some. at key (get_by (entry_cmp key) table) refl some;
}
  where
    all : List KeyFaults
    all = map line_of table.entries

    each : AllByRecursion (Counted table) all
    each = all_lines (Counted table) (λ e. get_by (entry_cmp e.0.now) table ≡ Some e.1) (λ e is. (positive e.0.now e.1 is, sym (ap (λ (o : Option ℕ). unwrap_or o 0) is))) table.entries gets

    held : (x : KeyFaults) → Among x lines ⊎ ((length lines ≡ 10) × AllByRecursion (λ l. IsWorse l x) lines) → IsHeld lines x
    held x (inl there) = inl (contained x lines there)
    held x (inr full) = inr (full.0, All-from_recursion (λ l. IsWorse l x) lines full.1)

    at : (key : List ℕ) (o : Option ℕ) → get_by (entry_cmp key) table ≡ o → 0 < count_in table key → IsHeld lines (record { key = key; faults = count_in table key })
    at key None is some = let none : count_in table key ≡ 0 = ap (λ (o : Option ℕ). unwrap_or o 0) is in absurd (omega (arith, none, some))
    at key (Some n) is some =
        let line : ℕ → KeyFaults = λ m. record { key = key; faults = m } in
        subst (λ m. IsHeld lines (line m)) (sym (ap (λ (o : Option ℕ). unwrap_or o 0) is)) (held (line n) (top.rest (line n) (looked_up key n table.entries is)))
