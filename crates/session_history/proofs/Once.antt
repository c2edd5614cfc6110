-- Where no identity is written twice, a write of a transaction of unknown outcome is known by it.
use Rattle.session_history.proofs.Prelude.{◌≡◌, inl, inr, ℕ, Bool, true, false, cond, eqb, List, [], ◌∷◌, ◌++◌, map, Some, None, refl, sym, ap, subst, ◌∙◌, eq-eqb, ne_eqb, flat_map, AllByRecursion, option_or, map-append, flat_map-append}
use Rattle.session_history.proofs.Prelude.{ClientSession, Transaction, Op, Read, Write, Has, Apart, Has-append_front, Has-append_back, Has-append_cases, Apart-not_both, Apart-append, is_unknown, txns_in, ops_in, written, each_weaker}
use Rattle.session_history.proofs.Prelude.{txn_ops, written-append, WriteAt, writes_of, unknown_writes_of, unknown_writes, last_with}
use Rattle.session_history.proofs.Unknowns.{writes_in}

-- the one has elements of the other, and none twice where the other has none twice
pub record Thinner (xs ys : List ℕ) : Type 0 where
  pub apart : Apart ys → Apart xs
  pub has : (n : ℕ) → Has n xs → Has n ys

Apart_parts : (a b : List ℕ) → Apart (a ++ b) → Apart a × Apart b
Apart_parts [] b h = (tt, h)
Apart_parts (x ∷ a) b h = let p = Apart_parts a b h.1 in ((λ k. h.0 (Has-append_front x a b k), p.0), p.1)

thinner_itself : (xs : List ℕ) → Thinner xs xs
thinner_itself xs = record { apart = λ h. h; has = λ n h. h }

thinner_none : (xs : List ℕ) → Thinner [] xs
thinner_none xs = record { apart = λ h. tt; has = λ n h. absurd h }

thinner_both : (a b c d : List ℕ) → Thinner a c → Thinner b d → Thinner (a ++ b) (c ++ d)
thinner_both a b c d h k = record {
  apart = λ apart.
      let p = Apart_parts c d apart in
      Apart-append a b (h.apart p.0) (k.apart p.1) (λ n i j. Apart-not_both n c d apart (h.has n i) (k.has n j));
  has = λ n i. elim (Has-append_cases n a b i) [
    | inl j ↦ Has-append_front n c d (h.has n j)
    | inr j ↦ Has-append_back n c d (k.has n j)
  ];
}

pub identities : List WriteAt → List ℕ
identities xs = map (λ x. x.0) xs

identities-append : (a b : List WriteAt) → identities (a ++ b) ≡ identities a ++ identities b
unfolding identities
identities-append a b = map-append (λ (x : WriteAt). x.0) a b

of_ops : (s : ClientSession) (ops : List Op) → identities (writes_of s ops) ≡ written ops
unfolding identities
of_ops s [] = refl
of_ops s (Read key wid ∷ ops) = of_ops s ops
of_ops s (Write key wid ∷ ops) = ap (λ l. wid ∷ l) (of_ops s ops)

thinner_txns : (s : ClientSession) (ts : List Transaction) → Thinner (identities (unknown_writes_of s ts)) (written (flat_map txn_ops ts))
unfolding identities
thinner_txns s [] = thinner_none []
thinner_txns s (t ∷ ts) =
    let rest = unknown_writes_of s ts in
    let P : List ℕ → Type 0 = λ xs. Thinner xs (written (t.ops ++ flat_map txn_ops ts)) in
    let Q : List ℕ → Type 0 = λ ys. Thinner (identities (writes_in s t) ++ identities rest) ys in
    subst P (sym (identities-append (writes_in s t) rest)) (subst Q (sym (written-append t.ops (flat_map txn_ops ts)))
    (thinner_both (identities (writes_in s t)) (identities rest) (written t.ops) (written (flat_map txn_ops ts)) (own (is_unknown t)) (thinner_txns s ts)))
  where
    own : (b : Bool) → Thinner (identities (cond b (writes_of s t.ops) [])) (written t.ops)
    own true = let R : List ℕ → Type 0 = λ xs. Thinner xs (written t.ops) in subst R (sym (of_ops s t.ops)) (thinner_itself (written t.ops))
    own false = thinner_none (written t.ops)

pub thinner_all : (ss : List ClientSession) → Thinner (identities (unknown_writes ss)) (written (ops_in ss))
unfolding identities
thinner_all [] = thinner_none []
thinner_all (s ∷ ss) =
    let own = unknown_writes_of s s.txns in
    let rest = unknown_writes ss in
    let P : List ℕ → Type 0 = λ xs. Thinner xs (written (ops_in (s ∷ ss))) in
    let Q : List ℕ → Type 0 = λ ys. Thinner (identities own ++ identities rest) ys in
    subst P (sym (identities-append own rest)) (subst Q (sym (ap written (flat_map-append txn_ops s.txns (txns_in ss)) ∙ written-append (flat_map txn_ops s.txns) (ops_in ss)))
    (thinner_both (identities own) (identities rest) (written (flat_map txn_ops s.txns)) (written (ops_in ss)) (thinner_txns s s.txns) (thinner_all ss)))

none_last : (wid : ℕ) (xs : List WriteAt) → (Has wid (identities xs) → ⊥) → last_with wid xs ≡ None
unfolding identities
none_last wid [] h = refl
none_last wid (x ∷ xs) h =
    ap (λ o. option_or o (cond (eqb x.0 wid) (Some x.1) None)) (none_last wid xs (λ k. h (inr k)))
    ∙ ap (λ b. cond b (Some x.1) None) (ne_eqb x.0 wid (λ e. h (inl e)))

-- where no two have one identity, each is the last of its own
pub each_last : (xs : List WriteAt) → Apart (identities xs) → AllByRecursion (λ x. last_with x.0 xs ≡ Some x.1) xs
unfolding identities
each_last [] h = tt
each_last (x ∷ xs) h = (
  ap (λ o. option_or o (cond (eqb x.0 x.0) (Some x.1) None)) (none_last x.0 xs h.0) ∙ ap (λ b. cond b (Some x.1) None) (eq-eqb x.0 x.0 refl),
  each_weaker _ _ (λ y e. ap (λ o. option_or o (cond (eqb x.0 y.0) (Some x.1) None)) e) xs (each_last xs h.1),
)
