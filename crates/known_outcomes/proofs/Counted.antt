-- How many outcomes are unknown.
use Rattle.std.proofs.Common.{◌≡◌, ℕ, ◌+◌, ◌<◌, Bool, cond, List, [], ◌∷◌, length, map, get_or, count_by, sym, ap, arith, zero, suc, subst}
use Rattle.std.specs.List.{AllByRecursion}
use Rattle.std.proofs.lemmas.List.Sums.{sum_by-cons}
use Rattle.session_log.specs.Text.{Transaction, IsLegal, IsKnownBeforeLast, view, view_txn}
use Rattle.session_log.specs.declared.session.Session.{Session}
use Rattle.session_log.specs.declared.session.Txn.{Txn}
use Rattle.log_definitions.specs.Unknown.{is_unknown}

one_if : Bool → ℕ
one_if b = cond b 1 0

more : (t : Transaction) (ts : List Transaction) → count_by is_unknown (t ∷ ts) ≡ one_if (is_unknown t) + count_by is_unknown ts
unfolding one_if
more t ts = sum_by-cons (λ u. cond (is_unknown u) 1 0) t ts

-- each outcome but the last is known
pub last_counted : (xs : List Txn) (k : ℕ) (t : Txn) → k + 1 ≡ length xs → t ≡ get_or xs k t → IsKnownBeforeLast (map view_txn xs) → count_by is_unknown (map view_txn xs) ≡ cond (is_unknown (view_txn t)) 1 0
unfolding one_if
last_counted [] k t e at h = absurd (omega (arith, e))
last_counted (x ∷ []) zero t e at h = omega (arith, more (view_txn x) [], ap (λ u. one_if (is_unknown (view_txn u))) at)
last_counted (x ∷ []) (suc k) t e at h = absurd (omega (arith, e))
last_counted (x ∷ y ∷ xs) zero t e at h = absurd (omega (arith, e))
last_counted (x ∷ y ∷ xs) (suc k) t e at h =
    omega (arith, more (view_txn x) (map view_txn (y ∷ xs)), ap one_if h.0, last_counted (y ∷ xs) k t (omega (arith, e)) at h.1)

pub each_known : (xs : List Session) (i : ℕ) (x : Session) → i < length xs → x ≡ get_or xs i x → AllByRecursion IsLegal (map view xs) → IsKnownBeforeLast (view x).txns
each_known xs i x lt at h = go xs i lt at h
  where
    go : (ys : List Session) (j : ℕ) → j < length ys → x ≡ get_or ys j x → AllByRecursion IsLegal (map view ys) → IsKnownBeforeLast (view x).txns
    go [] j lt at h = absurd (omega (arith, lt))
    go (y ∷ ys) zero lt at h = let P : Session → Type 0 = λ s. IsKnownBeforeLast (view s).txns in subst P (sym at) h.0.known
    go (y ∷ ys) (suc j) lt at h = go ys j (omega (arith, lt)) at h.1
