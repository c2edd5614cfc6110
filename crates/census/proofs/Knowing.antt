-- What tables know of transactions, one more at a time.
use Rattle.census.proofs.Prelude.{◌≡◌, ℕ, Bool, true, false, cond, ◌&&◌, ◌||◌, List, [], ◌∷◌, ◌++◌, append-nil, refl, sym, ap, ◌∙◌, not, nat_lt, count_by, flat_map, filter, list_any, list_any-append, flat_map-append, filter-append}
use Rattle.census.proofs.Prelude.{Transaction, Op, Read, Write, is_committed, reads_write, Writes, Updates, States, writes_as, passes_over, updates, loses_by, is_lost, has_version, loses_among, AreBehind, KnowsWrites, KnowsUpdates}
use Rattle.census.proofs.Truth.{or_none, counted, some_more, many_more, any_same}
use Rattle.census.proofs.Behind.{updates_are}

abbrev ops_of : Transaction → List Op
ops_of t = t.ops

joined : (before : List Transaction) (t : Transaction) → flat_map ops_of (before ++ t ∷ []) ≡ flat_map ops_of before ++ t.ops
joined before t = flat_map-append ops_of before (t ∷ []) ∙ ap (λ l. flat_map ops_of before ++ l) (append-nil t.ops)

any_more : {X : Type 0} (p : X → Bool) (xs : List X) (x : X) → list_any p (xs ++ x ∷ []) ≡ (list_any p xs || p x)
any_more p xs x = list_any-append p xs (x ∷ []) ∙ ap (λ b. list_any p xs || b) (sym (or_none (p x)))

pub writes_more : (before : List Transaction) (t : Transaction) (old new : Writes) → KnowsWrites before old
    → ((k : List ℕ) (w : ℕ) → has_version new.written k w ≡ (has_version old.written k w || writes_as k w t.ops))
    → ((k : List ℕ) (w : ℕ) → has_version new.aborted k w ≡ (has_version old.aborted k w || (not (is_committed t) && writes_as k w t.ops)))
    → ((k : List ℕ) (w : ℕ) → has_version new.passed k w ≡ (has_version old.passed k w || (is_committed t && passes_over k w t.ops)))
    → KnowsWrites (before ++ t ∷ []) new
writes_more before t old new known written aborted passed = record {
  written = λ k w.
      written k w
      ∙ ap (λ b. b || writes_as k w t.ops) (known.written k w)
      ∙ sym (list_any-append (reads_write (Read k w)) (flat_map ops_of before) t.ops)
      ∙ ap (writes_as k w) (sym (joined before t));
  aborted = λ k w.
      aborted k w
      ∙ ap (λ b. b || (not (is_committed t) && writes_as k w t.ops)) (known.aborted k w)
      ∙ sym (any_more (λ u. not (is_committed u) && writes_as k w u.ops) before t);
  passed = λ k w.
      passed k w
      ∙ ap (λ b. b || (is_committed t && passes_over k w t.ops)) (known.passed k w)
      ∙ sym (any_more (λ u. is_committed u && passes_over k w u.ops) before t);
}

pub updates_more : (before : List Transaction) (t : Transaction) (old new : Updates) → KnowsUpdates before old
    → ((k : List ℕ) (w : ℕ) → has_version new.once k w ≡ (has_version old.once k w || updates k w t))
    → ((k : List ℕ) (w : ℕ) → has_version new.again k w ≡ (has_version old.again k w || (updates k w t && has_version old.once k w)))
    → KnowsUpdates (before ++ t ∷ []) new
updates_more before t old new known once again = record {
  once = λ k w.
      once k w
      ∙ ap (λ b. b || updates k w t) (known.once k w)
      ∙ some_more (count_by (updates k w) before) (updates k w t)
      ∙ ap (nat_lt 0) (sym (counted (updates k w) before t));
  again = λ k w.
      again k w
      ∙ ap (λ b. b || (updates k w t && has_version old.once k w)) (known.again k w)
      ∙ ap (λ b. nat_lt 1 (count_by (updates k w) before) || (updates k w t && b)) (known.once k w)
      ∙ many_more (count_by (updates k w) before) (updates k w t)
      ∙ ap (nat_lt 1) (sym (counted (updates k w) before t));
}

-- ---- the committed ones
pub kept_more : (before : List Transaction) (t : Transaction) → is_committed t ≡ true → filter is_committed (before ++ t ∷ []) ≡ filter is_committed before ++ t ∷ []
kept_more before t e = filter-append is_committed before (t ∷ []) ∙ ap (λ b. filter is_committed before ++ cond b (t ∷ []) []) e

pub kept_same : (before : List Transaction) (t : Transaction) → is_committed t ≡ false → filter is_committed (before ++ t ∷ []) ≡ filter is_committed before
kept_same before t e = filter-append is_committed before (t ∷ []) ∙ ap (λ b. filter is_committed before ++ cond b (t ∷ []) []) e ∙ append-nil (filter is_committed before)

-- ---- lost updates
pub loses_same : (ts : List Transaction) (t : Transaction) (known : Updates) (states : States) → KnowsUpdates ts known → AreBehind t.ops states → list_any (loses_among known states) t.ops ≡ is_lost ts t
loses_same ts t known states knows behind = any_same (loses_among known states) (loses_by ts t) each t.ops
  where
    each : (op : Op) → loses_among known states op ≡ loses_by ts t op
    each (Read key wid) = ap (λ b. b && has_version known.again key wid) (updates_are t.ops states behind key wid) ∙ ap (λ b. updates key wid t && b) (knows.again key wid)
    each (Write key wid) = refl
