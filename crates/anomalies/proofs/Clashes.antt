-- The least clash among the writers of a key, one writer further.
use Rattle.anomalies.proofs.Prelude.{◌≡◌, ℕ, zero, suc, ◌+◌, ◌<◌, ◌≤◌, Bool, true, false, eqb, cond, ◌&&◌, List, [], ◌∷◌, ◌++◌, length, get_or, Option, None, Some, refl, sym, ap, ◌∙◌, subst, inl, inr, arith, eq-eqb, ne_eqb, map}
use Rattle.anomalies.proofs.Prelude.{option_and_then, filter, flat_map, range_with_len, option_map, option_map_or, option_or, cases_eq, cases_lt, cond-true, cond-false, lt-ltb, le-ltb, append-nil, get_or_default, Anomaly, Log, committed}
use Rattle.anomalies.proofs.Prelude.{source, first_some, updates, lost_update, Clash, lost_updates_of, lost_by, readers_from, first_of, first_two, updater_of, AreOfKeysBelow, AreFirst, clash_from, clash_with, lesser, IsLeastClash}
use Rattle.anomalies.proofs.Prelude.{source_within, first-append}
use Rattle.std.proofs.lemmas.List.Elements.{filter-append}
use Rattle.serializability.specs.Pairs.{pairs_of}
use Rattle.serializability.proofs.Serial.{some_cases}
use Rattle.session_history.specs.Tables.{writers_in}
use Rattle.anomalies.specs.declared.updates.Updater.{Updater}

-- ---- the readers from u, one node further
further : (log : Log) (x u v : ℕ) (nodes : List ℕ) (b : Bool) → option_map_or (λ s. eqb s u) (source log v x) false ≡ b → readers_from log x u (nodes ++ v ∷ []) ≡ readers_from log x u nodes ++ cond b (v ∷ []) []
further log x u v nodes b e = grind (arith, filter-append)

unread : (log : Log) (x u v : ℕ) (nodes : List ℕ) → source log v x ≡ None → readers_from log x u (nodes ++ v ∷ []) ≡ readers_from log x u nodes
unread log x u v nodes e = further log x u v nodes false (ap (λ o. option_map_or (λ s. eqb s u) o false) e) ∙ append-nil (readers_from log x u nodes)

elsewhere : (log : Log) (x u s v : ℕ) (nodes : List ℕ) → source log v x ≡ Some s → (s ≡ u → ⊥) → readers_from log x u (nodes ++ v ∷ []) ≡ readers_from log x u nodes
elsewhere log x u s v nodes e ne =
    further log x u v nodes false (ap (λ o. option_map_or (λ r. eqb r u) o false) e ∙ ne_eqb s u ne) ∙ append-nil (readers_from log x u nodes)

here : (log : Log) (x s v : ℕ) (nodes : List ℕ) → source log v x ≡ Some s → readers_from log x s (nodes ++ v ∷ []) ≡ readers_from log x s nodes ++ v ∷ []
here log x s v nodes e = further log x s v nodes true (ap (λ o. option_map_or (λ r. eqb r s) o false) e ∙ eq-eqb s s refl)

-- ---- the first two
two_wait : (l : List ℕ) (v : ℕ) → first_of l ≡ None → first_two (l ++ v ∷ []) ≡ first_two l
two_wait [] v e = refl
two_wait (a ∷ l) v e = cc

two_come : (l : List ℕ) (v f : ℕ) → first_of l ≡ Some f → first_two l ≡ None → first_two (l ++ v ∷ []) ≡ Some (f, v)
two_come v0 v f e n = grind arith

two_stay : (l : List ℕ) (v : ℕ) (p : ℕ × ℕ) → first_two l ≡ Some p → first_two (l ++ v ∷ []) ≡ Some p
two_stay [] v p e = cc
two_stay (a ∷ []) v p e = cc
two_stay (a ∷ (b ∷ l)) v p e = e

-- ---- the entries
pub below_written : (x : ℕ) (old new : List (Option Updater)) → old ≡ new → AreOfKeysBelow x new → AreOfKeysBelow x old
below_written x old new same h = let P : List (Option Updater) → Type 0 = λ l. AreOfKeysBelow x l in subst P (sym same) h

-- what is read at the place of node s, at any default
pub entry_is : (log : Log) (x s place : ℕ) (nodes : List ℕ) (updaters : List (Option Updater)) (d : Option Updater) (r : Option ℕ) → AreFirst log x nodes updaters → s < length updaters → place ≡ s → r ≡ updater_of x (get_or updaters place d) → first_of (readers_from log x s nodes) ≡ r
entry_is log x s place nodes updaters d r h lt same is = grind (arith, get_or_default)

-- ---- the clash of a further node
pub clash_unread : (log : Log) (x v : ℕ) (nodes : List ℕ) → source log v x ≡ None → clash_with log x nodes v ≡ None
clash_unread log x v nodes e = ap (option_and_then (clash_from log x nodes v)) e

pub clash_new : (log : Log) (x v s : ℕ) (nodes : List ℕ) → source log v x ≡ Some s → first_of (readers_from log x s nodes) ≡ None → clash_with log x nodes v ≡ None
clash_new log x v s nodes e first = grind arith

pub clash_known : (log : Log) (x v s f : ℕ) (nodes : List ℕ) → source log v x ≡ Some s → first_of (readers_from log x s nodes) ≡ Some f → clash_with log x nodes v ≡ Some (record { source = s; first = f; second = v })
clash_known log x v s f nodes e first = grind arith

-- ---- the least clash
lesser_none : (least : Option Clash) → lesser least None ≡ least
lesser_none None = refl
lesser_none (Some old) = refl

least_stays : (log : Log) (x : ℕ) (nodes more : List ℕ) (least : Option Clash) → ((u : ℕ) → first_two (readers_from log x u more) ≡ first_two (readers_from log x u nodes)) → IsLeastClash log x nodes least → IsLeastClash log x more least
least_stays log x nodes more v4 same h = grind arith

least_or_new : (log : Log) (x v s f : ℕ) (nodes : List ℕ) (least : Option Clash) → source log v x ≡ Some s → first_of (readers_from log x s nodes) ≡ Some f → IsLeastClash log x nodes least → IsLeastClash log x (nodes ++ v ∷ []) (lesser least (Some (record { source = s; first = f; second = v })))
least_or_new log x v s f nodes v6 e first h = grind (arith, source_within, here, two_come, elsewhere, cases_lt, lt-ltb, le-ltb, cases_eq, two_stay)

two_unmoved : (log : Log) (x v s : ℕ) (nodes : List ℕ) → source log v x ≡ Some s → first_of (readers_from log x s nodes) ≡ None → (u : ℕ) → first_two (readers_from log x u (nodes ++ v ∷ [])) ≡ first_two (readers_from log x u nodes)
two_unmoved log x v s nodes e first u = grind (arith, cases_eq, here, two_wait, elsewhere)

pub least_further : (log : Log) (x v : ℕ) (nodes : List ℕ) (least : Option Clash) → IsLeastClash log x nodes least → IsLeastClash log x (nodes ++ v ∷ []) (lesser least (clash_with log x nodes v))
least_further log x v nodes least h = grind (arith, some_cases, clash_unread, lesser_none, least_stays, unread, clash_new, two_unmoved, clash_known, least_or_new)

-- ---- the first lost update of a key
both_tests : {X : Type 0} (q : X → Bool) (x : X) (kept both : List X) (a b : Bool) → q x ≡ b → filter q kept ≡ both → filter q (cond a (x ∷ kept) kept) ≡ cond (b && a) (x ∷ both) both
both_tests q x kept both v4 v5 e h = grind (arith, cond-false, cond-true)

filter-filter : {X : Type 0} (p q : X → Bool) (xs : List X) → filter q (filter p xs) ≡ filter (λ x. q x && p x) xs
filter-filter p q [] = refl
filter-filter p q (x ∷ xs) = both_tests q x (filter p xs) (filter (λ x. q x && p x) xs) (p x) (q x) refl (filter-filter p q xs)

first_pair : (x u : ℕ) (l : List ℕ) → first_some (map (λ a. Some a) (map (lost_update x u) (pairs_of l))) ≡ option_map (lost_update x u) (first_two l)
first_pair x u [] = refl
first_pair x u (a ∷ []) = refl
first_pair x u (a ∷ (b ∷ l)) = refl

-- the lost updates of a key and a node read from
abbrev lost_from : Log → ℕ → ℕ → List Anomaly
lost_from log x u = map (lost_update x u) (pairs_of (filter (updates log x u) (committed log)))

lost_from-first : (log : Log) (x u : ℕ) → first_some (map (λ a. Some a) (lost_from log x u)) ≡ option_map (lost_update x u) (first_two (readers_from log x u (writers_in log x)))
lost_from-first log x u = grind (arith, first_pair, filter-filter)

none_among : {X : Type 0} (f : X → Option Anomaly) (G : ℕ → List X) (a n : ℕ) → ((u : ℕ) → first_some (map f (G u)) ≡ None) → first_some (map f (flat_map G (range_with_len a n))) ≡ None
none_among f G a zero h = refl
none_among f G a (suc n) h =
    let rest = flat_map G (range_with_len (a + 1) n) in
    first-append f (G a) rest ∙ ap (λ o. option_or o (first_some (map f rest))) (h a) ∙ none_among f G (a + 1) n h

first_among : {X : Type 0} (f : X → Option Anomaly) (G : ℕ → List X) (a n s : ℕ) (found : Anomaly) → a ≤ s → s < a + n → ((u : ℕ) → u < s → first_some (map f (G u)) ≡ None) → first_some (map f (G s)) ≡ Some found → first_some (map f (flat_map G (range_with_len a n))) ≡ Some found
first_among f G a zero s found lo hi none some = absurd (omega arith)
first_among f G a (suc n) s found lo hi none some =
    let rest = flat_map G (range_with_len (a + 1) n) in
    elim (cases_eq a s) [
      | inl same ↦
          first-append f (G a) rest
          ∙ ap (λ o. option_or o (first_some (map f rest))) (ap (λ k. first_some (map f (G k))) same ∙ some)
      | inr other ↦
          first-append f (G a) rest
          ∙ ap (λ o. option_or o (first_some (map f rest))) (none a (omega (arith, other)))
          ∙ first_among f G (a + 1) n s found (omega (arith, other)) (omega arith) none some
    ]

pub least_is_first : (log : Log) (x : ℕ) (least : Option Clash) → IsLeastClash log x (writers_in log x) least → first_some (map (λ a. Some a) (lost_updates_of log x)) ≡ option_map (lost_by x) least
least_is_first log x None h =
    none_among (λ (a : Anomaly). Some a) (lost_from log x) 0 (log.nodes + 1) (λ u. lost_from-first log x u ∙ ap (option_map (lost_update x u)) (h u))
least_is_first log x (Some clash) h =
    first_among (λ (a : Anomaly). Some a) (lost_from log x) 0 (log.nodes + 1) clash.source (lost_by x clash) (omega arith) (omega (arith, h.0))
    (λ u lt. lost_from-first log x u ∙ ap (option_map (lost_update x u)) (h.2 u lt))
    (lost_from-first log x clash.source ∙ ap (option_map (lost_update x clash.source)) h.1)
