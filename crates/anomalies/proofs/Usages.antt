-- What a transaction's operations did to a key, one operation further.
use Rattle.anomalies.proofs.Prelude.{◌≡◌, ℕ, Bool, true, false, eqb, cond, not, ◌&&◌, ◌||◌, List, [], ◌∷◌, ◌++◌, Option, None, Some, refl, sym, ap, ◌∙◌, eq-eqb, arith, list_any, option_or, cond-false, and_left, not-false, eqb-true, Event}
use Rattle.anomalies.proofs.Prelude.{Read, Write, ReadAnomaly, Split, Log, last_write, is_other_read, external_anomaly, read_anomaly, event_anomaly, Usage, event_key, split_anomaly, own_write, names_other, IsUsage, used_after}
use Rattle.std.specs.Bool.{then_some}
use Rattle.std.proofs.lemmas.List.Folds.{list_any-append}
use Rattle.serializability.proofs.Replays.{last_write-append}
use Rattle.anomalies.specs.declared.reads.Usage.TheVariants as usage
use Rattle.anomaly_laws.proofs.Clean.{not_first}
use Rattle.session_history.proofs.KeyRows.{last_write_written, last_write_read}

-- ---- the anomaly of a read
or_none : {X : Type 0} (o : Option X) → option_or o None ≡ o
or_none None = refl
or_none (Some x) = refl

split_is : (x w : ℕ) (before : List Event) (used : Option Usage) → IsUsage x before used → own_write used ≡ None → split_anomaly x w before ≡ cond (names_other used w) (Some Split) None
split_is x w before used h none = ap (λ b. cond b (Some Split) None) (h.reads none w)

some_where : (b : Bool) → cond b (Some Split) None ≡ then_some b Split
some_where true = refl
some_where false = refl

pub first_read : (log : Log) (v x w : ℕ) (before behind : List Event) (r : Option ReadAnomaly) → IsUsage x before None → (last_write x before ≡ None → external_anomaly log v before x w behind ≡ option_or r (split_anomaly x w before)) → r ≡ read_anomaly log v before x w behind (last_write x before)
first_read log v x w before behind r h e =
    sym (ap (read_anomaly log v before x w behind) h.own ∙ e h.own ∙ ap (option_or r) (split_is x w before None h refl) ∙ or_none r)

pub further_read : (log : Log) (v x w first : ℕ) (before behind : List Event) (r : Option ReadAnomaly) → IsUsage x before (Some (usage.Read first)) → (last_write x before ≡ None → external_anomaly log v before x w behind ≡ option_or r (split_anomaly x w before)) → option_or r (then_some (not (eqb first w)) Split) ≡ read_anomaly log v before x w behind (last_write x before)
further_read log v x w first before behind r h e = grind (arith, split_is, some_where)

-- ---- one operation on the key further
some_is_none : {X : Type 0} (x : X) {P : Type 0} → Some x ≡ None → P
some_is_none x e = cc

not_split : (log : Log) (v x w : ℕ) (before behind : List Event) → external_anomaly log v before x w behind ≡ None → list_any (is_other_read x w) before ≡ false
not_split log v x w before behind e = grind (arith, not_first)

or_itself : (a b : Bool) → a ≡ b → (a || (b || false)) ≡ b
or_itself a true e = rw e refl
or_itself a false e = rw e refl

only_there : (b : Bool) → (false || (b || false)) ≡ b
only_there true = refl
only_there false = refl

here_other : (x w y : ℕ) → is_other_read x y (Read x w) ≡ not (eqb w y)
here_other x w y = ap (λ t. t && not (eqb w y)) (eq-eqb x x refl)

usage_read : (x w : ℕ) (before : List Event) → last_write x before ≡ None → ((y : ℕ) → (list_any (is_other_read x y) before || (not (eqb w y) || false)) ≡ not (eqb w y)) → IsUsage x (before ++ Read x w ∷ []) (Some (usage.Read w))
usage_read x w before none same = grind (arith, last_write_read, list_any-append, here_other)

pub usage_more : (log : Log) (v : ℕ) (before behind : List Event) (e : Event) (used : Option Usage) → IsUsage (event_key e) before used → event_anomaly log v before e behind ≡ None → IsUsage (event_key e) (before ++ e ∷ []) (Some (used_after used e))
usage_more log v before behind (Write x w) used h none = record {
  own = last_write_written x w before;
  reads = λ bad y. some_is_none w bad;
}
usage_more log v before behind (Read x w) None h none =
    usage_read x w before h.own (λ y. ap (λ b. b || (not (eqb w y) || false)) (h.reads refl y) ∙ only_there (not (eqb w y)))
usage_more log v before behind (Read x w) (Some (usage.Read first)) h none =
    let external : external_anomaly log v before x w behind ≡ None = sym (ap (read_anomaly log v before x w behind) h.own) ∙ none in
    let same : not (eqb first w) ≡ false = sym (h.reads refl w) ∙ not_split log v x w before behind external in
    let named : first ≡ w = eqb-true first w (not-false (eqb first w) same) in
    usage_read x w before h.own (λ y. or_itself (list_any (is_other_read x y) before) (not (eqb w y)) (h.reads refl y ∙ ap (λ k. not (eqb k y)) named))
usage_more log v before behind (Read x w) (Some (usage.Wrote own)) h none = record {
  own = last_write_read x x w before ∙ h.own;
  reads = λ bad y. some_is_none own bad;
}

-- ---- one operation on another key further
other_write : (x : ℕ) (before : List Event) (e : Event) → eqb (event_key e) x ≡ false → last_write x (before ++ e ∷ []) ≡ last_write x before
other_write x before v2 ne = grind (arith, last_write_read, last_write-append, cond-false)

other_event : (x y : ℕ) (e : Event) → eqb (event_key e) x ≡ false → is_other_read x y e ≡ false
other_event x y (Read k w) ne = and_left (eqb k x) (not (eqb w y)) ne
other_event x y (Write k w) ne = refl

or_neither : (a : Bool) → (a || (false || false)) ≡ a
or_neither true = refl
or_neither false = refl

pub usage_other : (x : ℕ) (before : List Event) (e : Event) (used : Option Usage) → (event_key e ≡ x → ⊥) → IsUsage x before used → IsUsage x (before ++ e ∷ []) used
usage_other x before e used ne h = grind (arith, other_write, list_any-append, other_event, or_neither)
