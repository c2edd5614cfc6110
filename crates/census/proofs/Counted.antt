-- What a table says of how many faults each key has.
use Rattle.census.proofs.Prelude.{◌≡◌, ℕ, ◌+◌, ◌<◌, Bool, true, false, cond, ◌&&◌, ◌||◌, eqb, List, [], ◌∷◌, map, Option, None, Some, refl, sym, ap, subst, ◌∙◌, inl, inr, unwrap_or, nat_cmp, eq-eqb, arith, Result, Ok, Err, OnOk, OnErr}
use Rattle.census.proofs.Prelude.{nat_lt, count_by, is_some, AllByRecursion, filter, list_any, IsStrictlySortedBy, keys_of, lookup, option_map_or, ForSome, is_eq, bytes_eq, slice_cmp, Less, BTreeMap, IsUnchanged, UpdatesBy, get_by, is_at}
use Rattle.census.proofs.Prelude.{cases_Bool, false≢true, and_parts, eqb-true, or_left, or_right, sum_by-cons, sorted_head, is_eq-slice_cmp, bytes_eq-Decides, bytes_flip, and_first, ClientSession, Transaction, Txn, Op, Read, Write}
use Rattle.census.proofs.Prelude.{ReadAnomaly, KeyState, States, Updates, committed_in, faults_in, last_write, first_read, updates, loses_by, is_lost, entry_cmp, state_of, untouched, reads_as, view_fault, view_ref, AreBehind, KnowsUpdates}
use Rattle.census.proofs.Prelude.{count_in, is_lost_with, loses_as, faults_of, loses_at}
use Rattle.census.proofs.Held.{ref_cmp}
use Rattle.census.proofs.Along.{written_in, read_in}
use Rattle.census.proofs.Behind.{read_there}
use Rattle.census.proofs.Totals.{count_mapped}
use denote.Ref.{Bor}

abbrev pub CountTable : Type 0
CountTable = BTreeMap (Bor (List ℕ)) ℕ

abbrev ref : List ℕ → Bor (List ℕ)
ref key = record { ref_ptr = (0, 0); now = key }

got : (old new : CountTable) (key : List ℕ) (n : ℕ) → UpdatesBy ref_cmp (entry_cmp key) old new (Some n) → (k : List ℕ) → get_by (entry_cmp k) new ≡ cond (bytes_eq k key) (Some n) (get_by (entry_cmp k) old)
got old new key n h k = h.0 (ref k) ∙ ap (λ b. cond b (Some n) (get_by (entry_cmp k) old)) (is_eq-slice_cmp key k ∙ bytes_flip key k)

-- one fault of a key more
pub counted_at : (old new : CountTable) (key : List ℕ) (n : ℕ) → n ≡ count_in old key + 1 → UpdatesBy ref_cmp (entry_cmp key) old new (Some n)
    → (k : List ℕ) → count_in new k ≡ count_in old k + cond (bytes_eq k key) 1 0
counted_at old new key n is h k = ap (λ (o : Option ℕ). unwrap_or o 0) (got old new key n h k) ∙ both (bytes_eq k key) (bytes_eq-Decides k key).0
  where
    both : (b : Bool) → (b ≡ true → k ≡ key) → unwrap_or (cond b (Some n) (get_by (entry_cmp k) old)) 0 ≡ count_in old k + cond b 1 0
    both true at = is ∙ ap (λ l. count_in old l + 1) (sym (at refl))
    both false at = omega arith

-- no key that is in the table has none
pub positive_still : (old new : CountTable) (key : List ℕ) (n : ℕ) → 0 < n → UpdatesBy ref_cmp (entry_cmp key) old new (Some n)
    → ((k : List ℕ) → ForSome (get_by (entry_cmp k) old) (λ m. 0 < m)) → (k : List ℕ) → ForSome (get_by (entry_cmp k) new) (λ m. 0 < m)
positive_still old new key n low h before k = λ m e. both (bytes_eq k key) m (sym (got old new key n h k) ∙ e)
  where
    both : (b : Bool) (m : ℕ) → cond b (Some n) (get_by (entry_cmp k) old) ≡ Some m → 0 < m
    both true m e = subst (λ x. 0 < x) (some e) low
      where
        some : Some n ≡ Some m → n ≡ m
        some is = cc
    both false m e = before k m e

pub positive_after : {X E : Type 0} (result : Result X E) (old new : CountTable) (key : List ℕ) (n : ℕ) → 0 < n → OnOk result (UpdatesBy ref_cmp (entry_cmp key) old new (Some n)) → OnErr result (IsUnchanged old new)
    → ((k : List ℕ) → ForSome (get_by (entry_cmp k) old) (λ m. 0 < m)) → (k : List ℕ) → ForSome (get_by (entry_cmp k) new) (λ m. 0 < m)
positive_after (Ok x) old new key n low h same before k = positive_still old new key n low h before k
positive_after (Err x) old new key n low h same before k = λ m e. before k m (ap (lookup (is_at (entry_cmp k))) (sym same) ∙ e)

-- ---- the keys of one transaction
abbrev pub Done : Type 0
Done = List (Bor (List ℕ) × KeyState)

-- it is in a lost update of the key, by what it did with each
abbrev pub lost_at : Updates → List ℕ → Done → ℕ
lost_at known k done = cond (option_map_or (is_lost_with known k) (lookup (is_at (entry_cmp k)) done) false) 1 0

none_behind : {X : Type 0} (k : List ℕ) (es : List (Bor (List ℕ) × X)) → AllByRecursion (λ (y : Bor (List ℕ)). slice_cmp nat_cmp k y.now ≡ Less) (keys_of es) → lookup (is_at (entry_cmp k)) es ≡ None
none_behind k [] less = refl
none_behind k (e ∷ es) less = ap (λ o. cond (is_eq o) (Some e.1) (lookup (is_at (entry_cmp k)) es)) less.0 ∙ none_behind k es less.1

pub lost_more : (known : Updates) (k : List ℕ) (key : Bor (List ℕ)) (state : KeyState) (rest : Done) (n more all : ℕ) → IsStrictlySortedBy ref_cmp (keys_of ((key, state) ∷ rest))
    → more ≡ n + cond (bytes_eq k key.now && is_lost_with known key.now state) 1 0 → n + lost_at known k ((key, state) ∷ rest) ≡ all → more + lost_at known k rest ≡ all
lost_more known k key state rest n more all sorted here before = elim (cases_Bool (bytes_eq k key.now)) [
  | inl e ↦
      let same = (bytes_eq-Decides k key.now).0 e in
      let head : lost_at known k ((key, state) ∷ rest) ≡ cond (is_lost_with known k state) 1 0 = ap (λ b. cond (option_map_or (is_lost_with known k) (cond b (Some state) (lookup (is_at (entry_cmp k)) rest)) false) 1 0) (is_eq-slice_cmp k key.now ∙ e) in
      let none : lost_at known k rest ≡ 0 = ap (λ o. cond (option_map_or (is_lost_with known k) o false) 1 0) (none_behind k rest (subst (λ l. AllByRecursion (λ (y : Bor (List ℕ)). slice_cmp nat_cmp l y.now ≡ Less) (keys_of rest)) (sym same) (sorted_head ref_cmp key (keys_of rest) sorted))) in
      let added : more ≡ n + cond (is_lost_with known k state) 1 0 = here ∙ ap (λ b. n + cond (b && is_lost_with known key.now state) 1 0) e ∙ ap (λ l. n + cond (is_lost_with known l state) 1 0) (sym same) in
      omega (arith, head, none, added, before)
  | inr e ↦
      let tail : lost_at known k ((key, state) ∷ rest) ≡ lost_at known k rest = ap (λ b. cond (option_map_or (is_lost_with known k) (cond b (Some state) (lookup (is_at (entry_cmp k)) rest)) false) 1 0) (is_eq-slice_cmp k key.now ∙ e) in
      let added : more ≡ n + 0 = here ∙ ap (λ b. n + cond (b && is_lost_with known key.now state) 1 0) e in
      omega (arith, tail, added, before)
]

or_untouched : (f : KeyState → Bool) (o : Option KeyState) → f untouched ≡ false → option_map_or f o false ≡ f (unwrap_or o untouched)
or_untouched f None e = sym e
or_untouched f (Some s) e = refl

pub lost_is : (ts : List Transaction) (t : Transaction) (known : Updates) (states : States) → KnowsUpdates ts known → AreBehind t.ops states → (k : List ℕ) → lost_at known k states.table.entries ≡ cond (loses_at ts k t) 1 0
lost_is ts t known states knows behind k =
    ap (λ b. cond b 1 0) (or_untouched (is_lost_with known k) (get_by (entry_cmp k) states.table) refl)
    ∙ ap (λ r. cond (loses_as known k r (state_of states k).written) 1 0) (ap (λ s. s.read) (behind.each k) ∙ read_in k t.ops)
    ∙ ap (λ w. cond (loses_as known k (first_read k t.ops) w) 1 0) (ap (λ s. s.written) (behind.each k) ∙ written_in k t.ops)
    ∙ ap (λ b. cond b 1 0) (by_first (first_read k t.ops) refl)
  where
    by_first : (r : Option ℕ) → first_read k t.ops ≡ r → loses_as known k r (last_write k t.ops) ≡ option_map_or (λ wid. updates k wid t && nat_lt 1 (count_by (updates k wid) ts)) r false
    by_first None e = refl
    by_first (Some wid) e =
        ap (λ b. is_some (last_write k t.ops) && b) (knows.again k wid)
        ∙ sym (ap (λ b. (b && is_some (last_write k t.ops)) && nat_lt 1 (count_by (updates k wid) ts)) (ap (λ (o : Option ℕ). option_map_or (λ r. eqb r wid) o false) e ∙ eq-eqb wid wid refl))

-- ---- of all transactions
lost_by : (ts : List Transaction) (t : Transaction) (k : List ℕ) (w : ℕ) → (updates k w t && nat_lt 1 (count_by (updates k w) ts)) ≡ true → (ops : List Op) → reads_as k w ops ≡ true → list_any (loses_by ts t) ops ≡ true
lost_by ts t k w e [] h = absurd (false≢true h)
lost_by ts t k w e (Write key v ∷ ops) h = lost_by ts t k w e ops h
lost_by ts t k w e (Read key v ∷ ops) h = elim (cases_Bool (bytes_eq k key && eqb w v)) [
  | inl is ↦
      let both = and_parts (bytes_eq k key) (eqb w v) is in
      let here : (updates key v t && nat_lt 1 (count_by (updates key v) ts)) ≡ true =
      ap (λ l. updates l v t && nat_lt 1 (count_by (updates l v) ts)) (sym ((bytes_eq-Decides k key).0 both.0))
      ∙ ap (λ x. updates k x t && nat_lt 1 (count_by (updates k x) ts)) (sym (eqb-true w v both.1)) ∙ e in
      or_left (updates key v t && nat_lt 1 (count_by (updates key v) ts)) (list_any (loses_by ts t) ops) here
  | inr not ↦ or_right (updates key v t && nat_lt 1 (count_by (updates key v) ts)) (list_any (loses_by ts t) ops) (lost_by ts t k w e ops (ap (λ b. b || reads_as k w ops) (sym not) ∙ h))
]

loses_then_lost : (ts : List Transaction) (k : List ℕ) (t : Transaction) → loses_at ts k t ≡ true → is_lost ts t ≡ true
loses_then_lost ts k t h = by_first (first_read k t.ops) refl h
  where
    by_first : (r : Option ℕ) → first_read k t.ops ≡ r → option_map_or (λ wid. updates k wid t && nat_lt 1 (count_by (updates k wid) ts)) r false ≡ true → is_lost ts t ≡ true
    by_first None e is = absurd (false≢true is)
    by_first (Some w) e is =
        let read = and_first (option_map_or (λ r. eqb r w) (first_read k t.ops) false) (is_some (last_write k t.ops)) (and_first (updates k w t) (nat_lt 1 (count_by (updates k w) ts)) is) in
        lost_by ts t k w is t.ops (read_there k w t.ops read)

count_kept : {X : Type 0} (p q : X → Bool) → ((x : X) → p x ≡ true → q x ≡ true) → (xs : List X) → count_by p (filter q xs) ≡ count_by p xs
count_kept p q f [] = refl
count_kept p q f (x ∷ xs) = at (q x) refl (count_kept p q f xs) ∙ sym (sum_by-cons (λ y. cond (p y) 1 0) x xs)
  where
    fails : (a b : Bool) → (a ≡ true → b ≡ true) → b ≡ false → a ≡ false
    fails true b g e = absurd (false≢true (sym e ∙ g refl))
    fails false b g e = refl

    at : (b : Bool) → q x ≡ b → count_by p (filter q xs) ≡ count_by p xs → count_by p (cond b (x ∷ filter q xs) (filter q xs)) ≡ cond (p x) 1 0 + count_by p xs
    at true e rest = sum_by-cons (λ y. cond (p y) 1 0) x (filter q xs) ∙ ap (λ n. cond (p x) 1 0 + n) rest
    at false e rest = let none : p x ≡ false = fails (p x) (q x) (f x) e in rw none (omega (arith, rest))

pub all_counted : (ss : List ClientSession) (faults : List (ReadAnomaly × Bor (List ℕ))) (lost : List (Bor Txn)) (key : List ℕ) (n : ℕ) → map view_fault faults ≡ faults_in ss → map view_ref lost ≡ filter (is_lost (committed_in ss)) (committed_in ss)
    → n ≡ count_by (λ f. bytes_eq key f.1.now) faults + count_by (loses_at (committed_in ss) key) (map view_ref lost) → n ≡ faults_of ss key
unfolding faults_of
all_counted ss faults lost key n told in_lost e =
    let ts = committed_in ss in
    let named : ReadAnomaly × List ℕ → Bool = λ f. bytes_eq key f.1 in
    e
    ∙ ap (λ m. m + count_by (loses_at ts key) (map view_ref lost)) (sym (count_mapped named view_fault faults) ∙ ap (count_by named) told)
    ∙ ap (λ l. count_by named (faults_in ss) + count_by (loses_at ts key) l) in_lost
    ∙ ap (λ m. count_by named (faults_in ss) + m) (count_kept (loses_at ts key) (is_lost ts) (loses_then_lost ts key) ts)
