-- What one operation adds.
use Rattle.splitting.proofs.Prelude.{◌≡◌, ℕ, true, false, ◌||◌, List, [], ◌∷◌, ◌++◌, map, refl, sym, ap, ◌∙◌, append_assoc, list_any, is_eq, nat_cmp, slice_cmp, bytes_eq, Op, Read, Write, is_in, snapshot_reads_behind, rest_behind, Locks}
use Rattle.splitting.proofs.Prelude.{first_writes_behind, take_lock, find_lock, lock_by, AreNamed, Lists, with_behind, lists_in, has, ComesTo, Names}
use Rattle.splitting.specs.declared.halves.Halves.{Halves}
use Rattle.splitting.proofs.Keys.{in_already, firsts_same}

pub lists : {a b c d e f g h : List Op} → a ≡ b → c ≡ d → e ≡ f → g ≡ h → let l : Lists = record { reads = a; takes = c; finds = e; rest = g } in let m : Lists = record { reads = b; takes = d; finds = f; rest = h } in l ≡ m
lists {a} {b} {c} {d} {e} {f} {g} {h} p q r s =
    let x : Lists = record { reads = a; takes = c; finds = e; rest = g } in
    ap (λ l. record x { reads = l }) p
    ∙ ap (λ l. record x { reads = b; takes = l }) q
    ∙ ap (λ l. record x { reads = b; takes = d; finds = l }) r
    ∙ ap (λ l. record x { reads = b; takes = d; finds = f; rest = l }) s

-- the lists go on as these do, where these keys were written too
goes_on : (names : Names) (last : ℕ) (ops left behind : List Op) (h n : Halves) (c : ComesTo names last ops h left) (before : List (List ℕ)) → ((key : List ℕ) → has n.written key ≡ is_in before key)
    → ((locks : Locks) → AreNamed locks names last ops → with_behind locks before (lists_in n) behind ≡ with_behind locks c.before (lists_in h) left) → ComesTo names last ops n behind
goes_on names last ops left behind h n c before written same = record {
  before = before;
  written = written;
  lists = λ locks named. (same locks named ∙ c.lists locks named);
}

-- ---- no operation yet
pub comes_first : (h : Halves) → h.written.keys ≡ [] → lists_in h ≡ record { reads = []; takes = []; finds = []; rest = [] } → (names : Names) (last : ℕ) (ops : List Op) → ComesTo names last ops h ops
comes_first h none is names last ops = record {
  before = [];
  written = λ key. ap (λ l. list_any (λ k. is_eq (slice_cmp nat_cmp key k.now)) l) none;
  lists = λ locks named. (let taken : locks.taken ≡ true = named.taken in ap (λ l. with_behind locks [] l ops) is ∙ rw taken refl);
}

-- ---- a read
pub read_behind : (names : Names) (last : ℕ) (ops behind : List Op) (h n : Halves) (key : List ℕ) (wid : ℕ) → has h.written key ≡ true → n.written ≡ h.written
    → lists_in n ≡ record (lists_in h) { rest = h.rest.items ++ Read key wid ∷ [] }
    → ComesTo names last ops h (Read key wid ∷ behind) → ComesTo names last ops n behind
read_behind names last ops behind h n key wid e same is c =
    goes_on names last ops (Read key wid ∷ behind) behind h n c c.before (λ k. ap (λ w. has w k) same ∙ c.written k) (λ locks named. ap (λ l. with_behind locks c.before l behind) is ∙ step locks)
  where
    found : is_in c.before key ≡ true
    found = sym (c.written key) ∙ e

    step : (locks : Locks) → with_behind locks c.before (record (lists_in h) { rest = h.rest.items ++ Read key wid ∷ [] }) behind ≡ with_behind locks c.before (lists_in h) (Read key wid ∷ behind)
    step locks = rw found (lists refl refl refl (append_assoc h.rest.items (Read key wid ∷ []) (rest_behind c.before behind)))

pub read_before : (names : Names) (last : ℕ) (ops behind : List Op) (h n : Halves) (key : List ℕ) (wid : ℕ) → has h.written key ≡ false → n.written ≡ h.written
    → lists_in n ≡ record (lists_in h) { reads = h.reads.items ++ Read key wid ∷ [] }
    → ComesTo names last ops h (Read key wid ∷ behind) → ComesTo names last ops n behind
read_before names last ops behind h n key wid e same is c =
    goes_on names last ops (Read key wid ∷ behind) behind h n c c.before (λ k. ap (λ w. has w k) same ∙ c.written k) (λ locks named. ap (λ l. with_behind locks c.before l behind) is ∙ step locks)
  where
    none : is_in c.before key ≡ false
    none = sym (c.written key) ∙ e

    step : (locks : Locks) → with_behind locks c.before (record (lists_in h) { reads = h.reads.items ++ Read key wid ∷ [] }) behind ≡ with_behind locks c.before (lists_in h) (Read key wid ∷ behind)
    step locks = rw none (lists (append_assoc h.reads.items (Read key wid ∷ []) (snapshot_reads_behind c.before behind)) refl refl refl)

-- ---- a write
more_written : (names : Names) (last : ℕ) (ops left : List Op) (h n : Halves) (key : List ℕ) (c : ComesTo names last ops h left) → ((k : List ℕ) → has n.written k ≡ (bytes_eq k key || has h.written k)) → (k : List ℕ) → has n.written k ≡ is_in (key ∷ c.before) k
more_written names last ops left h n key c more k = more k ∙ ap (λ b. bytes_eq k key || b) (c.written k)

-- of a key that was written before
pub write_behind : (names : Names) (last : ℕ) (ops behind : List Op) (h n : Halves) (key : List ℕ) (wid : ℕ) → has h.written key ≡ true → ((k : List ℕ) → has n.written k ≡ (bytes_eq k key || has h.written k))
    → lists_in n ≡ record (lists_in h) { rest = h.rest.items ++ Write key wid ∷ [] }
    → ComesTo names last ops h (Write key wid ∷ behind) → ComesTo names last ops n behind
write_behind names last ops behind h n key wid e more is c =
    goes_on names last ops (Write key wid ∷ behind) behind h n c (key ∷ c.before) (more_written names last ops (Write key wid ∷ behind) h n key c more) (λ locks named. ap (λ l. with_behind locks (key ∷ c.before) l behind) is ∙ step locks)
  where
    found : is_in c.before key ≡ true
    found = sym (c.written key) ∙ e

    firsts : first_writes_behind (key ∷ c.before) behind ≡ first_writes_behind c.before behind
    firsts = sym (firsts_same c.before (key ∷ c.before) (in_already c.before key found) behind)

    step : (locks : Locks) → with_behind locks (key ∷ c.before) (record (lists_in h) { rest = h.rest.items ++ Write key wid ∷ [] }) behind ≡ with_behind locks c.before (lists_in h) (Write key wid ∷ behind)
    step locks = rw found (lists refl (ap (λ l. h.takes.items ++ map (take_lock locks) l) firsts) (ap (λ l. h.finds.items ++ map (find_lock locks) l) firsts) (append_assoc h.rest.items (Write key wid ∷ []) (rest_behind (key ∷ c.before) behind)))

-- the first of its key
pub write_first : (names : Names) (last : ℕ) (ops behind : List Op) (h n : Halves) (key : List ℕ) (wid taken_as : ℕ) → has h.written key ≡ false → ((k : List ℕ) → has n.written k ≡ (bytes_eq k key || has h.written k))
    → lists_in n ≡ record (lists_in h) { takes = h.takes.items ++ Write (lock_by names key) taken_as ∷ []; finds = h.finds.items ++ Read (lock_by names key) taken_as ∷ []; rest = h.rest.items ++ Write key wid ∷ [] }
    → ((locks : Locks) → AreNamed locks names last ops → locks.identity wid ≡ taken_as)
    → ComesTo names last ops h (Write key wid ∷ behind) → ComesTo names last ops n behind
write_first names last ops behind h n key wid taken_as e more is given c =
    goes_on names last ops (Write key wid ∷ behind) behind h n c (key ∷ c.before) (more_written names last ops (Write key wid ∷ behind) h n key c more) (λ locks named. ap (λ l. with_behind locks (key ∷ c.before) l behind) is ∙ step locks (named.keys key) (given locks named))
  where
    none : is_in c.before key ≡ false
    none = sym (c.written key) ∙ e

    step : (locks : Locks) → locks.key key ≡ lock_by names key → locks.identity wid ≡ taken_as
        → with_behind locks (key ∷ c.before) (record (lists_in h) { takes = h.takes.items ++ Write (lock_by names key) taken_as ∷ []; finds = h.finds.items ++ Read (lock_by names key) taken_as ∷ []; rest = h.rest.items ++ Write key wid ∷ [] }) behind ≡ with_behind locks c.before (lists_in h) (Write key wid ∷ behind)
    step locks a b =
        rw none
        (lists refl (append_assoc h.takes.items (Write (lock_by names key) taken_as ∷ []) (map (take_lock locks) (first_writes_behind (key ∷ c.before) behind)) ∙ ap (λ k. h.takes.items ++ Write k taken_as ∷ map (take_lock locks) (first_writes_behind (key ∷ c.before) behind)) (sym a) ∙ ap (λ w. h.takes.items ++ Write (locks.key key) w ∷ map (take_lock locks) (first_writes_behind (key ∷ c.before) behind)) (sym b))
        (append_assoc h.finds.items (Read (lock_by names key) taken_as ∷ []) (map (find_lock locks) (first_writes_behind (key ∷ c.before) behind)) ∙ ap (λ k. h.finds.items ++ Read k taken_as ∷ map (find_lock locks) (first_writes_behind (key ∷ c.before) behind)) (sym a) ∙ ap (λ w. h.finds.items ++ Read (locks.key key) w ∷ map (find_lock locks) (first_writes_behind (key ∷ c.before) behind)) (sym b))
        (append_assoc h.rest.items (Write key wid ∷ []) (rest_behind (key ∷ c.before) behind)))
