-- The keys of a log, each of which has a number of its own.
use Rattle.log_definitions.proofs.Prelude.{◌≡◌, ℕ, ◌<◌, Bool, true, false, cond, eqb, List, [], ◌∷◌, ◌++◌, length, refl, sym, ap, ◌∙◌, arith, eq-eqb, ne_eqb, list_any, AllByRecursion, bytes_eq, false≢true, cond_both, or_left, or_right}
use Rattle.log_definitions.proofs.Prelude.{list_any-append, bytes_eq-Decides, ClientSession, key_of, each_of_map, ops_in, keys_in, first_seen, number_in}

-- the key is one of these
abbrev pub Listed : List (List ℕ) → List ℕ → Type 0
Listed keys key = list_any (bytes_eq key) keys ≡ true

-- ---- each key of the log is listed
abbrev with_key : List ℕ → List (List ℕ) → List (List ℕ)
with_key key seen = cond (list_any (bytes_eq key) seen) seen (seen ++ key ∷ [])

listed-append : (key : List ℕ) (keys more : List (List ℕ)) → Listed keys key → Listed (keys ++ more) key
listed-append key keys more h = list_any-append (bytes_eq key) keys more ∙ or_left (list_any (bytes_eq key) keys) (list_any (bytes_eq key) more) h

listed_kept : (other key : List ℕ) (seen : List (List ℕ)) → Listed seen key → Listed (with_key other seen) key
listed_kept other key seen h = cond_both (list_any (bytes_eq other) seen) seen (seen ++ other ∷ []) (λ keys. Listed keys key) (λ e. h) (λ e. listed-append key seen (other ∷ []) h)

listed_here : (key : List ℕ) (seen : List (List ℕ)) → Listed (with_key key seen) key
listed_here key seen =
    let own = (bytes_eq-Decides key key).1 refl in
    let last : Listed (seen ++ key ∷ []) key =
    list_any-append (bytes_eq key) seen (key ∷ []) ∙ or_right (list_any (bytes_eq key) seen) (list_any (bytes_eq key) (key ∷ [])) (or_left (bytes_eq key key) false own) in
    cond_both (list_any (bytes_eq key) seen) seen (seen ++ key ∷ []) (λ keys. Listed keys key) (λ e. e) (λ e. last)

first_seen_kept : (keys seen : List (List ℕ)) (key : List ℕ) → Listed seen key → Listed (first_seen seen keys) key
first_seen_kept [] seen key h = h
first_seen_kept (k ∷ keys) seen key h = first_seen_kept keys (with_key k seen) key (listed_kept k key seen h)

all_first_seen : (keys seen : List (List ℕ)) → AllByRecursion (λ key. Listed (first_seen seen keys) key) keys
all_first_seen [] seen = tt
all_first_seen (key ∷ keys) seen = (first_seen_kept keys (with_key key seen) key (listed_here key seen), all_first_seen keys (with_key key seen))

pub all_listed : (ss : List ClientSession) → AllByRecursion (λ o. Listed (keys_in ss) (key_of o)) (ops_in ss)
unfolding keys_in
all_listed ss = each_of_map (λ key. Listed (keys_in ss) key) key_of (ops_in ss) (all_first_seen _ [])

-- ---- their numbers
pub number_below : (keys : List (List ℕ)) (key : List ℕ) → Listed keys key → number_in keys key < length keys
number_below [] key h = absurd (false≢true h)
number_below (k ∷ keys) key h = go (bytes_eq key k) refl (number_below keys key) h
  where
    go : (t : Bool) → bytes_eq key k ≡ t → (Listed keys key → number_in keys key < length keys) → Listed (k ∷ keys) key → number_in (k ∷ keys) key < length (k ∷ keys)
    go true e ih h = rw e (omega arith)
    go false e ih h = let later = rw e at h in let below = ih later in rw e (omega arith)

pub same_number : (keys : List (List ℕ)) (a b : List ℕ) → Listed keys a → number_in keys a ≡ number_in keys b → a ≡ b
same_number [] a b h e = absurd (false≢true h)
same_number (k ∷ keys) a b h e = go (bytes_eq a k) refl (bytes_eq b k) refl (same_number keys a b) h e
  where
    go : (s : Bool) → bytes_eq a k ≡ s → (t : Bool) → bytes_eq b k ≡ t → (Listed keys a → number_in keys a ≡ number_in keys b → a ≡ b) → Listed (k ∷ keys) a → number_in (k ∷ keys) a ≡ number_in (k ∷ keys) b → a ≡ b
    go true p true q ih h e = (bytes_eq-Decides a k).0 p ∙ sym ((bytes_eq-Decides b k).0 q)
    go true p false q ih h e = let f = rw (p, q) at e in absurd (omega arith)
    go false p true q ih h e = let f = rw (p, q) at e in absurd (omega arith)
    go false p false q ih h e = let f = rw (p, q) at e in let later = rw p at h in ih later (omega arith)

-- numbers are equal where keys are
pub numbers_differ : (keys : List (List ℕ)) (a b : List ℕ) → Listed keys a → eqb (number_in keys a) (number_in keys b) ≡ bytes_eq a b
numbers_differ keys a b h = go (bytes_eq a b) refl
  where
    go : (t : Bool) → bytes_eq a b ≡ t → eqb (number_in keys a) (number_in keys b) ≡ bytes_eq a b
    go true e = eq-eqb (number_in keys a) (number_in keys b) (ap (number_in keys) ((bytes_eq-Decides a b).0 e)) ∙ sym e
    go false e = ne_eqb (number_in keys a) (number_in keys b) (λ same. absurd (false≢true (sym e ∙ (bytes_eq-Decides a b).1 (same_number keys a b h same)))) ∙ sym e
