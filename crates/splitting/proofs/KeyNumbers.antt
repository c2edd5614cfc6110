-- The numbers of keys, as the keys are found.
use Rattle.splitting.proofs.Prelude.{◌≡◌, ℕ, ◌+◌, Bool, true, false, cond, ◌||◌, List, [], ◌∷◌, ◌++◌, length, map, refl, sym, ap, ◌∙◌, inl, inr, arith, subst, Option, Some, None, list_any, is_some, unwrap_or, bytes_eq, cases_Bool}
use Rattle.splitting.proofs.Prelude.{false≢true, cond-true, cond-false, or_left, or_right, length-append, map-append, bytes_eq-Decides, bytes_flip, key_of, Op, first_seen, number_in, AreNumbers, Adds, number_by, KeyNumbers}
use Rattle.std.proofs.lemmas.List.Folds.{list_any-append}
use Rattle.key_tables.specs.Parts.{held_by}

-- ---- the number of a key among those before it, and of one that is none of them
number_in_front : (keys more : List (List ℕ)) (key : List ℕ) → list_any (bytes_eq key) keys ≡ true → number_in (keys ++ more) key ≡ number_in keys key
number_in_front [] more key e = absurd (false≢true e)
number_in_front (k ∷ keys) more key e = elim (cases_Bool (bytes_eq key k)) [
  | inl t ↦ rw t refl
  | inr f ↦ let later = rw f at e in let ih = number_in_front keys more key later in rw f (omega (arith, ih))
]

number_behind : (keys more : List (List ℕ)) (key : List ℕ) → list_any (bytes_eq key) keys ≡ false → number_in (keys ++ key ∷ more) key ≡ length keys
number_behind [] more key e = rw ((bytes_eq-Decides key key).1 refl) refl
number_behind (k ∷ keys) more key e = elim (cases_Bool (bytes_eq key k)) [
  | inl t ↦ absurd (let h = rw t at e in false≢true (sym h))
  | inr f ↦ let later = rw f at e in let ih = number_behind keys more key later in rw f (omega (arith, ih))
]

number_of_none : (keys : List (List ℕ)) (key : List ℕ) → list_any (bytes_eq key) keys ≡ false → number_in keys key ≡ length keys
number_of_none [] key e = refl
number_of_none (k ∷ keys) key e = elim (cases_Bool (bytes_eq key k)) [
  | inl t ↦ absurd (let h = rw t at e in false≢true (sym h))
  | inr f ↦ let later = rw f at e in let ih = number_of_none keys key later in rw f (omega (arith, ih))
]

-- ---- what is found is the number
pub number_is : (keys : List (List ℕ)) (numbers : KeyNumbers) → AreNumbers keys numbers → (key : List ℕ) → number_by numbers key ≡ number_in keys key + 1
number_is keys numbers h key = elim (cases_Bool (list_any (bytes_eq key) keys)) [
  | inl t ↦ ap (λ o. unwrap_or o numbers.next) (h.held key ∙ cond-true (list_any (bytes_eq key) keys) (Some (number_in keys key + 1)) None t)
  | inr f ↦ ap (λ o. unwrap_or o numbers.next) (h.held key ∙ cond-false (list_any (bytes_eq key) keys) (Some (number_in keys key + 1)) None f) ∙ h.next ∙ ap (λ n. n + 1) (sym (number_of_none keys key f))
]

-- ---- keys one behind the other
seen_append : (s a b : List (List ℕ)) → first_seen s (a ++ b) ≡ first_seen (first_seen s a) b
seen_append s [] b = refl
seen_append s (k ∷ a) b = seen_append (cond (list_any (bytes_eq k) s) s (s ++ k ∷ [])) a b

pub seen_ops : (xs ys : List Op) → first_seen [] (map key_of (xs ++ ys)) ≡ first_seen (first_seen [] (map key_of xs)) (map key_of ys)
seen_ops xs ys = ap (first_seen []) (map-append key_of xs ys) ∙ seen_append [] (map key_of xs) (map key_of ys)

pub adds_none : (a : KeyNumbers) → Adds a [] a
adds_none a keys h = h

pub adds_join : (a b c : KeyNumbers) (xs ys : List Op) → Adds a (map key_of xs) b → Adds b (map key_of ys) c → Adds a (map key_of (xs ++ ys)) c
adds_join a b c xs ys g h keys are =
    subst (λ l. AreNumbers l c) (sym (ap (first_seen keys) (map-append key_of xs ys) ∙ seen_append keys (map key_of xs) (map key_of ys)))
    (h (first_seen keys (map key_of xs)) (g keys are))

-- ---- one key
some_none : {X : Type 0} {x : X} → Some x ≡ None → ⊥
some_none e = cc

pub none_of : {X : Type 0} (o : Option X) → is_some o ≡ false → o ≡ None
none_of None e = refl
none_of (Some x) e = cc

pub known : (a : KeyNumbers) (key : List ℕ) (n : ℕ) → held_by a.table key ≡ Some n → Adds a (key ∷ []) a
known a key n found keys h = elim (cases_Bool (list_any (bytes_eq key) keys)) [
  | inl t ↦ rw t h
  | inr f ↦ absurd (some_none (sym found ∙ h.held key ∙ cond-false (list_any (bytes_eq key) keys) (Some (number_in keys key + 1)) None f))
]

pub added : (a b : KeyNumbers) (key : List ℕ) → held_by a.table key ≡ None → b.next ≡ a.next + 1
    → ((k : List ℕ) → held_by b.table k ≡ cond (bytes_eq key k) (Some a.next) (held_by a.table k)) → Adds a (key ∷ []) b
added a b key none next holds keys h = elim (cases_Bool (list_any (bytes_eq key) keys)) [
  | inl t ↦ absurd (some_none (sym (cond-true (list_any (bytes_eq key) keys) (Some (number_in keys key + 1)) None t) ∙ sym (h.held key) ∙ none))
  | inr f ↦ rw f (record {
    next = (let long = length-append keys (key ∷ []) in let before = h.next in omega (arith, long, before, next));
    held = λ k. holds k ∙ here k f (bytes_eq key k) refl;
  })
]
  where
    own : (k : List ℕ) → list_any (bytes_eq k) (keys ++ key ∷ []) ≡ (list_any (bytes_eq k) keys || (bytes_eq k key || false))
    own k = list_any-append (bytes_eq k) keys (key ∷ [])

    none_more : (s t : Bool) → t ≡ false → (s || (t || false)) ≡ s
    none_more v0 v1 e = grind arith

    here : (k : List ℕ) → list_any (bytes_eq key) keys ≡ false → (t : Bool) → bytes_eq key k ≡ t
        → cond (bytes_eq key k) (Some a.next) (held_by a.table k) ≡ cond (list_any (bytes_eq k) (keys ++ key ∷ [])) (Some (number_in (keys ++ key ∷ []) k + 1)) None
    here k f true e =
        let same : key ≡ k = (bytes_eq-Decides key k).0 e in
        let listed : list_any (bytes_eq k) (keys ++ key ∷ []) ≡ true = own k ∙ or_right (list_any (bytes_eq k) keys) (bytes_eq k key || false) (or_left (bytes_eq k key) false ((bytes_eq-Decides k key).1 (sym same))) in
        let number : number_in (keys ++ key ∷ []) k ≡ length keys = ap (number_in (keys ++ key ∷ [])) (sym same) ∙ number_behind keys [] key f in
        cond-true (bytes_eq key k) (Some a.next) (held_by a.table k) e ∙ ap Some (h.next ∙ ap (λ n. n + 1) (sym number)) ∙ sym (cond-true (list_any (bytes_eq k) (keys ++ key ∷ [])) (Some (number_in (keys ++ key ∷ []) k + 1)) None listed)
    here k f false e =
        let other : bytes_eq k key ≡ false = sym (bytes_flip key k) ∙ e in
        let same : list_any (bytes_eq k) (keys ++ key ∷ []) ≡ list_any (bytes_eq k) keys = own k ∙ none_more (list_any (bytes_eq k) keys) (bytes_eq k key) other in
        cond-false (bytes_eq key k) (Some a.next) (held_by a.table k) e ∙ h.held k
        ∙ elim (cases_Bool (list_any (bytes_eq k) keys)) [
          | inl t ↦ ap (λ n. cond (list_any (bytes_eq k) keys) (Some (n + 1)) None) (sym (number_in_front keys (key ∷ []) k t)) ∙ ap (λ s. cond s (Some (number_in (keys ++ key ∷ []) k + 1)) None) (sym same)
          | inr g ↦ cond-false (list_any (bytes_eq k) keys) (Some (number_in keys k + 1)) None g ∙ sym (cond-false (list_any (bytes_eq k) (keys ++ key ∷ [])) (Some (number_in (keys ++ key ∷ []) k + 1)) None (same ∙ g))
        ]
