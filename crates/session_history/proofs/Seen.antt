-- Keys in the order of their first appearance, and their numbers, which later keys leave alone.
use Rattle.session_history.proofs.Prelude.{append_assoc, append-nil, ◌≡◌, ◌⊎◌, inl, inr, ℕ, zero, suc, slice_get, subst, ◌<◌, take, get_or, ◌+◌, Bool, true, false, not, ◌||◌, cond, List, [], ◌∷◌, ◌++◌, length, map, Option, Some, None, refl}
use Rattle.session_history.proofs.Prelude.{sym, ap, ◌∙◌, arith, list_any, bytes_eq, slice_cmp, texts_ties, BTreeMap, get, is_at, false≢true, cond-true, cond-false, both_ways, or_right, or_left, list_any-append, map-append, Event}
use Rattle.session_history.proofs.Prelude.{bytes_eq-Decides, bytes_flip, front_more, first_seen, key_of, number_in, event_of, events_of, Op, number_among, KeepsPlaces}
use Rattle.std.specs.Ordering.{nat_cmp}
use Rattle.std.specs.Map.{lookup}

pub seen_append : (s a b : List (List ℕ)) → first_seen s (a ++ b) ≡ first_seen (first_seen s a) b
seen_append s [] b = refl
seen_append s (k ∷ a) b = seen_append (cond (list_any (bytes_eq k) s) s (s ++ k ∷ [])) a b

same_key : (k : List ℕ) → bytes_eq k k ≡ true
same_key k = (bytes_eq-Decides k k).1 refl

-- a key that is listed keeps its number
number_append : (q : List ℕ) (xs ys : List (List ℕ)) → list_any (bytes_eq q) xs ≡ true → number_in (xs ++ ys) q ≡ number_in xs q
number_append q [] ys h = absurd (false≢true h)
number_append q (x ∷ xs) ys h = go (bytes_eq q x) (number_append q xs ys) h
  where
    go : (b : Bool) {r : Bool} {m n : ℕ} → (r ≡ true → m ≡ n) → (b || r) ≡ true → cond (not b) (1 + m) 0 ≡ cond (not b) (1 + n) 0
    go true f e = refl
    go false f e = ap (λ k. 1 + k) (f e)

number_push : (q y : List ℕ) (xs : List (List ℕ)) → list_any (bytes_eq q) xs ≡ true → number_in (xs ++ y ∷ []) q ≡ number_in xs q
number_push q y xs h = number_append q xs (y ∷ []) h

-- and one below their count
pub number_below : (keys : List (List ℕ)) (key : List ℕ) → list_any (bytes_eq key) keys ≡ true → number_in keys key < length keys
number_below [] key h = absurd (false≢true h)
number_below (k ∷ keys) key h = go (bytes_eq key k) (number_below keys key) h
  where
    go : (b : Bool) → (list_any (bytes_eq key) keys ≡ true → number_in keys key < length keys) → (b || list_any (bytes_eq key) keys) ≡ true → cond (not b) (1 + number_in keys key) 0 < suc (length keys)
    go true ih e = omega arith
    go false ih e = let less = ih e in omega (arith, less)

-- a key that is not listed would be behind them
number_new : (q y : List ℕ) (xs : List (List ℕ)) → list_any (bytes_eq q) xs ≡ false → bytes_eq q y ≡ true → number_in (xs ++ y ∷ []) q ≡ length xs
number_new q y [] h e = rw e
number_new q y (x ∷ xs) h e = go (bytes_eq q x) (λ f. number_new q y xs f e) h
  where
    go : (b : Bool) {r : Bool} {m n : ℕ} → (r ≡ false → m ≡ n) → (b || r) ≡ false → cond (not b) (1 + m) 0 ≡ suc n
    go true f e = cc
    go false f e = let g = f e in omega arith

any_push : (q y : List ℕ) (xs : List (List ℕ)) → list_any (bytes_eq q) (xs ++ y ∷ []) ≡ (list_any (bytes_eq q) xs || bytes_eq q y)
any_push q y xs = list_any-append (bytes_eq q) xs (y ∷ []) ∙ ap (λ b. list_any (bytes_eq q) xs || b) (or_false (bytes_eq q y))
  where
    or_false : (b : Bool) → (b || false) ≡ b
    or_false true = refl
    or_false false = refl

-- later keys leave a listed key where it is
pub number_stays : (later xs : List (List ℕ)) (q : List ℕ) → list_any (bytes_eq q) xs ≡ true → number_in (first_seen xs later) q ≡ number_in xs q
number_stays [] xs q h = refl
number_stays (k ∷ later) xs q h = go (list_any (bytes_eq k) xs) (number_stays later xs q h) (number_stays later (xs ++ k ∷ []) q (any_push q k xs ∙ or_left (list_any (bytes_eq q) xs) (bytes_eq q k) h))
  where
    go : (b : Bool) → number_in (first_seen xs later) q ≡ number_in xs q → number_in (first_seen (xs ++ k ∷ []) later) q ≡ number_in (xs ++ k ∷ []) q → number_in (first_seen (cond b xs (xs ++ k ∷ [])) later) q ≡ number_in xs q
    go true stay grow = stay
    go false stay grow = grow ∙ number_push q k xs h

-- a key is listed once it has been seen
pub seen_here : (xs : List (List ℕ)) (q : List ℕ) → list_any (bytes_eq q) (first_seen xs (q ∷ [])) ≡ true
seen_here xs q = go (list_any (bytes_eq q) xs) refl
  where
    go : (b : Bool) → list_any (bytes_eq q) xs ≡ b → list_any (bytes_eq q) (cond b xs (xs ++ q ∷ [])) ≡ true
    go true e = e
    go false e = any_push q q xs ∙ or_right (list_any (bytes_eq q) xs) (bytes_eq q q) (same_key q)

pub among_push : (k : List ℕ) (xs : List (List ℕ)) → list_any (bytes_eq k) xs ≡ false → (q : List ℕ)
    → number_among (xs ++ k ∷ []) q ≡ cond (is_at (slice_cmp nat_cmp k) q) (Some (length xs)) (number_among xs q)
among_push k xs new q = rw (any_push q k xs) (go (list_any (bytes_eq q) xs) refl (bytes_eq q k) refl)
  where
    at : is_at (slice_cmp nat_cmp k) q ≡ bytes_eq q k
    at = sym (texts_ties k q) ∙ bytes_flip k q

    go : (b : Bool) → list_any (bytes_eq q) xs ≡ b → (t : Bool) → bytes_eq q k ≡ t → cond (b || t) (Some (number_in (xs ++ k ∷ []) q)) None ≡ cond (is_at (slice_cmp nat_cmp k) q) (Some (length xs)) (cond b (Some (number_in xs q)) None)
    go true e true f = let same = (bytes_eq-Decides q k).0 f in absurd (both_ways (list_any (bytes_eq k) xs) new (ap (λ x. list_any (bytes_eq x) xs) (sym same) ∙ e))
    go true e false f = ap (λ n. Some n) (number_push q k xs e) ∙ sym (cond-false (is_at (slice_cmp nat_cmp k) q) (Some (length xs)) (Some (number_in xs q)) (at ∙ f))
    go false e true f = ap (λ n. Some n) (number_new q k xs e f) ∙ sym (cond-true (is_at (slice_cmp nat_cmp k) q) (Some (length xs)) None (at ∙ f))
    go false e false f = sym (cond-false (is_at (slice_cmp nat_cmp k) q) (Some (length xs)) None (at ∙ f))

-- a key that has a number is listed, and one that has none is not
pub listed : (xs : List (List ℕ)) (q : List ℕ) (n : ℕ) → number_among xs q ≡ Some n → (list_any (bytes_eq q) xs ≡ true) × (number_in xs q ≡ n)
listed xs q n e = go (list_any (bytes_eq q) xs) refl e
  where
    go : (b : Bool) → list_any (bytes_eq q) xs ≡ b → cond b (Some (number_in xs q)) None ≡ Some n → (list_any (bytes_eq q) xs ≡ true) × (number_in xs q ≡ n)
    go true f h = (f, cc)
    go false f h = cc

pub not_listed : (xs : List (List ℕ)) (q : List ℕ) → number_among xs q ≡ None → list_any (bytes_eq q) xs ≡ false
not_listed xs q e = go (list_any (bytes_eq q) xs) refl e
  where
    go : (b : Bool) → list_any (bytes_eq q) xs ≡ b → cond b (Some (number_in xs q)) None ≡ None → list_any (bytes_eq q) xs ≡ false
    go true f h = cc
    go false f h = f

-- a new key takes the next number, and keeps it
pub number_of_new : (xs : List (List ℕ)) (q : List ℕ) → list_any (bytes_eq q) xs ≡ false → (later : List (List ℕ)) → number_in (first_seen (xs ++ q ∷ []) later) q ≡ length xs
number_of_new xs q h later =
    number_stays later (xs ++ q ∷ []) q (any_push q q xs ∙ or_right (list_any (bytes_eq q) xs) (bytes_eq q q) (same_key q))
    ∙ number_new q q xs h (same_key q)

-- the map with a new key
pub found_more : (f g : List ℕ → Option ℕ) (xs ys : List (List ℕ)) (k j i : List ℕ) (n : ℕ) → ((q : List ℕ) → f q ≡ number_among xs q) → None ≡ f k
    → ((q : List ℕ) → g q ≡ cond (is_at (slice_cmp nat_cmp j) q) (Some n) (f q)) → ys ≡ xs ++ i ∷ [] → j ≡ k → i ≡ k → n ≡ length xs → (q : List ℕ) → g q ≡ number_among ys q
found_more f g xs ys k j i n old none new grown same same' len q =
    new q ∙ ap (λ x. cond (is_at (slice_cmp nat_cmp x) q) (Some n) (f q)) same ∙ ap (λ m. cond (is_at (slice_cmp nat_cmp k) q) (Some m) (f q)) len
    ∙ ap (λ o. cond (is_at (slice_cmp nat_cmp k) q) (Some (length xs)) o) (old q)
    ∙ sym (among_push k xs (not_listed xs k (sym (none ∙ old k))) q) ∙ ap (λ x. number_among (xs ++ x ∷ []) q) (sym same') ∙ ap (λ zs. number_among zs q) (sym grown)

pub first_seen_known : (xs : List (List ℕ)) (k : List ℕ) → list_any (bytes_eq k) xs ≡ true → xs ≡ first_seen xs (k ∷ [])
first_seen_known xs k h = sym (cond-true (list_any (bytes_eq k) xs) xs (xs ++ k ∷ []) h)

pub first_seen_new : (xs ys : List (List ℕ)) (k j : List ℕ) → list_any (bytes_eq k) xs ≡ false → ys ≡ xs ++ j ∷ [] → j ≡ k → ys ≡ first_seen xs (k ∷ [])
first_seen_new xs ys k j h e same = e ∙ ap (λ x. xs ++ x ∷ []) same ∙ sym (cond-false (list_any (bytes_eq k) xs) xs (xs ++ k ∷ []) h)

pub number_of_pushed : (xs ys : List (List ℕ)) (k j : List ℕ) (n : ℕ) → list_any (bytes_eq k) xs ≡ false → ys ≡ xs ++ j ∷ [] → j ≡ k → n ≡ length xs → (later : List (List ℕ)) → n ≡ number_in (first_seen ys later) k
number_of_pushed xs ys k j n h e same len later =
    len ∙ sym (ap (λ zs. number_in (first_seen zs later) k) (e ∙ ap (λ x. xs ++ x ∷ []) same) ∙ number_of_new xs k h later)

-- one operation more
pub keys_more : (xs ys zs : List (List ℕ)) (ops : List Op) (i : ℕ) (op : Op) → i < length ops → op ≡ get_or ops i op
    → ys ≡ first_seen xs (map key_of (take i ops)) → zs ≡ first_seen ys (key_of op ∷ []) → zs ≡ first_seen xs (map key_of (take (i + 1) ops))
keys_more xs ys zs ops i op h e so_far more =
    more ∙ ap (λ ks. first_seen ks (key_of op ∷ [])) so_far ∙ sym (seen_append xs (map key_of (take i ops)) (key_of op ∷ []))
    ∙ ap (first_seen xs) (sym (map-append key_of (take i ops) (op ∷ [])) ∙ ap (map key_of) (sym (front_more ops i op h e)))

pub events_more : (ys zs : List (List ℕ)) (ops : List Op) (i : ℕ) (op : Op) (old new : List Event) (event : Event) → i < length ops → op ≡ get_or ops i op
    → zs ≡ first_seen ys (key_of op ∷ [])
    → ((later : List (List ℕ)) → old ≡ events_of (first_seen ys later) (take i ops))
    → ((later : List (List ℕ)) → event ≡ event_of (first_seen zs later) op)
    → new ≡ old ++ event ∷ []
    → (later : List (List ℕ)) → new ≡ events_of (first_seen zs later) (take (i + 1) ops)
events_more ys zs ops i op old new event h e more so_far last pushed later =
    let keys : first_seen zs later ≡ first_seen ys (key_of op ∷ later) = ap (λ ks. first_seen ks later) more ∙ sym (seen_append ys (key_of op ∷ []) later) in
    pushed ∙ ap (λ es. es ++ event ∷ []) (so_far (key_of op ∷ later) ∙ ap (λ ks. events_of ks (take i ops)) (sym keys))
    ∙ ap (λ x. events_of (first_seen zs later) (take i ops) ++ x ∷ []) (last later)
    ∙ sym (map-append (event_of (first_seen zs later)) (take i ops) (op ∷ [])) ∙ ap (events_of (first_seen zs later)) (sym (front_more ops i op h e))

-- and from then on
pub seen_stays : (later xs : List (List ℕ)) (q : List ℕ) → list_any (bytes_eq q) xs ≡ true → list_any (bytes_eq q) (first_seen xs later) ≡ true
seen_stays [] xs q h = h
seen_stays (k ∷ later) xs q h = go (list_any (bytes_eq k) xs) (seen_stays later xs q h) (seen_stays later (xs ++ k ∷ []) q (any_push q k xs ∙ or_left (list_any (bytes_eq q) xs) (bytes_eq q k) h))
  where
    go : (b : Bool) → list_any (bytes_eq q) (first_seen xs later) ≡ true → list_any (bytes_eq q) (first_seen (xs ++ k ∷ []) later) ≡ true → list_any (bytes_eq q) (first_seen (cond b xs (xs ++ k ∷ [])) later) ≡ true
    go true stay grow = stay
    go false stay grow = grow

-- ---- each key at its number

pub none_found : (m : BTreeMap (List ℕ) ℕ) (xs : List (List ℕ)) → m.entries ≡ [] → xs ≡ [] → (key : List ℕ) → get (slice_cmp nat_cmp) m key ≡ number_among xs key
none_found m xs e f key = ap (lookup (is_at (slice_cmp nat_cmp key))) e ∙ sym (ap (λ ks. number_among ks key) f)

-- a key that stands at a place is listed
pub listed_at : (xs : List (List ℕ)) (i : ℕ) (q : List ℕ) → slice_get xs i ≡ Some q → list_any (bytes_eq q) xs ≡ true
listed_at [] i q e = cc
listed_at (x ∷ xs) zero q e = ap (λ b. b || list_any (bytes_eq q) xs) ((bytes_eq-Decides q x).1 (same_here e))
  where
    same_here : Some x ≡ Some q → q ≡ x
    same_here f = cc
listed_at (x ∷ xs) (suc i) q e = or_right (bytes_eq q x) (list_any (bytes_eq q) xs) (listed_at xs i q e)

pub no_places : (xs : List (List ℕ)) → xs ≡ [] → KeepsPlaces xs
no_places xs e = record { own = λ i q at. absurd (none (sym (ap (λ ys. slice_get ys i) e) ∙ at)) }
  where
    none : {q : List ℕ} → None ≡ Some q → ⊥
    none f = cc

-- with a key behind them
at_push : (xs : List (List ℕ)) (k : List ℕ) (i : ℕ) (q : List ℕ) → slice_get (xs ++ k ∷ []) i ≡ Some q → (slice_get xs i ≡ Some q) ⊎ ((i ≡ length xs) × (q ≡ k))
at_push [] k zero q e = inr (refl, cc)
at_push [] k (suc i) q e = cc
at_push (x ∷ xs) k zero q e = inl e
at_push (x ∷ xs) k (suc i) q e = go (at_push xs k i q e)
  where
    go : (slice_get xs i ≡ Some q) ⊎ ((i ≡ length xs) × (q ≡ k)) → (slice_get xs i ≡ Some q) ⊎ ((suc i ≡ suc (length xs)) × (q ≡ k))
    go (inl p) = inl p
    go (inr p) = inr (ap (λ n. suc n) p.0, p.1)

places_more : (xs : List (List ℕ)) (k : List ℕ) → list_any (bytes_eq k) xs ≡ false → KeepsPlaces xs → KeepsPlaces (xs ++ k ∷ [])
places_more xs k new h = record { own = λ i q at. go i q (at_push xs k i q at) }
  where
    go : (i : ℕ) (q : List ℕ) → (slice_get xs i ≡ Some q) ⊎ ((i ≡ length xs) × (q ≡ k)) → number_in (xs ++ k ∷ []) q ≡ i
    go i q (inl p) = number_push q k xs (listed_at xs i q p) ∙ h.own i q p
    go i q (inr p) = number_new q k xs (ap (λ y. list_any (bytes_eq y) xs) p.1 ∙ new) (ap (λ y. bytes_eq y k) p.1 ∙ same_key k) ∙ sym p.0

pub places_pushed : (xs ys : List (List ℕ)) (k j : List ℕ) → list_any (bytes_eq k) xs ≡ false → ys ≡ xs ++ j ∷ [] → j ≡ k → KeepsPlaces xs → KeepsPlaces ys
places_pushed xs ys k j new e same h = subst KeepsPlaces (sym (e ∙ ap (λ y. xs ++ y ∷ []) same)) (places_more xs k new h)

pub places_seen : (ks xs : List (List ℕ)) → KeepsPlaces xs → KeepsPlaces (first_seen xs ks)
places_seen [] xs h = h
places_seen (k ∷ ks) xs h = go (list_any (bytes_eq k) xs) refl (places_seen ks xs h) (λ new. places_seen ks (xs ++ k ∷ []) (places_more xs k new h))
  where
    go : (b : Bool) → list_any (bytes_eq k) xs ≡ b → KeepsPlaces (first_seen xs ks) → (list_any (bytes_eq k) xs ≡ false → KeepsPlaces (first_seen (xs ++ k ∷ []) ks)) → KeepsPlaces (first_seen (cond b xs (xs ++ k ∷ [])) ks)
    go true e stay grow = stay
    go false e stay grow = grow e

-- such keys are all new when they are seen in turn
at_length : (xs : List (List ℕ)) (k : List ℕ) (ys : List (List ℕ)) → slice_get (xs ++ k ∷ ys) (length xs) ≡ Some k
at_length [] k ys = refl
at_length (x ∷ xs) k ys = at_length xs k ys

new_at : (xs : List (List ℕ)) (k : List ℕ) (ys : List (List ℕ)) → KeepsPlaces (xs ++ k ∷ ys) → list_any (bytes_eq k) xs ≡ false
new_at xs k ys h = go (list_any (bytes_eq k) xs) refl
  where
    go : (b : Bool) → list_any (bytes_eq k) xs ≡ b → b ≡ false
    go false e = refl
    go true e =
        let own = h.own (length xs) k (at_length xs k ys) in
        let same = number_append k xs (k ∷ ys) e in
        let less = number_below xs k e in
        absurd (omega (arith, own, same, less))

seen_from : (xs ys : List (List ℕ)) → KeepsPlaces (xs ++ ys) → first_seen xs ys ≡ xs ++ ys
seen_from xs [] h = sym (append-nil xs)
seen_from xs (k ∷ ys) h =
    ap (λ ks. first_seen ks ys) (cond-false (list_any (bytes_eq k) xs) xs (xs ++ k ∷ []) (new_at xs k ys h))
    ∙ seen_from (xs ++ k ∷ []) ys (subst KeepsPlaces (sym (append_assoc xs (k ∷ []) ys)) h)
    ∙ append_assoc xs (k ∷ []) ys

pub seen_again : (xs : List (List ℕ)) → KeepsPlaces xs → first_seen [] xs ≡ xs
seen_again xs h = seen_from [] xs h
