-- One write more in a table of writes.
use Rattle.session_history.proofs.Prelude.{◌≡◌, ℕ, ◌+◌, ◌<◌, Bool, true, false, ◌||◌, ◌&&◌, cond, List, [], ◌∷◌, ◌++◌, length, length-take, take, drop, get_or, Option, Some, None, is_some, unwrap_or, slice_index, refl, sym, ap, ◌∙◌, arith}
use Rattle.session_history.proofs.Prelude.{append_assoc, nat_eq, nat_cmp, list_any, option_map_or, is_at, get, unsigned_ties, eqb-true, eqb-false, eq-eqb, ne_eqb, take_more, drop_more, take-append-drop, list_any-append, Event, last_write}
use Rattle.session_history.proofs.Prelude.{later, writes_as, is_write_of, last_write-append, repeated, Written, Writes, entry_of, is_write, is_last_write, ends_with, writes_at, HasSeen, HasWrites}
use Rattle.std.proofs.Math.Bool.{or_assoc, or-false, or-true}
use Rattle.serializability.specs.declared.event.Event.TheVariants.{Read, Write}
use Rattle.session_history.specs.Written.{IsTaking}

-- ---- the first identity that stood before

pub repeated_found : (seen : List ℕ) (xs ys : List (ℕ × ℕ)) (n : ℕ) → repeated seen xs ≡ Some n → repeated seen (xs ++ ys) ≡ Some n
repeated_found seen [] ys n h = cc
repeated_found seen (x ∷ xs) ys n h = go (list_any (nat_eq x.1) seen) h (repeated_found (seen ++ x.1 ∷ []) xs ys n)
  where
    go : (b : Bool) → cond b (Some x.0) (repeated (seen ++ x.1 ∷ []) xs) ≡ Some n → (repeated (seen ++ x.1 ∷ []) xs ≡ Some n → repeated (seen ++ x.1 ∷ []) (xs ++ ys) ≡ Some n) → cond b (Some x.0) (repeated (seen ++ x.1 ∷ []) (xs ++ ys)) ≡ Some n
    go true e ih = e
    go false e ih = ih e

any_push : (w y : ℕ) (seen : List ℕ) → list_any (nat_eq w) (seen ++ y ∷ []) ≡ (list_any (nat_eq w) seen || nat_eq w y)
any_push w y seen = list_any-append (nat_eq w) seen (y ∷ []) ∙ ap (λ b. list_any (nat_eq w) seen || b) (or-false (nat_eq w y))

pub repeated_push : (seen : List ℕ) (xs : List (ℕ × ℕ)) (n w : ℕ) → repeated seen xs ≡ None → repeated seen (xs ++ (n, w) ∷ []) ≡ cond (list_any (nat_eq w) seen || list_any (λ p. nat_eq w p.1) xs) (Some n) None
repeated_push seen [] n w h = ap (λ b. cond b (Some n) None) (sym (or-false (list_any (nat_eq w) seen)))
repeated_push seen (x ∷ xs) n w h = go (list_any (nat_eq x.1) seen) h (repeated_push (seen ++ x.1 ∷ []) xs n w)
  where
    go : (b : Bool) → cond b (Some x.0) (repeated (seen ++ x.1 ∷ []) xs) ≡ None
        → (repeated (seen ++ x.1 ∷ []) xs ≡ None → repeated (seen ++ x.1 ∷ []) (xs ++ (n, w) ∷ []) ≡ cond (list_any (nat_eq w) (seen ++ x.1 ∷ []) || list_any (λ p. nat_eq w p.1) xs) (Some n) None)
        → cond b (Some x.0) (repeated (seen ++ x.1 ∷ []) (xs ++ (n, w) ∷ [])) ≡ cond (list_any (nat_eq w) seen || (nat_eq w x.1 || list_any (λ p. nat_eq w p.1) xs)) (Some n) None
    go true e ih = cc
    go false e ih = ih e ∙ ap (λ b. cond b (Some n) None) (ap (λ b. b || list_any (λ p. nat_eq w p.1) xs) (any_push w x.1 seen) ∙ or_assoc (list_any (nat_eq w) seen) (nat_eq w x.1) (list_any (λ p. nat_eq w p.1) xs))

-- ---- what the lines say

none_some : {X : Type 0} (o : Option X) → o ≡ None → is_some o ≡ true → ⊥
none_some None e h = cc
none_some (Some x) e h = cc

pub seen_twice : (lines more : List (ℕ × ℕ)) (t : Writes) → is_some t.twice ≡ true → HasSeen lines t → HasSeen (lines ++ more) t
seen_twice lines more t e h = record {
  twice = go t.twice refl e;
  seen = λ none. absurd (none_some t.twice none e);
}
  where
    go : (o : Option ℕ) → t.twice ≡ o → is_some o ≡ true → t.twice ≡ repeated [] (lines ++ more)
    go None f g = cc
    go (Some n) f g = f ∙ sym (repeated_found [] lines more n (sym h.twice ∙ f))

tie : (w q : ℕ) → is_at (nat_cmp w) q ≡ nat_eq w q
tie w q = sym (unsigned_ties w q)

pub seen_again : (lines : List (ℕ × ℕ)) (s t : Writes) (w : ℕ) → s.twice ≡ None → is_some (entry_of s w) ≡ true → t.twice ≡ Some s.line → HasSeen lines s → HasSeen (lines ++ (s.line, w) ∷ []) t
seen_again lines s t w none some e h = record {
  twice = e ∙ sym (repeated_push [] lines s.line w (sym h.twice ∙ none) ∙ ap (λ b. cond b (Some s.line) None) (sym (h.seen none w) ∙ some));
  seen = λ absent. cc;
}

pub seen_new : (lines : List (ℕ × ℕ)) (s t : Writes) (w n : ℕ) (r : Written) → s.twice ≡ None → t.twice ≡ None → is_some (entry_of s w) ≡ false
    → ((q : ℕ) → entry_of t q ≡ cond (is_at (nat_cmp w) q) (Some r) (entry_of s q)) → HasSeen lines s → HasSeen (lines ++ (n, w) ∷ []) t
seen_new lines s t w n r none none' absent new h = record {
  twice = none' ∙ sym (repeated_push [] lines n w (sym h.twice ∙ none) ∙ ap (λ b. cond b (Some n) None) (sym (h.seen none w) ∙ absent));
  seen = λ _ q. ap is_some (new q) ∙ ap (λ b. is_some (cond b (Some r) (entry_of s q))) (tie w q) ∙ go q (nat_eq w q) refl (h.seen none q)
      ∙ sym (list_any-append (λ p. nat_eq q p.1) lines ((n, w) ∷ []) ∙ ap (λ b. list_any (λ p. nat_eq q p.1) lines || b) (or-false (nat_eq q w)));
}
  where
    go : (q : ℕ) (b : Bool) → nat_eq w q ≡ b → is_some (entry_of s q) ≡ list_any (λ p. nat_eq q p.1) lines → is_some (cond b (Some r) (entry_of s q)) ≡ (list_any (λ p. nat_eq q p.1) lines || nat_eq q w)
    go q true e f = sym (ap (λ b. list_any (λ p. nat_eq q p.1) lines || b) (eq-eqb q w (sym (eqb-true w q e))) ∙ or-true (list_any (λ p. nat_eq q p.1) lines))
    go q false e f = f ∙ sym (ap (λ b. list_any (λ p. nat_eq q p.1) lines || b) (ne_eqb q w (λ same. eqb-false w q e (sym same))) ∙ or-false (list_any (λ p. nat_eq q p.1) lines))

-- ---- what the transactions say

here : (kx nv a wf : Bool) → false ≡ (a || (nv && wf)) → (kx && nv) ≡ (a || (nv && (wf || (kx && true))))
here kx nv true wf h = cc
here kx true false true h = cc
here true true false false h = refl
here false true false false h = refl
here true false false wf h = refl
here false false false wf h = refl

other : (a nv wf kx : Bool) → (a || (nv && wf)) ≡ (a || (nv && (wf || (kx && false))))
other a nv wf true = ap (λ b. a || (nv && b)) (sym (or-false wf))
other a nv wf false = ap (λ b. a || (nv && b)) (sym (or-false wf))

last_here : (kx nv b wf e last : Bool) → false ≡ (b || (nv && (wf && e))) → (kx ≡ true → last ≡ e) → ((kx && nv) && last) ≡ (b || (nv && ((wf || (kx && true)) && e)))
last_here kx nv true wf e last h k = cc
last_here true true false true e last h k = k refl
last_here true true false false e last h k = k refl
last_here false true false true e last h k = h
last_here false true false false e last h k = refl
last_here true false false wf e last h k = refl
last_here false false false wf e last h k = refl

last_other : (b nv wf kx e : Bool) → (b || (nv && (wf && e))) ≡ (b || (nv && ((wf || (kx && false)) && e)))
last_other b nv wf true e = ap (λ a. b || (nv && (a && e))) (sym (or-false wf))
last_other b nv wf false e = ap (λ a. b || (nv && (a && e))) (sym (or-false wf))

wrote_push : (x v : ℕ) (front : List Event) (k w : ℕ) → writes_as x v (front ++ Write k w ∷ []) ≡ (writes_as x v front || (nat_eq k x && nat_eq w v))
wrote_push x v front k w = list_any-append (is_write_of x v) front (Write k w ∷ []) ∙ ap (λ b. writes_as x v front || b) (or-false (nat_eq k x && nat_eq w v))

-- what is written is written last by some write
last_some : (k w : ℕ) (back : List Event) → (y : ℕ) × (last_write k (Write k w ∷ back) ≡ Some y)
last_some k w back = go (last_write k back) (cond (nat_eq k k) (Some w) None) (ap (λ b. cond b (Some w) None) (eq-eqb k k refl))
  where
    go : (o q : Option ℕ) → q ≡ Some w → (y : ℕ) × (later q o ≡ Some y)
    go (Some y) q e = (y, refl)
    go None q e = (w, e)

later_some : (o q : Option ℕ) (y : ℕ) → q ≡ Some y → later o q ≡ Some y
later_some o (Some z) y e = e
later_some o None y e = cc

pub taking_new : (txns : List (ℕ × List Event)) (node : ℕ) (all front back : List Event) (k w : ℕ) (s t : Writes) (last : Bool)
    → all ≡ front ++ Write k w ∷ back → s.twice ≡ None → entry_of s w ≡ None → last ≡ nat_eq (slice_index s.lasts.items k) w → t.lasts.items ≡ s.lasts.items
    → ((q : ℕ) → entry_of t q ≡ cond (is_at (nat_cmp w) q) (Some (record { key = k; node = node; last = last })) (entry_of s q))
    → IsTaking txns node all front s → IsTaking txns node all (front ++ Write k w ∷ []) t
taking_new txns node all front back k w s t last split none absent is_last same new h = record {
  writes = λ _ x q v. ap (is_write x v) (at q) ∙ writes_at_q x q v (nat_eq w q) refl
      ∙ ap (λ b. list_any (λ p. (nat_eq p.0 v) && writes_as x q p.1) txns || (nat_eq node v && b)) (sym (wrote_push x q front k w));
  lasts = λ _ x q v. ap (is_last_write x v) (at q) ∙ lasts_at_q x q v (nat_eq w q) refl
      ∙ ap (λ b. list_any (λ p. (nat_eq p.0 v) && ends_with x q p.1) txns || (nat_eq node v && (b && ends_with x q all))) (sym (wrote_push x q front k w));
  kept = λ x y e. ap (λ l. slice_index l x) same ∙ h.kept x y e;
}
  where
    entry : Written
    entry = record { key = k; node = node; last = last }

    at : (q : ℕ) → entry_of t q ≡ cond (nat_eq w q) (Some entry) (entry_of s q)
    at q = new q ∙ ap (λ b. cond b (Some entry) (entry_of s q)) (tie w q)

    gone : (q : ℕ) → nat_eq w q ≡ true → None ≡ entry_of s q
    gone q e = sym absent ∙ ap (entry_of s) (eqb-true w q e)

    ends : (x q : ℕ) → nat_eq w q ≡ true → nat_eq k x ≡ true → last ≡ ends_with x q all
    ends x q e f =
        let some = last_some k w back in
        let all_last : last_write k all ≡ Some some.0 = ap (last_write k) split ∙ last_write-append k front (Write k w ∷ back) ∙ later_some (last_write k front) _ some.0 some.1 in
        is_last ∙ ap (λ y. nat_eq y w) (h.kept k some.0 all_last) ∙ ap (λ o. option_map_or (λ y. nat_eq y w) o false) (sym all_last)
        ∙ ap (λ y. ends_with y w all) (eqb-true k x f) ∙ ap (λ y. ends_with x y all) (eqb-true w q e)

    writes_at_q : (x q v : ℕ) (b : Bool) → nat_eq w q ≡ b → is_write x v (cond b (Some entry) (entry_of s q)) ≡ (list_any (λ p. (nat_eq p.0 v) && writes_as x q p.1) txns || (nat_eq node v && (writes_as x q front || (nat_eq k x && b))))
    writes_at_q x q v true e = here (nat_eq k x) (nat_eq node v) _ (writes_as x q front) (ap (is_write x v) (gone q e) ∙ h.writes none x q v)
    writes_at_q x q v false e = h.writes none x q v ∙ other _ (nat_eq node v) (writes_as x q front) (nat_eq k x)

    lasts_at_q : (x q v : ℕ) (b : Bool) → nat_eq w q ≡ b → is_last_write x v (cond b (Some entry) (entry_of s q)) ≡ (list_any (λ p. (nat_eq p.0 v) && ends_with x q p.1) txns || (nat_eq node v && ((writes_as x q front || (nat_eq k x && b)) && ends_with x q all)))
    lasts_at_q x q v true e = last_here (nat_eq k x) (nat_eq node v) _ (writes_as x q front) (ends_with x q all) last (ap (is_last_write x v) (gone q e) ∙ h.lasts none x q v) (ends x q e)
    lasts_at_q x q v false e = h.lasts none x q v ∙ last_other _ (nat_eq node v) (writes_as x q front) (nat_eq k x) (ends_with x q all)

-- ---- a whole transaction

pub taking_none : (txns : List (ℕ × List Event)) (node : ℕ) (all : List Event) (s t : Writes) → t.twice ≡ s.twice → ((w : ℕ) → entry_of t w ≡ entry_of s w)
    → ((x : ℕ) → slice_index t.lasts.items x ≡ unwrap_or (last_write x all) (slice_index s.lasts.items x)) → HasWrites txns s → IsTaking txns node all [] t
taking_none txns node all s t twice entries lasts h = record {
  writes = λ none x w v. ap (is_write x v) (entries w) ∙ h.writes (sym twice ∙ none) x w v ∙ no_more _ (nat_eq node v);
  lasts = λ none x w v. ap (is_last_write x v) (entries w) ∙ h.lasts (sym twice ∙ none) x w v ∙ no_more _ (nat_eq node v);
  kept = λ x w e. lasts x ∙ ap (λ o. unwrap_or o (slice_index s.lasts.items x)) e;
}
  where
    no_more : (a nv : Bool) → a ≡ (a || (nv && false))
    no_more a true = sym (or-false a)
    no_more a false = sym (or-false a)

ends_written : (x w : ℕ) (ops : List Event) → ends_with x w ops ≡ true → writes_as x w ops ≡ true
ends_written x w [] h = h
ends_written x w (Read k y ∷ ops) h = ends_written x w ops h
ends_written x w (Write k y ∷ ops) h = go (last_write x ops) refl (nat_eq k x) h (ends_written x w ops)
  where
    go : (o : Option ℕ) → last_write x ops ≡ o → (b : Bool) → option_map_or (λ z. nat_eq z w) (later (cond b (Some y) None) o) false ≡ true → (ends_with x w ops ≡ true → writes_as x w ops ≡ true) → ((b && nat_eq y w) || writes_as x w ops) ≡ true
    go (Some z) e b f ih = let g = ih (ap (λ o. option_map_or (λ z. nat_eq z w) o false) e ∙ f) in ap (λ a. (b && nat_eq y w) || a) g ∙ or-true (b && nat_eq y w)
    go None e true f ih = ap (λ a. a || writes_as x w ops) f
    go None e false f ih = cc

pub taken_all : (txns : List (ℕ × List Event)) (node : ℕ) (all : List Event) (s t : Writes) → t.twice ≡ s.twice → ((w : ℕ) → entry_of t w ≡ entry_of s w) → IsTaking txns node all all s → HasWrites (txns ++ (node, all) ∷ []) t
taken_all txns node all s t twice entries h = record {
  writes = λ none x w v. ap (is_write x v) (entries w) ∙ h.writes (sym twice ∙ none) x w v
      ∙ sym (list_any-append (λ p. (nat_eq p.0 v) && writes_as x w p.1) txns ((node, all) ∷ [])
      ∙ ap (λ b. list_any (λ p. (nat_eq p.0 v) && writes_as x w p.1) txns || b) (or-false (nat_eq node v && writes_as x w all)));
  lasts = λ none x w v. ap (is_last_write x v) (entries w) ∙ h.lasts (sym twice ∙ none) x w v
      ∙ ap (λ b. list_any (λ p. (nat_eq p.0 v) && ends_with x w p.1) txns || (nat_eq node v && b)) (both (writes_as x w all) (ends_with x w all) (ends_written x w all))
      ∙ sym (list_any-append (λ p. (nat_eq p.0 v) && ends_with x w p.1) txns ((node, all) ∷ [])
      ∙ ap (λ b. list_any (λ p. (nat_eq p.0 v) && ends_with x w p.1) txns || b) (or-false (nat_eq node v && ends_with x w all)));
}
  where
    both : (a b : Bool) → (b ≡ true → a ≡ true) → (a && b) ≡ b
    both true b h = refl
    both false true h = cc (h refl)
    both false false h = refl

-- the lines of more operations
pub writes_at-append : (n : ℕ) (a b : List Event) → writes_at n (a ++ b) ≡ writes_at n a ++ writes_at (n + length a) b
writes_at-append n [] b = ap (λ m. writes_at m b) (omega arith)
writes_at-append n (Read k w ∷ a) b = writes_at-append (n + 1) a b ∙ ap (λ m. writes_at (n + 1) a ++ writes_at m b) (omega arith)
writes_at-append n (Write k w ∷ a) b = ap (λ xs. (n, w) ∷ xs) (writes_at-append (n + 1) a b ∙ ap (λ m. writes_at (n + 1) a ++ writes_at m b) (omega arith))

pub none_from : {X : Type 0} (o : Option X) (b : Bool) → b ≡ is_some o → b ≡ false → o ≡ None
none_from None b e h = refl
none_from (Some x) b e h = cc

-- ---- one operation more

later_or : (o q : Option ℕ) (d : ℕ) → unwrap_or (later o q) d ≡ unwrap_or q (unwrap_or o d)
later_or o None d = refl
later_or o (Some y) d = refl

pub lasts_more : (events : List Event) (i : ℕ) (a b c : ℕ → ℕ) → i < length events
    → ((x : ℕ) → b x ≡ unwrap_or (last_write x (take i events)) (a x)) → ((x : ℕ) → c x ≡ unwrap_or (last_write x (get_or events i (Read 0 0) ∷ [])) (b x))
    → (x : ℕ) → c x ≡ unwrap_or (last_write x (take (i + 1) events)) (a x)
lasts_more events i a b c h old new x =
    let e = get_or events i (Read 0 0) in
    new x ∙ ap (unwrap_or (last_write x (e ∷ []))) (old x) ∙ sym (later_or (last_write x (take i events)) (last_write x (e ∷ [])) (a x))
    ∙ ap (λ o. unwrap_or o (a x)) (sym (last_write-append x (take i events) (e ∷ [])) ∙ ap (last_write x) (sym (take_more events i (Read 0 0) h)))

pub split_at_item : (xs : List Event) (i : ℕ) → i < length xs → xs ≡ take i xs ++ get_or xs i (Read 0 0) ∷ drop (i + 1) xs
split_at_item xs i h = sym (take-append-drop i xs) ∙ ap (λ ys. take i xs ++ ys) (drop_more xs i (Read 0 0) h)

pub lines_more : (n m : ℕ) (xs : List Event) (i : ℕ) (lines : List (ℕ × ℕ)) → i < length xs → m ≡ n + i → (lines ++ writes_at n (take i xs)) ++ writes_at m (get_or xs i (Read 0 0) ∷ []) ≡ lines ++ writes_at n (take (i + 1) xs)
lines_more n m xs i lines h m_is =
    let e = get_or xs i (Read 0 0) in
    append_assoc lines (writes_at n (take i xs)) (writes_at m (e ∷ []))
    ∙ ap (λ ls. lines ++ ls) (ap (λ k. writes_at n (take i xs) ++ writes_at k (e ∷ [])) (omega (arith, length-take i xs)) ∙ sym (writes_at-append n (take i xs) (e ∷ []))
    ∙ ap (writes_at n) (sym (take_more xs i (Read 0 0) h)))

-- only the table and what was found count
pub seen_same : (lines : List (ℕ × ℕ)) (s t : Writes) → t.twice ≡ s.twice → t.table ≡ s.table → HasSeen lines s → HasSeen lines t
seen_same lines s t twice table h = record {
  twice = twice ∙ h.twice;
  seen = λ none w. ap (λ m. is_some (get nat_cmp m w)) table ∙ h.seen (sym twice ∙ none) w;
}

pub taking_same : (txns : List (ℕ × List Event)) (node : ℕ) (all front : List Event) (s t : Writes) → t.twice ≡ s.twice → t.table ≡ s.table → t.lasts ≡ s.lasts → IsTaking txns node all front s → IsTaking txns node all front t
taking_same txns node all front s t twice table lasts h = record {
  writes = λ none x w v. ap (λ m. is_write x v (get nat_cmp m w)) table ∙ h.writes (sym twice ∙ none) x w v;
  lasts = λ none x w v. ap (λ m. is_last_write x v (get nat_cmp m w)) table ∙ h.lasts (sym twice ∙ none) x w v;
  kept = λ x w e. ap (λ l. slice_index l.items x) lasts ∙ h.kept x w e;
}
