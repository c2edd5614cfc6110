-- Where no identity is written twice, a write is known by its identity.
use Rattle.log_definitions.proofs.Prelude.{◌≡◌, ℕ, zero, suc, ◌<◌, Bool, not, List, [], ◌∷◌, ◌++◌, length, get_or, Some, refl, sym, ap, ◌∙◌, subst, arith, inl, inr, map, slice_get, filter, flat_map, AllByRecursion, Contains, cases_Bool}
use Rattle.log_definitions.proofs.Prelude.{ClientSession, Transaction, Op, Event, Has, Apart, Has-append_front, Has-append_back, Apart-not_both, txns_in, ops_in, settled, taken, resolved, written, events_of}
use Rattle.session_log.specs.declared.session.Op.TheVariants as op
use Rattle.serializability.specs.declared.event.Event.TheVariants.{Read, Write}
use Rattle.log_definitions.proofs.Scanning.{written-append}
use Rattle.log_definitions.proofs.Settled.{txn_ops, ops_settled}
use Rattle.log_definitions.proofs.Nodes.{each_kept, each_at}

-- ---- in one transaction

-- the identities that events write
abbrev written_in : List Event → List ℕ
written_in [] = []
written_in (Read x w ∷ es) = written_in es
written_in (Write x w ∷ es) = w ∷ written_in es

written_events : (keys : List (List ℕ)) (ops : List Op) → written_in (events_of keys ops) ≡ written ops
written_events keys [] = refl
written_events keys (op.Read key w ∷ ops) = written_events keys ops
written_events keys (op.Write key w ∷ ops) = ap (λ l. w ∷ l) (written_events keys ops)

Has-later : (w : ℕ) (e : Event) (es : List Event) → Has w (written_in es) → Has w (written_in (e ∷ es))
Has-later w (Read x v) es h = h
Has-later w (Write x v) es h = inr h

Has_write : (before behind : List Event) (x w : ℕ) → Has w (written_in (before ++ Write x w ∷ behind))
Has_write [] behind x w = inl refl
Has_write (e ∷ before) behind x w = Has-later w e (before ++ Write x w ∷ behind) (Has_write before behind x w)

pub Has_written : (keys : List (List ℕ)) (ops : List Op) (es before behind : List Event) (x w : ℕ) → es ≡ events_of keys ops → es ≡ before ++ Write x w ∷ behind → Has w (written ops)
Has_written keys ops es before behind x w e f =
    subst (Has w) (ap written_in (sym f ∙ e) ∙ written_events keys ops) (Has_write before behind x w)

contained_write : (es : List Event) (k y w : ℕ) → k < length es → get_or es k (Write y w) ≡ Write y w → Has w (written_in es)
contained_write [] k y w h e = absurd (omega arith)
contained_write (d ∷ es) zero y w h e = subst (λ x. Has w (written_in (x ∷ es))) (sym e) (inl refl)
contained_write (d ∷ es) (suc k) y w h e = Has-later w d es (contained_write es k y w (omega arith) e)

pub Has-from_Contains : (es : List Event) (y w : ℕ) → Contains es (Write y w) → Has w (written_in es)
Has-from_Contains es y w c = contained_write es c.0 y w c.1 c.2

Apart_tail : (e : Event) (es : List Event) → Apart (written_in (e ∷ es)) → Apart (written_in es)
Apart_tail (Read x w) es a = a
Apart_tail (Write x w) es a = a.1

head_of : (d e : Event) (ds es : List Event) → d ∷ ds ≡ e ∷ es → d ≡ e
head_of d e ds es h = cc

tail_of : (d e : Event) (ds es : List Event) → d ∷ ds ≡ e ∷ es → ds ≡ es
tail_of d e ds es h = cc

one_place : (a b p q : List Event) (x y w : ℕ) → a ++ Write x w ∷ p ≡ b ++ Write y w ∷ q → Apart (written_in (a ++ Write x w ∷ p)) → a ≡ b
one_place [] [] p q x y w e h = refl
one_place [] (d ∷ b) p q x y w e h =
    absurd (h.0 (subst (λ l. Has w (written_in l)) (sym (tail_of (Write x w) d p (b ++ Write y w ∷ q) e)) (Has_write b q y w)))
one_place (c ∷ a) [] p q x y w e h =
    let first = head_of c (Write y w) (a ++ Write x w ∷ p) q e in
    absurd ((subst (λ d. Apart (written_in (d ∷ (a ++ Write x w ∷ p)))) first h).0 (Has_write a p x w))
one_place (c ∷ a) (d ∷ b) p q x y w e h =
    let first = head_of c d (a ++ Write x w ∷ p) (b ++ Write y w ∷ q) e in
    let others = one_place a b p q x y w (tail_of c d (a ++ Write x w ∷ p) (b ++ Write y w ∷ q) e) (Apart_tail c (a ++ Write x w ∷ p) h) in
    ap (λ z. z ∷ a) first ∙ ap (λ l. d ∷ l) others

pub same_write : (keys : List (List ℕ)) (ops : List Op) (es a b p q : List Event) (x y w : ℕ) → Apart (written ops) → es ≡ events_of keys ops → es ≡ a ++ Write x w ∷ p → es ≡ b ++ Write y w ∷ q → a ≡ b
same_write keys ops es a b p q x y w h e f g =
    one_place a b p q x y w (sym f ∙ g) (subst Apart (sym (written_events keys ops) ∙ ap written_in (sym e ∙ f)) h)

-- ---- in several transactions
abbrev pub Lacks : ℕ → Transaction → Type 0
Lacks w t = Has w (written t.ops) → ⊥

-- no identity is written twice
abbrev pub WriteOnce : List Transaction → Type 0
WriteOnce [] = Unit {0}
WriteOnce (t ∷ ts) = Apart (written t.ops) × ((w : ℕ) → Has w (written t.ops) → AllByRecursion (Lacks w) ts) × WriteOnce ts

pub Apart_front : (a b : List ℕ) → Apart (a ++ b) → Apart a
Apart_front [] b h = tt
Apart_front (x ∷ a) b h = ((λ k. h.0 (Has-append_front x a b k)), Apart_front a b h.1)

pub Apart_back : (a b : List ℕ) → Apart (a ++ b) → Apart b
Apart_back [] b h = h
Apart_back (x ∷ a) b h = Apart_back a b h.1

all_lack : (w : ℕ) (ts : List Transaction) → (Has w (written (flat_map txn_ops ts)) → ⊥) → AllByRecursion (Lacks w) ts
all_lack w [] h = tt
all_lack w (t ∷ ts) h =
    let same = written-append t.ops (flat_map txn_ops ts) in (
      (λ k. h (subst (Has w) (sym same) (Has-append_front w (written t.ops) (written (flat_map txn_ops ts)) k))),
      all_lack w ts (λ k. h (subst (Has w) (sym same) (Has-append_back w (written t.ops) (written (flat_map txn_ops ts)) k))),
    )

pub WriteOnce-from_Apart : (ts : List Transaction) → Apart (written (flat_map txn_ops ts)) → WriteOnce ts
WriteOnce-from_Apart [] h = tt
WriteOnce-from_Apart (t ∷ ts) h =
    let all = subst Apart (written-append t.ops (flat_map txn_ops ts)) h in (
      Apart_front (written t.ops) (written (flat_map txn_ops ts)) all,
      (λ w k. all_lack w ts (Apart-not_both w (written t.ops) (written (flat_map txn_ops ts)) all k)),
      WriteOnce-from_Apart ts (Apart_back (written t.ops) (written (flat_map txn_ops ts)) all),
    )

pub once_settled : (chosen : ℕ → Bool) (ss : List ClientSession) → Apart (written (ops_in ss)) → WriteOnce (txns_in (settled chosen ss))
once_settled chosen ss h =
    WriteOnce-from_Apart (txns_in (settled chosen ss)) (subst (λ ops. Apart (written ops)) (sym (ops_settled chosen ss)) h)

pub once_resolved : (ss : List ClientSession) → Apart (written (ops_in ss)) → WriteOnce (txns_in (resolved ss))
unfolding resolved
once_resolved ss h = once_settled (taken ss) ss h

pub WriteOnce-filter : (p : Transaction → Bool) (ts : List Transaction) → WriteOnce ts → WriteOnce (filter p ts)
WriteOnce-filter p [] h = tt
WriteOnce-filter p (t ∷ ts) h = elim (cases_Bool (p t)) [
  | inl e ↦ rw e (h.0, (λ w k. each_kept (Lacks w) p ts (h.1 w k)), WriteOnce-filter p ts h.2)
  | inr e ↦ rw e (WriteOnce-filter p ts h.2)
]

pub apart_at : (ts : List Transaction) (i : ℕ) (t : Transaction) → WriteOnce ts → slice_get ts i ≡ Some t → Apart (written t.ops)
apart_at [] i t h e = cc
apart_at (u ∷ ts) zero t h e = let same : u ≡ t = cc in subst (λ x. Apart (written x.ops)) same h.0
apart_at (u ∷ ts) (suc i) t h e = apart_at ts i t h.2 e

pub one_writer : (ts : List Transaction) (i j : ℕ) (t u : Transaction) (w : ℕ) → WriteOnce ts → slice_get ts i ≡ Some t → slice_get ts j ≡ Some u → Has w (written t.ops) → Has w (written u.ops) → i ≡ j
one_writer [] i j t u w h e f k l = cc
one_writer (x ∷ ts) zero zero t u w h e f k l = refl
one_writer (x ∷ ts) zero (suc j) t u w h e f k l =
    let same : x ≡ t = cc in
    absurd (each_at (Lacks w) ts j u (h.1 w (subst (λ y. Has w (written y.ops)) (sym same) k)) f l)
one_writer (x ∷ ts) (suc i) zero t u w h e f k l =
    let same : x ≡ u = cc in
    absurd (each_at (Lacks w) ts i t (h.1 w (subst (λ y. Has w (written y.ops)) (sym same) l)) e k)
one_writer (x ∷ ts) (suc i) (suc j) t u w h e f k l = ap suc (one_writer ts i j t u w h.2 e f k l)

-- of those that pass a test and those that fail it
abbrev LackedBy : List Transaction → Transaction → Type 0
LackedBy others t = (w : ℕ) → Has w (written t.ops) → AllByRecursion (Lacks w) others

lacked_more : (t : Transaction) (others ts : List Transaction) → ((w : ℕ) → Has w (written t.ops) → AllByRecursion (Lacks w) ts) → AllByRecursion (LackedBy others) ts → AllByRecursion (LackedBy (t ∷ others)) ts
lacked_more t others [] h k = tt
lacked_more t others (u ∷ ts) h k =
    ((λ w in_u. ((λ in_t. (h w in_t).0 in_u), k.0 w in_u)), lacked_more t others ts (λ w in_t. (h w in_t).1) k.1)

pub parts_apart : (p : Transaction → Bool) (ts : List Transaction) → WriteOnce ts → AllByRecursion (LackedBy (filter (λ t. not (p t)) ts)) (filter p ts)
parts_apart p [] h = tt
parts_apart p (t ∷ ts) h = elim (cases_Bool (p t)) [
  | inl e ↦ rw e ((λ w k. each_kept (Lacks w) (λ u. not (p u)) ts (h.1 w k)), parts_apart p ts h.2)
  | inr e ↦ rw e (lacked_more t (filter (λ u. not (p u)) ts) (filter p ts) (λ w k. each_kept (Lacks w) p ts (h.1 w k)) (parts_apart p ts h.2))
]

-- a list of lists of events, made from transactions that lack the identity, has no write of it
pub contained_at : {X : Type 0} (P : X → Type 0) (xs : List X) (k : ℕ) (x : X) → AllByRecursion P xs → k < length xs → get_or xs k x ≡ x → P x
contained_at P [] k x h lt e = absurd (omega arith)
contained_at P (y ∷ ys) zero x h lt e = subst P e h.0
contained_at P (y ∷ ys) (suc k) x h lt e = contained_at P ys k x h.1 (omega arith) e

lack_events : (keys : List (List ℕ)) (w : ℕ) (ts : List Transaction) → AllByRecursion (Lacks w) ts → AllByRecursion (λ es. Has w (written_in es) → ⊥) (map (events_of keys) (map txn_ops ts))
lack_events keys w [] h = tt
lack_events keys w (t ∷ ts) h = ((λ k. h.0 (subst (Has w) (written_events keys t.ops) k)), lack_events keys w ts h.1)

pub none_written : (keys : List (List ℕ)) (y w : ℕ) (ts : List Transaction) (es : List Event) → AllByRecursion (Lacks w) ts → Contains (map (events_of keys) (map txn_ops ts)) es → Contains es (Write y w) → ⊥
none_written keys y w ts es h c d =
    contained_at (λ es. Has w (written_in es) → ⊥) (map (events_of keys) (map txn_ops ts)) c.0 es (lack_events keys w ts h) c.1 c.2 (Has-from_Contains es y w d)
