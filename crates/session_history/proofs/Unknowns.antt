-- The writes of transactions of unknown outcome.
use Rattle.session_history.proofs.Prelude.{◌≡◌, ℕ, Bool, true, false, cond, eqb, List, [], ◌∷◌, Option, Some, None, refl, ap, subst, ◌∙◌, eqb-true, AllByRecursion, Contains, option_or, false≢true, same_Some, ClientSession, Transaction, Op}
use Rattle.session_history.proofs.Prelude.{Read, Write, Outcome, Commit, Abort, Unknown, each_of_flat_map, each_from_flat_map, is_unknown, each_weaker, each_member, WriteView, WriteAt, writes_of, unknown_writes_of, unknown_writes}
use Rattle.session_history.proofs.Prelude.{last_with}

-- what holds of each of the writes holds of the one that is found
pub last_each : (P : WriteAt → Type 0) (wid : ℕ) (xs : List WriteAt) (w : WriteView) → AllByRecursion P xs → last_with wid xs ≡ Some w → P (wid, w)
last_each P wid [] w h e = cc
last_each P wid (x ∷ xs) w h e = go (last_with wid xs) refl e (last_each P wid xs w h.1)
  where
    here : (b : Bool) → eqb x.0 wid ≡ b → cond b (Some x.1) None ≡ Some w → P (wid, w)
    here true f g = subst P (ap (λ n. (n, x.1)) (eqb-true x.0 wid f) ∙ ap (λ v. (wid, v)) (same_Some x.1 w g)) h.0
    here false f g = cc

    go : (o : Option WriteView) → last_with wid xs ≡ o → option_or o (cond (eqb x.0 wid) (Some x.1) None) ≡ Some w → (last_with wid xs ≡ Some w → P (wid, w)) → P (wid, w)
    go None f g later = here (eqb x.0 wid) refl g
    go (Some v) f g later = later (f ∙ g)

-- the session has a transaction of unknown outcome with this write
pub record IsUnknownWrite (ss : List ClientSession) (x : WriteAt) : Type 0 where
  pub txn : Transaction
  pub is_session : Contains ss x.1.session
  pub is_txn : Contains x.1.session.txns txn
  pub outcome : txn.outcome ≡ Unknown
  pub writes : Contains txn.ops (Write x.1.key x.0)

-- what holds of the writes of transactions of unknown outcome, by session, transaction and operation
abbrev pub EachWrite : (WriteAt → Type 0) → ClientSession → Op → Type 0
EachWrite P s (Read key wid) = Unit {0}
EachWrite P s (Write key wid) = P (wid, record { key = key; session = s })

each_of_writes : (P : WriteAt → Type 0) (s : ClientSession) (ops : List Op) → AllByRecursion P (writes_of s ops) → AllByRecursion (EachWrite P s) ops
each_of_writes P s [] h = tt
each_of_writes P s (Read key wid ∷ ops) h = (tt, each_of_writes P s ops h)
each_of_writes P s (Write key wid ∷ ops) h = (h.0, each_of_writes P s ops h.1)

each_from_writes : (P : WriteAt → Type 0) (s : ClientSession) (ops : List Op) → AllByRecursion (EachWrite P s) ops → AllByRecursion P (writes_of s ops)
each_from_writes P s [] h = tt
each_from_writes P s (Read key wid ∷ ops) h = each_from_writes P s ops h.1
each_from_writes P s (Write key wid ∷ ops) h = (h.0, each_from_writes P s ops h.1)

unknown_is : (t : Transaction) → is_unknown t ≡ true → t.outcome ≡ Unknown
unknown_is t e = go t.outcome e
  where
    go : (o : Outcome) → is_unknown (record { ops = t.ops; outcome = o; begun = t.begun; ended = t.ended }) ≡ true → o ≡ Unknown
    go Commit f = absurd (false≢true f)
    go Abort f = absurd (false≢true f)
    go Unknown f = refl

abbrev pub writes_in : ClientSession → Transaction → List WriteAt
writes_in s t = cond (is_unknown t) (writes_of s t.ops) []

pub each_of_unknown : (P : WriteAt → Type 0) (ss : List ClientSession) → AllByRecursion P (unknown_writes ss) → AllByRecursion (λ s. AllByRecursion (λ t. t.outcome ≡ Unknown → AllByRecursion (EachWrite P s) t.ops) s.txns) ss
each_of_unknown P ss h = each_weaker _ _ (λ s k. each_weaker _ _ (λ t. own s t) s.txns (each_of_flat_map P (writes_in s) s.txns k)) ss (each_of_flat_map P (λ (s : ClientSession). unknown_writes_of s s.txns) ss h)
  where
    own : (s : ClientSession) (t : Transaction) → AllByRecursion P (writes_in s t) → t.outcome ≡ Unknown → AllByRecursion (EachWrite P s) t.ops
    own s t k e =
        let Q : Bool → Type 0 = λ b. AllByRecursion P (cond b (writes_of s t.ops) []) in
        each_of_writes P s t.ops (subst Q (ap (λ o. is_unknown (record { ops = t.ops; outcome = o; begun = t.begun; ended = t.ended })) e) k)

each_from_unknown : (P : WriteAt → Type 0) (ss : List ClientSession) → AllByRecursion (λ s. AllByRecursion (λ t. t.outcome ≡ Unknown → AllByRecursion (EachWrite P s) t.ops) s.txns) ss → AllByRecursion P (unknown_writes ss)
each_from_unknown P ss h = each_from_flat_map P (λ (s : ClientSession). unknown_writes_of s s.txns) ss (each_weaker _ _ (λ s k. each_from_flat_map P (writes_in s) s.txns (each_weaker _ _ (λ t. own s t) s.txns k)) ss h)
  where
    own : (s : ClientSession) (t : Transaction) → (t.outcome ≡ Unknown → AllByRecursion (EachWrite P s) t.ops) → AllByRecursion P (writes_in s t)
    own s t k = go (is_unknown t) (unknown_is t)
      where
        go : (b : Bool) → (b ≡ true → t.outcome ≡ Unknown) → AllByRecursion P (cond b (writes_of s t.ops) [])
        go true e = each_from_writes P s t.ops (k (e refl))
        go false e = tt

-- each of the writes is one
pub all_unknown : (ss : List ClientSession) → AllByRecursion (IsUnknownWrite ss) (unknown_writes ss)
all_unknown ss = each_from_unknown (IsUnknownWrite ss) ss (each_member _ ss (λ s at_s. each_member _ s.txns (λ t at_t e. each_member (EachWrite (IsUnknownWrite ss) s) t.ops (λ op at_op. own s t op at_s at_t e at_op))))
  where
    own : (s : ClientSession) (t : Transaction) (op : Op) → Contains ss s → Contains s.txns t → t.outcome ≡ Unknown → Contains t.ops op → EachWrite (IsUnknownWrite ss) s op
    own s t (Read key wid) at_s at_t e at_op = tt
    own s t (Write key wid) at_s at_t e at_op = record { txn = t; is_session = at_s; is_txn = at_t; outcome = e; writes = at_op }
