-- The sessions that are found are all that are taken.
use Rattle.session_history.proofs.Prelude.{◌≡◌, ℕ, zero, suc, Bool, true, false, cond, eqb, List, [], ◌∷◌, length, map, count_by, Option, Some, refl, sym, ap, subst, ◌∙◌, ◌+◌, ◌≤◌, arith, nat_eq, eqb-true, eq-eqb, AllByRecursion, Contains}
use Rattle.session_history.proofs.Prelude.{IsDistinct, false≢true, take_all, Any-from_list_any, sum_by-cons, bytes_eq-Decides, ClientSession, Transaction, Read, Write, Outcome, Commit, Abort, Unknown, Apart-from_IsDistinct}
use Rattle.session_history.proofs.Prelude.{each_of_flat_map, each_of_map, is_unknown, txns_in, ops_in, settled_as, settled, committed_ops, taken, IsNeeded, IsClosed, is_commit, written, member, each_weaker, each_member, Counts}
use Rattle.session_history.proofs.Prelude.{each_from_committed, taken_least, ops_ended, WriteView, WriteAt, unknown_writes, last_with, has, IsOnce}
use Rattle.list_lemmas.proofs.Bools.{same_bool}
use Rattle.session_history.proofs.Ended.{each_of_ended}
use Rattle.session_history.proofs.Grown.{Served}
use Rattle.session_history.proofs.Unknowns.{EachWrite, each_of_unknown}
use Rattle.session_history.proofs.Once.{thinner_all, each_last}
use Rattle.session_history.proofs.Worked.{IsTakenSession, Worked}

-- two sessions with one number are one session
one_session : (ss : List ClientSession) (s t : ClientSession) → IsDistinct nat_eq (map (λ s. s.number) ss) → Contains ss s → Contains ss t → s.number ≡ t.number → s ≡ t
unfolding IsDistinct
one_session ss s t d at_s at_t e = member (λ x. x.number ≡ t.number → x ≡ t) ss s (go ss d at_t) at_s e
  where
    go : (xs : List ClientSession) → IsDistinct nat_eq (map (λ s. s.number) xs) → Contains xs t → AllByRecursion (λ x. x.number ≡ t.number → x ≡ t) xs
    go [] d c = tt
    go (x ∷ xs) d (zero, lt, is) = (
      λ _. is,
      each_weaker _ _ (λ y f same. absurd (false≢true (sym f ∙ eq-eqb x.number y.number (ap (λ (z : ClientSession). z.number) is ∙ sym same)))) xs (each_of_map (λ n. nat_eq x.number n ≡ false) (λ (z : ClientSession). z.number) xs d.0),
    )
    go (x ∷ xs) d (suc k, lt, is) =
        let c : Contains xs t = (k, omega (arith, lt), is) in
        let apart = each_of_map (λ n. nat_eq x.number n ≡ false) (λ (z : ClientSession). z.number) xs d.0 in
        (λ same. absurd (false≢true (sym (member (λ y. nat_eq x.number y.number ≡ false) xs t apart c) ∙ eq-eqb x.number t.number same)), go xs d.1 c)

-- what a committed transaction reads from, or one of a session that was found, is found
all_served : (ss order : List ClientSession) (found : ℕ → Option WriteView) (done : ℕ) → IsOnce ss → Worked ss order found done → length order ≤ done → AllByRecursion (Served found order) (committed_ops (settled (has order) ss))
all_served ss order found done once k le = each_from_committed (Served found order) (has order) ss (each_member _ ss (λ s at_s. each_member _ s.txns (λ t at_t e. own s t at_s at_t t.outcome refl e)))
  where
    by_commit : (s : ClientSession) (t : Transaction) → Contains ss s → Contains s.txns t → t.outcome ≡ Commit → AllByRecursion (Served found order) t.ops
    by_commit s t at_s at_t e =
        member (λ t. t.outcome ≡ Commit → AllByRecursion (Served found order) t.ops) s.txns t
        (each_of_ended (Served found order) Commit s.txns (member (λ s. AllByRecursion (Served found order) (ops_ended Commit s.txns)) ss s (each_of_flat_map (Served found order) (λ (s : ClientSession). ops_ended Commit s.txns) ss k.committed) at_s)) at_t e

    by_taken : (s : ClientSession) (t : Transaction) → Contains ss s → Contains s.txns t → has order s.number ≡ true → t.outcome ≡ Unknown → AllByRecursion (Served found order) t.ops
    by_taken s t at_s at_t is e =
        let x = Any-from_list_any (λ (r : ClientSession). eqb r.number s.number) order is in
        let at_x : Contains order x.1 = (x.0, x.2, x.3) in
        let same = one_session ss x.1 s once.sessions (member (IsTakenSession ss) order x.1 k.each at_x).is_session at_s (eqb-true x.1.number s.number x.4) in
        let Q : ClientSession → Type 0 = λ r. AllByRecursion (Served found order) (ops_ended Unknown r.txns) in
        let all : AllByRecursion Q order = subst (AllByRecursion Q) (take_all done order le) k.taken in
        member (λ t. t.outcome ≡ Unknown → AllByRecursion (Served found order) t.ops) s.txns t (each_of_ended (Served found order) Unknown s.txns (subst Q same (member Q order x.1 all at_x))) at_t e

    own : (s : ClientSession) (t : Transaction) → Contains ss s → Contains s.txns t → (o : Outcome) → t.outcome ≡ o → Counts (has order) s t → AllByRecursion (Served found order) t.ops
    own s t at_s at_t Commit f e = by_commit s t at_s at_t f
    own s t at_s at_t Abort f e = absurd (false≢true (sym (ap (λ o. is_commit (settled_as (has order s.number) o)) f) ∙ e))
    own s t at_s at_t Unknown f e = by_taken s t at_s at_t (chosen (has order s.number) (sym (ap (λ o. is_commit (settled_as (has order s.number) o)) f) ∙ e)) f
      where
        chosen : (b : Bool) → is_commit (settled_as b Unknown) ≡ true → b ≡ true
        chosen true g = refl
        chosen false g = absurd (false≢true g)

-- a write that is needed is found by its identity
finds_write : (ss : List ClientSession) (chosen : ℕ → Bool) (n : ℕ) → IsOnce ss → (need : IsNeeded ss chosen n) → last_with need.wid (unknown_writes ss) ≡ Some (record { key = need.key; session = need.session })
finds_write ss chosen n once need =
    let P : WriteAt → Type 0 = λ x. last_with x.0 (unknown_writes ss) ≡ Some x.1 in
    let each = each_last (unknown_writes ss) ((thinner_all ss).apart (Apart-from_IsDistinct (written (ops_in ss)) once.writes)) in
    let of_session = member (λ s. AllByRecursion (λ t. t.outcome ≡ Unknown → AllByRecursion (EachWrite P s) t.ops) s.txns) ss need.session (each_of_unknown P ss each) need.is_session in
    let of_txn = member (λ t. t.outcome ≡ Unknown → AllByRecursion (EachWrite P need.session) t.ops) need.session.txns need.txn of_session need.is_txn need.outcome in
    member (EachWrite P need.session) need.txn.ops (Write need.key need.wid) of_txn need.writes

-- once nothing is left to read
pub worked_all : (ss order : List ClientSession) (found : ℕ → Option WriteView) (done : ℕ) → IsOnce ss → ((wid : ℕ) → found wid ≡ last_with wid (unknown_writes ss)) → Worked ss order found done → length order ≤ done
    → (n : ℕ) → has order n ≡ taken ss n
worked_all ss order found done once h k le n = same_bool (has order n) (taken ss n) only (λ e. taken_least ss (has order) closed n e)
  where
    closed : IsClosed ss (has order)
    closed = record {
      each = λ n need.
          let served : Served found order (Read need.key need.wid) =
          member (Served found order) (committed_ops (settled (has order) ss)) (Read need.key need.wid) (all_served ss order found done once k le) need.reads in
          subst (λ m. has order m ≡ true) need.number
          (served (record { key = need.key; session = need.session }) (h need.wid ∙ finds_write ss (has order) n once need) ((bytes_eq-Decides need.key need.key).1 refl));
    }

    only : has order n ≡ true → taken ss n ≡ true
    only e =
        let x = Any-from_list_any (λ (r : ClientSession). eqb r.number n) order e in
        subst (λ m. taken ss m ≡ true) (eqb-true x.1.number n x.4) (member (IsTakenSession ss) order x.1 k.each (x.0, x.2, x.3)).taken

-- ---- where there are none

none_counted : {X : Type 0} (p : X → Bool) (xs : List X) → 0 ≡ count_by p xs → AllByRecursion (λ x. p x ≡ false) xs
none_counted p [] e = tt
none_counted p (x ∷ xs) e = go (p x) refl (e ∙ sum_by-cons (λ y. cond (p y) 1 0) x xs) (none_counted p xs)
  where
    go : (b : Bool) → p x ≡ b → 0 ≡ cond b 1 0 + count_by p xs → (0 ≡ count_by p xs → AllByRecursion (λ y. p y ≡ false) xs) → AllByRecursion (λ y. p y ≡ false) (x ∷ xs)
    go true f g later = absurd (omega arith)
    go false f g later = (f, later (omega (arith, g)))

pub none_taken : (ss : List ClientSession) → 0 ≡ count_by is_unknown (txns_in ss) → (n : ℕ) → false ≡ taken ss n
none_taken ss e n = sym (same_bool (taken ss n) false (λ t. taken_least ss (λ m. false) closed n t) (λ f. absurd (false≢true f)))
  where
    closed : IsClosed ss (λ m. false)
    closed = record {
      each = λ m need.
          let all = each_of_flat_map (λ (t : Transaction). is_unknown t ≡ false) (λ (s : ClientSession). s.txns) ss (none_counted is_unknown (txns_in ss) e) in
          let f = member (λ (t : Transaction). is_unknown t ≡ false) need.session.txns need.txn (member (λ (s : ClientSession). AllByRecursion (λ (t : Transaction). is_unknown t ≡ false) s.txns) ss need.session all need.is_session) need.is_txn in
          absurd (false≢true (sym f ∙ ap (λ o. is_unknown (record { ops = need.txn.ops; outcome = o; begun = need.txn.begun; ended = need.txn.ended })) need.outcome));
    }
