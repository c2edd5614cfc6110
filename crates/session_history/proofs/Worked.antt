-- The sessions that are found by reading, session by session, are taken.
use Rattle.session_history.proofs.Prelude.{◌≡◌, ℕ, true, List, [], ◌∷◌, ◌++◌, length, map, take, get_or, Option, refl, sym, ap, subst, ◌∙◌, ◌+◌, ◌<◌, ◌≤◌, arith, nat_eq, length-append, AllByRecursion, Contains, IsDistinct, take-append-le}
use Rattle.session_history.proofs.Prelude.{Any-from_list_any, bytes_eq-Decides, front_more, ClientSession, Op, Read, Write, Commit, Unknown, each_from_append, each_from_flat_map, each_of_map, each_from_map, length_mapped, settled_as}
use Rattle.session_history.proofs.Prelude.{settled, committed_ops, taken, IsNeeded, is_commit, member, themselves, each_weaker, any_member, Counts, EachCounted, each_of_committed, needed_taken, ops_ended, committed_in_all, WriteView}
use Rattle.session_history.proofs.Prelude.{unknown_writes, last_with, with_reads}
use Rattle.std.proofs.lemmas.Map.Made.{length-le_from_is_member}
use Rattle.std.proofs.lemmas.Cmp.{nat_eq_equiv}
use Rattle.session_history.proofs.Ended.{each_from_ended}
use Rattle.session_history.proofs.Grown.{numbers, Served, Finds, grown, all_still}
use Rattle.session_history.proofs.Unknowns.{last_each, IsUnknownWrite, all_unknown}

-- a session whose transaction of unknown outcome is taken
pub record IsTakenSession (ss : List ClientSession) (s : ClientSession) : Type 0 where
  pub is_session : Contains ss s
  pub taken : taken ss s.number ≡ true

-- what a committed or a taken transaction reads from is taken
finds_taken : (ss : List ClientSession) (found : ℕ → Option WriteView) → ((wid : ℕ) → found wid ≡ last_with wid (unknown_writes ss)) → (op : Op) → Contains (committed_ops (settled (taken ss) ss)) op → Finds found (IsTakenSession ss) op
finds_taken ss found h (Write key wid) at = tt
finds_taken ss found h (Read key wid) at = λ w e same.
    let x = last_each (IsUnknownWrite ss) wid (unknown_writes ss) w (all_unknown ss) (sym (h wid) ∙ e) in
    let key_is : w.key ≡ key = sym ((bytes_eq-Decides key w.key).0 same) in
    let need : IsNeeded ss (taken ss) w.session.number = record {
      session = w.session;
      txn = x.txn;
      key = key;
      wid = wid;
      is_session = x.is_session;
      is_txn = x.is_txn;
      number = refl;
      outcome = x.outcome;
      writes = subst (λ k. Contains x.txn.ops (Write k wid)) key_is x.writes;
      reads = at;
    } in
    record { is_session = x.is_session; taken = needed_taken ss (taken ss) w.session.number (λ n t. t) need }

-- it counts as an operation of a committed transaction, where the taken ones do
abbrev counted : List ClientSession → Op → Type 0
counted ss op = Contains (committed_ops (settled (taken ss) ss)) op

all_counted : (ss : List ClientSession) → EachCounted (counted ss) (taken ss) ss
all_counted ss = each_of_committed (counted ss) (taken ss) ss (themselves (committed_ops (settled (taken ss) ss)))

-- what the committed transactions read from, and then what a taken one does
find_committed : (ss : List ClientSession) (found : ℕ → Option WriteView) → ((wid : ℕ) → found wid ≡ last_with wid (unknown_writes ss)) → AllByRecursion (Finds found (IsTakenSession ss)) (committed_in_all ss)
find_committed ss found h =
    each_weaker (counted ss) (Finds found (IsTakenSession ss)) (finds_taken ss found h) (committed_in_all ss)
    (each_from_flat_map (counted ss) (λ (s : ClientSession). ops_ended Commit s.txns) ss
    (each_weaker _ _ (λ s k. each_from_ended (counted ss) Commit s.txns (each_weaker _ _ (λ t j e. j (ap (λ o. is_commit (settled_as (taken ss s.number) o)) e)) s.txns k)) ss (all_counted ss)))

find_taken : (ss : List ClientSession) (found : ℕ → Option WriteView) → ((wid : ℕ) → found wid ≡ last_with wid (unknown_writes ss)) → (s : ClientSession) → IsTakenSession ss s → AllByRecursion (Finds found (IsTakenSession ss)) (ops_ended Unknown s.txns)
find_taken ss found h s is =
    each_weaker (counted ss) (Finds found (IsTakenSession ss)) (finds_taken ss found h) (ops_ended Unknown s.txns)
    (each_from_ended (counted ss) Unknown s.txns
    (each_weaker _ _ (λ t j e. j (ap (λ o. is_commit (settled_as (taken ss s.number) o)) e ∙ ap (λ b. is_commit (settled_as b Unknown)) is.taken)) s.txns
    (member (λ s. AllByRecursion (λ t. Counts (taken ss) s t → AllByRecursion (counted ss) t.ops) s.txns) ss s (all_counted ss) is.is_session)))

-- ---- session by session

-- the committed transactions are read, and the taken ones of so many sessions
pub record Worked (ss order : List ClientSession) (found : ℕ → Option WriteView) (done : ℕ) : Type 0 where
  pub once : IsDistinct nat_eq (map (λ s. s.number) order)
  pub each : AllByRecursion (IsTakenSession ss) order
  pub committed : AllByRecursion (Served found order) (committed_in_all ss)
  pub taken : AllByRecursion (λ s. AllByRecursion (Served found order) (ops_ended Unknown s.txns)) (take done order)
  pub within : done ≤ length order

-- where the committed transactions are read
pub worked_none : (ss new : List ClientSession) (found : ℕ → Option WriteView) → ((wid : ℕ) → found wid ≡ last_with wid (unknown_writes ss)) → new ≡ with_reads found (committed_in_all ss) [] → Worked ss new found 0
unfolding IsDistinct
worked_none ss new found h e =
    let g = grown found (IsTakenSession ss) (committed_in_all ss) [] (find_committed ss found h) in
    let P : List ClientSession → Type 0 = λ o. Worked ss o found 0 in
    subst P (sym e) (record { once = g.once tt; each = g.each tt; committed = g.served; taken = tt; within = omega arith })

-- with one session more
pub worked_more : (ss order new : List ClientSession) (found : ℕ → Option WriteView) (done : ℕ) (s : ClientSession) → ((wid : ℕ) → found wid ≡ last_with wid (unknown_writes ss)) → Worked ss order found done
    → done < length order → s ≡ get_or order done s → new ≡ with_reads found (ops_ended Unknown s.txns) order → Worked ss new found (done + 1)
worked_more ss order new found done s h k lt at e =
    let is = member (IsTakenSession ss) order s k.each (done, lt, sym at) in
    let g = grown found (IsTakenSession ss) (ops_ended Unknown s.txns) order (find_taken ss found h s is) in
    let next = with_reads found (ops_ended Unknown s.txns) order in
    let ReadAt : List ClientSession → List ClientSession → Type 0 = λ o xs. AllByRecursion (λ s. AllByRecursion (Served found o) (ops_ended Unknown s.txns)) xs in
    let P : List ClientSession → Type 0 = λ o. Worked ss o found (done + 1) in
    let front : take (done + 1) next ≡ take done order ++ s ∷ [] =
    ap (take (done + 1)) g.longer ∙ take-append-le (done + 1) order g.more (omega arith) ∙ front_more order done s lt at in
    let long = ap length g.longer ∙ length-append order g.more in
    let before : ReadAt (order ++ g.more) (take done order) =
    each_weaker _ _ (λ s. all_still found order g.more (ops_ended Unknown s.txns)) (take done order) k.taken in
    subst P (sym e) (record {
      once = g.once k.once;
      each = g.each k.each;
      committed = subst (λ o. AllByRecursion (Served found o) (committed_in_all ss)) (sym g.longer) (all_still found order g.more (committed_in_all ss) k.committed);
      taken = subst (ReadAt next) (sym front) (each_from_append _ (take done order) (s ∷ []) (subst (λ o. ReadAt o (take done order)) (sym g.longer) before) (g.served, tt));
      within = omega (arith, long);
    })

-- no more sessions are taken than there are
pub worked_few : (ss order : List ClientSession) (found : ℕ → Option WriteView) (done : ℕ) → Worked ss order found done → length order ≤ length ss
worked_few ss order found done k =
    let is_number : ℕ → Type 0 = λ n. Contains (numbers ss) n in
    let all : AllByRecursion (λ s. is_number s.number) ss = each_of_map is_number (λ (s : ClientSession). s.number) ss (themselves (numbers ss)) in
    let each : AllByRecursion is_number (numbers order) =
    each_from_map is_number (λ (s : ClientSession). s.number) order (each_weaker (IsTakenSession ss) (λ s. is_number s.number) (λ s is. member (λ s. is_number s.number) ss s all is.is_session) order k.each) in
    let le = length-le_from_is_member nat_eq_equiv (numbers order) (numbers ss) k.once (λ q e.
    (let x = Any-from_list_any (nat_eq q) (numbers order) e in
    any_member (nat_eq q) (numbers ss) x.1 (member is_number (numbers order) x.1 each (x.0, x.2, x.3)) x.4)) in
    omega (arith, le, length_mapped (λ (s : ClientSession). s.number) ss, length_mapped (λ (s : ClientSession). s.number) order)
