-- The least version of a list of sessions.
use Rattle.session_log.proofs.Prelude.{◌≡◌, ◌≤◌, Bool, true, false, List, [], ◌∷◌, map, refl, sym, ap, ◌∙◌, subst, inl, inr, arith, ◌||◌, is_some, list_any, AllByRecursion, cases_Bool, or_parts, ClientSession, Transaction, view, view_txn}
use Rattle.session_log.proofs.Prelude.{IsHeldBy, IsKnown, HasNoMoments, is_unknown, has_unknown, has_moment, least_version, version_number, Version, One, Two, Three}
use Rattle.list_lemmas.proofs.Options.{none_of}
use Rattle.session_log.specs.declared.session.Session.{Session}
use Rattle.session_log.specs.declared.session.Txn.{Txn}

none_known : (ts : List Transaction) → list_any (λ (t : Transaction). is_unknown t.outcome) ts ≡ false → AllByRecursion IsKnown ts
none_known [] h = tt
none_known (t ∷ ts) h = let p = or_parts (is_unknown t.outcome) (list_any (λ (t : Transaction). is_unknown t.outcome) ts) h in (p.0, none_known ts p.1)

known_none : (ts : List Transaction) → AllByRecursion IsKnown ts → list_any (λ (t : Transaction). is_unknown t.outcome) ts ≡ false
known_none [] h = refl
known_none (t ∷ ts) h = rw (h.0, known_none ts h.1) refl

-- whether a moment of the transaction is stated
abbrev pub is_stated : Transaction → Bool
is_stated t = is_some t.begun || is_some t.ended

none_stated : (ts : List Transaction) → list_any is_stated ts ≡ false → AllByRecursion HasNoMoments ts
none_stated [] h = tt
none_stated (t ∷ ts) h =
    let p = or_parts (is_stated t) (list_any is_stated ts) h in
    let q = or_parts (is_some t.begun) (is_some t.ended) p.0 in
    ((none_of t.begun q.0, none_of t.ended q.1), none_stated ts p.1)

stated_none : (ts : List Transaction) → AllByRecursion HasNoMoments ts → list_any is_stated ts ≡ false
stated_none [] h = refl
stated_none (t ∷ ts) h = rw (h.0.0, h.0.1, stated_none ts h.1) refl

held_by_one : (ss : List ClientSession) → list_any has_unknown ss ≡ false → list_any has_moment ss ≡ false → AllByRecursion (IsHeldBy One) ss
held_by_one [] h k = tt
held_by_one (s ∷ ss) h k =
    let p = or_parts (has_unknown s) (list_any has_unknown ss) h in
    let q = or_parts (has_moment s) (list_any has_moment ss) k in
    ((none_known s.txns p.0, none_stated s.txns q.0), held_by_one ss p.1 q.1)

held_by_two : (ss : List ClientSession) → list_any has_moment ss ≡ false → AllByRecursion (IsHeldBy Two) ss
held_by_two [] k = tt
held_by_two (s ∷ ss) k = let q = or_parts (has_moment s) (list_any has_moment ss) k in (none_stated s.txns q.0, held_by_two ss q.1)

held_by_three : (ss : List ClientSession) → AllByRecursion (IsHeldBy Three) ss
held_by_three [] = tt
held_by_three (s ∷ ss) = (tt, held_by_three ss)

one_has_no_unknown : (ss : List ClientSession) → AllByRecursion (IsHeldBy One) ss → list_any has_unknown ss ≡ false
one_has_no_unknown [] h = refl
one_has_no_unknown (s ∷ ss) h = rw (known_none s.txns h.0.0, one_has_no_unknown ss h.1) refl

one_has_no_moment : (ss : List ClientSession) → AllByRecursion (IsHeldBy One) ss → list_any has_moment ss ≡ false
one_has_no_moment [] h = refl
one_has_no_moment (s ∷ ss) h = rw (stated_none s.txns h.0.1, one_has_no_moment ss h.1) refl

two_has_no_moment : (ss : List ClientSession) → AllByRecursion (IsHeldBy Two) ss → list_any has_moment ss ≡ false
two_has_no_moment [] h = refl
two_has_no_moment (s ∷ ss) h = rw (stated_none s.txns h.0, two_has_no_moment ss h.1) refl

pub least_is_three : (ss : List ClientSession) → list_any has_moment ss ≡ true → least_version ss ≡ Three
least_is_three ss e = rw e refl

pub least_is_two : (ss : List ClientSession) → list_any has_moment ss ≡ false → list_any has_unknown ss ≡ true → least_version ss ≡ Two
least_is_two ss k e = rw (k, e) refl

pub least_is_one : (ss : List ClientSession) → list_any has_moment ss ≡ false → list_any has_unknown ss ≡ false → least_version ss ≡ One
least_is_one ss k e = rw (k, e) refl

-- what holds of the least version
least_where : (ss : List ClientSession) (P : Version → Type 0) → (list_any has_moment ss ≡ true → P Three) → (list_any has_moment ss ≡ false → list_any has_unknown ss ≡ true → P Two)
    → (list_any has_moment ss ≡ false → list_any has_unknown ss ≡ false → P One) → P (least_version ss)
least_where ss P three two one = elim (cases_Bool (list_any has_moment ss)) [
  | inl k ↦ subst P (sym (least_is_three ss k)) (three k)
  | inr k ↦ elim (cases_Bool (list_any has_unknown ss)) [
    | inl e ↦ subst P (sym (least_is_two ss k e)) (two k e)
    | inr e ↦ subst P (sym (least_is_one ss k e)) (one k e)
  ]
]

pub least_holds : (ss : List ClientSession) → AllByRecursion (IsHeldBy (least_version ss)) ss
least_holds ss = least_where ss (λ v. AllByRecursion (IsHeldBy v) ss) (λ k. held_by_three ss) (λ k e. held_by_two ss k) (λ k e. held_by_one ss e k)

at_most_three : (v : Version) → version_number v ≤ 3
at_most_three One = omega arith
at_most_three Two = omega arith
at_most_three Three = omega arith

pub least_is_least : (v : Version) (ss : List ClientSession) → AllByRecursion (IsHeldBy v) ss → version_number (least_version ss) ≤ version_number v
least_is_least Three ss h = at_most_three (least_version ss)
least_is_least Two ss h = least_where ss (λ v. version_number v ≤ 2) (λ k. cc (k, two_has_no_moment ss h)) (λ k e. omega arith) (λ k e. omega arith)
least_is_least One ss h = least_where ss (λ v. version_number v ≤ 1) (λ k. cc (k, one_has_no_moment ss h)) (λ k e. cc (e, one_has_no_unknown ss h)) (λ k e. omega arith)

-- the same of sessions in memory
any_txn : (ts : List Txn) → list_any (λ (t : Transaction). is_unknown t.outcome) (map view_txn ts) ≡ list_any (λ (t : Txn). is_unknown t.outcome) ts
any_txn [] = refl
any_txn (t ∷ ts) = ap (λ b. is_unknown t.outcome || b) (any_txn ts)

pub any_viewed : (ss : List Session) → list_any has_unknown (map view ss) ≡ list_any (λ (s : Session). list_any (λ (t : Txn). is_unknown t.outcome) s.txns.items) ss
any_viewed [] = refl
any_viewed (s ∷ ss) = ap (λ b. b || list_any has_unknown (map view ss)) (any_txn s.txns.items) ∙ ap (λ b. list_any (λ (t : Txn). is_unknown t.outcome) s.txns.items || b) (any_viewed ss)

stated_txn : (ts : List Txn) → list_any is_stated (map view_txn ts) ≡ list_any (λ (t : Txn). is_some t.begun || is_some t.ended) ts
stated_txn [] = refl
stated_txn (t ∷ ts) = ap (λ b. (is_some t.begun || is_some t.ended) || b) (stated_txn ts)

pub stated_viewed : (ss : List Session) → list_any has_moment (map view ss) ≡ list_any (λ (s : Session). list_any (λ (t : Txn). is_some t.begun || is_some t.ended) s.txns.items) ss
stated_viewed [] = refl
stated_viewed (s ∷ ss) = ap (λ b. b || list_any has_moment (map view ss)) (stated_txn s.txns.items) ∙ ap (λ b. list_any (λ (t : Txn). is_some t.begun || is_some t.ended) s.txns.items || b) (stated_viewed ss)
