-- Logs whose unknown outcomes all count as committed, and their runs.
use Rattle.round_laws.proofs.Prelude.{◌≡◌, ◌⊎◌, ℕ, Bool, true, false, eqb, ◌||◌, cond, not, List, [], ◌∷◌, ◌++◌, map, refl, sym, ap, ◌∙◌, subst, inl, inr, arith, eqb-true, eq-eqb, filter, list_any, AllByRecursion, Contains, cases_Bool}
use Rattle.round_laws.proofs.Prelude.{false≢true, or_cases, or_left, map-append, Contains-append_left, Contains-append_right, Contains-append_cases, behind, mapped, ClientSession, Transaction, is_write, is_commit, Op, Read, Commit, Abort}
use Rattle.round_laws.proofs.Prelude.{Unknown, is_unknown, settled_as, settle, settled, taken, resolved, committed_ops, IsNeeded, IsWithin, member, each_member, themselves, any_member, of_kept, kept, of_mapped, first_or_behind, Keeper}
use Rattle.round_laws.proofs.Prelude.{bare_txn, bare_txns, bare, txns_at, has_number, joined, run_of_two, AllTaken, BeginsWithWrites, IsSettled}
use Rattle.session_log.specs.Text.{is_unknown as is_unknown_outcome}
use Rattle.session_log.specs.declared.session.Outcome.{Outcome}
use Rattle.log_definitions.proofs.Taken.{Counts, EachCounted, each_of_committed, each_from_committed, taken_least, taken_closed, resolved_is}

-- ---- each unknown outcome counts as committed
abbrev told_txns : List Transaction → List Transaction
told_txns ts = map (settle true) ts

abbrev told_session : ClientSession → ClientSession
told_session s = record { number = s.number; txns = told_txns s.txns }

abbrev pub told : List ClientSession → List ClientSession
told ss = map told_session ss

same_outcome : (b : Bool) (o : Outcome) → is_unknown_outcome o ≡ false → settled_as b o ≡ settled_as true o
same_outcome b Commit k = refl
same_outcome b Abort k = refl
same_outcome b Unknown k = absurd (false≢true (sym k))

same_txns : (b : Bool) (ts : List Transaction) → list_any is_unknown ts ≡ false → map (settle b) ts ≡ told_txns ts
same_txns b [] k = refl
same_txns b (t ∷ ts) k = elim (cases_Bool (is_unknown t)) [
  | inl e ↦ absurd (false≢true (sym k ∙ or_left (is_unknown t) (list_any is_unknown ts) e))
  | inr e ↦
      let more : list_any is_unknown ts ≡ false = rw e at k in
      ap (λ o. record { ops = t.ops; outcome = o; begun = t.begun; ended = t.ended } ∷ map (settle b) ts) (same_outcome b t.outcome e)
      ∙ ap (λ l. settle true t ∷ l) (same_txns b ts more)
]

settled_told : (chosen : ℕ → Bool) (ss : List ClientSession) → ((s : ClientSession) → Contains ss s → list_any is_unknown s.txns ≡ true → chosen s.number ≡ true) → settled chosen ss ≡ told ss
unfolding settled
settled_told chosen [] h = refl
settled_told chosen (s ∷ ss) h =
    ap (λ ts. record { number = s.number; txns = ts } ∷ settled chosen ss) (elim (cases_Bool (list_any is_unknown s.txns)) [
      | inl e ↦ ap (λ b. map (settle b) s.txns) (h s (0, omega arith, refl) e)
      | inr e ↦ same_txns (chosen s.number) s.txns e
    ])
    ∙ ap (λ l. told_session s ∷ l) (settled_told chosen ss (λ r c. h r (behind s ss r c)))

pub resolved_told : (ss : List ClientSession) → AllTaken ss → resolved ss ≡ told ss
resolved_told ss h = resolved_is ss ∙ settled_told (taken ss) ss h

-- ---- in a run
bare_txns_told : (keeper : Keeper) (ts : List Transaction) → bare_txns keeper (told_txns ts) ≡ told_txns (bare_txns keeper ts)
bare_txns_told keeper [] = refl
bare_txns_told keeper (t ∷ ts) = refl

bare_told : (keeper : Keeper) (ss : List ClientSession) → bare keeper (told ss) ≡ told (bare keeper ss)
bare_told keeper [] = refl
bare_told keeper (s ∷ ss) = elim (cases_Bool (eqb s.number keeper.session)) [
  | inl e ↦ rw e (ap (λ ts. record { number = s.number; txns = ts } ∷ bare keeper (told ss)) (bare_txns_told keeper s.txns) ∙ ap (λ l. record { number = s.number; txns = told_txns (bare_txns keeper s.txns) } ∷ l) (bare_told keeper ss))
  | inr e ↦ rw e (ap (λ l. told_session s ∷ l) (bare_told keeper ss))
]

at_told : (ss : List ClientSession) (n : ℕ) → txns_at (told ss) n ≡ told_txns (txns_at ss n)
at_told [] n = refl
at_told (s ∷ ss) n = elim (cases_Bool (eqb s.number n)) [
  | inl e ↦ rw e (ap (λ l. told_txns s.txns ++ l) (at_told ss n) ∙ sym (map-append (settle true) s.txns (txns_at ss n)))
  | inr e ↦ rw e (at_told ss n)
]

number_told : (ss : List ClientSession) (n : ℕ) → has_number (told ss) n ≡ has_number ss n
number_told [] n = refl
number_told (s ∷ ss) n = ap (λ b. eqb s.number n || b) (number_told ss n)

others_told : (first second : List ClientSession) → filter (λ s. not (has_number (told first) s.number)) (told second) ≡ told (filter (λ s. not (has_number first s.number)) second)
others_told first [] = refl
others_told first (s ∷ ss) =
    let same : has_number (told first) s.number ≡ has_number first s.number = number_told first s.number in
    elim (cases_Bool (has_number first s.number)) [
      | inl e ↦ rw (same ∙ e, e) (others_told first ss)
      | inr e ↦ rw (same ∙ e, e) (ap (λ l. told_session s ∷ l) (others_told first ss))
    ]

abbrev with_more : List ClientSession → ClientSession → ClientSession
with_more second s = record { number = s.number; txns = s.txns ++ txns_at second s.number }

more_told : (first second : List ClientSession) → map (with_more (told second)) (told first) ≡ told (map (with_more second) first)
more_told [] second = refl
more_told (s ∷ ss) second =
    let txns : told_txns s.txns ++ txns_at (told second) s.number ≡ told_txns (s.txns ++ txns_at second s.number) =
    ap (λ l. told_txns s.txns ++ l) (at_told second s.number) ∙ sym (map-append (settle true) s.txns (txns_at second s.number)) in
    ap (λ ts. record { number = s.number; txns = ts } ∷ map (with_more (told second)) (told ss)) txns
    ∙ ap (λ l. told_session (with_more second s) ∷ l) (more_told ss second)

abbrev is_new : List ClientSession → ClientSession → Bool
is_new first s = not (has_number first s.number)

joined_told : (first second : List ClientSession) → joined (told first) (told second) ≡ told (joined first second)
joined_told first second =
    ap (λ l. l ++ filter (is_new (told first)) (told second)) (more_told first second)
    ∙ ap (λ l. told (map (with_more second) first) ++ l) (others_told first second)
    ∙ sym (map-append told_session (map (with_more second) first) (filter (is_new first) second))

pub run_told : (keeper : Keeper) (first second : List ClientSession) → run_of_two keeper (told first) (told second) ≡ told (run_of_two keeper first second)
run_told keeper first second = ap (joined (told first)) (bare_told keeper second) ∙ joined_told first (bare keeper second)

-- ---- where a transaction stands
record Stands (ss : List ClientSession) (n : ℕ) (t : Transaction) : Type 0 where
  pub session : ClientSession
  pub is_session : Contains ss session
  pub number : session.number ≡ n
  pub is_txn : Contains session.txns t

txn_at : (ss : List ClientSession) (n : ℕ) (t : Transaction) → Contains (txns_at ss n) t → Stands ss n t
txn_at [] n t c = absurd (omega (arith, c.1))
txn_at (s ∷ ss) n t c = elim (cases_Bool (eqb s.number n)) [
  | inl e ↦
      let d : Contains (s.txns ++ txns_at ss n) t = rw e at c in
      elim (Contains-append_cases s.txns (txns_at ss n) t d) [
        | inl f ↦ record { session = s; is_session = (0, omega arith, refl); number = eqb-true s.number n e; is_txn = f }
        | inr f ↦ further s (txn_at ss n t f)
      ]
  | inr e ↦ let d : Contains (txns_at ss n) t = rw e at c in further s (txn_at ss n t d)
]
  where
    further : (s : ClientSession) → Stands ss n t → Stands (s ∷ ss) n t
    further s r = record { session = r.session; is_session = behind s ss r.session r.is_session; number = r.number; is_txn = r.is_txn }

at_txn : (ss : List ClientSession) (s : ClientSession) (t : Transaction) → Contains ss s → Contains s.txns t → Contains (txns_at ss s.number) t
at_txn [] s t c d = absurd (omega (arith, c.1))
at_txn (x ∷ xs) s t c d = elim (first_or_behind x xs s c) [
  | inl e ↦
      let same : eqb x.number s.number ≡ true = eq-eqb x.number s.number (ap (λ (r : ClientSession). r.number) e) in
      rw same (Contains-append_left x.txns (txns_at xs s.number) t (subst (λ (r : ClientSession). Contains r.txns t) (sym e) d))
  | inr f ↦ elim (cases_Bool (eqb x.number s.number)) [
    | inl e ↦ rw e (Contains-append_right x.txns (txns_at xs s.number) t (at_txn xs s t f d))
    | inr e ↦ rw e (at_txn xs s t f d)
  ]
]

-- in a log that is joined
of_first : (first second : List ClientSession) (n : ℕ) (t : Transaction) → Stands first n t → Stands (joined first second) n t
of_first first second n t r = record {
  session = with_more second r.session;
  is_session = Contains-append_left (map (with_more second) first) (filter (is_new first) second) (with_more second r.session) (mapped (with_more second) first r.session r.is_session);
  number = r.number;
  is_txn = Contains-append_left r.session.txns (txns_at second r.session.number) t r.is_txn;
}

session_with : (ss : List ClientSession) (n : ℕ) → has_number ss n ≡ true → (s : ClientSession) × (Contains ss s) × (s.number ≡ n)
session_with [] n e = absurd (false≢true e)
session_with (s ∷ ss) n e = elim (or_cases (eqb s.number n) (has_number ss n) e) [
  | inl t ↦ (s, (0, omega arith, refl), eqb-true s.number n t)
  | inr t ↦ let r = session_with ss n t in (r.0, behind s ss r.0 r.1, r.2)
]

of_second : (first second : List ClientSession) (n : ℕ) (t : Transaction) → Stands second n t → Stands (joined first second) n t
of_second first second n t r = elim (cases_Bool (has_number first r.session.number)) [
  | inl e ↦
      let s = session_with first r.session.number e in
      record {
        session = with_more second s.0;
        is_session = Contains-append_left (map (with_more second) first) (filter (is_new first) second) (with_more second s.0) (mapped (with_more second) first s.0 s.1);
        number = s.2 ∙ r.number;
        is_txn = Contains-append_right s.0.txns (txns_at second s.0.number) t (subst (λ k. Contains (txns_at second k) t) (sym s.2) (at_txn second r.session t r.is_session r.is_txn));
      }
  | inr e ↦ record {
    session = r.session;
    is_session = Contains-append_right (map (with_more second) first) (filter (is_new first) second) r.session (kept (is_new first) second r.session r.is_session (ap not e));
    number = r.number;
    is_txn = r.is_txn;
  }
]

of_joined : (first second : List ClientSession) (n : ℕ) (t : Transaction) → Stands (joined first second) n t → Stands first n t ⊎ Stands second n t
of_joined first second n t r = elim (Contains-append_cases (map (with_more second) first) (filter (is_new first) second) r.session r.is_session) [
  | inl d ↦
      let s = of_mapped (with_more second) first r.session d in
      let number : s.0.number ≡ n = ap (λ (x : ClientSession). x.number) s.2 ∙ r.number in
      elim (Contains-append_cases s.0.txns (txns_at second s.0.number) t (subst (λ (x : ClientSession). Contains x.txns t) (sym s.2) r.is_txn)) [
        | inl f ↦ inl (record { session = s.0; is_session = s.1; number = number; is_txn = f })
        | inr f ↦ let q = txn_at second s.0.number t f in inr (record { session = q.session; is_session = q.is_session; number = q.number ∙ number; is_txn = q.is_txn })
      ]
  | inr d ↦ inr (record { session = r.session; is_session = (of_kept (is_new first) second r.session d).0; number = r.number; is_txn = r.is_txn })
]

-- in one whose opening has its fence alone
abbrev bared : Keeper → ClientSession → ClientSession
bared keeper s = record { number = s.number; txns = cond (eqb s.number keeper.session) (bare_txns keeper s.txns) s.txns }

abbrev IsOpening : Transaction → Type 0
IsOpening t = (t.outcome ≡ Commit) × AllByRecursion (λ o. is_write o ≡ true) t.ops

first_or_later : (keeper : Keeper) (ts : List Transaction) (t : Transaction) → BeginsWithWrites ts → Contains ts t → IsOpening t ⊎ Contains (bare_txns keeper ts) t
first_or_later keeper [] t h c = absurd (omega (arith, c.1))
first_or_later keeper (u ∷ us) t h c = elim (first_or_behind u us t c) [
  | inl e ↦ inl (subst IsOpening e h)
  | inr d ↦ inr (behind (bare_txn keeper u) us t d)
]

of_bare : (keeper : Keeper) (ss : List ClientSession) (n : ℕ) (t : Transaction) → ((s : ClientSession) → Contains ss s → s.number ≡ keeper.session → BeginsWithWrites s.txns) → Stands ss n t → IsOpening t ⊎ Stands (bare keeper ss) n t
of_bare keeper ss n t h r = elim (cases_Bool (eqb r.session.number keeper.session)) [
  | inl e ↦ elim (first_or_later keeper r.session.txns t (h r.session r.is_session (eqb-true r.session.number keeper.session e)) r.is_txn) [
    | inl o ↦ inl o
    | inr c ↦ inr (there (rw e c))
  ]
  | inr e ↦ inr (there (rw e r.is_txn))
]
  where
    there : Contains (bared keeper r.session).txns t → Stands (bare keeper ss) n t
    there c = record { session = bared keeper r.session; is_session = mapped (bared keeper) ss r.session r.is_session; number = r.number; is_txn = c }

bare_outcome : (keeper : Keeper) (ts : List Transaction) (t : Transaction) → Contains (bare_txns keeper ts) t → (u : Transaction) × (Contains ts u) × (u.outcome ≡ t.outcome)
bare_outcome keeper [] t c = absurd (omega (arith, c.1))
bare_outcome keeper (u ∷ us) t c = elim (first_or_behind (bare_txn keeper u) us t c) [
  | inl e ↦ (u, (0, omega arith, refl), ap (λ (x : Transaction). x.outcome) e)
  | inr d ↦ (t, behind u us t d, refl)
]

of_full : (keeper : Keeper) (ss : List ClientSession) (n : ℕ) (t : Transaction) → Stands (bare keeper ss) n t → (u : Transaction) × (Stands ss n u) × (u.outcome ≡ t.outcome)
of_full keeper ss n t r =
    let s = of_mapped (bared keeper) ss r.session r.is_session in
    let number : s.0.number ≡ n = ap (λ (x : ClientSession). x.number) s.2 ∙ r.number in
    let c : Contains (bared keeper s.0).txns t = subst (λ (x : ClientSession). Contains x.txns t) (sym s.2) r.is_txn in
    elim (cases_Bool (eqb s.0.number keeper.session)) [
      | inl e ↦
          let d : Contains (bare_txns keeper s.0.txns) t = rw e at c in
          let u = bare_outcome keeper s.0.txns t d in
          (u.0, record { session = s.0; is_session = s.1; number = number; is_txn = u.1 }, u.2)
      | inr e ↦
          let d : Contains s.0.txns t = rw e at c in
          (t, record { session = s.0; is_session = s.1; number = number; is_txn = d }, refl)
    ]

-- ---- what counts as committed
record Counted (chosen : ℕ → Bool) (ss : List ClientSession) (o : Op) : Type 0 where
  pub number : ℕ
  pub txn : Transaction
  pub stands : Stands ss number txn
  pub counts : is_commit (settled_as (chosen number) txn.outcome) ≡ true
  pub does : Contains txn.ops o

counted : (chosen : ℕ → Bool) (ss : List ClientSession) (o : Op) → Contains (committed_ops (settled chosen ss)) o → Counted chosen ss o
counted chosen ss o c = member (Counted chosen ss) (committed_ops (settled chosen ss)) o (each_from_committed (Counted chosen ss) chosen ss each) c
  where
    each : EachCounted (Counted chosen ss) chosen ss
    each = each_member (λ (s : ClientSession). AllByRecursion (λ t. Counts chosen s t → AllByRecursion (Counted chosen ss) t.ops) s.txns) ss (λ s d.
        each_member (λ (t : Transaction). Counts chosen s t → AllByRecursion (Counted chosen ss) t.ops) s.txns (λ t e k.
        each_member (Counted chosen ss) t.ops (λ p f. record { number = s.number; txn = t; stands = record { session = s; is_session = d; number = refl; is_txn = e }; counts = k; does = f })))

from_counted : (chosen : ℕ → Bool) (ss : List ClientSession) (o : Op) → Counted chosen ss o → Contains (committed_ops (settled chosen ss)) o
from_counted chosen ss o k =
    let P : Op → Type 0 = Contains (committed_ops (settled chosen ss)) in
    let all = each_of_committed P chosen ss (themselves (committed_ops (settled chosen ss))) in
    let r = k.stands in
    let txns = member (λ (s : ClientSession). AllByRecursion (λ t. Counts chosen s t → AllByRecursion P t.ops) s.txns) ss r.session all r.is_session in
    let ops = member (λ (t : Transaction). Counts chosen r.session t → AllByRecursion P t.ops) r.session.txns k.txn txns r.is_txn in
    member P k.txn.ops o (ops (subst (λ n. is_commit (settled_as (chosen n) k.txn.outcome) ≡ true) (sym r.number) k.counts)) k.does

-- ---- what is taken in a round is taken in the run
needed_in : (chosen : ℕ → Bool) (ss others : List ClientSession) (n : ℕ) → ((k : ℕ) (t : Transaction) → Stands ss k t → IsOpening t ⊎ Stands others k t) → IsNeeded ss chosen n → IsNeeded others chosen n
needed_in chosen ss others n sub need = elim (sub n need.txn (record { session = need.session; is_session = need.is_session; number = need.number; is_txn = need.is_txn })) [
  | inl o ↦ absurd (never (sym o.0 ∙ need.outcome))
  | inr r ↦ record {
    session = r.session;
    txn = need.txn;
    key = need.key;
    wid = need.wid;
    is_session = r.is_session;
    is_txn = r.is_txn;
    number = r.number;
    outcome = need.outcome;
    writes = need.writes;
    reads = from_counted chosen others (Read need.key need.wid) reader;
  }
]
  where
    never : Commit ≡ Unknown → ⊥
    never e = cc

    reader : Counted chosen others (Read need.key need.wid)
    reader =
        let k = counted chosen ss (Read need.key need.wid) need.reads in
        elim (sub k.number k.txn k.stands) [
          | inl o ↦ absurd (false≢true (member (λ q. is_write q ≡ true) k.txn.ops (Read need.key need.wid) o.1 k.does))
          | inr r ↦ record { number = k.number; txn = k.txn; stands = r; counts = k.counts; does = k.does }
        ]

taken_in : (ss others : List ClientSession) → ((k : ℕ) (t : Transaction) → Stands ss k t → IsOpening t ⊎ Stands others k t) → IsWithin (taken ss) (taken others)
taken_in ss others sub = taken_least ss (taken others) (record { each = λ n need. (taken_closed others).each n (needed_in (taken others) ss others n sub need) })

unknown_txn : (ts : List Transaction) → list_any is_unknown ts ≡ true → (t : Transaction) × (Contains ts t) × (is_unknown t ≡ true)
unknown_txn [] e = absurd (false≢true e)
unknown_txn (t ∷ ts) e = elim (or_cases (is_unknown t) (list_any is_unknown ts) e) [
  | inl k ↦ (t, (0, omega arith, refl), k)
  | inr k ↦ let r = unknown_txn ts k in (r.0, behind t ts r.0 r.1, r.2)
]

stands_taken : (ss : List ClientSession) → AllTaken ss → (n : ℕ) (t : Transaction) → Stands ss n t → is_unknown t ≡ true → taken ss n ≡ true
stands_taken ss h n t r e = subst (λ k. taken ss k ≡ true) r.number (h r.session r.is_session (any_member is_unknown r.session.txns t r.is_txn e))

pub run_taken : (keeper : Keeper) (first second : List ClientSession) → AllTaken first → IsSettled keeper second → AllTaken (run_of_two keeper first second)
run_taken keeper first second one two s c e =
    let t = unknown_txn s.txns e in
    elim (of_joined first (bare keeper second) s.number t.0 (record { session = s; is_session = c; number = refl; is_txn = t.1 })) [
      | inl r ↦ taken_in first (run_of_two keeper first second) (λ k u q. inr (of_first first (bare keeper second) k u q)) s.number (stands_taken first one s.number t.0 r t.2)
      | inr r ↦
          let u = of_full keeper second s.number t.0 r in
          taken_in second (run_of_two keeper first second) within s.number (stands_taken second two.taken s.number u.0 u.1 (ap is_unknown_outcome u.2 ∙ t.2))
    ]
  where
    within : (k : ℕ) (u : Transaction) → Stands second k u → IsOpening u ⊎ Stands (run_of_two keeper first second) k u
    within k u q = elim (of_bare keeper second k u two.opening q) [
      | inl o ↦ inl o
      | inr r ↦ inr (of_second first (bare keeper second) k u r)
    ]

pub run_resolved : (keeper : Keeper) (first second : List ClientSession) → AllTaken first → IsSettled keeper second → resolved (run_of_two keeper first second) ≡ run_of_two keeper (resolved first) (resolved second)
run_resolved keeper first second one two =
    resolved_told (run_of_two keeper first second) (run_taken keeper first second one two)
    ∙ sym (run_told keeper first second)
    ∙ ap (λ l. run_of_two keeper l (told second)) (sym (resolved_told first one))
    ∙ ap (λ l. run_of_two keeper (resolved first) l) (sym (resolved_told second two.taken))
