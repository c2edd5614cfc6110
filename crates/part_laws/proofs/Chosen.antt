-- What is chosen by transactions is a part.
use Rattle.part_laws.proofs.Prelude.{◌≡◌, ℕ, ◌+◌, Bool, List, [], ◌∷◌, ◌++◌, map, refl, sym, ap, ◌∙◌, subst, inl, inr, arith, filter, Contains, cases_Bool, filter-append, behind, ClientSession, Transaction, Op, Read, Write, Has, Apart}
use Rattle.part_laws.proofs.Prelude.{Apart-from_IsDistinct, Has-from_any, any-from_Has, ops_in, written, Has-written, has_txns, first_or_behind, of_kept, ops_by, ops_in-cons, IsThinned, done, left, kept, IsTxnPart, IsSessionPart}
use Rattle.log_laws.proofs.Lists.{kept as keeps}
use Rattle.part_laws.specs.Chosen.{Flags, flagged, all_flagged, stays, thin_txn, thin, is_source, part_by, ChosenIsPart, ThinnedIsPart}
use Rattle.part_laws.proofs.Thinned.{thinned_same, thinned_mapped, thinned_trans, thinned_filter, was_in}
use Rattle.part_laws.proofs.Sessions.{AreParts, ops_of_part}
use Rattle.part_laws.proofs.Logs.{session_trans}

pub txn_itself : (t : Transaction) → IsTxnPart t t
txn_itself t = record { ops = thinned_same (λ x y. x ≡ y) (λ x. refl) t.ops; outcome = refl; begun = refl; ended = refl }

pub session_itself : (s : ClientSession) → IsSessionPart s s
session_itself s = record { number = refl; txns = thinned_same IsTxnPart txn_itself s.txns }

-- ---- the flagged transactions
pub of_flagged : (flags : ℕ → Bool) (n : ℕ) (ts : List Transaction) → IsThinned IsTxnPart ts (flagged flags n ts)
of_flagged flags n [] = done
of_flagged flags n (t ∷ ts) = elim (cases_Bool (flags n)) [
  | inl e ↦ rw e (kept t t ts (flagged flags (n + 1) ts) (txn_itself t) (of_flagged flags (n + 1) ts))
  | inr e ↦ rw e (left t ts (flagged flags (n + 1) ts) (of_flagged flags (n + 1) ts))
]

abbrev flag_session : Flags → ClientSession → ClientSession
flag_session flags s = record { number = s.number; txns = flagged (flags s.number) 1 s.txns }

all_flagged_part : (flags : Flags) (ss : List ClientSession) → AreParts ss (all_flagged flags ss)
all_flagged_part flags ss = thinned_trans IsSessionPart IsSessionPart IsSessionPart session_trans
    (thinned_mapped IsSessionPart (flag_session flags) (λ s. record { number = refl; txns = of_flagged (flags s.number) 1 s.txns }) ss)
    (thinned_filter IsSessionPart session_itself (λ (s : ClientSession). has_txns s.txns) (map (flag_session flags) ss))

-- ---- the operations that stay
thin_part : (known : ℕ → Bool) (ss : List ClientSession) → AreParts ss (thin known ss)
thin_part known ss = thinned_mapped IsSessionPart (λ (s : ClientSession). record { number = s.number; txns = map (thin_txn known) s.txns }) session ss
  where
    txn : (t : Transaction) → IsTxnPart t (thin_txn known t)
    txn t = record { ops = thinned_filter (λ x y. x ≡ y) (λ x. refl) (stays known) t.ops; outcome = refl; begun = refl; ended = refl }

    session : (s : ClientSession) → IsSessionPart s (record { number = s.number; txns = map (thin_txn known) s.txns })
    session s = record { number = refl; txns = thinned_mapped IsTxnPart (thin_txn known) txn s.txns }

ops_of_thin : (known : ℕ → Bool) (ts : List Transaction) → ops_by (map (thin_txn known) ts) ≡ filter (stays known) (ops_by ts)
ops_of_thin known [] = refl
ops_of_thin known (t ∷ ts) = ap (λ l. filter (stays known) t.ops ++ l) (ops_of_thin known ts) ∙ sym (filter-append (stays known) t.ops (ops_by ts))

ops_thin : (known : ℕ → Bool) (ss : List ClientSession) → ops_in (thin known ss) ≡ filter (stays known) (ops_in ss)
ops_thin known [] = refl
ops_thin known (s ∷ ss) =
    ops_in-cons (record { number = s.number; txns = map (thin_txn known) s.txns }) (thin known ss)
    ∙ ap (λ l. l ++ ops_in (thin known ss)) (ops_of_thin known s.txns)
    ∙ ap (λ l. filter (stays known) (ops_by s.txns) ++ l) (ops_thin known ss)
    ∙ sym (filter-append (stays known) (ops_by s.txns) (ops_in ss))
    ∙ ap (filter (stays known)) (sym (ops_in-cons s ss))

-- ---- a write is known by its identity
write_of : (ops : List Op) (wid : ℕ) → Has wid (written ops) → (key : List ℕ) × Contains ops (Write key wid)
write_of [] wid h = absurd h
write_of (Read k w ∷ ops) wid h = let r = write_of ops wid h in (r.0, behind (Read k w) ops (Write r.0 wid) r.1)
write_of (Write k w ∷ ops) wid (inl e) = (k, (0, omega arith, ap (Write k) e))
write_of (Write k w ∷ ops) wid (inr h) = let r = write_of ops wid h in (r.0, behind (Write k w) ops (Write r.0 wid) r.1)

apart_behind : (o : Op) (ops : List Op) → Apart (written (o ∷ ops)) → Apart (written ops)
apart_behind (Read k w) ops h = h
apart_behind (Write k w) ops h = h.1

pub same_key : (a b : List ℕ) (v w : ℕ) → Write a v ≡ Write b w → a ≡ b
same_key a b v w e = cc

never_again : (o : Op) (ops : List Op) (a b : List ℕ) (wid : ℕ) → Apart (written (o ∷ ops)) → o ≡ Write a wid → Contains ops (Write b wid) → ⊥
never_again o ops a b wid h e c = (subst (λ p. Apart (written (p ∷ ops))) e h).0 (Has-written ops b wid c)

one_key : (ops : List Op) (a b : List ℕ) (wid : ℕ) → Apart (written ops) → Contains ops (Write a wid) → Contains ops (Write b wid) → a ≡ b
one_key [] a b wid h c d = absurd (omega (arith, c.1))
one_key (o ∷ ops) a b wid h c d = elim (first_or_behind o ops (Write a wid) c) [
  | inl e ↦ elim (first_or_behind o ops (Write b wid) d) [
    | inl f ↦ same_key a b wid wid (sym e ∙ f)
    | inr later ↦ absurd (never_again o ops a b wid h e later)
  ]
  | inr after ↦ elim (first_or_behind o ops (Write b wid) d) [
    | inl f ↦ absurd (never_again o ops b a wid h f after)
    | inr later ↦ one_key ops a b wid (apart_behind o ops h) after later
  ]
]

-- ---- the laws
pub thinned_is_part : ThinnedIsPart
thinned_is_part ss some known log whole sources = record { sessions = thinned_trans IsSessionPart IsSessionPart IsSessionPart session_trans whole (thin_part known some); reads = reads }
  where
    apart : Apart (0 ∷ written (ops_in ss))
    apart = Apart-from_IsDistinct (0 ∷ written (ops_in ss)) log.writes

    reads : (key : List ℕ) (wid : ℕ) → Contains (ops_in (thin known some)) (Read key wid) → Contains (ops_in ss) (Write key wid) → Contains (ops_in (thin known some)) (Write key wid)
    reads key wid c d =
        let passes = (of_kept (stays known) (ops_in some) (Read key wid) (subst (λ l. Contains l (Read key wid)) (ops_thin known some) c)).1 in
        elim (sources wid passes) [
          | inl source ↦ elim (Has-from_any wid (0 ∷ written (ops_in some)) source) [
            | inl none ↦ absurd (apart.0 (subst (λ w. Has w (written (ops_in ss))) (sym none) (Has-written (ops_in ss) key wid d)))
            | inr has ↦
                let r = write_of (ops_in some) wid has in
                let same = one_key (ops_in ss) r.0 key wid apart.1 (was_in (ops_of_part whole) (Write r.0 wid) r.1) d in
                subst (λ l. Contains l (Write key wid)) (sym (ops_thin known some))
                (keeps (stays known) (ops_in some) (Write key wid) (subst (λ k. Contains (ops_in some) (Write k wid)) same r.1) refl)
          ]
          | inr none ↦ absurd (none (any-from_Has wid (0 ∷ written (ops_in ss)) (inr (Has-written (ops_in ss) key wid d))))
        ]

pub chosen_is_part : ChosenIsPart
unfolding part_by
chosen_is_part ss flags log = thinned_is_part ss (all_flagged flags ss) (is_source (all_flagged flags ss)) log (all_flagged_part flags ss) (λ wid t. inl t)
