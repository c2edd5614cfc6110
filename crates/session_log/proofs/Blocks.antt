-- The start and the end of a block's lines.
use Rattle.session_log.proofs.Prelude.{◌≡◌, ◌⊎◌, inl, inr, ℕ, false, List, [], ◌∷◌, ◌++◌, length, map, Option, Some, None, refl, sym, ap, ◌∙◌, subst, arith, flat_map, AllByRecursion, append-nil, lines, line_text, text_of_lines, txn_lines}
use Rattle.session_log.proofs.Prelude.{session_text, view_txn, Transaction, IsLegalTxn, IsKnown, IsKnownBeforeLast, HasNoMoments, IsHeldBy, has_moments, first_fault, fault_at_end, place_at, place_of, lines_of, open_lines, IsLegalReading}
use Rattle.session_log.proofs.Prelude.{IsLegalOpen, AreEnded, LogFault, OpenTxn, LineState, One, Two, Three, Version, Reading}
use Rattle.session_log.specs.declared.line.Line.TheVariants as line
use Rattle.session_log.specs.declared.fault.LogFault.TheVariants as faults
use Rattle.session_log.specs.declared.parse.LineState.TheVariants as progress
use Rattle.session_log.proofs.Steps.{fault_end}

pub lines_of_none : (r : Reading) → r.txns.items ≡ [] → r.progress ≡ progress.Between → lines_of r ≡ []
lines_of_none r a b = ap (λ ts. flat_map txn_lines (map view_txn ts) ++ open_lines r.progress) a ∙ ap open_lines b

pub start_text : (k : ℕ) (r : Reading) (text bytes rest : List ℕ) → r.txns.items ≡ [] → r.progress ≡ progress.Between → text ≡ bytes ++ rest → bytes ≡ line_text (line.Session k) ++ 10 ∷ [] → text ≡ text_of_lines (line.Session k ∷ lines_of r) ++ rest
start_text k r text bytes rest a b e h =
    e ∙ ap (λ x. x ++ rest) (h ∙ (sym (append-nil (line_text (line.Session k) ++ 10 ∷ [])) ∙ ap (λ ls. text_of_lines (line.Session k ∷ ls)) (sym (lines_of_none r a b))))

none_ended : (v : Version) (p : LineState) (ts : List Transaction) → p ≡ progress.Between → ts ≡ [] → AreEnded v p ts
none_ended v p ts a b = rw (a, b) tt

pub start_legal : (v : Version) (r : Reading) → r.txns.items ≡ [] → r.progress ≡ progress.Between → IsLegalReading v r
start_legal v r a b =
    record {
      txns = subst (λ ts. AllByRecursion IsLegalTxn (map view_txn ts)) (sym a) tt;
      current = subst (IsLegalOpen v) (sym b) tt;
      ended = none_ended v r.progress (map view_txn r.txns.items) b (ap (map view_txn) a);
      moments = λ without. subst (λ ts. AllByRecursion HasNoMoments (map view_txn ts)) (sym a) tt;
    }

pub end_fault : (v : Version) (n : ℕ) (r : Reading) (t : OpenTxn) (rest : List ℕ) (whole : Option LogFault) → whole ≡ first_fault v n (place_of r) (lines rest) → 0 ≡ length rest → r.progress ≡ progress.Inside t → whole ≡ Some (faults.OpenTransaction t.line)
end_fault v n r t rest whole e h o = e ∙ (fault_end v n (place_of r) rest h ∙ ap (λ p. fault_at_end (place_at p)) o)

-- none is open
abbrev pub IsClosed : LineState → Type 0
IsClosed (progress.Inside t) = ⊥
IsClosed _ = Unit {0}

closed_place : (p : LineState) → IsClosed p → fault_at_end (place_at p) ≡ None
closed_place progress.Between c = refl
closed_place (progress.Inside t) c = absurd c
closed_place progress.Over c = refl

pub end_accepted : (v : Version) (n : ℕ) (r : Reading) (rest : List ℕ) (whole : Option LogFault) → whole ≡ first_fault v n (place_of r) (lines rest) → 0 ≡ length rest → IsClosed r.progress → whole ≡ None
end_accepted v n r rest whole e h c = e ∙ (fault_end v n (place_of r) rest h ∙ closed_place r.progress c)

-- what the session's outcomes are then
pub all_before : (ts : List Transaction) → AllByRecursion IsKnown ts → IsKnownBeforeLast ts
all_before [] h = tt
all_before (t ∷ []) h = tt
all_before (t ∷ u ∷ ts) h = (h.0, all_before (u ∷ ts) h.1)

ended_before : (v : Version) (p : LineState) (ts : List Transaction) → IsClosed p → AreEnded v p ts → IsKnownBeforeLast ts
ended_before v progress.Between ts c h = all_before ts h
ended_before v (progress.Inside t) ts c h = absurd c
ended_before v progress.Over ts c h = h.0

pub end_known : (v : Version) (r : Reading) → IsClosed r.progress → IsLegalReading v r → IsKnownBeforeLast (map view_txn r.txns.items)
end_known v r c h = ended_before v r.progress (map view_txn r.txns.items) c h.ended

ended_held : (v : Version) (p : LineState) (k : ℕ) (ts : List Transaction) → IsClosed p → AreEnded v p ts → (has_moments v ≡ false → AllByRecursion HasNoMoments ts) → IsHeldBy v (record { number = k; txns = ts })
ended_held Three p k ts c h m = tt
ended_held Two p k ts c h m = m refl
ended_held One progress.Between k ts c h m = (h, m refl)
ended_held One (progress.Inside t) k ts c h m = absurd c
ended_held One progress.Over k ts c h m = absurd (cc h.1)

pub end_held : (v : Version) (r : Reading) (k : ℕ) → IsClosed r.progress → IsLegalReading v r → IsHeldBy v (record { number = k; txns = map view_txn r.txns.items })
end_held v r k c h = ended_held v r.progress k (map view_txn r.txns.items) c h.ended h.moments

no_rest : (rest : List ℕ) → 0 ≡ length rest → rest ≡ []
no_rest [] e = refl
no_rest (b ∷ bs) e = absurd (omega arith)

closed_lines : (p : LineState) → IsClosed p → open_lines p ≡ []
closed_lines progress.Between c = refl
closed_lines (progress.Inside t) c = absurd c
closed_lines progress.Over c = refl

pub end_text : (k : ℕ) (r : Reading) (text rest : List ℕ) → text ≡ text_of_lines (line.Session k ∷ lines_of r) ++ rest → 0 ≡ length rest → IsClosed r.progress → text ≡ session_text (record { number = k; txns = map view_txn r.txns.items })
unfolding session_text
end_text k r text rest e h c =
    let done : lines_of r ≡ flat_map txn_lines (map view_txn r.txns.items) = ap (λ ls. flat_map txn_lines (map view_txn r.txns.items) ++ ls) (closed_lines r.progress c) ∙ append-nil (flat_map txn_lines (map view_txn r.txns.items)) in
    e ∙ (ap (λ x. text_of_lines (line.Session k ∷ lines_of r) ++ x) (no_rest rest h) ∙ (append-nil (text_of_lines (line.Session k ∷ lines_of r)) ∙ ap (λ ls. text_of_lines (line.Session k ∷ ls)) done))

pub closed_where : (p : LineState) → (p ≡ progress.Between) ⊎ (p ≡ progress.Over) → IsClosed p
closed_where p (inl e) = subst IsClosed (sym e) tt
closed_where p (inr e) = subst IsClosed (sym e) tt
