-- A text without a fault of the grammar is that of a list of legal sessions, which its version holds.
use Rattle.log_definitions.proofs.Prelude.{◌≡◌, ℕ, zero, suc, ◌+◌, ◌<◌, ◌^◌, Bool, true, false, cond, List, [], ◌∷◌, ◌++◌, map, Option, Some, None, Result, Ok, Err, refl, sym, ap, ◌∙◌, subst, arith, append_assoc, flat_map, AllByRecursion}
use Rattle.log_definitions.proofs.Prelude.{lines, is_earlier, IsMoment, header_text, first_line, has_unknown_line, has_moments, version_of, body_of, ClientSession, Transaction, line_text, op_line, end_line, txn_lines, session_lines}
use Rattle.log_definitions.proofs.Prelude.{text_of_lines, log_text, is_unknown, IsKnown, IsKnownBeforeLast, IsLegal, IsLegalMoment, IsLegalTxn, IsLegalOp, MayEndAt, HasNoMoments, IsHeldBy, Place, Start, Between, Inside, Over, after}
use Rattle.log_definitions.proofs.Prelude.{after_form, step, form_at, is_session_line, first_fault, going_on, grammar_fault, text_of, Line, Op, Read, Write, Outcome, Commit, Abort, Unknown, LogFault, OpenTransaction, EndsBeforeBegin}
use Rattle.log_definitions.proofs.Prelude.{Version, log_by_lines}
use Rattle.session_log.specs.declared.line.Line.TheVariants as line
use Rattle.session_log.specs.declared.version.Version.TheVariants.{One, Two, Three}
use Rattle.session_log.proofs.Adding.{moment_of, none_stated}
use Rattle.session_log.proofs.Steps.{form_bytes}
use Rattle.session_log.proofs.Lying.{text_of_lines_is}
use Rattle.session_log.proofs.Versions.{header_and_body}

-- ---- the outcomes of a session's transactions
-- the last of them alone may be unknown, and only where the version has such
record MayEnd (v : Version) (ts : List Transaction) : Type 0 where
  pub last : IsKnownBeforeLast ts
  pub held : (number : ℕ) → IsHeldBy v (record { number = number; txns = ts })

held_none : (v : Version) (number : ℕ) → IsHeldBy v (record { number = number; txns = [] })
held_none One number = (tt, tt)
held_none Two number = tt
held_none Three number = tt

may_end_none : (v : Version) → MayEnd v []
may_end_none v = record { last = tt; held = held_none v }

last_known : (t : Transaction) (ts : List Transaction) → IsKnown t → IsKnownBeforeLast ts → IsKnownBeforeLast (t ∷ ts)
last_known t [] k h = tt
last_known t (u ∷ ts) k h = (k, h)

-- the version has the moments of the transaction
abbrev AreLegalMoments : Version → Transaction → Type 0
AreLegalMoments v t = IsLegalMoment v t.begun × IsLegalMoment v t.ended

none_of : (v : Version) (t : Transaction) → has_moments v ≡ false → AreLegalMoments v t → HasNoMoments t
none_of v t without h = (none_stated v t.begun h.0 without, none_stated v t.ended h.1 without)

held_known : (v : Version) (number : ℕ) (t : Transaction) (ts : List Transaction) → IsKnown t → AreLegalMoments v t → IsHeldBy v (record { number = number; txns = ts }) → IsHeldBy v (record { number = number; txns = t ∷ ts })
held_known One number t ts k m h = ((k, h.0), (none_of One t refl m, h.1))
held_known Two number t ts k m h = (none_of Two t refl m, h)
held_known Three number t ts k m h = tt

may_end_known : (v : Version) (t : Transaction) (ts : List Transaction) → IsKnown t → AreLegalMoments v t → MayEnd v ts → MayEnd v (t ∷ ts)
may_end_known v t ts k m h = record { last = last_known t ts k h.last; held = λ number. held_known v number t ts k m (h.held number) }

held_one : (v : Version) (number : ℕ) (t : Transaction) → has_unknown_line v ≡ true → AreLegalMoments v t → IsHeldBy v (record { number = number; txns = t ∷ [] })
held_one One number t e m = cc
held_one Two number t e m = (none_of Two t refl m, tt)
held_one Three number t e m = tt

may_end_unknown : (v : Version) (t : Transaction) → has_unknown_line v ≡ true → AreLegalMoments v t → MayEnd v (t ∷ [])
may_end_unknown v t e m = record { last = tt; held = λ number. held_one v number t e m }

-- ---- what lines stand for, from a place on
record HoldsSessions (v : Version) (fs : List Line) : Type 0 where
  pub sessions : List ClientSession
  pub legal : AllByRecursion IsLegal sessions
  pub held : AllByRecursion (IsHeldBy v) sessions
  pub by_line : fs ≡ flat_map session_lines sessions

record HoldsTxns (v : Version) (fs : List Line) : Type 0 where
  pub txns : List Transaction
  pub sessions : List ClientSession
  pub legal_txns : AllByRecursion IsLegalTxn txns
  pub ended : MayEnd v txns
  pub legal : AllByRecursion IsLegal sessions
  pub held : AllByRecursion (IsHeldBy v) sessions
  pub by_line : fs ≡ flat_map txn_lines txns ++ flat_map session_lines sessions

-- behind a `begin` that stated this moment, or none
record HoldsOps (v : Version) (begun : Option ℕ) (fs : List Line) : Type 0 where
  pub ops : List Op
  pub outcome : Outcome
  pub ended : Option ℕ
  pub txns : List Transaction
  pub sessions : List ClientSession
  pub legal_ops : AllByRecursion IsLegalOp ops
  pub legal_txns : AllByRecursion IsLegalTxn txns
  pub moment : IsMoment ended
  pub told : MayEndAt outcome ended
  pub ordered : is_earlier ended begun ≡ false
  pub ends : (all : List Op) → IsLegalMoment v begun → MayEnd v (record { ops = all; outcome = outcome; begun = begun; ended = ended } ∷ txns)
  pub legal : AllByRecursion IsLegal sessions
  pub held : AllByRecursion (IsHeldBy v) sessions
  pub by_line : fs ≡ map op_line ops ++ (end_line outcome ended ∷ (flat_map txn_lines txns ++ flat_map session_lines sessions))

abbrev Holds : Version → Place → List Line → Type 0
Holds v Start fs = HoldsSessions v fs
Holds v Between fs = HoldsTxns v fs
Holds v (Inside start begun) fs = HoldsOps v begun fs
Holds v Over fs = HoldsSessions v fs

-- ---- one line more
with_session : (v : Version) (k : ℕ) (fs : List Line) → 0 < k → k < 2 ^ 16 → HoldsTxns v fs → HoldsSessions v (line.Session k ∷ fs)
with_session v k fs low high r =
    record {
      sessions = record { number = k; txns = r.txns } ∷ r.sessions;
      legal = (record { low = low; high = high; txns = r.legal_txns; known = r.ended.last }, r.legal);
      held = (r.ended.held k, r.held);
      by_line = ap (λ l. line.Session k ∷ l) r.by_line;
    }

between : (v : Version) (fs : List Line) → HoldsSessions v fs → HoldsTxns v fs
between v fs r = record { txns = []; sessions = r.sessions; legal_txns = tt; ended = may_end_none v; legal = r.legal; held = r.held; by_line = r.by_line }

with_begin : (v : Version) (begun : Option ℕ) (fs : List Line) → IsLegalMoment v begun → HoldsOps v begun fs → HoldsTxns v (line.Begin begun ∷ fs)
with_begin v begun fs stated r =
    let ops : List Line = map op_line r.ops in
    let end : List Line = end_line r.outcome r.ended ∷ [] in
    let txns : List Line = flat_map txn_lines r.txns in
    let sessions : List Line = flat_map session_lines r.sessions in
    record {
      txns = record { ops = r.ops; outcome = r.outcome; begun = begun; ended = r.ended } ∷ r.txns;
      sessions = r.sessions;
      legal_txns = (record { ops = r.legal_ops; begun = moment_of v begun stated; ended = r.moment; told = r.told; ordered = r.ordered }, r.legal_txns);
      ended = r.ends r.ops stated;
      legal = r.legal;
      held = r.held;
      by_line = ap (λ l. line.Begin begun ∷ l) (r.by_line ∙ (sym (append_assoc ops end (txns ++ sessions)) ∙ sym (append_assoc (ops ++ end) txns sessions)));
    }

with_op : (v : Version) (begun : Option ℕ) (o : Op) (fs : List Line) → IsLegalOp o → HoldsOps v begun fs → HoldsOps v begun (op_line o ∷ fs)
with_op v begun o fs h r =
    record {
      ops = o ∷ r.ops;
      outcome = r.outcome;
      ended = r.ended;
      txns = r.txns;
      sessions = r.sessions;
      legal_ops = (h, r.legal_ops);
      legal_txns = r.legal_txns;
      moment = r.moment;
      told = r.told;
      ordered = r.ordered;
      ends = r.ends;
      legal = r.legal;
      held = r.held;
      by_line = ap (λ l. op_line o ∷ l) r.by_line;
    }

with_end : (v : Version) (begun : Option ℕ) (o : Outcome) (ended : Option ℕ) (fs : List Line) → is_unknown o ≡ false → MayEndAt o ended → IsLegalMoment v ended → is_earlier ended begun ≡ false → HoldsTxns v fs → HoldsOps v begun (end_line o ended ∷ fs)
with_end v begun o ended fs known told stated ordered r =
    record {
      ops = [];
      outcome = o;
      ended = ended;
      txns = r.txns;
      sessions = r.sessions;
      legal_ops = tt;
      legal_txns = r.legal_txns;
      moment = moment_of v ended stated;
      told = told;
      ordered = ordered;
      ends = λ all begins. may_end_known v (record { ops = all; outcome = o; begun = begun; ended = ended }) r.txns known (begins, stated) r.ended;
      legal = r.legal;
      held = r.held;
      by_line = ap (λ l. end_line o ended ∷ l) r.by_line;
    }

with_unknown : (v : Version) (begun : Option ℕ) (fs : List Line) → has_unknown_line v ≡ true → HoldsSessions v fs → HoldsOps v begun (line.Unknown ∷ fs)
with_unknown v begun fs e r =
    record {
      ops = [];
      outcome = Unknown;
      ended = None;
      txns = [];
      sessions = r.sessions;
      legal_ops = tt;
      legal_txns = tt;
      moment = tt;
      told = refl;
      ordered = refl;
      ends = λ all begins. may_end_unknown v (record { ops = all; outcome = Unknown; begun = begun; ended = None }) e (begins, tt);
      legal = r.legal;
      held = r.held;
      by_line = ap (λ l. line.Unknown ∷ l) r.by_line;
    }

-- a commit that is accepted
in_time : (t : Bool) (n : ℕ) (q : Place) → cond t (Err (EndsBeforeBegin n)) (Ok Between) ≡ Ok q → (t ≡ false) × (◌≡◌ {A = Result Place LogFault} (Ok Between) (Ok q))
in_time true n q e = cc
in_time false n q e = (refl, e)

at_place : (v : Version) (p q : Place) (fs : List Line) → ◌≡◌ {A = Result Place LogFault} (Ok p) (Ok q) → Holds v q fs → Holds v p fs
at_place v p q fs e h = let same : q ≡ p = cc in subst (λ place. Holds v place fs) same h

with_line : (v : Version) (n : ℕ) (p q : Place) (l : List ℕ × Bool) (f : Line) (fs : List Line) → form_at v l ≡ Some f → after n p f ≡ Ok q → Holds v q fs → Holds v p (f ∷ fs)
with_line v n Start q l (line.Session k) fs e a h =
    let legal = (form_bytes v l (line.Session k) e).1 in
    with_session v k fs legal.0 legal.1 (at_place v Between q fs a h)
with_line v n Start q l (line.Begin m) fs e a h = cc
with_line v n Start q l (line.Read k w) fs e a h = cc
with_line v n Start q l (line.Write k w) fs e a h = cc
with_line v n Start q l (line.Commit m) fs e a h = cc
with_line v n Start q l line.Abort fs e a h = cc
with_line v n Start q l line.Unknown fs e a h = cc
with_line v n Between q l (line.Session k) fs e a h =
    let legal = (form_bytes v l (line.Session k) e).1 in
    between v (line.Session k ∷ fs) (with_session v k fs legal.0 legal.1 (at_place v Between q fs a h))
with_line v n Between q l (line.Begin m) fs e a h = with_begin v m fs (form_bytes v l (line.Begin m) e).1 (at_place v (Inside n m) q fs a h)
with_line v n Between q l (line.Read k w) fs e a h = cc
with_line v n Between q l (line.Write k w) fs e a h = cc
with_line v n Between q l (line.Commit m) fs e a h = cc
with_line v n Between q l line.Abort fs e a h = cc
with_line v n Between q l line.Unknown fs e a h = cc
with_line v n (Inside b begun) q l (line.Session k) fs e a h = cc
with_line v n (Inside b begun) q l (line.Begin m) fs e a h = cc
with_line v n (Inside b begun) q l (line.Read k w) fs e a h =
    with_op v begun (Read k w) fs (form_bytes v l (line.Read k w) e).1 (at_place v (Inside b begun) q fs a h)
with_line v n (Inside b begun) q l (line.Write k zero) fs e a h = cc
with_line v n (Inside b begun) q l (line.Write k (suc w)) fs e a h =
    let legal = (form_bytes v l (line.Write k (suc w)) e).1 in
    with_op v begun (Write k (suc w)) fs (legal.0, omega arith, legal.1) (at_place v (Inside b begun) q fs a h)
with_line v n (Inside b begun) q l (line.Commit m) fs e a h =
    let timed = in_time (is_earlier m begun) n q a in
    with_end v begun Commit m fs refl tt (form_bytes v l (line.Commit m) e).1 timed.0 (at_place v Between q fs timed.1 h)
with_line v n (Inside b begun) q l line.Abort fs e a h = with_end v begun Abort None fs refl refl tt refl (at_place v Between q fs a h)
with_line v n (Inside b begun) q l line.Unknown fs e a h = with_unknown v begun fs (form_bytes v l line.Unknown e).1 (at_place v Over q fs a h)
with_line v n Over q l (line.Session k) fs e a h =
    let legal = (form_bytes v l (line.Session k) e).1 in
    with_session v k fs legal.0 legal.1 (at_place v Between q fs a h)
with_line v n Over q l (line.Begin m) fs e a h = cc
with_line v n Over q l (line.Read k w) fs e a h = cc
with_line v n Over q l (line.Write k w) fs e a h = cc
with_line v n Over q l (line.Commit m) fs e a h = cc
with_line v n Over q l line.Abort fs e a h = cc
with_line v n Over q l line.Unknown fs e a h = cc

-- ---- all lines
record Formed (v : Version) (n : ℕ) (p q : Place) (l : List ℕ × Bool) : Type 0 where
  pub form : Line
  pub is : form_at v l ≡ Some form
  pub place : after n p form ≡ Ok q

formed : (v : Version) (n : ℕ) (p q : Place) (l : List ℕ × Bool) (o : Option Line) → form_at v l ≡ o → after_form n p o ≡ Ok q → Formed v n p q l
formed v n p q l None e h = cc
formed v n p q l (Some f) e h = record { form = f; is = e; place = h }

step_formed : (v : Version) (n : ℕ) (p q : Place) (l : List ℕ × Bool) → step v n p l ≡ Ok q → Formed v n p q l
unfolding step
step_formed v n Start q l e = formed v n Start q l (form_at v l) refl e
step_formed v n Between q l e = formed v n Between q l (form_at v l) refl e
step_formed v n (Inside b begun) q l e = go (is_session_line l) e
  where
    go : (t : Bool) → cond t (Err (OpenTransaction b)) (after_form n (Inside b begun) (form_at v l)) ≡ Ok q → Formed v n (Inside b begun) q l
    go true e = cc
    go false e = formed v n (Inside b begun) q l (form_at v l) refl e
step_formed v n Over q l e = formed v n Over q l (form_at v l) refl e

record Stands (v : Version) (p : Place) (ls : List (List ℕ × Bool)) : Type 0 where
  pub by_form : List Line
  pub holds : Holds v p by_form
  pub bytes : text_of ls ≡ text_of_lines by_form

no_session : (v : Version) → HoldsSessions v []
no_session v = record { sessions = []; legal = tt; held = tt; by_line = refl }

stands : (v : Version) (ls : List (List ℕ × Bool)) (n : ℕ) (p : Place) → first_fault v n p ls ≡ None → Stands v p ls
stands v [] n Start e = record { by_form = []; holds = no_session v; bytes = refl }
stands v [] n Between e = record { by_form = []; holds = between v [] (no_session v); bytes = refl }
stands v [] n (Inside b begun) e = cc
stands v [] n Over e = record { by_form = []; holds = no_session v; bytes = refl }
stands v (l ∷ ls) n p e = go (step v n p l) refl e (stands v ls (n + 1))
  where
    go : (r : Result Place LogFault) → step v n p l ≡ r → going_on r (λ q. first_fault v (n + 1) q ls) ≡ None → ((q : Place) → first_fault v (n + 1) q ls ≡ None → Stands v q ls) → Stands v p (l ∷ ls)
    go (Err f) h e ih = cc
    go (Ok q) h e ih =
        let f = step_formed v n p q l h in
        let later = ih q e in
        record {
          by_form = f.form ∷ later.by_form;
          holds = with_line v n p q l f.form later.by_form f.is f.place later.holds;
          bytes = ap (λ bs. bs ++ text_of ls) (form_bytes v l f.form f.is).0 ∙ ap (λ bs. (line_text f.form ++ 10 ∷ []) ++ bs) later.bytes;
        }

pub record IsTextOfSome (text : List ℕ) : Type 0 where
  pub sessions : List ClientSession
  pub legal : AllByRecursion IsLegal sessions
  pub held : AllByRecursion (IsHeldBy (version_of text)) sessions
  pub by_text : text ≡ log_text (version_of text) sessions

pub grammar_fault_is : (text : List ℕ) → grammar_fault text ≡ first_fault (version_of text) (first_line (version_of text)) Start (lines (body_of text))
unfolding grammar_fault
grammar_fault_is text = refl

pub sessions_where_no_fault : (text : List ℕ) → grammar_fault text ≡ None → IsTextOfSome text
sessions_where_no_fault text e =
    let v = version_of text in
    let all = stands v (lines (body_of text)) (first_line v) Start (sym (grammar_fault_is text) ∙ e) in
    let found : HoldsSessions v all.by_form = all.holds in
    let body : body_of text ≡ text_of_lines (flat_map session_lines found.sessions) =
    sym (text_of_lines_is (body_of text)) ∙ (all.bytes ∙ ap text_of_lines found.by_line) in
    record {
      sessions = found.sessions;
      legal = found.legal;
      held = found.held;
      by_text = header_and_body text ∙ (ap (λ bs. header_text v ++ bs) body ∙ sym (log_by_lines v found.sessions));
    }
