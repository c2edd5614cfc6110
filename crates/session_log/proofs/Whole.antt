-- A legal list of sessions is accepted, and no other has its text.
use Rattle.session_log.proofs.Prelude.{◌≡◌, ℕ, zero, suc, ◌+◌, ◌<◌, ◌^◌, Bool, true, false, List, [], ◌∷◌, ◌++◌, map, Option, None, Some, Ok, refl, sym, ap, ◌∙◌, subst, arith, append_assoc, ◌==◌, is_ascii_digit, decimal, flat_map}
use Rattle.session_log.proofs.Prelude.{AllByRecursion, list_all, and_parts, and_from, not_from_false, ne_eqb, map-append, flat_map-append, digits_decimal, is_key_byte, IsKey, lines, is_earlier, IsMoment, ClientSession, Transaction}
use Rattle.session_log.proofs.Prelude.{line_text, text_of_lines, op_line, end_line, txn_lines, session_lines, session_text, log_text, IsLegal, IsLegalLine, IsLegalMoment, IsLegalTxn, IsLegalOp, MayEndAt, IsKnown, IsKnownBeforeLast}
use Rattle.session_log.proofs.Prelude.{HasNoMoments, IsHeldBy, is_unknown, Place, Start, Between, Inside, Over, first_fault, grammar_fault, step, after, after_form, form_at, is_session_line, Line, Op, Read, Write, Outcome, Commit, Abort}
use Rattle.session_log.proofs.Prelude.{Unknown, header_text, first_line, version_of, body_of, has_unknown_line, Version, One, Two, Three, option_map_or}
use Rattle.std.proofs.lemmas.List.Folds.{list_all-append}
use Rattle.session_log.specs.declared.line.Line.TheVariants as line
use Rattle.session_log.proofs.Lines.{lines-nil, is_other, lines_line}
use Rattle.session_log.proofs.Versions.{version_of_log, body_of_log}
use Rattle.session_log.proofs.Digits.{own}
use Rattle.session_log.proofs.Forms.{form_complete}
use Rattle.session_log.proofs.Steps.{step_body, fault_on}

-- no line has an LF inside
weaker : (p q : ℕ → Bool) → ((b : ℕ) → p b ≡ true → q b ≡ true) → (xs : List ℕ) → list_all p xs ≡ true → list_all q xs ≡ true
weaker p q to [] h = refl
weaker p q to (x ∷ xs) h =
    let parts = and_parts (p x) (list_all p xs) h in
    and_from (q x) (list_all q xs) (to x parts.0) (weaker p q to xs parts.1)

lf-key_byte : is_key_byte 10 ≡ false
unfolding is_key_byte
lf-key_byte = refl

key_other : (b : ℕ) → is_key_byte b ≡ true → is_other b ≡ true
key_other b h = not_from_false (b == 10) (ne_eqb b 10 (λ e. absurd (cc (ap is_key_byte e, h, lf-key_byte))))

lf-digit : is_ascii_digit 10 ≡ false
lf-digit = refl

digit_other : (b : ℕ) → is_ascii_digit b ≡ true → is_other b ≡ true
digit_other b h = not_from_false (b == 10) (ne_eqb b 10 (λ e. absurd (cc (ap is_ascii_digit e, h, lf-digit))))

decimal_other : (n : ℕ) → n < 2 ^ 64 → list_all is_other (decimal n) ≡ true
decimal_other n h = weaker is_ascii_digit is_other digit_other (decimal n) (digits_decimal own n h)

both_other : (xs ys : List ℕ) → list_all is_other xs ≡ true → list_all is_other ys ≡ true → list_all is_other (xs ++ ys) ≡ true
both_other xs ys a b = list_all-append is_other xs ys ∙ and_from (list_all is_other xs) (list_all is_other ys) a b

keyed_other : (k : List ℕ) (n : ℕ) → IsKey k → n < 2 ^ 64 → list_all is_other (k ++ 32 ∷ decimal n) ≡ true
keyed_other k n h fits = both_other k (32 ∷ decimal n) (weaker is_key_byte is_other key_other k (and_parts _ (list_all is_key_byte k) h).1) (decimal_other n fits)

line_other : (f : Line) → IsLegalLine Three f → list_all is_other (line_text f) ≡ true
unfolding line_text
line_other (line.Session n) h = decimal_other n (omega (arith, h.1))
line_other (line.Begin None) h = refl
line_other (line.Begin (Some m)) h = decimal_other m h.0
line_other (line.Read k n) h = keyed_other k n h.0 h.1
line_other (line.Write k n) h = keyed_other k n h.0 h.1
line_other (line.Commit None) h = refl
line_other (line.Commit (Some m)) h = decimal_other m h.0
line_other line.Abort h = refl
line_other line.Unknown h = refl

abbrev pub stands : Line → List ℕ × Bool
stands f = (line_text f, true)

lines_text : (fs : List Line) → AllByRecursion (IsLegalLine Three) fs → lines (text_of_lines fs) ≡ map stands fs
lines_text [] h = lines-nil
lines_text (f ∷ fs) h =
    ap lines (append_assoc (line_text f) (10 ∷ []) (text_of_lines fs)) ∙ (lines_line (line_text f) (text_of_lines fs) (line_other f h.0) ∙ ap (λ ls. stands f ∷ ls) (lines_text fs h.1))

-- the lines of a legal list of sessions

legal_append : (fs gs : List Line) → AllByRecursion (IsLegalLine Three) fs → AllByRecursion (IsLegalLine Three) gs → AllByRecursion (IsLegalLine Three) (fs ++ gs)
legal_append [] gs a b = b
legal_append (f ∷ fs) gs a b = (a.0, legal_append fs gs a.1 b)

legal_op : (v : Version) (o : Op) → IsLegalOp o → IsLegalLine v (op_line o)
legal_op v (Read k n) h = h
legal_op v (Write k n) h = (h.0, h.2)

legal_ops : (os : List Op) → AllByRecursion IsLegalOp os → AllByRecursion (IsLegalLine Three) (map op_line os)
legal_ops [] h = tt
legal_ops (o ∷ os) h = (legal_op Three o h.0, legal_ops os h.1)

stated : (moment : Option ℕ) → IsMoment moment → IsLegalMoment Three moment
stated None h = tt
stated (Some m) h = (h, refl)

end_stated : (o : Outcome) (ended : Option ℕ) → IsMoment ended → IsLegalLine Three (end_line o ended)
end_stated Commit ended h = stated ended h
end_stated Abort ended h = tt
end_stated Unknown ended h = refl

legal_txn : (t : Transaction) → IsLegalTxn t → AllByRecursion (IsLegalLine Three) (txn_lines t)
legal_txn t h = legal_append (line.Begin t.begun ∷ map op_line t.ops) (end_line t.outcome t.ended ∷ []) (stated t.begun h.begun, legal_ops t.ops h.ops) (end_stated t.outcome t.ended h.ended, tt)

legal_txns : (ts : List Transaction) → AllByRecursion IsLegalTxn ts → AllByRecursion (IsLegalLine Three) (flat_map txn_lines ts)
legal_txns [] h = tt
legal_txns (t ∷ ts) h = legal_append (txn_lines t) (flat_map txn_lines ts) (legal_txn t h.0) (legal_txns ts h.1)

legal_session : (s : ClientSession) → IsLegal s → AllByRecursion (IsLegalLine Three) (session_lines s)
legal_session s h = ((h.low, h.high), legal_txns s.txns h.txns)

legal_sessions : (ss : List ClientSession) → AllByRecursion IsLegal ss → AllByRecursion (IsLegalLine Three) (flat_map session_lines ss)
legal_sessions [] h = tt
legal_sessions (s ∷ ss) h = legal_append (session_lines s) (flat_map session_lines ss) (legal_session s h.0) (legal_sessions ss h.1)

pub texts_by_lines : (ss : List ClientSession) → flat_map session_text ss ≡ text_of_lines (flat_map session_lines ss)
unfolding session_text
texts_by_lines [] = refl
texts_by_lines (s ∷ ss) = ap (λ t. session_text s ++ t) (texts_by_lines ss) ∙ sym (flat_map-append (λ l. line_text l ++ 10 ∷ []) (session_lines s) (flat_map session_lines ss))

pub log_by_lines : (v : Version) (ss : List ClientSession) → log_text v ss ≡ header_text v ++ text_of_lines (flat_map session_lines ss)
unfolding log_text
log_by_lines v ss = ap (λ t. header_text v ++ t) (texts_by_lines ss)

pub lines_log : (v : Version) (ss : List ClientSession) → AllByRecursion IsLegal ss → lines (body_of (log_text v ss)) ≡ map stands (flat_map session_lines ss)
lines_log v ss h = ap lines (body_of_log v ss ∙ texts_by_lines ss) ∙ lines_text (flat_map session_lines ss) (legal_sessions ss h)

-- they are read back

abbrev add_op : Op → List Transaction → List Transaction
add_op o [] = []
add_op o (t ∷ ts) = record { ops = o ∷ t.ops; outcome = t.outcome; begun = t.begun; ended = t.ended } ∷ ts

abbrev add_begin : Option ℕ → List Transaction → List Transaction
add_begin begun [] = []
add_begin begun (t ∷ ts) = record { ops = t.ops; outcome = t.outcome; begun = begun; ended = t.ended } ∷ ts

abbrev ended_so : Outcome → Option ℕ → Transaction
ended_so outcome ended = record { ops = []; outcome = outcome; begun = None; ended = ended }

abbrev add_line : Line → List Transaction × List ClientSession → List Transaction × List ClientSession
add_line (line.Session n) r = ([], record { number = n; txns = r.0 } ∷ r.1)
add_line (line.Begin begun) r = (add_begin begun r.0, r.1)
add_line (line.Read k n) r = (add_op (Read k n) r.0, r.1)
add_line (line.Write k n) r = (add_op (Write k n) r.0, r.1)
add_line (line.Commit ended) r = (ended_so Commit ended ∷ r.0, r.1)
add_line line.Abort r = (ended_so Abort None ∷ r.0, r.1)
add_line line.Unknown r = (ended_so Unknown None ∷ r.0, r.1)

abbrev read_back : List (List ℕ × Bool) → List Transaction × List ClientSession
read_back [] = ([], [])
read_back (l ∷ ls) = option_map_or (λ f. add_line f (read_back ls)) (form_at Three l) (read_back ls)

read_line : (f : Line) (ls : List (List ℕ × Bool)) → IsLegalLine Three f → read_back (stands f ∷ ls) ≡ add_line f (read_back ls)
read_line f ls h = ap (λ o. option_map_or (λ f. add_line f (read_back ls)) o (read_back ls)) (form_complete Three f h)

read_op : (o : Op) (ls : List (List ℕ × Bool)) → IsLegalOp o → read_back (stands (op_line o) ∷ ls) ≡ (add_op o (read_back ls).0, (read_back ls).1)
read_op (Read k n) ls h = read_line (line.Read k n) ls h
read_op (Write k n) ls h = read_line (line.Write k n) ls (h.0, h.2)

read_end : (o : Outcome) (ended : Option ℕ) (ls : List (List ℕ × Bool)) → IsMoment ended → MayEndAt o ended → read_back (stands (end_line o ended) ∷ ls) ≡ (ended_so o ended ∷ (read_back ls).0, (read_back ls).1)
read_end Commit ended ls h told = read_line (line.Commit ended) ls (stated ended h)
read_end Abort ended ls h told = read_line line.Abort ls tt ∙ ap (λ e. (ended_so Abort e ∷ (read_back ls).0, (read_back ls).1)) (sym told)
read_end Unknown ended ls h told = read_line line.Unknown ls refl ∙ ap (λ e. (ended_so Unknown e ∷ (read_back ls).0, (read_back ls).1)) (sym told)

-- a transaction without its `begin`
abbrev begun_lines : Transaction → List Line
begun_lines t = map op_line t.ops ++ end_line t.outcome t.ended ∷ []

read_ops : (os : List Op) (o : Outcome) (ended : Option ℕ) (ls : List (List ℕ × Bool)) → AllByRecursion IsLegalOp os → IsMoment ended → MayEndAt o ended → read_back (map stands (map op_line os ++ end_line o ended ∷ []) ++ ls) ≡ (record { ops = os; outcome = o; begun = None; ended = ended } ∷ (read_back ls).0, (read_back ls).1)
read_ops [] o ended ls h m told = read_end o ended ls m told
read_ops (x ∷ os) o ended ls h m told = read_op x (map stands (map op_line os ++ end_line o ended ∷ []) ++ ls) h.0 ∙ ap (λ (r : List Transaction × List ClientSession). (add_op x r.0, r.1)) (read_ops os o ended ls h.1 m told)

read_txn : (t : Transaction) (ls : List (List ℕ × Bool)) → IsLegalTxn t → read_back (map stands (txn_lines t) ++ ls) ≡ (t ∷ (read_back ls).0, (read_back ls).1)
read_txn t ls h =
    read_line (line.Begin t.begun) (map stands (begun_lines t) ++ ls) (stated t.begun h.begun)
    ∙ ap (add_line (line.Begin t.begun)) (read_ops t.ops t.outcome t.ended ls h.ops h.ended h.told)

read_txns : (ts : List Transaction) (ls : List (List ℕ × Bool)) → AllByRecursion IsLegalTxn ts → (read_back ls).0 ≡ [] → read_back (map stands (flat_map txn_lines ts) ++ ls) ≡ (ts, (read_back ls).1)
read_txns [] ls h e = ap (λ xs. (xs, (read_back ls).1)) e
read_txns (t ∷ ts) ls h e =
    ap (λ x. read_back (x ++ ls)) (map-append stands (txn_lines t) (flat_map txn_lines ts))
    ∙ (ap read_back (append_assoc (map stands (txn_lines t)) (map stands (flat_map txn_lines ts)) ls)
    ∙ (read_txn t (map stands (flat_map txn_lines ts) ++ ls) h.0 ∙ ap (λ (r : List Transaction × List ClientSession). (t ∷ r.0, r.1)) (read_txns ts ls h.1 e)))

read_sessions : (ss : List ClientSession) → AllByRecursion IsLegal ss → read_back (map stands (flat_map session_lines ss)) ≡ ([], ss)
read_sessions [] h = refl
read_sessions (s ∷ ss) h =
    let later = read_sessions ss h.1 in
    ap read_back (map-append stands (session_lines s) (flat_map session_lines ss))
    ∙ (read_line (line.Session s.number) (map stands (flat_map txn_lines s.txns) ++ map stands (flat_map session_lines ss)) (h.0.low, h.0.high)
    ∙ ap (add_line (line.Session s.number)) (read_txns s.txns (map stands (flat_map session_lines ss)) h.0.txns (ap (λ (r : List Transaction × List ClientSession). r.0) later) ∙ ap (λ (r : List Transaction × List ClientSession). (s.txns, r.1)) later))

pub log_text_injective : (v w : Version) (a b : List ClientSession) → AllByRecursion IsLegal a → AllByRecursion IsLegal b → log_text v a ≡ log_text w b → (v ≡ w) × (a ≡ b)
log_text_injective v w a b h k e =
    let one = ap read_back (lines_log v a h) ∙ read_sessions a h in
    let two = ap read_back (lines_log w b k) ∙ read_sessions b k in (
      sym (version_of_log v a) ∙ (ap version_of e ∙ version_of_log w b),
      ap (λ (r : List Transaction × List ClientSession). r.1) (sym one ∙ (ap (λ t. read_back (lines (body_of t))) e ∙ two)),
    )

-- and no fault is met

abbrev GoesOn : Version → Place → List (List ℕ × Bool) → List (List ℕ × Bool) → Place → Type 0
GoesOn v p ls rest q = (n : ℕ) → (m : ℕ) × (first_fault v n p ls ≡ first_fault v m q rest)

goes_then : (v : Version) (p q r : Place) (xs ys zs : List (List ℕ × Bool)) → GoesOn v p xs ys q → GoesOn v q ys zs r → GoesOn v p xs zs r
goes_then v p q r xs ys zs a b n = let one = a n in let two = b one.0 in (two.0, one.1 ∙ two.1)

goes_line : (v : Version) (p q : Place) (f : Line) (ls : List (List ℕ × Bool)) → ((n : ℕ) → step v n p (stands f) ≡ Ok q) → GoesOn v p (stands f ∷ ls) ls q
goes_line v p q f ls h n = (n + 1, fault_on v n p q (stands f) ls (stands f ∷ ls) refl (h n))

form_step : (v : Version) (n : ℕ) (p : Place) (f : Line) → is_session_line (stands f) ≡ false → IsLegalLine v f → step v n p (stands f) ≡ after n p f
form_step v n p f h k = step_body v n p (stands f) h ∙ ap (after_form n p) (form_complete v f k)

is_session_line-op : (o : Op) → is_session_line (stands (op_line o)) ≡ false
unfolding line_text
is_session_line-op (Read k n) = refl
is_session_line-op (Write k n) = refl

is_session_line-end : (o : Outcome) (ended : Option ℕ) → is_session_line (stands (end_line o ended)) ≡ false
unfolding line_text
is_session_line-end Commit ended = refl
is_session_line-end Abort ended = refl
is_session_line-end Unknown ended = refl

is_session_line-begin : (begun : Option ℕ) → is_session_line (stands (line.Begin begun)) ≡ false
unfolding line_text
is_session_line-begin begun = refl

after_op : (n b : ℕ) (begun : Option ℕ) (o : Op) → IsLegalOp o → after n (Inside b begun) (op_line o) ≡ Ok (Inside b begun)
after_op n b begun (Read k w) h = refl
after_op n b begun (Write k zero) h = absurd (omega (arith, h.1))
after_op n b begun (Write k (suc w)) h = refl

-- the place behind a transaction, and what it asks of the version
abbrev end_place : Outcome → Place
end_place Commit = Between
end_place Abort = Between
end_place Unknown = Over

record IsHeld (v : Version) (t : Transaction) : Type 0 where
  pub outcome : is_unknown t.outcome ≡ true → has_unknown_line v ≡ true
  pub begun : IsLegalMoment v t.begun
  pub ended : IsLegalMoment v t.ended

after_end : (n b : ℕ) (begun ended : Option ℕ) (o : Outcome) → is_earlier ended begun ≡ false → after n (Inside b begun) (end_line o ended) ≡ Ok (end_place o)
after_end n b begun ended Commit h = rw h refl
after_end n b begun ended Abort h = refl
after_end n b begun ended Unknown h = refl

end_in : (v : Version) (o : Outcome) (ended : Option ℕ) → (is_unknown o ≡ true → has_unknown_line v ≡ true) → IsLegalMoment v ended → IsLegalLine v (end_line o ended)
end_in v Commit ended h m = m
end_in v Abort ended h m = tt
end_in v Unknown ended h m = h refl

goes_ops : (v : Version) (b : ℕ) (t : Transaction) (os : List Op) (ls : List (List ℕ × Bool)) → AllByRecursion IsLegalOp os → is_earlier t.ended t.begun ≡ false → IsHeld v t → GoesOn v (Inside b t.begun) (map stands (map op_line os ++ end_line t.outcome t.ended ∷ []) ++ ls) ls (end_place t.outcome)
goes_ops v b t [] ls h ordered m =
    goes_line v (Inside b t.begun) (end_place t.outcome) (end_line t.outcome t.ended) ls (λ n.
    form_step v n (Inside b t.begun) (end_line t.outcome t.ended) (is_session_line-end t.outcome t.ended) (end_in v t.outcome t.ended m.outcome m.ended)
    ∙ after_end n b t.begun t.ended t.outcome ordered)
goes_ops v b t (o ∷ os) ls h ordered m =
    let at : Place = Inside b t.begun in
    let rest : List (List ℕ × Bool) = map stands (map op_line os ++ end_line t.outcome t.ended ∷ []) ++ ls in
    goes_then v at at (end_place t.outcome) (stands (op_line o) ∷ rest) rest ls
    (goes_line v at at (op_line o) rest (λ n. form_step v n at (op_line o) (is_session_line-op o) (legal_op v o h.0) ∙ after_op n b t.begun o h.0))
    (goes_ops v b t os ls h.1 ordered m)

goes_txn : (v : Version) (t : Transaction) (ls : List (List ℕ × Bool)) → IsLegalTxn t → IsHeld v t → GoesOn v Between (map stands (txn_lines t) ++ ls) ls (end_place t.outcome)
goes_txn v t ls h m n =
    let begun = fault_on v n Between (Inside n t.begun) (stands (line.Begin t.begun)) (map stands (begun_lines t) ++ ls) _ refl (form_step v n Between (line.Begin t.begun) (is_session_line-begin t.begun) m.begun) in
    let others = goes_ops v n t t.ops ls h.ops h.ordered m (n + 1) in
    (others.0, begun ∙ others.1)

-- no transaction is open
abbrev IsOut : Place → Type 0
IsOut (Inside b begun) = ⊥
IsOut p = Unit {0}

end_out : (o : Outcome) → IsOut (end_place o)
end_out Commit = tt
end_out Abort = tt
end_out Unknown = tt

known_place : (o : Outcome) → is_unknown o ≡ false → end_place o ≡ Between
known_place Commit h = refl
known_place Abort h = refl
known_place Unknown h = cc

txns_apart : (t : Transaction) (ts : List Transaction) (ls : List (List ℕ × Bool)) → map stands (flat_map txn_lines (t ∷ ts)) ++ ls ≡ map stands (txn_lines t) ++ (map stands (flat_map txn_lines ts) ++ ls)
txns_apart t ts ls = ap (λ x. x ++ ls) (map-append stands (txn_lines t) (flat_map txn_lines ts)) ∙ append_assoc (map stands (txn_lines t)) (map stands (flat_map txn_lines ts)) ls

goes_txns : (v : Version) (ts : List Transaction) (ls : List (List ℕ × Bool)) → AllByRecursion IsLegalTxn ts → IsKnownBeforeLast ts → AllByRecursion (IsHeld v) ts → (q : Place) × IsOut q × GoesOn v Between (map stands (flat_map txn_lines ts) ++ ls) ls q
goes_txns v [] ls h k m = (Between, tt, λ n. (n, refl))
goes_txns v (t ∷ []) ls h k m =
    (end_place t.outcome, end_out t.outcome, subst (λ xs. GoesOn v Between xs ls (end_place t.outcome)) (sym (txns_apart t [] ls)) (goes_txn v t ls h.0 m.0))
goes_txns v (t ∷ u ∷ ts) ls h k m =
    let later = goes_txns v (u ∷ ts) ls h.1 k.1 m.1 in
    let rest : List (List ℕ × Bool) = map stands (flat_map txn_lines (u ∷ ts)) ++ ls in
    let one : GoesOn v Between (map stands (txn_lines t) ++ rest) rest Between = subst (GoesOn v Between (map stands (txn_lines t) ++ rest) rest) (known_place t.outcome k.0) (goes_txn v t rest h.0 m.0) in
    (later.0, later.1, subst (λ xs. GoesOn v Between xs ls later.0) (sym (txns_apart t (u ∷ ts) ls)) (goes_then v Between Between later.0 (map stands (txn_lines t) ++ rest) rest ls one later.2))

session_step : (v : Version) (n k : ℕ) (p : Place) → 0 < k → k < 2 ^ 16 → IsOut p → step v n p (stands (line.Session k)) ≡ Ok Between
unfolding step
session_step v n k Start low high out = ap (after_form n Start) (form_complete v (line.Session k) (low, high))
session_step v n k Between low high out = ap (after_form n Between) (form_complete v (line.Session k) (low, high))
session_step v n k (Inside b begun) low high out = absurd out
session_step v n k Over low high out = ap (after_form n Over) (form_complete v (line.Session k) (low, high))

-- the transactions of a session that the version holds
not_stated : (v : Version) (moment : Option ℕ) → moment ≡ None → IsLegalMoment v moment
not_stated v moment h = subst (IsLegalMoment v) (sym h) tt

held_by_one : (ts : List Transaction) → AllByRecursion IsKnown ts → AllByRecursion HasNoMoments ts → AllByRecursion (IsHeld One) ts
held_by_one [] h k = tt
held_by_one (t ∷ ts) h k = (
  record { outcome = λ u. absurd (cc (u, h.0)); begun = not_stated One t.begun k.0.0; ended = not_stated One t.ended k.0.1 },
  held_by_one ts h.1 k.1,
)

held_by_two : (ts : List Transaction) → AllByRecursion HasNoMoments ts → AllByRecursion (IsHeld Two) ts
held_by_two [] k = tt
held_by_two (t ∷ ts) k = (
  record { outcome = λ u. refl; begun = not_stated Two t.begun k.0.0; ended = not_stated Two t.ended k.0.1 },
  held_by_two ts k.1,
)

held_by_three : (ts : List Transaction) → AllByRecursion IsLegalTxn ts → AllByRecursion (IsHeld Three) ts
held_by_three [] h = tt
held_by_three (t ∷ ts) h = (
  record { outcome = λ u. refl; begun = stated t.begun h.0.begun; ended = stated t.ended h.0.ended },
  held_by_three ts h.1,
)

may_held : (v : Version) (s : ClientSession) → AllByRecursion IsLegalTxn s.txns → IsHeldBy v s → AllByRecursion (IsHeld v) s.txns
may_held One s h k = held_by_one s.txns k.0 k.1
may_held Two s h k = held_by_two s.txns k
may_held Three s h k = held_by_three s.txns h

goes_sessions : (v : Version) (ss : List ClientSession) (p : Place) → IsOut p → AllByRecursion IsLegal ss → AllByRecursion (IsHeldBy v) ss → (n : ℕ) → first_fault v n p (map stands (flat_map session_lines ss)) ≡ None
goes_sessions v [] Start out h k n = refl
goes_sessions v [] Between out h k n = refl
goes_sessions v [] (Inside b begun) out h k n = absurd out
goes_sessions v [] Over out h k n = refl
goes_sessions v (s ∷ ss) p out h k n =
    let rest : List (List ℕ × Bool) = map stands (flat_map txn_lines s.txns) ++ map stands (flat_map session_lines ss) in
    let head = fault_on v n p Between (stands (line.Session s.number)) rest (stands (line.Session s.number) ∷ rest) refl (session_step v n s.number p h.0.low h.0.high out) in
    let txns = goes_txns v s.txns (map stands (flat_map session_lines ss)) h.0.txns h.0.known (may_held v s h.0.txns k.0) in
    let behind = txns.2 (n + 1) in
    ap (first_fault v n p) (map-append stands (session_lines s) (flat_map session_lines ss)) ∙ (head ∙ (behind.1 ∙ goes_sessions v ss txns.0 txns.1 h.1 k.1 behind.0))

pub grammar_fault_none : (v : Version) (ss : List ClientSession) → AllByRecursion IsLegal ss → AllByRecursion (IsHeldBy v) ss → grammar_fault (log_text v ss) ≡ None
unfolding grammar_fault
grammar_fault_none v ss h k =
    ap (first_fault (version_of (log_text v ss)) (first_line (version_of (log_text v ss))) Start) (lines_log v ss h) ∙ (ap (λ w. first_fault w (first_line w) Start (map stands (flat_map session_lines ss))) (version_of_log v ss) ∙ goes_sessions v ss Start tt h k (first_line v))
