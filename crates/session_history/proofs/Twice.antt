-- The first session number that stood before.
use Rattle.session_history.proofs.Prelude.{◌≡◌, ℕ, ◌+◌, ◌<◌, Bool, true, false, ◌||◌, cond, List, [], ◌∷◌, ◌++◌, length, length-append, map, take, drop, get_or, Option, Some, None, refl, sym, ap, ◌∙◌, nat_eq, nat_cmp, flat_map, list_any}
use Rattle.session_history.proofs.Prelude.{is_at, unsigned_ties, eqb-true, eqb-false, eq-eqb, ne_eqb, append-nil, map-append, take_more, take-append-drop, list_any-append, flat_map-append, ClientSession, Transaction, view, op_line}
use Rattle.session_history.proofs.Prelude.{end_line, txn_lines, session_lines, Op, Read, Write, Outcome, Commit, Abort, Unknown, Session, log_lines, repeated, sessions_from, session_twice, sessions_from-append}
use Rattle.session_log.specs.declared.line.Line.TheVariants as line
use Rattle.session_history.proofs.Writing.{repeated_found, repeated_push}

none_in_txn : (n : ℕ) (ops : List Op) (o : Outcome) (ended : Option ℕ) → sessions_from n (map op_line ops ++ end_line o ended ∷ []) ≡ []
none_in_txn n [] Commit ended = refl
none_in_txn n [] Abort ended = refl
none_in_txn n [] Unknown ended = refl
none_in_txn n (Read k w ∷ ops) o ended = none_in_txn (n + 1) ops o ended
none_in_txn n (Write k w ∷ ops) o ended = none_in_txn (n + 1) ops o ended

none_in_txns : (n : ℕ) (ts : List Transaction) → sessions_from n (flat_map txn_lines ts) ≡ []
none_in_txns n [] = refl
none_in_txns n (t ∷ ts) = sessions_from-append n (txn_lines t) (flat_map txn_lines ts) ∙ ap (λ xs. xs ++ sessions_from (n + length (txn_lines t)) (flat_map txn_lines ts)) (none_in_txn (n + 1) t.ops t.outcome t.ended) ∙ none_in_txns (n + length (txn_lines t)) ts

one_in_session : (n : ℕ) (s : ClientSession) → sessions_from n (session_lines s) ≡ (n, s.number) ∷ []
one_in_session n s = ap (λ xs. (n, s.number) ∷ xs) (none_in_txns (n + 1) s.txns)

-- the sessions up to this one
pub numbers_more : (top : ℕ) (sessions : List Session) (i n : ℕ) (x : Session) → i < length sessions → x ≡ get_or sessions i x → n ≡ top + length (log_lines (map view (take i sessions)))
    → sessions_from top (log_lines (map view (take (i + 1) sessions))) ≡ sessions_from top (log_lines (map view (take i sessions))) ++ (n, x.number) ∷ []
numbers_more top sessions i n x h at number =
    let some = map view (take i sessions) in
    ap (λ ss. sessions_from top (log_lines ss)) (ap (map view) (take_more sessions i x h ∙ ap (λ y. take i sessions ++ y ∷ []) (sym at)) ∙ map-append view (take i sessions) (x ∷ []))
    ∙ ap (sessions_from top) (flat_map-append session_lines some (view x ∷ []) ∙ ap (λ ls. log_lines some ++ ls) (append-nil (session_lines (view x))))
    ∙ sessions_from-append top (log_lines some) (session_lines (view x))
    ∙ ap (λ m. sessions_from top (log_lines some) ++ sessions_from m (session_lines (view x))) (sym number)
    ∙ ap (λ xs. sessions_from top (log_lines some) ++ xs) (one_in_session n (view x))

pub lines_more : (sessions : List Session) (i : ℕ) (x : Session) → i < length sessions → x ≡ get_or sessions i x
    → length (log_lines (map view (take (i + 1) sessions))) ≡ length (log_lines (map view (take i sessions))) + length (session_lines (view x))
lines_more sessions i x h at =
    let some = map view (take i sessions) in
    ap (λ ss. length (log_lines ss)) (ap (map view) (take_more sessions i x h ∙ ap (λ y. take i sessions ++ y ∷ []) (sym at)) ∙ map-append view (take i sessions) (x ∷ []))
    ∙ ap length (flat_map-append session_lines some (view x ∷ []) ∙ ap (λ ls. log_lines some ++ ls) (append-nil (session_lines (view x))))
    ∙ length-append (log_lines some) (session_lines (view x))

-- no front has more lines
pub lines_within : (sessions : List Session) (i : ℕ) → length (log_lines (map view (take i sessions))) + length (log_lines (map view (drop i sessions))) ≡ length (log_lines (map view sessions))
lines_within sessions i =
    sym (ap (λ ss. length (log_lines (map view ss))) (sym (take-append-drop i sessions)) ∙ ap (λ ss. length (log_lines ss)) (map-append view (take i sessions) (drop i sessions))
    ∙ ap length (flat_map-append session_lines (map view (take i sessions)) (map view (drop i sessions))) ∙ length-append (log_lines (map view (take i sessions))) (log_lines (map view (drop i sessions))))

-- a number that stood before
pub twice_found : (top : ℕ) (sessions : List Session) (i n : ℕ) (x : Session) → i < length sessions → x ≡ get_or sessions i x → n ≡ top + length (log_lines (map view (take i sessions)))
    → repeated [] (sessions_from top (log_lines (map view (take i sessions)))) ≡ None
    → list_any (λ p. nat_eq x.number p.1) (sessions_from top (log_lines (map view (take i sessions)))) ≡ true
    → Some n ≡ session_twice top (log_lines (map view sessions))
twice_found top sessions i n x h at number none stood =
    let first = sessions_from top (log_lines (map view (take i sessions))) in
    let found : repeated [] (first ++ (n, x.number) ∷ []) ≡ Some n = repeated_push [] first n x.number none ∙ ap (λ b. cond b (Some n) None) stood in
    let front = log_lines (map view (take (i + 1) sessions)) in
    let back = log_lines (map view (drop (i + 1) sessions)) in
    sym (ap (λ ss. repeated [] (sessions_from top (log_lines (map view ss)))) (sym (take-append-drop (i + 1) sessions))
    ∙ ap (λ ss. repeated [] (sessions_from top (log_lines ss))) (map-append view (take (i + 1) sessions) (drop (i + 1) sessions))
    ∙ ap (λ ls. repeated [] (sessions_from top ls)) (flat_map-append session_lines (map view (take (i + 1) sessions)) (map view (drop (i + 1) sessions)))
    ∙ ap (repeated []) (sessions_from-append top front back)
    ∙ repeated_found [] (sessions_from top front) (sessions_from (top + length front) back) n (ap (repeated []) (numbers_more top sessions i n x h at number) ∙ found))

-- one that did not
pub none_more : (top : ℕ) (sessions : List Session) (i n : ℕ) (x : Session) → i < length sessions → x ≡ get_or sessions i x → n ≡ top + length (log_lines (map view (take i sessions)))
    → repeated [] (sessions_from top (log_lines (map view (take i sessions)))) ≡ None
    → list_any (λ p. nat_eq x.number p.1) (sessions_from top (log_lines (map view (take i sessions)))) ≡ false
    → repeated [] (sessions_from top (log_lines (map view (take (i + 1) sessions)))) ≡ None
none_more top sessions i n x h at number none fresh =
    ap (repeated []) (numbers_more top sessions i n x h at number) ∙ repeated_push [] (sessions_from top (log_lines (map view (take i sessions)))) n x.number none ∙ ap (λ b. cond b (Some n) None) fresh

pub seen_more : (top : ℕ) (sessions : List Session) (i n : ℕ) (x : Session) (f g : ℕ → Bool) → i < length sessions → x ≡ get_or sessions i x → n ≡ top + length (log_lines (map view (take i sessions)))
    → ((q : ℕ) → f q ≡ list_any (λ p. nat_eq q p.1) (sessions_from top (log_lines (map view (take i sessions)))))
    → ((q : ℕ) → g q ≡ cond (is_at (nat_cmp x.number) q) true (f q))
    → (q : ℕ) → g q ≡ list_any (λ p. nat_eq q p.1) (sessions_from top (log_lines (map view (take (i + 1) sessions))))
seen_more top sessions i n x f g h at number old new q =
    let first = sessions_from top (log_lines (map view (take i sessions))) in
    new q ∙ ap (λ b. cond b true (f q)) (sym (unsigned_ties x.number q)) ∙ go (nat_eq x.number q) refl (f q) (old q)
    ∙ sym (ap (list_any (λ p. nat_eq q p.1)) (numbers_more top sessions i n x h at number) ∙ list_any-append (λ p. nat_eq q p.1) first ((n, x.number) ∷ []))
  where
    or_true : (b : Bool) → (b || true) ≡ true
    or_true true = refl
    or_true false = refl

    or_false : (b : Bool) → (b || false) ≡ b
    or_false true = refl
    or_false false = refl

    go : (b : Bool) → nat_eq x.number q ≡ b → (s : Bool) → s ≡ list_any (λ p. nat_eq q p.1) (sessions_from top (log_lines (map view (take i sessions))))
        → cond b true s ≡ (list_any (λ p. nat_eq q p.1) (sessions_from top (log_lines (map view (take i sessions)))) || (nat_eq q x.number || false))
    go true e s f = sym (ap (λ b. list_any (λ p. nat_eq q p.1) (sessions_from top (log_lines (map view (take i sessions)))) || (b || false)) (eq-eqb q x.number (sym (eqb-true x.number q e))) ∙ or_true _)
    go false e s f = f ∙ sym (ap (λ b. list_any (λ p. nat_eq q p.1) (sessions_from top (log_lines (map view (take i sessions)))) || (b || false)) (ne_eqb q x.number (λ same. eqb-false x.number q e (sym same))) ∙ or_false _)
