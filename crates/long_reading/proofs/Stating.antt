-- What lines state, line by line.
use Rattle.long_reading.proofs.Prelude.{◌≡◌, ℕ, ◌+◌, ◌<◌, ◌≤◌, List, [], ◌∷◌, ◌++◌, length, map, take, drop, get_or, Option, refl, sym, ap, ◌∙◌, subst, arith, append_assoc, length-append, flat_map, append-nil, map-append, take_more}
use Rattle.long_reading.proofs.Prelude.{take_all, take-append-drop, flat_map-append, flat_map_single, view, view_txn, op_line, end_line, txn_lines, session_lines, Op, Txn, Session, log_lines, sessions_from, writes_from, Stated, Statements}
use Rattle.long_reading.proofs.Prelude.{by_line, AscendFrom, Takes}
use Rattle.session_log.specs.declared.line.Line.{Line}
use Rattle.session_log.specs.declared.line.Line.TheVariants as line
use Rattle.session_log.specs.declared.session.Outcome.{Outcome}
use Rattle.log_definitions.proofs.Lines.{sessions_from-append, writes_from-append}
use Rattle.long_reading.proofs.Read.{flat_map-map}

pub by_line-push : (stated now : List Stated) (s : Stated) → now ≡ stated ++ s ∷ [] → by_line now ≡ by_line stated ++ (s.line, s.number) ∷ []
by_line-push stated now s e = ap by_line e ∙ map-append (λ (s : Stated). (s.line, s.number)) stated (s ∷ [])

-- ---- steps

pub takes_more : (a b c : Statements) (xs ys : List Line) → Takes a b xs → Takes b c ys → Takes a c (xs ++ ys)
takes_more a b c xs ys h k =
    let count = length-append xs ys in
    record {
      line = omega (arith, h.line, k.line, count);
      sessions = k.sessions ∙ (ap (λ l. l ++ sessions_from b.line ys) h.sessions ∙ (append_assoc (by_line a.sessions.items) (sessions_from a.line xs) (sessions_from b.line ys)
          ∙ ap (λ l. by_line a.sessions.items ++ l) (ap (λ n. sessions_from a.line xs ++ sessions_from n ys) h.line ∙ sym (sessions_from-append a.line xs ys))));
      writes = k.writes ∙ (ap (λ l. l ++ writes_from b.line ys) h.writes ∙ (append_assoc (by_line a.writes.items) (writes_from a.line xs) (writes_from b.line ys)
          ∙ ap (λ l. by_line a.writes.items ++ l) (ap (λ n. writes_from a.line xs ++ writes_from n ys) h.line ∙ sym (writes_from-append a.line xs ys))));
    }

-- a line that states nothing
abbrev IsSilent : Line → Type 0
IsSilent l = (n : ℕ) → (sessions_from n (l ∷ []) ≡ []) × (writes_from n (l ∷ []) ≡ [])

takes_silent : (a b : Statements) (l : Line) → IsSilent l → b.line ≡ a.line + 1 → b.sessions ≡ a.sessions → b.writes ≡ a.writes → Takes a b (l ∷ [])
takes_silent a b l h line sessions writes = grind (arith, append-nil)

pub takes_begin : (a b : Statements) (m : Option ℕ) → b.line ≡ a.line + 1 → b.sessions ≡ a.sessions → b.writes ≡ a.writes → Takes a b (line.Begin m ∷ [])
takes_begin a b m = takes_silent a b (line.Begin m) (λ n. (refl, refl))

silent_end : (outcome : Outcome) (ended : Option ℕ) → IsSilent (end_line outcome ended)
silent_end v0 ended n = grind arith

pub takes_end : (a b : Statements) (outcome : Outcome) (ended : Option ℕ) → b.line ≡ a.line + 1 → b.sessions ≡ a.sessions → b.writes ≡ a.writes → Takes a b (end_line outcome ended ∷ [])
takes_end a b outcome ended = takes_silent a b (end_line outcome ended) (silent_end outcome ended)

pub takes_session : (a b : Statements) (number : ℕ) (s : Stated) → s.line ≡ a.line → s.number ≡ number → b.line ≡ a.line + 1 → b.writes ≡ a.writes → b.sessions.items ≡ a.sessions.items ++ s ∷ [] → Takes a b (line.Session number ∷ [])
takes_session a b number s at named line writes sessions = grind (arith, by_line-push, append-nil)

-- ---- one more of several
module _ {X : Type 0} (f : X → List Line) where
  more_of : (xs : List X) (i : ℕ) (x : X) → i < length xs → x ≡ get_or xs i x → flat_map f (take (i + 1) xs) ≡ flat_map f (take i xs) ++ f x
  more_of xs i x h at =
      ap (flat_map f) (take_more xs i x h ∙ ap (λ y. take i xs ++ y ∷ []) (sym at)) ∙ (flat_map-append f (take i xs) (x ∷ []) ∙ ap (λ l. flat_map f (take i xs) ++ l) (append-nil (f x)))

  pub one_more : (a b c : Statements) (xs : List X) (i : ℕ) (x : X) → i < length xs → x ≡ get_or xs i x → Takes a b (flat_map f (take i xs)) → Takes b c (f x) → Takes a c (flat_map f (take (i + 1) xs))
  one_more a b c xs i x h at old new = subst (Takes a c) (sym (more_of xs i x h at)) (takes_more a b c (flat_map f (take i xs)) (f x) old new)

  -- the lines so far and those of the next are within those of all
  pub room_for : (xs : List X) (i : ℕ) (x : X) → i < length xs → x ≡ get_or xs i x → length (flat_map f (take i xs)) + length (f x) ≤ length (flat_map f xs)
  room_for xs i x h at =
      let more = ap length (more_of xs i x h at) ∙ length-append (flat_map f (take i xs)) (f x) in
      let whole : length (flat_map f xs) ≡ length (flat_map f (take (i + 1) xs)) + length (flat_map f (drop (i + 1) xs)) =
      ap (λ l. length (flat_map f l)) (sym (take-append-drop (i + 1) xs)) ∙ (ap length (flat_map-append f (take (i + 1) xs) (drop (i + 1) xs)) ∙ length-append (flat_map f (take (i + 1) xs)) (flat_map f (drop (i + 1) xs))) in
      omega (arith, more, whole)

-- ---- the lines ascend
weaker : (n m : ℕ) (xs : List (ℕ × ℕ)) → n ≤ m → AscendFrom m xs → AscendFrom n xs
weaker n m [] h k = tt
weaker n m (x ∷ xs) h k = (omega (arith, h, k.0), k.1)

one_less : (n : ℕ) (xs : List (ℕ × ℕ)) → AscendFrom (n + 1) xs → AscendFrom n xs
one_less n xs h = weaker n (n + 1) xs (omega arith) h

pub from_none : (n : ℕ) (xs : List (ℕ × ℕ)) → AscendFrom n xs → AscendFrom 0 xs
from_none n xs h = weaker 0 n xs (omega arith) h

pub sessions_ascend : (n : ℕ) (ls : List Line) → AscendFrom n (sessions_from n ls)
sessions_ascend n [] = grind (arith, one_less)
sessions_ascend n (x ∷ ls) = grind (arith, one_less, sessions_ascend (n + 1) ls)

pub writes_ascend : (n : ℕ) (ls : List Line) → AscendFrom n (writes_from n ls)
writes_ascend n [] = grind (arith, one_less)
writes_ascend n (x ∷ ls) = grind (arith, one_less, writes_ascend (n + 1) ls)

-- ---- all of several

pub txn_length : (t : Txn) → length (txn_lines (view_txn t)) ≡ length (flat_map (λ (op : Op). op_line op ∷ []) t.ops.items) + 2
txn_length t = grind (arith, length-append, flat_map_single)

pub session_length : (s : Session) → length (session_lines (view s)) ≡ length (flat_map (λ (t : Txn). txn_lines (view_txn t)) s.txns.items) + 1
session_length s = let same = ap length (flat_map-map txn_lines view_txn s.txns.items) in omega (arith, same)

pub log_length : (ss : List Session) → length (log_lines (map view ss)) ≡ length (flat_map (λ (s : Session). session_lines (view s)) ss)
log_length ss = sym (ap length (flat_map-map session_lines view ss))

pub takes_txn : (a b c d : Statements) (t : Txn) (i : ℕ) → b.line ≡ a.line + 1 → b.sessions ≡ a.sessions → b.writes ≡ a.writes → length t.ops.items ≤ i → Takes b c (flat_map (λ (op : Op). op_line op ∷ []) (take i t.ops.items))
    → d.line ≡ c.line + 1 → d.sessions ≡ c.sessions → d.writes ≡ c.writes → Takes a d (txn_lines (view_txn t))
takes_txn a b c d t i l s w all inside m u x =
    let ops : Takes b c (map op_line t.ops.items) = subst (Takes b c) (ap (flat_map (λ (op : Op). op_line op ∷ [])) (take_all i t.ops.items all) ∙ flat_map_single op_line t.ops.items) inside in
    takes_more a c d (line.Begin t.begun ∷ map op_line t.ops.items) (end_line t.outcome t.ended ∷ [])
    (takes_more a b c (line.Begin t.begun ∷ []) (map op_line t.ops.items) (takes_begin a b t.begun l s w) ops)
    (takes_end c d t.outcome t.ended m u x)

pub takes_txns : (a b c : Statements) (x : Session) (s : Stated) (i : ℕ) → s.line ≡ a.line → s.number ≡ x.number → b.line ≡ a.line + 1 → b.writes ≡ a.writes → b.sessions.items ≡ a.sessions.items ++ s ∷ []
    → length x.txns.items ≤ i → Takes b c (flat_map (λ (t : Txn). txn_lines (view_txn t)) (take i x.txns.items)) → Takes a c (session_lines (view x))
takes_txns a b c x s i at named l w pushed all inside =
    let txns : Takes b c (flat_map txn_lines (map view_txn x.txns.items)) = subst (Takes b c) (ap (flat_map (λ (t : Txn). txn_lines (view_txn t))) (take_all i x.txns.items all) ∙ flat_map-map txn_lines view_txn x.txns.items) inside in
    takes_more a b c (line.Session x.number ∷ []) (flat_map txn_lines (map view_txn x.txns.items)) (takes_session a b x.number s at named l w pushed) txns

pub takes_sessions : (a b : Statements) (first : ℕ) (ss : List Session) (i : ℕ) → a.line ≡ first → a.sessions.items ≡ [] → a.writes.items ≡ [] → length ss ≤ i → Takes a b (flat_map (λ (s : Session). session_lines (view s)) (take i ss))
    → (by_line b.sessions.items ≡ sessions_from first (log_lines (map view ss))) × (by_line b.writes.items ≡ writes_from first (log_lines (map view ss)))
takes_sessions a b first ss i l s w all inside =
    let lines : flat_map (λ (s : Session). session_lines (view s)) (take i ss) ≡ log_lines (map view ss) = ap (flat_map (λ (s : Session). session_lines (view s))) (take_all i ss all) ∙ flat_map-map session_lines view ss in (
      inside.sessions ∙ (ap (λ xs. by_line xs ++ sessions_from a.line (flat_map (λ (s : Session). session_lines (view s)) (take i ss))) s ∙ (ap (λ n. sessions_from n (flat_map (λ (s : Session). session_lines (view s)) (take i ss))) l ∙ ap (sessions_from first) lines)),
      inside.writes ∙ (ap (λ xs. by_line xs ++ writes_from a.line (flat_map (λ (s : Session). session_lines (view s)) (take i ss))) w ∙ (ap (λ n. writes_from n (flat_map (λ (s : Session). session_lines (view s)) (take i ss))) l ∙ ap (writes_from first) lines)),
    )
