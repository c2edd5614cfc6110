-- The scans of the lines find no fault exactly where the sessions keep the rules.
use Rattle.log_definitions.proofs.Prelude.{◌≡◌, ℕ, ◌+◌, ◌≤◌, Bool, true, false, cond, List, [], ◌∷◌, ◌++◌, map, Option, Some, None, refl, sym, ap, ◌∙◌, nat_eq, nat_lt, ne_eqb, subst, flat_map, list_any, AllByRecursion, IsDistinct}
use Rattle.log_definitions.proofs.Prelude.{option_or, cond-false, eqb-false, or_parts, or_from, ltb-false, le-ltb, flat_map-append, list_any-append, ClientSession, Transaction, op_line, end_line, txn_lines, session_lines, Line, Op, Read}
use Rattle.log_definitions.proofs.Prelude.{Write, Outcome, Commit, Abort, Unknown, LogFault, txns_in, ops_in, log_lines, sessions_from, writes_from, repeated, session_twice, write_twice, session_fault, write_fault, limit_fault, list_fault}
use Rattle.log_definitions.proofs.Prelude.{written, KeepsRules}
use Rattle.session_log.specs.declared.line.Line.TheVariants as line
use Rattle.log_definitions.proofs.Settled.{txn_ops}

-- ---- numbers of which none stood before
abbrev pub numbers : List (ℕ × ℕ) → List ℕ
numbers xs = map (λ x. x.1) xs

abbrev AllUnseen : List ℕ → List ℕ → Type 0
AllUnseen seen ys = AllByRecursion (λ y. list_any (nat_eq y) seen ≡ false) ys

flip : (a b : ℕ) → nat_eq a b ≡ false → nat_eq b a ≡ false
flip a b h = ne_eqb b a (λ e. eqb-false a b h (sym e))

unseen_split : (seen : List ℕ) (n : ℕ) (ys : List ℕ) → AllUnseen (seen ++ n ∷ []) ys → AllUnseen seen ys × AllByRecursion (λ y. nat_eq n y ≡ false) ys
unseen_split seen n [] h = (tt, tt)
unseen_split seen n (y ∷ ys) h =
    let later = unseen_split seen n ys h.1 in
    let parts = or_parts (list_any (nat_eq y) seen) (list_any (nat_eq y) (n ∷ [])) (sym (list_any-append (nat_eq y) seen (n ∷ [])) ∙ h.0) in
    ((parts.0, later.0), (flip y n (or_parts (nat_eq y n) false parts.1).0, later.1))

unseen_join : (seen : List ℕ) (n : ℕ) (ys : List ℕ) → AllUnseen seen ys → AllByRecursion (λ y. nat_eq n y ≡ false) ys → AllUnseen (seen ++ n ∷ []) ys
unseen_join seen n [] h k = tt
unseen_join seen n (y ∷ ys) h k = (
  list_any-append (nat_eq y) seen (n ∷ []) ∙ or_from (list_any (nat_eq y) seen) (list_any (nat_eq y) (n ∷ [])) h.0 (or_from (nat_eq y n) false (flip n y k.0) refl),
  unseen_join seen n ys h.1 k.1,
)

distinct_where_unrepeated : (seen : List ℕ) (xs : List (ℕ × ℕ)) → repeated seen xs ≡ None → AllUnseen seen (numbers xs) × IsDistinct nat_eq (numbers xs)
unfolding IsDistinct
distinct_where_unrepeated seen [] e = (tt, tt)
distinct_where_unrepeated seen (x ∷ xs) e = go (list_any (nat_eq x.1) seen) refl e (distinct_where_unrepeated (seen ++ x.1 ∷ []) xs)
  where
    go : (b : Bool) → list_any (nat_eq x.1) seen ≡ b → cond b (Some x.0) (repeated (seen ++ x.1 ∷ []) xs) ≡ None → (repeated (seen ++ x.1 ∷ []) xs ≡ None → AllUnseen (seen ++ x.1 ∷ []) (numbers xs) × IsDistinct nat_eq (numbers xs)) → AllUnseen seen (numbers (x ∷ xs)) × (AllByRecursion (λ y. nat_eq x.1 y ≡ false) (numbers xs) × IsDistinct nat_eq (numbers xs))
    go true f e ih = cc
    go false f e ih =
        let later = ih e in
        let parts = unseen_split seen x.1 (numbers xs) later.0 in
        ((f, parts.0), (parts.1, later.1))

unrepeated_where_distinct : (seen : List ℕ) (xs : List (ℕ × ℕ)) → AllUnseen seen (numbers xs) → IsDistinct nat_eq (numbers xs) → repeated seen xs ≡ None
unfolding IsDistinct
unrepeated_where_distinct seen [] u d = refl
unrepeated_where_distinct seen (x ∷ xs) u d =
    cond-false (list_any (nat_eq x.1) seen) (Some x.0) (repeated (seen ++ x.1 ∷ []) xs) u.0
    ∙ unrepeated_where_distinct (seen ++ x.1 ∷ []) xs (unseen_join seen x.1 (numbers xs) u.1 d.0) d.1

none_seen : (ys : List ℕ) → AllUnseen [] ys
none_seen [] = tt
none_seen (y ∷ ys) = (refl, none_seen ys)

-- ---- the numbers that the lines of a log have
abbrev begins : Line → List ℕ
begins (line.Session n) = n ∷ []
begins _ = []

abbrev writes : Line → List ℕ
writes (line.Write k w) = w ∷ []
writes _ = []

begun : (n : ℕ) (ls : List Line) → numbers (sessions_from n ls) ≡ flat_map begins ls
begun n [] = refl
begun n (line.Session k ∷ ls) = ap (λ l. k ∷ l) (begun (n + 1) ls)
begun n (line.Begin m ∷ ls) = begun (n + 1) ls
begun n (line.Read k w ∷ ls) = begun (n + 1) ls
begun n (line.Write k w ∷ ls) = begun (n + 1) ls
begun n (line.Commit m ∷ ls) = begun (n + 1) ls
begun n (line.Abort ∷ ls) = begun (n + 1) ls
begun n (line.Unknown ∷ ls) = begun (n + 1) ls

wrote : (n : ℕ) (ls : List Line) → numbers (writes_from n ls) ≡ flat_map writes ls
wrote n [] = refl
wrote n (line.Session k ∷ ls) = wrote (n + 1) ls
wrote n (line.Begin m ∷ ls) = wrote (n + 1) ls
wrote n (line.Read k w ∷ ls) = wrote (n + 1) ls
wrote n (line.Write k w ∷ ls) = ap (λ l. w ∷ l) (wrote (n + 1) ls)
wrote n (line.Commit m ∷ ls) = wrote (n + 1) ls
wrote n (line.Abort ∷ ls) = wrote (n + 1) ls
wrote n (line.Unknown ∷ ls) = wrote (n + 1) ls

begun_ops : (ops : List Op) (end : Outcome) (ended : Option ℕ) → flat_map begins (map op_line ops ++ end_line end ended ∷ []) ≡ []
begun_ops [] Commit ended = refl
begun_ops [] Abort ended = refl
begun_ops [] Unknown ended = refl
begun_ops (Read k w ∷ ops) end ended = begun_ops ops end ended
begun_ops (Write k w ∷ ops) end ended = begun_ops ops end ended

begun_txns : (ts : List Transaction) → flat_map begins (flat_map txn_lines ts) ≡ []
begun_txns [] = refl
begun_txns (t ∷ ts) =
    flat_map-append begins (txn_lines t) (flat_map txn_lines ts)
    ∙ ap (λ l. l ++ flat_map begins (flat_map txn_lines ts)) (begun_ops t.ops t.outcome t.ended) ∙ begun_txns ts

begun_log : (ss : List ClientSession) → flat_map begins (log_lines ss) ≡ map (λ s. s.number) ss
begun_log [] = refl
begun_log (s ∷ ss) =
    flat_map-append begins (session_lines s) (log_lines ss)
    ∙ ap (λ l. (s.number ∷ l) ++ flat_map begins (log_lines ss)) (begun_txns s.txns)
    ∙ ap (λ l. s.number ∷ l) (begun_log ss)

pub written-append : (a b : List Op) → written (a ++ b) ≡ written a ++ written b
written-append [] b = refl
written-append (Read k w ∷ a) b = written-append a b
written-append (Write k w ∷ a) b = ap (λ l. w ∷ l) (written-append a b)

wrote_ops : (ops : List Op) (end : Outcome) (ended : Option ℕ) → flat_map writes (map op_line ops ++ end_line end ended ∷ []) ≡ written ops
wrote_ops [] Commit ended = refl
wrote_ops [] Abort ended = refl
wrote_ops [] Unknown ended = refl
wrote_ops (Read k w ∷ ops) end ended = wrote_ops ops end ended
wrote_ops (Write k w ∷ ops) end ended = ap (λ l. w ∷ l) (wrote_ops ops end ended)

wrote_txns : (ts : List Transaction) → flat_map writes (flat_map txn_lines ts) ≡ written (flat_map txn_ops ts)
wrote_txns [] = refl
wrote_txns (t ∷ ts) =
    flat_map-append writes (txn_lines t) (flat_map txn_lines ts)
    ∙ ap (λ l. l ++ flat_map writes (flat_map txn_lines ts)) (wrote_ops t.ops t.outcome t.ended)
    ∙ ap (λ l. written t.ops ++ l) (wrote_txns ts)
    ∙ sym (written-append t.ops (flat_map txn_ops ts))

wrote_log : (ss : List ClientSession) → flat_map writes (log_lines ss) ≡ written (ops_in ss)
wrote_log [] = refl
wrote_log (s ∷ ss) =
    flat_map-append writes (session_lines s) (log_lines ss)
    ∙ ap (λ l. l ++ flat_map writes (log_lines ss)) (wrote_txns s.txns)
    ∙ ap (λ l. written (flat_map txn_ops s.txns) ++ l) (wrote_log ss)
    ∙ sym (written-append (flat_map txn_ops s.txns) (ops_in ss))
    ∙ ap written (sym (flat_map-append txn_ops s.txns (txns_in ss)))

begun_numbers : (n : ℕ) (ss : List ClientSession) → numbers (sessions_from n (log_lines ss)) ≡ map (λ s. s.number) ss
begun_numbers n ss = begun n (log_lines ss) ∙ begun_log ss

written_numbers : (n : ℕ) (ss : List ClientSession) → numbers (writes_from n (log_lines ss)) ≡ written (ops_in ss)
written_numbers n ss = wrote n (log_lines ss) ∙ wrote_log ss

-- ---- phase by phase
pub neither : (a b : Option LogFault) → option_or a b ≡ None → (a ≡ None) × (b ≡ None)
neither None b e = (refl, e)
neither (Some f) b e = cc

no_session : (o : Option ℕ) → session_fault o ≡ None → o ≡ None
no_session None e = refl
no_session (Some n) e = cc

no_write : (o : Option ℕ) → write_fault o ≡ None → o ≡ None
no_write None e = refl
no_write (Some n) e = cc

within : (limit n : ℕ) (f : LogFault) (rest : Option LogFault) → cond (nat_lt limit n) (Some f) rest ≡ None → (n ≤ limit) × (rest ≡ None)
within limit n f rest e = go (nat_lt limit n) refl e
  where
    go : (b : Bool) → nat_lt limit n ≡ b → cond b (Some f) rest ≡ None → (n ≤ limit) × (rest ≡ None)
    go true h e = cc
    go false h e = (ltb-false limit n h, e)

kept : (limit n : ℕ) (f : LogFault) (rest : Option LogFault) → n ≤ limit → cond (nat_lt limit n) (Some f) rest ≡ rest
kept limit n f rest h = cond-false (nat_lt limit n) (Some f) rest (le-ltb limit n h)

pub rules_where_no_fault : (n : ℕ) (ss : List ClientSession) → list_fault n ss ≡ None → KeepsRules ss
unfolding list_fault
rules_where_no_fault n ss e =
    let outer = neither (session_fault (session_twice n (log_lines ss))) _ e in
    let inner = neither (limit_fault ss) (write_fault (write_twice n (log_lines ss))) outer.1 in
    let one = within 200000 _ _ _ inner.0 in
    let two = within 1000 _ _ _ one.1 in
    let three = within 10000 _ _ _ two.1 in
    let numbered = distinct_where_unrepeated [] (sessions_from n (log_lines ss)) (no_session _ outer.0) in
    let identified = distinct_where_unrepeated [] (writes_from n (log_lines ss)) (no_write _ inner.1) in
    record {
      sessions = subst (IsDistinct nat_eq) (begun_numbers n ss) numbered.1;
      writes = subst (IsDistinct nat_eq) (written_numbers n ss) identified.1;
      operations = one.0;
      committed = two.0;
      keys = three.0;
    }

pub no_fault_where_rules : (n : ℕ) (ss : List ClientSession) → KeepsRules ss → list_fault n ss ≡ None
unfolding list_fault
no_fault_where_rules n ss h =
    let sessions : session_twice n (log_lines ss) ≡ None =
    unrepeated_where_distinct [] (sessions_from n (log_lines ss)) (none_seen _) (subst (IsDistinct nat_eq) (sym (begun_numbers n ss)) h.sessions) in
    let writes : write_twice n (log_lines ss) ≡ None =
    unrepeated_where_distinct [] (writes_from n (log_lines ss)) (none_seen _) (subst (IsDistinct nat_eq) (sym (written_numbers n ss)) h.writes) in
    let limits : limit_fault ss ≡ None = kept 200000 _ _ _ h.operations ∙ kept 1000 _ _ _ h.committed ∙ kept 10000 _ _ _ h.keys in
    ap (λ o. option_or (session_fault o) (option_or (limit_fault ss) (write_fault (write_twice n (log_lines ss))))) sessions
    ∙ ap (λ o. option_or o (write_fault (write_twice n (log_lines ss)))) limits
    ∙ ap write_fault writes
