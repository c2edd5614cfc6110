-- The rows of a part, and the lines of the whole log's text.
use Rattle.part_places.proofs.Prelude.{◌≡◌, ℕ, zero, suc, ◌+◌, Bool, true, false, cond, List, [], ◌∷◌, ◌++◌, length, map, get_or, refl, sym, ap, ◌∙◌, subst, Some, inl, inr, arith, length-append, slice_get, filter, flat_map, AllByRecursion}
use Rattle.part_places.proofs.Prelude.{cases_Bool, ClientSession, Transaction, txn_lines, session_lines, log_text, op_line, end_line, IsLegal, first_line, version_of, Op, log_lines, stays, thin, thin_txn, flagged, flag_of, picked}
use Rattle.part_places.proofs.Prelude.{with_txns, TxnRow, Table, Fits, op_counts, line_at, staying, part_row, flagged_rows, with_rows, part_table, IsInText}
use Rattle.session_log.specs.declared.line.Line.TheVariants.{Begin}
use Rattle.log_lines.specs.Places.{BeginsAt, IsLineOf, StandsAt}
use Rattle.log_lines.proofs.Own.{begin_line, operation_line, ending_line}
use Rattle.log_lines.proofs.Nodes.{counts, counts_in}

-- ---- a row for each transaction, and a line for each operation

stay_count : (known : ℕ → Bool) (line : ℕ) (os : List Op) → length (staying known line os) ≡ length (filter (stays known) os)
stay_count known line [] = refl
stay_count known line (o ∷ os) = elim (cases_Bool (stays known o)) [
  | inl y ↦ rw y (ap suc (stay_count known (line + 1) os))
  | inr n ↦ rw n (stay_count known (line + 1) os)
]

row_counts : (known flags : ℕ → Bool) (place line : ℕ) (ts : List Transaction) → counts (flagged_rows known flags place line ts) ≡ counts_in (map (thin_txn known) (flagged flags place ts))
row_counts known flags place line [] = refl
row_counts known flags place line (t ∷ ts) =
    let rest = row_counts known flags (place + 1) (line + length (txn_lines t)) ts in
    elim (cases_Bool (flags place)) [
      | inl y ↦ rw y (ap (λ k. k ∷ counts (flagged_rows known flags (place + 1) (line + length (txn_lines t)) ts)) (stay_count known (line + 1) t.ops) ∙ ap (λ ks. length (filter (stays known) t.ops) ∷ ks) rest)
      | inr n ↦ rw n rest
    ]

with_fits : (known : ℕ → Bool) (number : ℕ) (ts : List Transaction) (rows : List TxnRow) (ss : List ClientSession) (table : Table) → counts rows ≡ counts_in (map (thin_txn known) ts) → Fits (thin known ss) table
    → Fits (thin known (with_txns number ts ++ ss)) (with_rows rows ++ table)
with_fits known number [] [] ss table e fits = fits
with_fits known number [] (row ∷ rows) ss table e fits = cc
with_fits known number (t ∷ ts) [] ss table e fits = cc
with_fits known number (t ∷ ts) (row ∷ rows) ss table e fits = ap (λ ks. ks ∷ op_counts table) e ∙ ap (λ l. counts_in (map (thin_txn known) (t ∷ ts)) ∷ l) fits

pub fits : (known : ℕ → Bool) (flags : List (List Bool)) (n : ℕ) (ss : List ClientSession) → Fits (thin known (picked flags ss)) (part_table known flags n ss)
fits known flags n [] = refl
fits known [] n (s ∷ ss) = refl
fits known (f ∷ flags) n (s ∷ ss) =
    with_fits known s.number (flagged (flag_of f) 1 s.txns) (flagged_rows known (flag_of f) 1 (n + 1) s.txns) (picked flags ss) (part_table known flags (n + length (session_lines s)) ss) (row_counts known (flag_of f) 1 (n + 1) s.txns)
    (fits known flags (n + length (session_lines s)) ss)

-- ---- the session of the whole that a session of the part is of
record SessionIn (known : ℕ → Bool) (n : ℕ) (ss : List ClientSession) (of : ClientSession) (rows : List TxnRow) : Type 0 where
  pub f : List Bool
  pub before : List ClientSession
  pub whole : ClientSession
  pub after : List ClientSession
  pub sessions : ss ≡ before ++ whole ∷ after
  pub number : of.number ≡ whole.number
  pub txns : of.txns ≡ map (thin_txn known) (flagged (flag_of f) 1 whole.txns)
  pub has : rows ≡ flagged_rows known (flag_of f) 1 (n + length (log_lines before) + 1) whole.txns

behind : (known : ℕ → Bool) (n : ℕ) (s : ClientSession) (ss : List ClientSession) (of : ClientSession) (rows : List TxnRow) → SessionIn known (n + length (session_lines s)) ss of rows → SessionIn known n (s ∷ ss) of rows
behind known n s ss of rows h =
    let at : n + length (session_lines s) + length (log_lines h.before) + 1 ≡ n + length (log_lines (s ∷ h.before)) + 1 = omega (arith, length-append (session_lines s) (log_lines h.before)) in
    record {
      f = h.f;
      before = s ∷ h.before;
      whole = h.whole;
      after = h.after;
      sessions = ap (λ l. s ∷ l) h.sessions;
      number = h.number;
      txns = h.txns;
      has = h.has ∙ ap (λ k. flagged_rows known (flag_of h.f) 1 k h.whole.txns) at;
    }

session_in : (known : ℕ → Bool) (flags : List (List Bool)) (n : ℕ) (ss : List ClientSession) (a : ℕ) (of : ClientSession) (rows : List TxnRow) → slice_get (thin known (picked flags ss)) a ≡ Some of → slice_get (part_table known flags n ss) a ≡ Some rows
    → SessionIn known n ss of rows
session_in known flags n [] a of rows e g = cc
session_in known [] n (s ∷ ss) a of rows e g = cc
session_in known (f ∷ flags) n (s ∷ ss) a of rows e g =
    go (λ k e g. session_in known flags (n + length (session_lines s)) ss k of rows e g) (flagged (flag_of f) 1 s.txns) (flagged_rows known (flag_of f) 1 (n + 1) s.txns) a refl refl (row_counts known (flag_of f) 1 (n + 1) s.txns) e g
  where
    rest : Table
    rest = part_table known flags (n + length (session_lines s)) ss

    go : ((k : ℕ) → slice_get (thin known (picked flags ss)) k ≡ Some of → slice_get rest k ≡ Some rows → SessionIn known (n + length (session_lines s)) ss of rows) → (ts : List Transaction) (rs : List TxnRow) (k : ℕ) → ts ≡ flagged (flag_of f) 1 s.txns → rs ≡ flagged_rows known (flag_of f) 1 (n + 1) s.txns → counts rs ≡ counts_in (map (thin_txn known) ts)
        → slice_get (thin known (with_txns s.number ts ++ picked flags ss)) k ≡ Some of → slice_get (with_rows rs ++ rest) k ≡ Some rows → SessionIn known n (s ∷ ss) of rows
    go again [] [] k te re c e g = behind known n s ss of rows (again k e g)
    go again [] (r ∷ rs) k te re c e g = cc
    go again (t ∷ ts) [] k te re c e g = cc
    go again (t ∷ ts) (r ∷ rs) zero te re c e g =
        let same : record { number = s.number; txns = map (thin_txn known) (t ∷ ts) } ≡ of = cc in
        let here : r ∷ rs ≡ rows = cc in
        let at : n + 1 ≡ n + 0 + 1 = omega arith in
        record {
          f = f;
          before = [];
          whole = s;
          after = ss;
          sessions = refl;
          number = ap (λ (x : ClientSession). x.number) (sym same);
          txns = ap (λ (x : ClientSession). x.txns) (sym same) ∙ ap (map (thin_txn known)) te;
          has = sym here ∙ re ∙ ap (λ k. flagged_rows known (flag_of f) 1 k s.txns) at;
        }
    go again (t ∷ ts) (r ∷ rs) (suc k) te re c e g = behind known n s ss of rows (again k e g)

-- ---- the transaction of the whole
record TxnIn (known : ℕ → Bool) (place line : ℕ) (ts : List Transaction) (t : Transaction) (row : TxnRow) : Type 0 where
  pub earlier : List Transaction
  pub whole : Transaction
  pub later : List Transaction
  pub txns : ts ≡ earlier ++ whole ∷ later
  pub left : t ≡ thin_txn known whole
  pub has : row ≡ part_row known (place + length earlier) (line + length (flat_map txn_lines earlier)) whole

further : (known : ℕ → Bool) (place line : ℕ) (x : Transaction) (ts : List Transaction) (t : Transaction) (row : TxnRow) → TxnIn known (place + 1) (line + length (txn_lines x)) ts t row → TxnIn known place line (x ∷ ts) t row
further known place line x ts t row h =
    let at : place + 1 + length h.earlier ≡ place + length (x ∷ h.earlier) = omega arith in
    let begins : line + length (txn_lines x) + length (flat_map txn_lines h.earlier) ≡ line + length (flat_map txn_lines (x ∷ h.earlier)) = omega (arith, length-append (txn_lines x) (flat_map txn_lines h.earlier)) in
    record {
      earlier = x ∷ h.earlier;
      whole = h.whole;
      later = h.later;
      txns = ap (λ l. x ∷ l) h.txns;
      left = h.left;
      has = h.has ∙ ap (λ k. part_row known k (line + length (txn_lines x) + length (flat_map txn_lines h.earlier)) h.whole) at ∙ ap (λ k. part_row known (place + length (x ∷ h.earlier)) k h.whole) begins;
    }

txn_in : (known flags : ℕ → Bool) (place line : ℕ) (ts : List Transaction) (i : ℕ) (t : Transaction) (row : TxnRow) → slice_get (map (thin_txn known) (flagged flags place ts)) i ≡ Some t → slice_get (flagged_rows known flags place line ts) i ≡ Some row
    → TxnIn known place line ts t row
txn_in known flags place line [] i t row e g = cc
txn_in known flags place line (x ∷ ts) i t row e g = go (λ k e g. txn_in known flags (place + 1) (line + length (txn_lines x)) ts k t row e g) (flags place) i e g
  where
    rest : List TxnRow
    rest = flagged_rows known flags (place + 1) (line + length (txn_lines x)) ts

    go : ((k : ℕ) → slice_get (map (thin_txn known) (flagged flags (place + 1) ts)) k ≡ Some t → slice_get rest k ≡ Some row → TxnIn known (place + 1) (line + length (txn_lines x)) ts t row)
        → (b : Bool) (k : ℕ) → slice_get (map (thin_txn known) (cond b (x ∷ flagged flags (place + 1) ts) (flagged flags (place + 1) ts))) k ≡ Some t → slice_get (cond b (part_row known place line x ∷ rest) rest) k ≡ Some row → TxnIn known place line (x ∷ ts) t row
    go again true zero e g =
        let same : thin_txn known x ≡ t = cc in
        let here : part_row known place line x ≡ row = cc in
        let at : place ≡ place + 0 = omega arith in
        let begins : line ≡ line + 0 = omega arith in
        record {
          earlier = [];
          whole = x;
          later = ts;
          txns = refl;
          left = sym same;
          has = sym here ∙ ap (λ k. part_row known k line x) at ∙ ap (λ k. part_row known (place + 0) k x) begins;
        }
    go again true (suc k) e g = further known place line x ts t row (again k e g)
    go again false k e g = further known place line x ts t row (again k e g)

-- ---- the operation of the whole
record OpIn (known : ℕ → Bool) (line : ℕ) (os : List Op) (i : ℕ) (o : Op) : Type 0 where
  pub at : ℕ
  pub stands : slice_get os at ≡ Some o
  pub has : get_or (staying known line os) i 0 ≡ line + at

op_in : (known : ℕ → Bool) (line : ℕ) (os : List Op) (i : ℕ) (o : Op) → slice_get (filter (stays known) os) i ≡ Some o → OpIn known line os i o
op_in known line [] i o e = cc
op_in known line (x ∷ os) i o e = go (λ k e. op_in known (line + 1) os k o e) (stays known x) i refl e
  where
    Behind : Type 0
    Behind = (k : ℕ) → slice_get (filter (stays known) os) k ≡ Some o → OpIn known (line + 1) os k o

    later : Behind → (k j : ℕ) → slice_get (filter (stays known) os) k ≡ Some o → get_or (staying known (line + 1) os) k 0 ≡ get_or (staying known line (x ∷ os)) j 0 → OpIn known line (x ∷ os) j o
    later again k j e same =
        let h = again k e in
        let next : line + 1 + h.at ≡ line + suc h.at = omega arith in
        record { at = suc h.at; stands = h.stands; has = sym same ∙ h.has ∙ next }

    lines : Bool → List ℕ
    lines b = cond b (line ∷ staying known (line + 1) os) (staying known (line + 1) os)

    go : Behind → (b : Bool) (k : ℕ) → stays known x ≡ b → slice_get (cond b (x ∷ filter (stays known) os) (filter (stays known) os)) k ≡ Some o → OpIn known line (x ∷ os) k o
    go again true zero t e = record { at = 0; stands = e; has = ap (λ b. get_or (lines b) 0 0) t ∙ (let same : line ≡ line + 0 = omega arith in same) }
    go again true (suc k) t e = later again k (suc k) e (sym (ap (λ b. get_or (lines b) (suc k) 0) t))
    go again false k f e = later again k k e (sym (ap (λ b. get_or (lines b) k 0) f))

-- ---- in the text
record IsOfWhole (known : ℕ → Bool) (n : ℕ) (ss : List ClientSession) (session : ℕ) (t : Transaction) (row : TxnRow) : Type 0 where
  pub whole : Transaction
  pub left : t ≡ thin_txn known whole
  pub begins : BeginsAt n ss session row.place whole row.begin
  pub ops : row.ops ≡ staying known (row.begin + 1) whole.ops
  pub end : row.end ≡ row.begin + 1 + length whole.ops

of_whole : (known : ℕ → Bool) (flags : List (List Bool)) (n : ℕ) (ss : List ClientSession) (session place : ℕ) (t : Transaction) (row : TxnRow) → StandsAt (thin known (picked flags ss)) (part_table known flags n ss) session place t row
    → IsOfWhole known n ss session t row
of_whole known flags n ss session place t row h =
    let s = session_in known flags n ss h.at h.of h.rows h.sessions h.tables in
    let line = n + length (log_lines s.before) + 1 in
    let x = txn_in known (flag_of s.f) 1 line s.whole.txns h.index t row (ap (λ l. slice_get l h.index) (sym s.txns) ∙ h.txn) (ap (λ l. slice_get l h.index) (sym s.has) ∙ h.has) in
    let begin : row.begin ≡ line + length (flat_map txn_lines x.earlier) = ap (λ r. r.begin) x.has in
    let at : row.place ≡ 1 + length x.earlier = ap (λ r. r.place) x.has in
    record {
      whole = x.whole;
      left = x.left;
      begins = record {
        before = s.before;
        of = s.whole;
        after = s.after;
        earlier = x.earlier;
        later = x.later;
        sessions = s.sessions;
        number = sym s.number ∙ h.number;
        txns = x.txns;
        stands = omega (arith, at);
        begins = begin;
      };
      ops = ap (λ r. r.ops) x.has ∙ ap (λ k. staying known (k + 1) x.whole.ops) (sym begin);
      end = ap (λ r. r.end) x.has ∙ ap (λ k. k + 1 + length x.whole.ops) (sym begin);
    }

pub in_text : (text : List ℕ) (ss : List ClientSession) → AllByRecursion IsLegal ss → text ≡ log_text (version_of text) ss → (known : ℕ → Bool) (flags : List (List Bool)) (session place : ℕ) (t : Transaction) (row : TxnRow)
    → StandsAt (thin known (picked flags ss)) (part_table known flags (first_line (version_of text)) ss) session place t row
    → IsInText text t row × ((whole : Transaction) × BeginsAt (first_line (version_of text)) ss session row.place whole row.begin)
in_text text ss legal same known flags session place t row h =
    let w = of_whole known flags (first_line (version_of text)) ss session place t row h in (
      record {
        begin = subst (λ b. IsLineOf text row.begin (Begin b)) (sym (ap (λ (x : Transaction). x.begun) w.left)) (begin_line text ss legal same session row.place row.begin w.whole w.begins);
        operations = λ i op e. (
            let o = op_in known (row.begin + 1) w.whole.ops i op (ap (λ (x : Transaction). slice_get x.ops i) (sym w.left) ∙ e) in
            let line : line_at row i ≡ row.begin + 1 + o.at = ap (λ l. get_or l i 0) w.ops ∙ o.has in
            subst (λ k. IsLineOf text k (op_line op)) (sym line) (operation_line text ss legal same session row.place row.begin w.whole w.begins o.at op o.stands));
        end =
            subst (λ (x : Transaction). IsLineOf text row.end (end_line x.outcome x.ended)) (sym w.left)
            (subst (λ k. IsLineOf text k (end_line w.whole.outcome w.whole.ended)) (sym w.end) (ending_line text ss legal same session row.place row.begin w.whole w.begins));
      },
      (w.whole, w.begins),
    )
