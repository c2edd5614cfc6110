-- The lines of a transaction are lines of the text, and the rows of a log's own table have them.
use Rattle.std.proofs.Common.{◌≡◌, ℕ, zero, suc, ◌+◌, Bool, true, false, eqb, List, [], ◌∷◌, ◌++◌, length, map, slice_get, Some, refl, sym, ap, ◌∙◌, subst, arith, append_assoc, length-append, take, drop, codes, slice_index_or}
use Rattle.std.specs.List.{flat_map, AllByRecursion, range_with_len}
use Rattle.std.proofs.lemmas.Bool.{and_from, not_from_false}
use Rattle.std.proofs.lemmas.List.{length-map, map-append}
use Rattle.std.proofs.lemmas.Grind.{flat_map-append}
use Rattle.session_log.specs.Text.{ClientSession, Transaction, line_text, full_line, text_of_lines, op_line, end_line, txn_lines, session_lines, log_text, IsLegal}
use Rattle.session_log.specs.Lines.{lines, onto_line}
use Rattle.session_log.specs.Version.{header_text, first_line, version_of, body_of}
use Rattle.session_log.specs.declared.version.Version.{Version}
use Rattle.session_log.specs.declared.version.Version.TheVariants.{One, Two, Three}
use Rattle.session_log.specs.declared.line.Line.{Line}
use Rattle.session_log.specs.declared.line.Line.TheVariants.{Session, Begin}
use Rattle.session_log.specs.declared.session.Op.{Op}
use Rattle.session_log.proofs.Lines.{lines-nil, lines-cons, lines-cons_lf}
use Rattle.session_log.proofs.Whole.{log_by_lines, lines_log}
use Rattle.serializability.proofs.Places.{each_of_append, each_of_map, each_from_append, each_from_map}
use Rattle.log_definitions.specs.WellFormed.{log_lines}
use Rattle.log_lines.specs.Places.{BeginsAt, IsLineOf, has_no_lf, with_lf, StandsAt}
use Rattle.std.proofs.lemmas.Option.{slice_get_within}
use Rattle.std.proofs.lemmas.List.FromFn.{length-range_with_len, get_or-range_with_len}
use Rattle.log_lines.specs.Rows.{TxnRow, own_row, own_rows, own_places, Fits, line_at}

-- ---- no line of a text has an LF inside

abbrev IsWhole : List ℕ × Bool → Type 0
IsWhole l = has_no_lf l.0 ≡ true

whole_onto : (b : ℕ) (ls : List (List ℕ × Bool)) → eqb b 10 ≡ false → AllByRecursion IsWhole ls → AllByRecursion IsWhole (onto_line b ls)
whole_onto b [] e h = (and_from _ true (not_from_false (eqb b 10) e) refl, tt)
whole_onto b (l ∷ ls) e h = (and_from _ (has_no_lf l.0) (not_from_false (eqb b 10) e) h.0, h.1)

whole_lines : (text : List ℕ) → AllByRecursion IsWhole (lines text)
whole_lines [] = subst (AllByRecursion IsWhole) (sym lines-nil) tt
whole_lines (b ∷ bs) = go (eqb b 10) refl (whole_lines bs)
  where
    go : (t : Bool) → eqb b 10 ≡ t → AllByRecursion IsWhole (lines bs) → AllByRecursion IsWhole (lines (b ∷ bs))
    go true e h = subst (AllByRecursion IsWhole) (sym (lines-cons_lf b bs e)) (refl, h)
    go false e h = subst (AllByRecursion IsWhole) (sym (lines-cons b bs e)) (whole_onto b (lines bs) e h)

abbrev HasOneLine : Line → Type 0
HasOneLine l = has_no_lf (line_text l) ≡ true

own_lines : (v : Version) (ss : List ClientSession) → AllByRecursion IsLegal ss → AllByRecursion HasOneLine (log_lines ss)
own_lines v ss h =
    each_of_map IsWhole (λ (l : Line). (line_text l, true)) (log_lines ss) (subst (AllByRecursion IsWhole) (lines_log v ss h) (whole_lines (body_of (log_text v ss))))

-- ---- a line of the sessions is a line of the text

-- the lines of the header
record Header (v : Version) : Type 0 where
  front : List (List ℕ)
  apart : AllByRecursion (λ bytes. has_no_lf bytes ≡ true) front
  whole : header_text v ≡ flat_map with_lf front
  count : first_line v ≡ length front + 1

header : (v : Version) → Header v
header One = record { front = []; apart = tt; whole = refl; count = refl }
header Two = record { front = codes "log 2" ∷ []; apart = (refl, tt); whole = refl; count = refl }
header Three = record { front = codes "log 3" ∷ []; apart = (refl, tt); whole = refl; count = refl }

texts_front : (fs : List Line) → text_of_lines fs ≡ flat_map with_lf (map line_text fs)
texts_front [] = refl
texts_front (f ∷ fs) = ap (λ t. with_lf (line_text f) ++ t) (texts_front fs)

pub line_stands : (v : Version) (ss : List ClientSession) (fs : List Line) (l : Line) (gs : List Line) (k : ℕ) → AllByRecursion IsLegal ss → log_lines ss ≡ fs ++ l ∷ gs → k ≡ first_line v + length fs
    → IsLineOf (log_text v ss) k l
line_stands v ss fs l gs k legal split at =
    let own = each_of_append HasOneLine fs (l ∷ gs) (subst (AllByRecursion HasOneLine) split (own_lines v ss legal)) in
    let h = header v in
    let front = h.front ++ map line_text fs in
    record {
      front = front;
      rest = text_of_lines gs;
      apart = each_from_append (λ bytes. has_no_lf bytes ≡ true) h.front (map line_text fs) h.apart (each_from_map (λ bytes. has_no_lf bytes ≡ true) line_text fs own.0);
      one = own.1.0;
      count = omega (arith, at, h.count, length-append h.front (map line_text fs), length-map fs line_text);
      whole =
          log_by_lines v ss
          ∙ ap (λ ls. header_text v ++ text_of_lines ls) split
          ∙ ap (λ t. header_text v ++ t) (flat_map-append full_line fs (l ∷ gs))
          ∙ sym (append_assoc (header_text v) (text_of_lines fs) (text_of_lines (l ∷ gs)))
          ∙ ap (λ t. (header_text v ++ t) ++ text_of_lines (l ∷ gs)) (texts_front fs)
          ∙ ap (λ t. (t ++ flat_map with_lf (map line_text fs)) ++ text_of_lines (l ∷ gs)) h.whole
          ∙ ap (λ t. t ++ text_of_lines (l ∷ gs)) (sym (flat_map-append with_lf h.front (map line_text fs)))
          ∙ ap (λ t. flat_map with_lf front ++ t) (append_assoc (line_text l) (10 ∷ []) (text_of_lines gs));
    }

-- ---- the lines of a transaction
pub cut : {X : Type 0} (xs : List X) (i : ℕ) (x : X) → slice_get xs i ≡ Some x → (xs ≡ take i xs ++ x ∷ drop (suc i) xs) × (length (take i xs) ≡ i)
cut [] i x e = cc
cut (y ∷ xs) zero x e = let same : y ≡ x = cc in (ap (λ z. z ∷ xs) same, refl)
cut (y ∷ xs) (suc i) x e = let r = cut xs i x e in (ap (λ l. y ∷ l) r.0, omega (arith, r.1))

module _ (text : List ℕ) (ss : List ClientSession) (legal : AllByRecursion IsLegal ss) (whole : text ≡ log_text (version_of text) ss) (session place line : ℕ) (t : Transaction) (b : BeginsAt (first_line (version_of text)) ss session place t line) where
  -- a line of the transaction is one of the text
  line_of_txn : (fs : List Line) (l : Line) (gs : List Line) (k : ℕ) → txn_lines t ≡ fs ++ l ∷ gs → k ≡ line + length fs → IsLineOf text k l
  line_of_txn fs l gs k split at =
      let head = Session b.of.number in
      let inner = flat_map txn_lines b.earlier in
      let left = log_lines b.before in
      let later = flat_map txn_lines b.later in
      let right = log_lines b.after in
      subst (λ bytes. IsLineOf bytes k l) (sym whole) (line_stands (version_of text) ss (left ++ (head ∷ (inner ++ fs))) l (gs ++ (later ++ right)) k legal
      (ap log_lines b.sessions
      ∙ flat_map-append session_lines b.before (b.of ∷ b.after)
      ∙ ap (λ ts. left ++ ((head ∷ flat_map txn_lines ts) ++ right)) b.txns
      ∙ ap (λ ls. left ++ ((head ∷ ls) ++ right)) (flat_map-append txn_lines b.earlier (t ∷ b.later))
      ∙ ap (λ ls. left ++ ((head ∷ (inner ++ (ls ++ later))) ++ right)) split
      ∙ simp append_assoc)
      (omega (arith, at, b.begins, length-append left (head ∷ (inner ++ fs)), length-append inner fs)))

  pub begin_line : IsLineOf text line (Begin t.begun)
  begin_line = line_of_txn [] (Begin t.begun) (map op_line t.ops ++ end_line t.outcome t.ended ∷ []) line refl (omega arith)

  pub operation_line : (i : ℕ) (op : Op) → slice_get t.ops i ≡ Some op → IsLineOf text (line + 1 + i) (op_line op)
  operation_line i op e =
      let r = cut t.ops i op e in
      let fs = take i t.ops in
      let gs = drop (suc i) t.ops in
      let end = end_line t.outcome t.ended ∷ [] in
      line_of_txn (Begin t.begun ∷ map op_line fs) (op_line op) (map op_line gs ++ end) (line + 1 + i)
      (ap (λ ops. Begin t.begun ∷ (map op_line ops ++ end)) r.0 ∙ simp (map-append, append_assoc))
      (omega (arith, r.1, length-map fs op_line))

  pub ending_line : IsLineOf text (line + 1 + length t.ops) (end_line t.outcome t.ended)
  ending_line = line_of_txn (Begin t.begun ∷ map op_line t.ops) (end_line t.outcome t.ended) [] (line + 1 + length t.ops) refl (omega (arith, length-map t.ops op_line))

-- ---- the table has the shape of the sessions
counts : (place line : ℕ) (ts : List Transaction) → map (λ row. length row.ops) (own_rows place line ts) ≡ map (λ t. length t.ops) ts
counts place line [] = refl
counts place line (t ∷ ts) = rw (length-range_with_len (line + 1) (length t.ops), counts (place + 1) (line + length (txn_lines t)) ts) refl

pub own_fits : (n : ℕ) (ss : List ClientSession) → Fits ss (own_places n ss)
own_fits n [] = refl
own_fits n (s ∷ ss) = rw (counts 1 (n + 1) s.txns, own_fits (n + length (session_lines s)) ss) refl

-- ---- the session at a place, and the transaction
own_session : (n : ℕ) (ss : List ClientSession) (a : ℕ) (of : ClientSession) (rows : List TxnRow) → slice_get ss a ≡ Some of → slice_get (own_places n ss) a ≡ Some rows → rows ≡ own_rows 1 (n + length (log_lines (take a ss)) + 1) of.txns
own_session n [] a of rows e g = cc
own_session n (s ∷ ss) zero of rows e g = grind arith
own_session n (s ∷ ss) (suc a) of rows e g = grind (arith, length-append, own_session (n + length (session_lines s)) ss a of rows e g)

own_txn : (place line : ℕ) (ts : List Transaction) (i : ℕ) (t : Transaction) (row : TxnRow) → slice_get ts i ≡ Some t → slice_get (own_rows place line ts) i ≡ Some row → row ≡ own_row (place + i) (line + length (flat_map txn_lines (take i ts))) t
own_txn place line [] i t row e g = cc
own_txn place line (x ∷ ts) zero t row e g = grind arith
own_txn place line (x ∷ ts) (suc i) t row e g = grind (arith, length-append, own_txn (place + 1) (line + length (txn_lines x)) ts i t row e g)

-- ---- the row of a transaction
pub record IsOwnRow (n : ℕ) (ss : List ClientSession) (session place : ℕ) (t : Transaction) (row : TxnRow) : Type 0 where
  pub begins : BeginsAt n ss session place t row.begin
  pub stands : row.place ≡ place
  pub ops : row.ops ≡ range_with_len (row.begin + 1) (length t.ops)
  pub end : row.end ≡ row.begin + 1 + length t.ops

pub own_row_of : (n : ℕ) (ss : List ClientSession) (session place : ℕ) (t : Transaction) (row : TxnRow) → StandsAt ss (own_places n ss) session place t row → IsOwnRow n ss session place t row
own_row_of n ss session place t row h =
    let rows = own_session n ss h.at h.of h.rows h.sessions h.tables in
    let line = n + length (log_lines (take h.at ss)) + 1 in
    let own = own_txn 1 line h.of.txns h.index t row h.txn (ap (λ l. slice_get l h.index) (sym rows) ∙ h.has) in
    let txns = cut h.of.txns h.index t h.txn in
    let begin : row.begin ≡ line + length (flat_map txn_lines (take h.index h.of.txns)) = ap (λ r. r.begin) own in
    let at : row.place ≡ 1 + h.index = ap (λ r. r.place) own in
    record {
      begins = record {
        before = take h.at ss;
        of = h.of;
        after = drop (suc h.at) ss;
        earlier = take h.index h.of.txns;
        later = drop (suc h.index) h.of.txns;
        sessions = (cut ss h.at h.of h.sessions).0;
        number = h.number;
        txns = txns.0;
        stands = omega (arith, h.stands, txns.1);
        begins = begin;
      };
      stands = omega (arith, at, h.stands);
      ops = ap (λ r. r.ops) own ∙ ap (λ k. range_with_len (k + 1) (length t.ops)) (sym begin);
      end = ap (λ r. r.end) own ∙ ap (λ k. k + 1 + length t.ops) (sym begin);
    }

-- ---- its lines
module _ (text : List ℕ) (ss : List ClientSession) (legal : AllByRecursion IsLegal ss) (whole : text ≡ log_text (version_of text) ss) (session place : ℕ) (t : Transaction) (row : TxnRow)
    (h : StandsAt ss (own_places (first_line (version_of text)) ss) session place t row) where
  own : IsOwnRow (first_line (version_of text)) ss session place t row
  own = own_row_of (first_line (version_of text)) ss session place t row h

  pub own_begin : IsLineOf text row.begin (Begin t.begun)
  own_begin = begin_line text ss legal whole session place row.begin t own.begins

  pub own_operation : (i : ℕ) (op : Op) → slice_get t.ops i ≡ Some op → IsLineOf text (line_at row i) (op_line op)
  own_operation i op e =
      let n = length t.ops in
      let line : line_at row i ≡ row.begin + 1 + i = ap (λ l. slice_index_or l i 0) own.ops ∙ get_or-range_with_len (row.begin + 1) n i 0 (slice_get_within t.ops i op e) in
      subst (λ k. IsLineOf text k (op_line op)) (sym line) (operation_line text ss legal whole session place row.begin t own.begins i op e)

  pub own_end : IsLineOf text row.end (end_line t.outcome t.ended)
  own_end = subst (λ k. IsLineOf text k (end_line t.outcome t.ended)) (sym own.end) (ending_line text ss legal whole session place row.begin t own.begins)
