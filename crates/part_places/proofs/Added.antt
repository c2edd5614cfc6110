-- Rows that are added, one transaction and one session after the other.
use Rattle.part_places.proofs.Prelude.{◌≡◌, ℕ, zero, suc, ◌+◌, ◌≤◌, Bool, true, false, cond, List, [], ◌∷◌, ◌++◌, length, drop, map, refl, sym, ap, ◌∙◌, Some, inl, inr, arith, append_assoc, length-append, Vec, slice_get, slice_index_or}
use Rattle.part_places.proofs.Prelude.{cases_Bool, append-nil, drop_all, get_drop, ClientSession, Transaction, view, view_txn, txn_lines, session_lines, Session, flagged, thin, thin_txn, flag_of, flags_view, with_txns, picked, TxnRow}
use Rattle.part_places.proofs.Prelude.{Table, part_row, flagged_rows, with_rows, part_table, first_txns, AddsRow, AddsRows}
use Rattle.std.specs.declared.alloc.Global.{Global}
use Rattle.session_log.specs.declared.session.Txn.{Txn}
use Rattle.log_parts.proofs.Steps.{txn_stays, txn_left, session_stays, none_from, flag_at}
use Rattle.part_places.proofs.Matched.{drop_next}

-- ---- transactions
-- what is left of those from place i on
abbrev pub left_from : (ℕ → Bool) → List Bool → List Txn → ℕ → List Transaction
left_from known f txns i = map (thin_txn known) (flagged (flag_of f) (i + 1) (map view_txn (drop i txns)))

abbrev pub rows_from : (ℕ → Bool) → List Bool → List Txn → ℕ → ℕ → List TxnRow
rows_from known f txns line i = flagged_rows known (flag_of f) (i + 1) line (map view_txn (drop i txns))

pub record AreRows (known : ℕ → Bool) (f : List Bool) (txns : List Txn) (left : List Transaction) (first : ℕ) (more : List Transaction) (rows : List TxnRow) (line i : ℕ) : Type 0 where
  pub so_far : rows ++ rows_from known f txns line i ≡ rows_from known f txns (first + 1) 0
  pub behind : drop (length rows) left ≡ left_from known f txns i ++ more

-- the transaction at a place, and those behind it
rows_at : (known : ℕ → Bool) (f : List Bool) (txns : List Txn) (line i : ℕ) (t : Txn) → slice_get txns i ≡ Some t → (b : Bool) → slice_index_or f i false ≡ b
    → rows_from known f txns line i ≡ cond b (part_row known (i + 1) line (view_txn t) ∷ []) [] ++ rows_from known f txns (line + length (txn_lines (view_txn t))) (i + 1)
rows_at known f txns line i t at true e = rw (get_drop txns i t at) (rw (flag_at f i ∙ e) refl)
rows_at known f txns line i t at false e = rw (get_drop txns i t at) (rw (flag_at f i ∙ e) refl)

left_at : (known : ℕ → Bool) (f : List Bool) (txns : List Txn) (i : ℕ) (t : Txn) → slice_get txns i ≡ Some t → (b : Bool) → slice_index_or f i false ≡ b
    → (more : List Transaction) → left_from known f txns i ++ more ≡ cond b (thin_txn known (view_txn t) ∷ (left_from known f txns (i + 1) ++ more)) (left_from known f txns (i + 1) ++ more)
left_at known f txns i t at true e more = ap (λ ts. map (thin_txn known) ts ++ more) (txn_stays f txns i t at e)
left_at known f txns i t at false e more = ap (λ ts. map (thin_txn known) ts ++ more) (txn_left f txns i t at e)

pub rows_more : (known : ℕ → Bool) (f : List Bool) (txns : List Txn) (left : List Transaction) (first : ℕ) (more : List Transaction) (old new : List TxnRow) (line i : ℕ) (t : Txn) (b : Bool) → slice_get txns i ≡ Some t → b ≡ slice_index_or f i false
    → AddsRow known b (view_txn t) (i + 1) line left old new → AreRows known f txns left first more old line i → AreRows known f txns left first more new (line + length (txn_lines (view_txn t))) (i + 1)
rows_more known f txns left first more old new line i t b at e a m =
    let ts = left_from known f txns (i + 1) ++ more in
    let step = a.adds ts (m.behind ∙ left_at known f txns i t at b (sym e) more) in
    let here = cond b (part_row known (i + 1) line (view_txn t) ∷ []) [] in
    let rest = rows_from known f txns (line + length (txn_lines (view_txn t))) (i + 1) in
    record {
      so_far = ap (λ l. l ++ rest) step.0 ∙ append_assoc old here rest ∙ ap (λ l. old ++ l) (sym (rows_at known f txns line i t at b (sym e))) ∙ m.so_far;
      behind = step.1;
    }

-- ---- one transaction
drop_head : {X Y : Type 0} (f : X → Y) (xs : List X) (n : ℕ) (x : X) (y : Y) (ys : List Y) → slice_get xs n ≡ Some x → drop n (map f xs) ≡ y ∷ ys → f x ≡ y
drop_head f [] n x y ys at e = cc
drop_head f (z ∷ xs) zero x y ys at e = cc
drop_head f (z ∷ xs) (suc n) x y ys at e = drop_head f xs n x y ys at e

pub row_added : (known : ℕ → Bool) (t : Transaction) (place line : ℕ) (left : List Txn) (old : List TxnRow) (next : ℕ) (x : Txn) (row : TxnRow) → next ≡ length old → slice_get left next ≡ Some x → (view_txn x ≡ thin_txn known t → row ≡ part_row known place line t)
    → AddsRow known true t place line (map view_txn left) old (old ++ row ∷ [])
row_added known t place line left old next x row long at is = record {
  adds = λ ts e.
      let there : drop next (map view_txn left) ≡ thin_txn known t ∷ ts = ap (λ n. drop n (map view_txn left)) long ∙ e in
      let same = is (drop_head view_txn left next x (thin_txn known t) ts at there) in
      let more : length (old ++ row ∷ []) ≡ length old + 1 = length-append old (row ∷ []) in
      (ap (λ r. old ++ r ∷ []) same, ap (λ n. drop n (map view_txn left)) more ∙ drop_next (map view_txn left) (length old) (thin_txn known t) ts e);
}

-- ---- sessions
first_with : (known : ℕ → Bool) (number : ℕ) (ts : List Transaction) (rest : List ClientSession) → (more : List Transaction) × (first_txns (thin known (with_txns number ts) ++ rest) ≡ map (thin_txn known) ts ++ more)
first_with known number [] rest = (first_txns rest, refl)
first_with known number (t ∷ ts) rest = ([], sym (append-nil (map (thin_txn known) (t ∷ ts))))

-- what follows behind the rows that were added
behind_with : (known flags : ℕ → Bool) (number place line : ℕ) (txns : List Transaction) (part rest : List ClientSession) (old : Table) → drop (length old) part ≡ thin known (with_txns number (flagged flags place txns)) ++ rest
    → drop (length (old ++ with_rows (flagged_rows known flags place line txns))) part ≡ rest
behind_with known flags number place line [] part rest old e = ap (λ (l : Table). drop (length l) part) (append-nil old) ∙ e
behind_with known flags number place line (t ∷ txns) part rest old e = elim (cases_Bool (flags place)) [
  | inl y ↦ rw y (
      let ts = flagged flags (place + 1) txns in
      let rows = part_row known place line t ∷ flagged_rows known flags (place + 1) (line + length (txn_lines t)) txns in
      let more : length (old ++ rows ∷ []) ≡ length old + 1 = length-append old (rows ∷ []) in
      let there : drop (length old) part ≡ record { number = number; txns = map (thin_txn known) (t ∷ ts) } ∷ rest = e ∙ ap (λ b. thin known (with_txns number (cond b (t ∷ ts) ts)) ++ rest) y in
      ap (λ n. drop n part) more ∙ drop_next part (length old) (record { number = number; txns = map (thin_txn known) (t ∷ ts) }) rest there)
  | inr n ↦ rw n (behind_with known flags number (place + 1) (line + length (txn_lines t)) txns part rest old (e ∙ ap (λ b. thin known (with_txns number (cond b (t ∷ flagged flags (place + 1) txns) (flagged flags (place + 1) txns))) ++ rest) n))
]

pub rows_added : (known flags : ℕ → Bool) (s : ClientSession) (line : ℕ) (part : List ClientSession) (left : List Transaction) (old new : Table) (rows : List TxnRow) → left ≡ first_txns (drop (length old) part)
    → ((more : List Transaction) → left ≡ map (thin_txn known) (flagged flags 1 s.txns) ++ more → rows ≡ flagged_rows known flags 1 (line + 1) s.txns) → new ≡ old ++ with_rows rows → AddsRows known flags s line part old new
rows_added known flags s line part left old new rows first is e = record {
  adds = λ rest there.
      let head = first_with known s.number (flagged flags 1 s.txns) rest in
      let same = is head.0 (first ∙ ap first_txns there ∙ head.1) in
      let added : new ≡ old ++ with_rows (flagged_rows known flags 1 (line + 1) s.txns) = e ∙ ap (λ l. old ++ with_rows l) same in
      (added, ap (λ (l : Table). drop (length l) part) added ∙ behind_with known flags s.number 1 (line + 1) s.txns part rest old there);
}

-- what is left of those from place i on
abbrev pub part_from : (ℕ → Bool) → List (Vec Bool Global) → List Session → ℕ → List ClientSession
part_from known flags sessions i = thin known (picked (flags_view (drop i flags)) (map view (drop i sessions)))

abbrev pub table_from : (ℕ → Bool) → List (Vec Bool Global) → List Session → ℕ → ℕ → Table
table_from known flags sessions line i = part_table known (flags_view (drop i flags)) line (map view (drop i sessions))

pub record IsTable (known : ℕ → Bool) (flags : List (Vec Bool Global)) (sessions : List Session) (part : List ClientSession) (first : ℕ) (table : Table) (line i : ℕ) : Type 0 where
  pub so_far : table ++ table_from known flags sessions line i ≡ table_from known flags sessions first 0
  pub behind : drop (length table) part ≡ part_from known flags sessions i

pub table_more : (known : ℕ → Bool) (flags : List (Vec Bool Global)) (sessions : List Session) (part : List ClientSession) (first : ℕ) (old new : Table) (line i : ℕ) (f : Vec Bool Global) (s : Session) → slice_get flags i ≡ Some f → slice_get sessions i ≡ Some s
    → AddsRows known (flag_of f.items) (view s) line part old new → IsTable known flags sessions part first old line i → IsTable known flags sessions part first new (line + length (session_lines (view s))) (i + 1)
table_more known flags sessions part first old new line i f s e g a m =
    let here = with_rows (flagged_rows known (flag_of f.items) 1 (line + 1) (map view_txn s.txns.items)) in
    let rest = table_from known flags sessions (line + length (session_lines (view s))) (i + 1) in
    let left = flagged (flag_of f.items) 1 (map view_txn s.txns.items) in
    let others = picked (flags_view (drop (i + 1) flags)) (map view (drop (i + 1) sessions)) in
    let there : part_from known flags sessions i ≡ thin known (with_txns s.number left) ++ thin known others =
    ap (thin known) (session_stays flags sessions i f s e g) ∙ thin_append known (with_txns s.number left) others in
    let step = a.adds (thin known others) (m.behind ∙ there) in
    let split : table_from known flags sessions line i ≡ here ++ rest = rw (get_drop flags i f e, get_drop sessions i s g) refl in
    record {
      so_far = ap (λ l. l ++ rest) step.0 ∙ append_assoc old here rest ∙ ap (λ l. old ++ l) (sym split) ∙ m.so_far;
      behind = step.1;
    }
  where
    thin_append : (known : ℕ → Bool) (a b : List ClientSession) → thin known (a ++ b) ≡ thin known a ++ thin known b
    thin_append known [] b = refl
    thin_append known (s ∷ a) b = ap (λ l. record { number = s.number; txns = map (thin_txn known) s.txns } ∷ l) (thin_append known a b)

no_flags : (known : ℕ → Bool) (line : ℕ) (ss : List ClientSession) → part_table known [] line ss ≡ []
no_flags known line [] = refl
no_flags known line (s ∷ ss) = refl

none_behind : (known : ℕ → Bool) (flags : List (Vec Bool Global)) (sessions : List Session) (line i : ℕ) → length flags ≤ i → table_from known flags sessions line i ≡ []
none_behind known flags sessions line i le = ap (λ l. part_table known (flags_view l) line (map view (drop i sessions))) (drop_all i flags le) ∙ no_flags known line (map view (drop i sessions))

-- where no flags are left
pub table_past : (known : ℕ → Bool) (flags : List (Vec Bool Global)) (sessions : List Session) (part : List ClientSession) (first : ℕ) (table : Table) (line next i : ℕ) → length flags ≤ i → IsTable known flags sessions part first table line i → IsTable known flags sessions part first table next (i + 1)
table_past known flags sessions part first table line next i le m =
    let later : length flags ≤ i + 1 = omega (arith, le) in
    record {
      so_far = ap (λ l. table ++ l) (none_behind known flags sessions next (i + 1) later ∙ sym (none_behind known flags sessions line i le)) ∙ m.so_far;
      behind = m.behind ∙ ap (thin known) (none_from flags sessions i le ∙ sym (none_from flags sessions (i + 1) later));
    }

pub whole_table : (known : ℕ → Bool) (flags : List (Vec Bool Global)) (sessions : List Session) (part : List ClientSession) (first : ℕ) (table : Table) (line i : ℕ) → length sessions ≤ i → IsTable known flags sessions part first table line i → table ≡ table_from known flags sessions first 0
whole_table known flags sessions part first table line i le m =
    let none : table_from known flags sessions line i ≡ [] = ap (λ l. part_table known (flags_view (drop i flags)) line (map view l)) (drop_all i sessions le) in
    sym (append-nil table) ∙ ap (λ l. table ++ l) (sym none) ∙ m.so_far
