-- Clauses in store, when more literals come behind them.
use Rattle.refutation.proofs.Prelude.{◌≡◌, ℕ, ◌-◌, ◌≤◌, Result, Ok, Err, OnErr, Option, None, Some, List, [], ◌∷◌, ◌++◌, length, take, drop, refl, ap, ◌∙◌, arith, length-append, length-drop, slice_range, take-append-le, drop-append-le}
use Rattle.refutation.proofs.Prelude.{map-append, drop-append_seam, take-length, each_from_append, Literal, clause_in, clauses_in, IsWithin, AreWithin}
use Rattle.refutation.specs.declared.clauses.Span.{Span}

-- a range of a list is the same when more comes behind the list
pub range_before : (xs more : List Literal) (a b : ℕ) → a ≤ b → b ≤ length xs → slice_range (xs ++ more) a b ≡ slice_range xs a b
range_before xs more a b ab bn =
    let start : a ≤ length xs = omega arith in
    let long : b - a ≤ length (drop a xs) = omega (arith, length-drop a xs) in
    ap (take (b - a)) (drop-append-le a xs more start) ∙ take-append-le (b - a) (drop a xs) more long

pub range_behind : (xs more : List Literal) → slice_range (xs ++ more) (length xs) (length (xs ++ more)) ≡ more
range_behind xs more =
    let long : length (xs ++ more) - length xs ≡ length more = omega (arith, length-append xs more) in
    ap (take (length (xs ++ more) - length xs)) (drop-append_seam xs more) ∙ (ap (λ n. take n more) long ∙ take-length more)

pub clauses_before : (xs more : List Literal) (spans : List (Option Span)) → AreWithin (length xs) spans → clauses_in (xs ++ more) spans ≡ clauses_in xs spans
clauses_before xs more [] w = refl
clauses_before xs more (None ∷ spans) w = ap (λ cs. None ∷ cs) (clauses_before xs more spans w.1)
clauses_before xs more (Some s ∷ spans) w =
    let head = range_before xs more s.start s.end w.0.0 w.0.1 in
    let tail = clauses_before xs more spans w.1 in
    ap (λ c. Some c ∷ clauses_in (xs ++ more) spans) head ∙ ap (λ cs. Some (slice_range xs s.start s.end) ∷ cs) tail

is_within_more : (n m : ℕ) (s : Option Span) → n ≤ m → IsWithin n s → IsWithin m s
is_within_more n m None le w = tt
is_within_more n m (Some s) le w = (w.0, omega (arith, w.1))

pub within_more : (n m : ℕ) (spans : List (Option Span)) → n ≤ m → AreWithin n spans → AreWithin m spans
within_more n m [] le w = w
within_more n m (s ∷ spans) le w = (is_within_more n m s le w.0, within_more n m spans le w.1)

-- a clause put behind the others
pub clause_pushed : (xs c : List Literal) (spans : List (Option Span)) (s : Span) → AreWithin (length xs) spans → s.start ≡ length xs → s.end ≡ length (xs ++ c) → clauses_in (xs ++ c) (spans ++ Some s ∷ []) ≡ clauses_in xs spans ++ Some c ∷ []
clause_pushed xs c spans s w a b =
    let last : slice_range (xs ++ c) s.start s.end ≡ c = rw (a, b) (range_behind xs c) in
    map-append (clause_in (xs ++ c)) spans (Some s ∷ []) ∙ (ap (λ cs. cs ++ clause_in (xs ++ c) (Some s) ∷ []) (clauses_before xs c spans w) ∙ ap (λ d. clauses_in xs spans ++ Some d ∷ []) last)

pub within_pushed : (xs c : List Literal) (spans : List (Option Span)) (s : Span) → AreWithin (length xs) spans → s.start ≡ length xs → s.end ≡ length (xs ++ c) → AreWithin (length (xs ++ c)) (spans ++ Some s ∷ [])
within_pushed xs c spans s w a b =
    let long = length-append xs c in
    each_from_append (IsWithin (length (xs ++ c))) spans (Some s ∷ []) (within_more (length xs) (length (xs ++ c)) spans (omega arith) w) ((omega arith, omega arith), tt)

pub on_err : {T E P : Type 0} (r : Result T E) → P → OnErr r P
on_err (Ok x) p = tt
on_err (Err e) p = p
