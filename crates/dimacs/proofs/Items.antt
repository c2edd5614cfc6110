-- What is known after one more item, and the fault of an item.
use Rattle.dimacs.proofs.Prelude.{◌≡◌, ℕ, zero, suc, ◌+◌, ◌-◌, ◌^◌, ◌<◌, ◌≤◌, nat_lt, Bool, true, false, not, cond, List, [], ◌∷◌, ◌++◌, length, get_or, Option, Some, None, Ok, Err, refl, sym, ap, ◌∙◌, arith, append-nil, set, length-set}
use Rattle.dimacs.proofs.Prelude.{⊎_elim, replicate, bytes_eq, codes, map, filter_map, slice_get, is_some, ◌==◌, ◌||◌, range_with_len, cons_option, option_or, eq-eqb, ne_eqb, lt-ltb, le-ltb, ltb-false, cases_eq, get_or_at, length_push}
use Rattle.dimacs.proofs.Prelude.{get_or-set_same, get_or-set_other, same_lists, filter_map-append, length-map-range_with_len, get_or-map-range_with_len, Literal, AnswerFault, BadLine, TwoStatus, OutOfRange, BothSigns, Reading}
use Rattle.dimacs.proofs.Prelude.{digits_value, and-false, Item, Claim, Given, Zero, Broken, is_blank, words, is_number, signed_item, line_items, claim_of, status, is_given, mentions, number_of, is_closed, item_fault, line_fault, signs}
use Rattle.dimacs.proofs.Prelude.{marks, Knows, Takes}
use Rattle.std.proofs.lemmas.List.Folds.{list_any-append}
use Rattle.dimacs.specs.declared.status.Status.{Status}

-- ---- the status
pushed_status : (before : List Item) (i : Item) → claim_of i ≡ None → status (before ++ i ∷ []) ≡ status before
pushed_status before i e =
    ap (λ xs. slice_get xs 0) (filter_map-append claim_of before (i ∷ []) ∙ ap (λ o. filter_map claim_of before ++ cons_option o []) e ∙ append-nil (filter_map claim_of before))

first_of : (xs : List Status) (s : Status) → slice_get xs 0 ≡ None → slice_get (xs ++ s ∷ []) 0 ≡ Some s
first_of [] s e = refl
first_of (x ∷ xs) s e = cc

claimed_status : (before : List Item) (s : Status) → status before ≡ None → status (before ++ Claim s ∷ []) ≡ Some s
claimed_status before s e =
    ap (λ xs. slice_get xs 0) (filter_map-append claim_of before (Claim s ∷ [])) ∙ first_of (filter_map claim_of before) s e

-- ---- the last number
pushed_closed : (before : List Item) (i : Item) → number_of i ≡ None → is_closed (before ++ i ∷ []) ≡ is_closed before
pushed_closed before i e =
    ap (λ ns. get_or ns (length ns - 1) 1 == 0) (filter_map-append number_of before (i ∷ []) ∙ ap (λ o. filter_map number_of before ++ cons_option o []) e ∙ append-nil (filter_map number_of before))

pub numbered_closed : (before : List Item) (i : Item) (n : ℕ) → number_of i ≡ Some n → is_closed (before ++ i ∷ []) ≡ (n == 0)
numbered_closed before i n e =
    let numbers = filter_map number_of before in
    let all : filter_map number_of (before ++ i ∷ []) ≡ numbers ++ n ∷ [] = filter_map-append number_of before (i ∷ []) ∙ ap (λ o. numbers ++ cons_option o []) e in
    let place : length numbers ≡ length (numbers ++ n ∷ []) - 1 = omega (arith, length_push numbers n) in
    ap (λ ns. get_or ns (length ns - 1) 1 == 0) all
    ∙ ap (λ k. k == 0) (get_or_at numbers n [] 1 (length (numbers ++ n ∷ []) - 1) place)

-- ---- the signs
map_agree : {X Y : Type 0} (f g : X → Y) → ((x : X) → f x ≡ g x) → (xs : List X) → map f xs ≡ map g xs
map_agree f g h [] = refl
map_agree f g h (x ∷ xs) = let e = h x in let es = map_agree f g h xs in cc

or_false : (x : Bool) → (x || (false || false)) ≡ x
or_false true = refl
or_false false = refl

or_true : (x : Bool) → (x || (true || false)) ≡ true
or_true true = refl
or_true false = refl

pub pushed_mention : (l : Literal) (before : List Item) (i : Item) → is_given l i ≡ false → mentions l (before ++ i ∷ []) ≡ mentions l before
pushed_mention l before i e = list_any-append (is_given l) before (i ∷ []) ∙ ap (λ b. mentions l before || (b || false)) e ∙ or_false (mentions l before)

given_mention : (l : Literal) (before : List Item) (i : Item) → is_given l i ≡ true → mentions l (before ++ i ∷ []) ≡ true
given_mention l before i e = list_any-append (is_given l) before (i ∷ []) ∙ ap (λ b. mentions l before || (b || false)) e ∙ or_true (mentions l before)

abbrev pub literal : Bool → ℕ → Literal
literal p v = record { variable = v; positive = p }

pushed_signs : (vars : ℕ) (p : Bool) (before : List Item) (i : Item) → ((v : ℕ) → is_given (literal p v) i ≡ false) → signs vars p (before ++ i ∷ []) ≡ signs vars p before
pushed_signs vars p before i h =
    map_agree (λ v. mentions (literal p v) (before ++ i ∷ [])) (λ v. mentions (literal p v) before) (λ v. pushed_mention (literal p v) before i (h v)) (range_with_len 1 vars)

same_sign : (p : Bool) (v : ℕ) → is_given (literal p v) (Given (literal p v)) ≡ true
same_sign true v = rw (eq-eqb v v refl) refl
same_sign false v = rw (eq-eqb v v refl) refl

other_sign : (p : Bool) (w v : ℕ) → is_given (literal (not p) w) (Given (literal p v)) ≡ false
other_sign true w v = and-false (w == v)
other_sign false w v = and-false (w == v)

pub other_variable : (p q : Bool) (w v : ℕ) → (w ≡ v → ⊥) → is_given (literal p w) (Given (literal q v)) ≡ false
other_variable p q w v ne = rw (ne_eqb w v ne) refl

sign_at : (vars : ℕ) (p : Bool) (items : List Item) (k : ℕ) (d : Bool) → k < vars → get_or (signs vars p items) k d ≡ mentions (literal p (1 + k)) items
sign_at vars p items k d h = get_or-map-range_with_len (λ v. mentions (literal p v) items) 1 vars k (1 + k) d h refl

length-signs : (vars : ℕ) (p : Bool) (items : List Item) → length (signs vars p items) ≡ vars
length-signs vars p items = length-map-range_with_len (λ v. mentions (literal p v) items) 1 vars

given_signs : (vars : ℕ) (p : Bool) (before : List Item) (v : ℕ) → 0 < v → v ≤ vars → signs vars p (before ++ Given (literal p v) ∷ []) ≡ set (signs vars p before) (v - 1) true
given_signs vars p before v some small =
    let old = signs vars p before in
    let new = signs vars p (before ++ Given (literal p v) ∷ []) in
    same_lists new (set old (v - 1) true)
    (length-signs vars p (before ++ Given (literal p v) ∷ []) ∙ sym (length-set old (v - 1) true ∙ length-signs vars p before))
    (λ k d h.
    let below : k < vars = omega (arith, length-signs vars p (before ++ Given (literal p v) ∷ [])) in
    let inside : v - 1 < length old = omega (arith, length-signs vars p before) in
    let now = sign_at vars p (before ++ Given (literal p v) ∷ []) k d below in
    ⊎_elim
    (λ (e : k ≡ v - 1).
    let same : 1 + k ≡ v = omega arith in
    now ∙ ap (λ w. mentions (literal p w) (before ++ Given (literal p v) ∷ [])) same ∙ given_mention (literal p v) before (Given (literal p v)) (same_sign p v)
    ∙ sym (ap (λ j. get_or (set old (v - 1) true) j d) e ∙ get_or-set_same old (v - 1) true d inside))
    (λ (ne : k ≡ v - 1 → ⊥).
    now ∙ pushed_mention (literal p (1 + k)) before (Given (literal p v)) (other_variable p p (1 + k) v (λ e. ne (omega arith)))
    ∙ sym (get_or-set_other old (v - 1) k true d ne ∙ sign_at vars p before k d below))
    (cases_eq k (v - 1)))

constant : (a n : ℕ) → map (λ (v : ℕ). false) (range_with_len a n) ≡ replicate n false
constant a zero = refl
constant a (suc n) = ap (λ bs. false ∷ bs) (constant (a + 1) n)

-- ---- what is known
marks_by : (vars : ℕ) (items : List Item) (r : Reading) → r.trues.items ≡ signs vars true items → r.falses.items ≡ signs vars false items → (p : Bool) → marks r p ≡ signs vars p items
marks_by vars items r t f true = t
marks_by vars items r t f false = f

pub knows_nothing : (vars : ℕ) (r : Reading) → r.status ≡ None → r.trues.items ≡ replicate vars false → r.falses.items ≡ replicate vars false → r.closed ≡ false → Knows vars [] r
knows_nothing vars r s t f e = record {
  claimed = s;
  marked = marks_by vars [] r (t ∙ sym (constant 1 vars)) (f ∙ sym (constant 1 vars));
  ended = e;
}

pub knows_vars : (vars : ℕ) (items : List Item) (r : Reading) → Knows vars items r → length r.trues.items ≡ vars
knows_vars vars items r k = ap length (k.marked true) ∙ length-signs vars true items

-- an item that is no literal leaves the marks
knows_pushed : (vars : ℕ) (before : List Item) (i : Item) (old new : Reading) → Knows vars before old → ((p : Bool) (v : ℕ) → is_given (literal p v) i ≡ false) → new.status ≡ status (before ++ i ∷ []) → new.trues.items ≡ old.trues.items → new.falses.items ≡ old.falses.items → new.closed ≡ is_closed (before ++ i ∷ []) → Knows vars (before ++ i ∷ []) new
knows_pushed vars before i old new k none s t f e = record {
  claimed = s;
  marked = marks_by vars (before ++ i ∷ []) new (t ∙ k.marked true ∙ sym (pushed_signs vars true before i (none true))) (f ∙ k.marked false ∙ sym (pushed_signs vars false before i (none false)));
  ended = e;
}

-- ---- one item
fault_of_one : (vars line : ℕ) (before : List Item) (i : Item) (found : Option AnswerFault) → item_fault vars before line i ≡ found → found ≡ line_fault vars before line (i ∷ [])
fault_of_one vars line before i None e = ap (λ o. option_or o None) (sym e)
fault_of_one vars line before i (Some f) e = ap (λ o. option_or o None) (sym e)

pub takes_broken : (vars : ℕ) (before : List Item) (line : ℕ) (new : Reading) → Takes vars before line (Broken ∷ []) (Err (BadLine line)) new
unfolding item_fault
takes_broken vars before line new = record { fault = refl; known = tt }

takes_fault : (vars : ℕ) (before : List Item) (line : ℕ) (i : Item) (f : AnswerFault) (new : Reading) → item_fault vars before line i ≡ Some f → Takes vars before line (i ∷ []) (Err f) new
takes_fault vars before line i f new e = record { fault = fault_of_one vars line before i (Some f) e; known = tt }

takes_none : (vars : ℕ) (before : List Item) (line : ℕ) (i : Item) (new : Reading) → item_fault vars before line i ≡ None → Knows vars (before ++ i ∷ []) new → Takes vars before line (i ∷ []) (Ok tt) new
takes_none vars before line i new e k = record { fault = fault_of_one vars line before i None e; known = k }

pub takes_zero : (vars : ℕ) (before : List Item) (line : ℕ) (old new : Reading) → Knows vars before old → new.status ≡ old.status → new.trues.items ≡ old.trues.items → new.falses.items ≡ old.falses.items → new.closed ≡ true → Takes vars before line (Zero ∷ []) (Ok tt) new
unfolding item_fault
takes_zero vars before line old new k s t f e =
    takes_none vars before line Zero new refl
    (knows_pushed vars before Zero old new k (λ p v. refl) (s ∙ k.claimed ∙ sym (pushed_status before Zero refl)) t f (e ∙ sym (numbered_closed before Zero 0 refl)))

pub takes_second_status : (vars : ℕ) (before : List Item) (line : ℕ) (s : Status) (old new : Reading) → Knows vars before old → is_some old.status ≡ true → Takes vars before line (Claim s ∷ []) (Err (TwoStatus line)) new
unfolding item_fault
takes_second_status vars before line s old new k some =
    let stood : is_some (status before) ≡ true = ap is_some (sym k.claimed) ∙ some in
    takes_fault vars before line (Claim s) (TwoStatus line) new (rw stood refl)

no_status : (o : Option Status) → is_some o ≡ false → o ≡ None
no_status None e = refl
no_status (Some s) e = cc

pub takes_status : (vars : ℕ) (before : List Item) (line : ℕ) (s : Status) (old new : Reading) → Knows vars before old → is_some old.status ≡ false → new.status ≡ Some s → new.trues.items ≡ old.trues.items → new.falses.items ≡ old.falses.items → new.closed ≡ old.closed → Takes vars before line (Claim s ∷ []) (Ok tt) new
unfolding item_fault
takes_status vars before line s old new k none is t f e =
    let first : status before ≡ None = sym k.claimed ∙ no_status old.status none in
    takes_none vars before line (Claim s) new (rw first refl)
    (knows_pushed vars before (Claim s) old new k (λ p v. refl) (is ∙ sym (claimed_status before s first)) t f (e ∙ k.ended ∙ sym (pushed_closed before (Claim s) refl)))

pub takes_out_of_range : (vars : ℕ) (before : List Item) (line : ℕ) (p : Bool) (v : ℕ) (new : Reading) → vars < v → Takes vars before line (Given (literal p v) ∷ []) (Err (OutOfRange line)) new
unfolding item_fault
takes_out_of_range vars before line p v new h = takes_fault vars before line (Given (literal p v)) (OutOfRange line) new (rw (lt-ltb vars v h) refl)

-- the mark of a variable says whether it stood with that sign
mark_is : (vars : ℕ) (before : List Item) (p : Bool) (v : ℕ) (old : Reading) → Knows vars before old → 0 < v → v ≤ vars → get_or (marks old p) (v - 1) false ≡ mentions (literal p v) before
mark_is vars before p v old k some small =
    let place : v - 1 < vars = omega arith in
    let same : 1 + (v - 1) ≡ v = omega arith in
    ap (λ bs. get_or bs (v - 1) false) (k.marked p) ∙ sign_at vars p before (v - 1) false place ∙ ap (λ w. mentions (literal p w) before) same

pub takes_both_signs : (vars : ℕ) (before : List Item) (line : ℕ) (p : Bool) (v : ℕ) (old new : Reading) → Knows vars before old → 0 < v → v ≤ vars → get_or (marks old (not p)) (v - 1) false ≡ true → Takes vars before line (Given (literal p v) ∷ []) (Err (BothSigns line)) new
unfolding item_fault
takes_both_signs vars before line p v old new k some small stood =
    let opposite_stood : mentions (literal (not p) v) before ≡ true = sym (mark_is vars before (not p) v old k some small) ∙ stood in
    takes_fault vars before line (Given (literal p v)) (BothSigns line) new (rw (le-ltb vars v small, opposite_stood) refl)

-- the marks of both signs, from those of one and of the other
both_marks : (vars : ℕ) (items : List Item) (r : Reading) (p : Bool) → marks r p ≡ signs vars p items → marks r (not p) ≡ signs vars (not p) items → (q : Bool) → marks r q ≡ signs vars q items
both_marks vars items r true t f true = t
both_marks vars items r true t f false = f
both_marks vars items r false t f true = f
both_marks vars items r false t f false = t

not_zero : (v : ℕ) → 0 < v → (v == 0) ≡ false
not_zero v h = ne_eqb v 0 (λ e. absurd (omega arith))

pub takes_literal : (vars : ℕ) (before : List Item) (line : ℕ) (p : Bool) (v : ℕ) (old new : Reading) → Knows vars before old → 0 < v → v ≤ vars → false ≡ get_or (marks old (not p)) (v - 1) false → new.status ≡ old.status → marks new p ≡ set (marks old p) (v - 1) true → marks new (not p) ≡ marks old (not p) → new.closed ≡ false → Takes vars before line (Given (literal p v) ∷ []) (Ok tt) new
unfolding item_fault
takes_literal vars before line p v old new k some small none s here there e =
    let i : Item = Given (literal p v) in
    let apart : mentions (literal (not p) v) before ≡ false = sym (mark_is vars before (not p) v old k some small) ∙ sym none in
    let known : Knows vars (before ++ i ∷ []) new = record {
      claimed = s ∙ k.claimed ∙ sym (pushed_status before i refl);
      marked = both_marks vars (before ++ i ∷ []) new p
          (here ∙ ap (λ bs. set bs (v - 1) true) (k.marked p) ∙ sym (given_signs vars p before v some small))
          (there ∙ k.marked (not p) ∙ sym (pushed_signs vars (not p) before i (λ w. other_sign p w v)));
      ended = e ∙ sym (numbered_closed before i v refl ∙ not_zero v some);
    } in
    takes_none vars before line i new (rw (le-ltb vars v small, apart) refl) known

-- ---- what a word says
pub takes_broken_number : (vars : ℕ) (before : List Item) (line : ℕ) (p : Bool) (digits : List ℕ) (new : Reading) → is_number digits ≡ false → Takes vars before line (signed_item p digits ∷ []) (Err (BadLine line)) new
takes_broken_number vars before line p digits new e = rw e (takes_broken vars before line new)

too_large : (value vars : ℕ) (t : Bool) → nat_lt value (2 ^ 64) ≡ t → None ≡ cond t (Some value) None → vars < 2 ^ 64 → vars < value
too_large value vars true e is small = cc
too_large value vars false e is small = omega (arith, ltb-false value (2 ^ 64) e)

pub takes_large_number : (vars : ℕ) (before : List Item) (line : ℕ) (p : Bool) (digits : List ℕ) (new : Reading) → is_number digits ≡ true → None ≡ cond (nat_lt (digits_value 10 digits) (2 ^ 64)) (Some (digits_value 10 digits)) None → vars < 2 ^ 64 → Takes vars before line (signed_item p digits ∷ []) (Err (OutOfRange line)) new
takes_large_number vars before line p digits new e is small =
    let value : ℕ = digits_value 10 digits in
    let large : vars < value = too_large value vars (nat_lt value (2 ^ 64)) refl is small in
    let some : (value == 0) ≡ false = not_zero value (omega arith) in
    rw (e, some) (takes_out_of_range vars before line p value new large)

is_value : (value n : ℕ) (t : Bool) → Some n ≡ cond t (Some value) None → value ≡ n
is_value value n true e = cc
is_value value n false e = cc

pub takes_zero_number : (vars : ℕ) (before : List Item) (line : ℕ) (p : Bool) (digits : List ℕ) (old new : Reading) → is_number digits ≡ true → Some 0 ≡ cond (nat_lt (digits_value 10 digits) (2 ^ 64)) (Some (digits_value 10 digits)) None → Knows vars before old → new.status ≡ old.status → new.trues.items ≡ old.trues.items → new.falses.items ≡ old.falses.items → new.closed ≡ true → Takes vars before line (signed_item p digits ∷ []) (Ok tt) new
takes_zero_number vars before line p digits old new e is k s t f c =
    let none : (digits_value 10 digits == 0) ≡ true = eq-eqb (digits_value 10 digits) 0 (is_value _ 0 _ is) in
    rw (e, none) (takes_zero vars before line old new k s t f c)

-- ---- lines of no form
pub takes_indented : (vars : ℕ) (before : List Item) (n : ℕ) (line first : List ℕ) (others : List (List ℕ)) (byte : ℕ) (new : Reading) → byte ≡ get_or line 0 0 → (byte ≡ 99 → ⊥) → words line ≡ first ∷ others → is_blank (get_or line 0 0) ≡ true → Takes vars before n (line_items line) (Err (BadLine n)) new
unfolding line_items
takes_indented vars before n line first others byte new is apart e blank =
    let plain : (get_or line 0 0 == 99) ≡ false = ne_eqb (get_or line 0 0) 99 (λ h. apart (is ∙ h)) in
    rw (plain, blank, e) (takes_broken vars before n new)

pub takes_unknown : (vars : ℕ) (before : List Item) (n : ℕ) (line first : List ℕ) (others : List (List ℕ)) (byte : ℕ) (new : Reading) → byte ≡ get_or line 0 0 → (byte ≡ 99 → ⊥) → words line ≡ first ∷ others → is_blank (get_or line 0 0) ≡ false → bytes_eq first (codes "v") ≡ false → bytes_eq first (codes "s") ≡ false → Takes vars before n (line_items line) (Err (BadLine n)) new
unfolding line_items
takes_unknown vars before n line first others byte new is apart e blank v s =
    let plain : (get_or line 0 0 == 99) ≡ false = ne_eqb (get_or line 0 0) 99 (λ h. apart (is ∙ h)) in
    rw (plain, blank, e, v, s) (takes_broken vars before n new)
