-- Items taken one after another, in a line and in a text.
use Rattle.dimacs.proofs.Prelude.{◌≡◌, ℕ, ◌+◌, ◌^◌, ◌<◌, ◌≤◌, Bool, true, false, cond, List, [], ◌∷◌, ◌++◌, length, Option, Some, None, Result, Ok, Err, refl, sym, ap, ◌∙◌, subst, arith, append-nil, append_assoc, map, nat_eq, MatchResult}
use Rattle.dimacs.proofs.Prelude.{IfOk, IfErr, OnOk, le-ltb, lt-ltb, flat_map, slice_split, option_or, lines_of_parts, length-slice_split, count_by-le-length, AnswerFault, Reading, Item, number_item, lines_of, line_items, Memory, TooLong}
use Rattle.dimacs.proofs.Prelude.{line_fault, first_fault, items_of, item_fault, end_fault, is_closed, status, answer_fault, StandsFor, IsAnswer, IsFault, Knows, Takes}
use Rattle.dimacs.specs.declared.answer.SolverAnswer.{SolverAnswer}

option_or_assoc : {X : Type 0} (a b c : Option X) → option_or a (option_or b c) ≡ option_or (option_or a b) c
option_or_assoc None b c = refl
option_or_assoc (Some x) b c = refl

-- the fault of a line's items, in two parts
line_fault-append : (vars line : ℕ) (before a b : List Item) → line_fault vars before line (a ++ b) ≡ option_or (line_fault vars before line a) (line_fault vars (before ++ a) line b)
line_fault-append vars line before [] b = ap (λ l. line_fault vars l line b) (sym (append-nil before))
line_fault-append vars line before (i ∷ a) b =
    ap (option_or (item_fault vars before line i)) (line_fault-append vars line (before ++ i ∷ []) a b
    ∙ ap (λ l. option_or (line_fault vars (before ++ i ∷ []) line a) (line_fault vars l line b)) (append_assoc before (i ∷ []) a))
    ∙ option_or_assoc (item_fault vars before line i) (line_fault vars (before ++ i ∷ []) line a) (line_fault vars (before ++ i ∷ a) line b)

-- of all the items of a line some have been taken, and the rest is left
pub record IsAmid (vars : ℕ) (before : List Item) (line : ℕ) (all rest : List Item) (reading : Reading) : Type 0 where
  pub taken : List Item
  pub split : all ≡ taken ++ rest
  pub sound : line_fault vars before line taken ≡ None
  pub known : Knows vars (before ++ taken) reading

-- one more of the words
pub amid_more : (vars : ℕ) (before : List Item) (line : ℕ) (all : List Item) (left : List (List ℕ)) (word : List ℕ) (others : List (List ℕ)) (old new : Reading) → left ≡ word ∷ others → (h : IsAmid vars before line all (map number_item left) old) → Takes vars (before ++ h.taken) line (number_item word ∷ []) (Ok tt) new → IsAmid vars before line all (map number_item others) new
amid_more vars before line all left word others old new e h t =
    let i = number_item word in
    record {
      taken = h.taken ++ i ∷ [];
      split = h.split ∙ ap (λ ws. h.taken ++ map number_item ws) e ∙ sym (append_assoc h.taken (i ∷ []) (map number_item others));
      sound = line_fault-append vars line before h.taken (i ∷ []) ∙ ap (λ o. option_or o (line_fault vars (before ++ h.taken) line (i ∷ []))) h.sound ∙ sym t.fault;
      known = subst (λ l. Knows vars l new) (append_assoc before h.taken (i ∷ [])) t.known;
    }

-- a word that is refused
pub amid_fault : (vars : ℕ) (before : List Item) (line : ℕ) (all : List Item) (left : List (List ℕ)) (word : List ℕ) (others : List (List ℕ)) (old new last : Reading) (f : AnswerFault) → left ≡ word ∷ others → (h : IsAmid vars before line all (map number_item left) old) → Takes vars (before ++ h.taken) line (number_item word ∷ []) (Err f) new → Takes vars before line all (Err f) last
amid_fault vars before line all left word others old new last f e h t =
    let i = number_item word in
    let there = map number_item others in
    let split : all ≡ h.taken ++ (i ∷ [] ++ there) = h.split ∙ ap (λ ws. h.taken ++ map number_item ws) e in
    record {
      fault = sym (ap (line_fault vars before line) split
          ∙ line_fault-append vars line before h.taken (i ∷ [] ++ there)
          ∙ ap (λ o. option_or o (line_fault vars (before ++ h.taken) line (i ∷ [] ++ there))) h.sound
          ∙ line_fault-append vars line (before ++ h.taken) (i ∷ []) there
          ∙ ap (λ o. option_or o (line_fault vars ((before ++ h.taken) ++ i ∷ []) line there)) (sym t.fault));
      known = tt;
    }

-- no word is left
pub amid_all : (vars : ℕ) (before : List Item) (line : ℕ) (all : List Item) (left : List (List ℕ)) (r : Reading) → left ≡ [] → IsAmid vars before line all (map number_item left) r → Takes vars before line all (Ok tt) r
amid_all vars before line all left r e h =
    let same : all ≡ h.taken = h.split ∙ ap (λ ws. h.taken ++ map number_item ws) e ∙ append-nil h.taken in
    record {
      fault = sym (ap (line_fault vars before line) same ∙ h.sound);
      known = subst (λ l. Knows vars (before ++ l) r) (sym same) h.known;
    }

-- ---- a text: some lines have been taken, and from line n on they are left
pub record IsMidway (vars : ℕ) (text : List ℕ) (n : ℕ) (left : List (List ℕ)) (reading : Reading) : Type 0 where
  pub taken : List Item
  pub split : items_of text ≡ taken ++ flat_map line_items left
  pub fault : first_fault vars [] 1 (lines_of text) ≡ first_fault vars taken n left
  pub known : Knows vars taken reading

pub midway_none : (vars : ℕ) (text : List ℕ) (r : Reading) → Knows vars [] r → IsMidway vars text 1 (lines_of text) r
unfolding items_of
midway_none vars text r k = record { taken = []; split = refl; fault = refl; known = k }

pub midway_more : (vars : ℕ) (text : List ℕ) (n : ℕ) (left : List (List ℕ)) (line : List ℕ) (others : List (List ℕ)) (old new : Reading) → left ≡ line ∷ others → (h : IsMidway vars text n left old) → Takes vars h.taken n (line_items line) (Ok tt) new → IsMidway vars text (n + 1) others new
midway_more vars text n left line others old new e h t = record {
  taken = h.taken ++ line_items line;
  split = h.split ∙ ap (λ ls. h.taken ++ flat_map line_items ls) e ∙ sym (append_assoc h.taken (line_items line) (flat_map line_items others));
  fault = h.fault ∙ ap (first_fault vars h.taken n) e ∙ ap (λ o. option_or o (first_fault vars (h.taken ++ line_items line) (n + 1) others)) (sym t.fault);
  known = t.known;
}

pub midway_fault : (vars : ℕ) (text : List ℕ) (n : ℕ) (left : List (List ℕ)) (line : List ℕ) (others : List (List ℕ)) (old new : Reading) (f : AnswerFault) → left ≡ line ∷ others → (h : IsMidway vars text n left old) → Takes vars h.taken n (line_items line) (Err f) new → first_fault vars [] 1 (lines_of text) ≡ Some f
midway_fault vars text n left line others old new f e h t =
    h.fault ∙ ap (first_fault vars h.taken n) e ∙ ap (λ o. option_or o (first_fault vars (h.taken ++ line_items line) (n + 1) others)) (sym t.fault)

-- no line is left
pub midway_all : (vars : ℕ) (text : List ℕ) (n : ℕ) (left : List (List ℕ)) (r : Reading) → left ≡ [] → IsMidway vars text n left r → (first_fault vars [] 1 (lines_of text) ≡ None) × Knows vars (items_of text) r
midway_all vars text n left r e h =
    let same : items_of text ≡ h.taken = h.split ∙ ap (λ ls. h.taken ++ flat_map line_items ls) e ∙ append-nil h.taken in
    (h.fault ∙ ap (first_fault vars h.taken n) e, subst (λ l. Knows vars l r) (sym same) h.known)

-- ---- there are no more lines than bytes
parts_bound : (parts : List (List ℕ)) → length (lines_of_parts parts) ≤ length parts
parts_bound [] = omega arith
parts_bound (x ∷ []) = one (nat_eq (length x) 0)
  where
    one : (b : Bool) → length (cond b [] (x ∷ [])) ≤ 1
    one true = omega arith
    one false = omega arith
parts_bound (x ∷ y ∷ more) = omega (arith, parts_bound (y ∷ more))

pub lines_bound : (text : List ℕ) → length (lines_of text) ≤ length text + 1
unfolding lines_of
lines_bound text =
    let parts = slice_split (λ b. nat_eq b 10) text in
    omega (arith, parts_bound parts, length-slice_split (λ b. nat_eq b 10) text, count_by-le-length (λ b. nat_eq b 10) text)

-- ---- a whole text
is_fault : (f : AnswerFault) (found : Option AnswerFault) → found ≡ Some f → IsFault f found
is_fault Memory found e = tt
is_fault _ found e = e

-- the fault of a text that is not too long, where its lines have none
pub late_fault : (vars : ℕ) (text : List ℕ) → length text ≤ 2 ^ 26 → first_fault vars [] 1 (lines_of text) ≡ None → answer_fault vars text ≡ end_fault vars (is_closed (items_of text)) (status (items_of text))
unfolding answer_fault
late_fault vars text small none = rw (le-ltb (2 ^ 26) (length text) small, none) refl

pub too_long : (vars : ℕ) (text : List ℕ) → 2 ^ 26 < length text → answer_fault vars text ≡ Some TooLong
unfolding answer_fault
too_long vars text large = rw (lt-ltb (2 ^ 26) (length text) large) refl

pub line_refused : (vars : ℕ) (text : List ℕ) (f : AnswerFault) → length text ≤ 2 ^ 26 → first_fault vars [] 1 (lines_of text) ≡ Some f → IsFault f (answer_fault vars text)
unfolding answer_fault
line_refused vars text f small e = is_fault f (answer_fault vars text) (rw (le-ltb (2 ^ 26) (length text) small, e) refl)

-- what a reading answers at the end
abbrev pub Ends : ℕ → List ℕ → Result SolverAnswer AnswerFault → Type 0
Ends vars text r =
    let last = end_fault vars (is_closed (items_of text)) (status (items_of text)) in
    MatchResult r (λ a. (last ≡ None) × StandsFor vars (items_of text) a) (λ f. last ≡ Some f)

pub ends_answer : (vars : ℕ) (text : List ℕ) (r : Result SolverAnswer AnswerFault) → Ends vars text r → IfOk r (IsAnswer vars text)
ends_answer vars text (Ok a) h = h.1
ends_answer vars text (Err f) h = tt

pub ends_accepted : (vars : ℕ) (text : List ℕ) (r : Result SolverAnswer AnswerFault) → length text ≤ 2 ^ 26 → first_fault vars [] 1 (lines_of text) ≡ None → Ends vars text r → OnOk r (answer_fault vars text ≡ None)
ends_accepted vars text (Ok a) small none h = late_fault vars text small none ∙ h.0
ends_accepted vars text (Err f) small none h = tt

pub ends_refused : (vars : ℕ) (text : List ℕ) (r : Result SolverAnswer AnswerFault) → length text ≤ 2 ^ 26 → first_fault vars [] 1 (lines_of text) ≡ None → Ends vars text r → IfErr r (λ f. IsFault f (answer_fault vars text))
ends_refused vars text (Ok a) small none h = tt
ends_refused vars text (Err f) small none h = is_fault f (answer_fault vars text) (late_fault vars text small none ∙ h)
