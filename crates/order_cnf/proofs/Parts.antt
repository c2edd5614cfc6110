-- Units, bipaths and sides, one at a time.
use Rattle.order_cnf.proofs.Prelude.{◌≡◌, refl, sym, ap, ◌∙◌, ℕ, zero, suc, ◌+◌, ◌-◌, ◌<◌, Bool, true, false, cond, Option, None, Some, List, [], ◌∷◌, ◌++◌, length, take, drop, arith, map, is_some, MatchOption, false≢true, map-append}
use Rattle.order_cnf.proofs.Prelude.{append_assoc, nil_from_length, Literal, Edge, Choice, Known, edge_literal, side_clauses, Clause, literals, Relation, known_in, pairs_in, given, bipaths_of, units_of, sides_after, sides_left, turned}
use Rattle.order_cnf.proofs.Prelude.{rank_of, rest_of, of_three, up_to, last_variable, IsStep, clauses_in}
use Rattle.std.specs.Iterator.{MakesProgress, at_most}

pub bipath_is : (r : Relation) (c : Choice) (a b : Literal) → a ∷ [] ≡ map (λ (e : Edge). edge_literal (pairs_in r) e.0 e.1) c.one → b ∷ [] ≡ map (λ (e : Edge). edge_literal (pairs_in r) e.0 e.1) c.two
    → (a ∷ b ∷ []) ∷ [] ≡ bipaths_of r (c ∷ [])
unfolding bipaths_of
bipath_is r c a b one two =
    ap (λ l. l ∷ [])
    (ap (λ l. (a ∷ []) ++ l) two ∙ ap (λ l. l ++ map (λ (e : Edge). edge_literal (pairs_in r) e.0 e.1) c.two) one
    ∙ sym (map-append (λ (e : Edge). edge_literal (pairs_in r) e.0 e.1) c.one c.two))

-- ---- sides
one_edge : (b : Bool) (c : List Literal) (rest : List (List Literal)) → cond b [] (c ∷ []) ++ rest ≡ (cond b [] (c ∷ []) ++ []) ++ rest
one_edge true c rest = refl
one_edge false c rest = refl

pub first_edge : (known : Known) (pairs : List (ℕ × ℕ)) (l : Literal) (e : Edge) (edges : List Edge) → side_clauses known pairs l (e ∷ edges) ≡ side_clauses known pairs l (e ∷ []) ++ side_clauses known pairs l edges
first_edge known pairs l e edges = one_edge (known e.0 e.1) (l ∷ edge_literal pairs e.0 e.1 ∷ []) (side_clauses known pairs l edges)

take_none : (n : ℕ) → take {A = Edge} n [] ≡ []
take_none zero = refl
take_none (suc n) = refl

drop_none : (n : ℕ) → drop {A = Edge} n [] ≡ []
drop_none zero = refl
drop_none (suc n) = refl

pub nothing_after : (r : Relation) (l : Literal) (counts : List ℕ) → sides_after r l [] counts ≡ []
unfolding sides_after
nothing_after r l [] = refl
nothing_after r l (n ∷ counts) =
    ap (λ es. side_clauses (known_in r) (pairs_in r) (turned l) es ++ sides_after r (turned l) (drop n []) counts) (take_none n)
    ∙ ap (λ es. sides_after r (turned l) es counts) (drop_none n) ∙ nothing_after r (turned l) counts

-- ---- a step over what is left of sides
pub nothing_left : (r : Relation) (l : Literal) (n : ℕ) (edges : List Edge) (counts : List ℕ) → edges ≡ [] → sides_left r l n edges counts ≡ []
nothing_left r l n edges counts e =
    ap (λ es. sides_left r l n es counts) e
    ∙ ap (λ es. side_clauses (known_in r) (pairs_in r) l es ++ sides_after r l (drop n []) counts) (take_none n)
    ∙ ap (λ es. sides_after r l es counts) (drop_none n) ∙ nothing_after r l counts

less : (n : ℕ) → suc n - 1 ≡ n
less n = omega arith

pub edge_step : (r : Relation) (l : Literal) (n : ℕ) (e : Edge) (edges rest : List Edge) (counts : List ℕ) → 0 < n → edges ≡ e ∷ rest
    → sides_left r l n edges counts ≡ side_clauses (known_in r) (pairs_in r) l (e ∷ []) ++ sides_left r l (n - 1) rest counts
edge_step r l zero e edges rest counts h same = absurd (omega arith)
edge_step r l (suc n) e edges rest counts h same =
    ap (λ es. sides_left r l (suc n) es counts) same
    ∙ ap (λ cs. cs ++ sides_after r l (drop n rest) counts) (first_edge (known_in r) (pairs_in r) l e (take n rest))
    ∙ append_assoc (side_clauses (known_in r) (pairs_in r) l (e ∷ [])) (side_clauses (known_in r) (pairs_in r) l (take n rest)) (sides_after r l (drop n rest) counts)
    ∙ ap (λ k. side_clauses (known_in r) (pairs_in r) l (e ∷ []) ++ sides_left r l k rest counts) (sym (less n))

pub side_step : (r : Relation) (l : Literal) (n m : ℕ) (edges : List Edge) (counts rest : List ℕ) → n ≡ 0 → counts ≡ m ∷ rest
    → sides_left r l n edges counts ≡ sides_left r (turned l) m edges rest
unfolding sides_after
side_step r l n m edges counts rest z same =
    ap (λ k. sides_left r l k edges counts) z ∙ ap (λ cs. sides_left r l 0 edges cs) same

pub no_sides : (r : Relation) (l : Literal) (n : ℕ) (edges : List Edge) (counts : List ℕ) → n ≡ 0 → counts ≡ [] → sides_left r l n edges counts ≡ []
unfolding sides_after
no_sides r l n edges counts z same = ap (λ k. sides_left r l k edges counts) z ∙ ap (λ cs. sides_left r l 0 edges cs) same

-- ---- steps of what is left
pub no_step : (old new : List (List Literal)) (item : Option Clause) → item ≡ None → old ≡ new → new ≡ [] → IsStep old item new
no_step old new item none same nothing = record {
  parts = same ∙ sym (ap (λ o. given o ++ new) none);
  last = λ e. nothing;
}

pub some_step : (old new : List (List Literal)) (item : Option Clause) → is_some item ≡ true → old ≡ given item ++ new → IsStep old item new
some_step old new item some same = record {
  parts = same;
  last = λ e. absurd (false≢true (sym (ap (λ o. is_some o) e) ∙ some));
}

pub kept_step : (a : List (List Literal)) (item : Option Clause) (b : List (List Literal)) → is_some item ≡ false → given item ≡ a → a ++ b ≡ b
kept_step a None b none same = ap (λ l. l ++ b) (sym same)
kept_step a (Some c) b none same = absurd (false≢true (sym none))

rank_by : (l : Literal) (b : Bool) → l.positive ≡ b → rank_of (turned l) ≡ rank_of l + 1
rank_by l true e = rw e (omega arith)
rank_by l false e = rw e (omega arith)

pub turned_rank : (l : Literal) → rank_of (turned l) ≡ rank_of l + 1
turned_rank l = rank_by l l.positive refl

-- ---- a step of the whole
pub unit_step : (r : Relation) (l : Literal) (units rest : List Literal) (bipaths : List Choice) (triples sides : List (List Literal)) → units ≡ l ∷ rest
    → rest_of r units bipaths triples sides ≡ (l ∷ []) ∷ rest_of r rest bipaths triples sides
unfolding rest_of units_of
unit_step r l units rest bipaths triples sides same = ap (λ us. rest_of r us bipaths triples sides) same

pub bipath_step : (r : Relation) (c : List Literal) (units : List Literal) (b : Choice) (bipaths rest : List Choice) (triples sides : List (List Literal)) → length units ≡ 0 → bipaths ≡ b ∷ rest → c ∷ [] ≡ bipaths_of r (b ∷ [])
    → rest_of r units bipaths triples sides ≡ c ∷ rest_of r units rest triples sides
unfolding rest_of units_of bipaths_of
bipath_step r c units b bipaths rest triples sides none same made =
    ap (λ us. rest_of r us bipaths triples sides) (nil_from_length units none)
    ∙ ap (λ bs. rest_of r [] bs triples sides) same
    ∙ ap (λ cs. cs ++ (bipaths_of r rest ++ (triples ++ sides))) (sym made)
    ∙ sym (ap (λ us. c ∷ rest_of r us rest triples sides) (nil_from_length units none))

pub triple_step : (r : Relation) (c : List Literal) (units : List Literal) (bipaths : List Choice) (triples next sides : List (List Literal)) → length units ≡ 0 → length bipaths ≡ 0 → triples ≡ c ∷ next
    → rest_of r units bipaths triples sides ≡ c ∷ rest_of r units bipaths next sides
unfolding rest_of units_of bipaths_of
triple_step r c units bipaths triples next sides none no_more same =
    ap (λ us. rest_of r us bipaths triples sides) (nil_from_length units none)
    ∙ ap (λ bs. rest_of r [] bs triples sides) (nil_from_length bipaths no_more)
    ∙ ap (λ ts. ts ++ sides) same
    ∙ sym (ap (λ us. c ∷ rest_of r us bipaths next sides) (nil_from_length units none) ∙ ap (λ bs. c ∷ rest_of r [] bs next sides) (nil_from_length bipaths no_more))

pub all_sides : (r : Relation) (units : List Literal) (bipaths : List Choice) (triples sides : List (List Literal)) → length units ≡ 0 → length bipaths ≡ 0 → triples ≡ []
    → rest_of r units bipaths triples sides ≡ sides
unfolding rest_of units_of bipaths_of
all_sides r units bipaths triples sides none no_more same =
    ap (λ us. rest_of r us bipaths triples sides) (nil_from_length units none)
    ∙ ap (λ bs. rest_of r [] bs triples sides) (nil_from_length bipaths no_more)
    ∙ ap (λ ts. ts ++ sides) same

pub last_step : (item : Option Clause) (whole left old new : List (List Literal)) → whole ≡ old → left ≡ new → IsStep old item new → MatchOption item ((whole ≡ []) × (left ≡ [])) (λ x. whole ≡ literals x ∷ left)
last_step None whole left old new same next step = (same ∙ step.parts ∙ step.last refl, next ∙ step.last refl)
last_step (Some c) whole left old new same next step = same ∙ step.parts ∙ ap (λ l. literals c ∷ l) (sym next)

pub all_parts : (r : Relation) (start : ℕ) (units : List Literal) (bipaths : List Choice) (edges : List Edge) (counts : List ℕ) (us : List Literal) (bs : List Choice) (es : List Edge) (cs : List ℕ) (triples sides : List (List Literal))
    → us ≡ units → bs ≡ bipaths → es ≡ edges → cs ≡ counts → triples ≡ of_three r (up_to start (r.nodes + 1)) → sides ≡ sides_after r (last_variable r) es cs
    → rest_of r us bs triples sides ≡ clauses_in r start units bipaths edges counts
unfolding rest_of clauses_in
all_parts r start units bipaths edges counts us bs es cs triples sides eu eb ee ec et ed =
    ap (λ x. units_of x ++ (bipaths_of r bs ++ (triples ++ sides))) eu
    ∙ ap (λ x. units_of units ++ (bipaths_of r x ++ (triples ++ sides))) eb
    ∙ ap (λ x. units_of units ++ (bipaths_of r bipaths ++ (x ++ sides))) et
    ∙ ap (λ x. units_of units ++ (bipaths_of r bipaths ++ (of_three r (up_to start (r.nodes + 1)) ++ x))) (ed ∙ ap (λ x. sides_after r (last_variable r) x cs) ee ∙ ap (λ x. sides_after r (last_variable r) edges x) ec)

pub some_progress : (x : Clause) (old new : List (List Literal)) → old ≡ literals x ∷ new → MakesProgress {S = List (List Literal)} {A = Clause} (λ s. Unit {0}) (λ s. at_most (length s)) old (Some x) new
some_progress x old new e = record {
  on = λ h. (tt, tt, omega (arith, ap length e));
  keeps = tt;
  rests = λ h. tt;
}

pub progress : (item : Option Clause) (old new : List (List Literal)) → MatchOption item ((old ≡ []) × (new ≡ [])) (λ x. old ≡ literals x ∷ new) → MakesProgress {S = List (List Literal)} {A = Clause} (λ s. Unit {0}) (λ s. at_most (length s)) old item new
progress None old new e = record { on = λ h. tt; keeps = tt; rests = λ h. tt }
progress (Some x) old new e = some_progress x old new e
