-- Unit propagation: what follows where all literals of a clause are false, or all but one.
use Rattle.refutation.proofs.Prelude.{◌≡◌, ℕ, ◌+◌, ◌<◌, ◌≤◌, zero, suc, Bool, true, false, not, ◌||◌, if◌then◌else◌, List, [], ◌∷◌, ◌++◌, length, take, drop, slice_set, slice_get, get_or, Option, Some, None, is_some, unwrap_or, map}
use Rattle.refutation.proofs.Prelude.{Contains, refl, ap, subst, sym, ◌∙◌, inl, inr, arith, length-append, length-set, add-one, AllByRecursion, drop-cons, take-suc, take-append-drop, length-replicate, each_from_map, each_of_append}
use Rattle.refutation.proofs.Prelude.{value_of, literal_true, clause_true, Literal, met, SatisfiesAll, Follows, Entails, IsRefuted, Agrees, Assumes, value_is, known_false, left_of, with_true, with_false, all_open, option_map, looked}
use Rattle.refutation.proofs.Prelude.{hinted, clause_at, Standing, standing, IsSound}
use Rattle.std.proofs.Common.{option_to_list}
use Rattle.std.proofs.lemmas.List.Elements.{filter_more, filter-append}
use Rattle.std.proofs.lemmas.Option.{slice_get-get_or, slice_get_within, get_or_from_slice_get, unwrap_or-slice_get}
use Rattle.std.proofs.Math.Bool.{or-false}
use Rattle.std.proofs.lemmas.Bool.{or_parts}
use Rattle.refutation.specs.Shown.{Closes, Forces}
use Rattle.refutation.proofs.Places.{written_cases}

-- the opposite of a literal
abbrev pub negated : Literal → Literal
negated l = record { variable = l.variable; positive = not l.positive }

true_then : (p v : Bool) → literal_true (v ∷ []) (record { variable = 1; positive = p }) ≡ true → v ≡ p
true_then true v h = grind arith
true_then false v h = grind arith

false_when : (p v : Bool) → v ≡ not p → literal_true (v ∷ []) (record { variable = 1; positive = p }) ≡ false
false_when p v h = grind arith

-- a literal that is known to be false is
pub false_literal : (known : List (Option Bool)) (values : List Bool) (l : Literal) → Agrees known values → known_false known l ≡ true → literal_true values l ≡ false
false_literal known values l a h = by_value (slice_get known l.variable) refl h
  where
    same_value : (v b : Bool) → value_is (Some (Some v)) b ≡ true → v ≡ b
    same_value v b h = grind arith

    by_value : (o : Option (Option Bool)) → slice_get known l.variable ≡ o → value_is o (not l.positive) ≡ true → literal_true values l ≡ false
    by_value None e h = cc
    by_value (Some None) e h = cc
    by_value (Some (Some v)) e h = false_when l.positive (value_of values l.variable) (a.each l.variable v e ∙ same_value v (not l.positive) h)

-- under what is known a clause is worth what is left of it
pub left_worth : (known : List (Option Bool)) (values : List Bool) (c : List Literal) → Agrees known values → clause_true values c ≡ clause_true values (left_of known c)
left_worth known values [] a = refl
left_worth known values (l ∷ c) a = with_test (left_of known c) (left_worth known values c a) (known_false known l) (false_literal known values l a)
  where
    or_same : (a v w : Bool) → a ≡ false → v ≡ w → (a || v) ≡ w
    or_same true v w e f = cc
    or_same false v w e f = f

    with_test : (left : List Literal) → clause_true values c ≡ clause_true values left → (b : Bool) → (b ≡ true → literal_true values l ≡ false) → (literal_true values l || clause_true values c) ≡ clause_true values (if not b then l ∷ left else left)
    with_test left e true f = or_same (literal_true values l) (clause_true values c) (clause_true values left) (f refl) e
    with_test left e false f = ap (λ v. literal_true values l || v) e

pub left_nothing : (known : List (Option Bool)) (values : List Bool) (c : List Literal) → left_of known c ≡ [] → Agrees known values → clause_true values c ≡ false
left_nothing known values c e a = left_worth known values c a ∙ ap (clause_true values) e

pub left_literal : (known : List (Option Bool)) (values : List Bool) (c : List Literal) (l : Literal) → left_of known c ≡ l ∷ [] → Agrees known values → clause_true values c ≡ literal_true values l
left_literal known values c l e a = left_worth known values c a ∙ (ap (clause_true values) e ∙ or-false (literal_true values l))

negated_true : (p v : Bool) → literal_true (v ∷ []) (record { variable = 1; positive = p }) ≡ false → literal_true (v ∷ []) (record { variable = 1; positive = not p }) ≡ true
negated_true p v h = grind arith

pub negated_literal : (values : List Bool) (l : Literal) → literal_true values l ≡ false → literal_true values (negated l) ≡ true
negated_literal values l h = negated_true l.positive (value_of values l.variable) h

-- an assignment that agrees and makes a literal true agrees when it is set
pub agrees_set : (known : List (Option Bool)) (values : List Bool) (l : Literal) → literal_true values l ≡ true → Agrees known values → Agrees (slice_set known l.variable (Some l.positive)) values
agrees_set known values l t a = record {
  each = λ v b h.
      elim (written_cases known l.variable (Some l.positive) v (Some b) h) [
        | inl p ↦ let value = true_then l.positive (value_of values l.variable) t in
            let same : b ≡ l.positive = cc in
            subst (λ (w : ℕ). value_of values w ≡ b) (sym p.0) (value ∙ sym same)
        | inr p ↦ a.each v b p.1
      ];
}

-- each of satisfied clauses is true
pub satisfied_at : (values : List Bool) (cs : List (Option (List Literal))) (k : ℕ) (c : List Literal) → SatisfiesAll values cs → clause_at cs k ≡ Some c → clause_true values c ≡ true
satisfied_at values [] k c s h = cc
satisfied_at values (d ∷ cs) zero c s h = let same : d ≡ Some c = h in subst (λ (e : Option (List Literal)). met values e ≡ true) same s.0
satisfied_at values (d ∷ cs) (suc k) c s h = satisfied_at values cs k c s.1 h

-- clauses that are given one after the other
pub satisfied_given : (values : List Bool) (cs : List (List Literal)) → AllByRecursion (λ c. clause_true values c ≡ true) cs → SatisfiesAll values (map Some cs)
satisfied_given values cs s = each_from_map (λ c. met values c ≡ true) Some cs s

-- clauses entail themselves, with one that follows too, and without one; and what they entail entails
pub entails_same : (old new : List (Option (List Literal))) → new ≡ old → Entails old new
entails_same old new e = record { each = λ values all. subst (SatisfiesAll values) (sym e) all }

pub entails_then : (a b c : List (Option (List Literal))) → Entails a b → Entails b c → Entails a c
entails_then a b c ab bc = record { each = λ values all. bc.each values (ab.each values all) }

pub refuted_before : (old new : List (Option (List Literal))) → Entails old new → IsRefuted new → IsRefuted old
refuted_before old new e r = record { none = λ values all. r.none values (e.each values all) }

-- each literal of a false clause is false
pub false_at : (values : List Bool) (c : List Literal) (k : ℕ) (l : Literal) → clause_true values c ≡ false → slice_get c k ≡ Some l → literal_true values l ≡ false
false_at values [] k l f h = cc
false_at values (m ∷ c) zero l f h = let same : m ≡ l = cc in subst (λ (n : Literal). literal_true values n ≡ false) same (or_parts (literal_true values m) (clause_true values c) f).0
false_at values (m ∷ c) (suc k) l f h = false_at values c k l (or_parts (literal_true values m) (clause_true values c) f).1 h

-- The law of the checker: where a clause that stands is false under what is known, the step's clause follows.
pub step_follows : (cs : List (Option (List Literal))) (step : List Literal) (known : List (Option Bool)) (k : ℕ) (c : List Literal) → IsSound cs step known → clause_at cs k ≡ Some c → left_of known c ≡ [] → Follows cs step
step_follows cs step known k c s h l = record { each = λ values all. by_cases values all (clause_true values step) refl }
  where
    by_cases : (values : List Bool) → SatisfiesAll values cs → (b : Bool) → clause_true values step ≡ b → clause_true values step ≡ true
    by_cases values all true e = e
    by_cases values all false e =
        let wrong : clause_true values c ≡ false = left_nothing known values c l (s.assumed values all e) in
        let right : clause_true values c ≡ true = satisfied_at values cs k c all h in cc

-- The other law: where all literals but one are false, that one is true.
pub sound_forced : (cs : List (Option (List Literal))) (step : List Literal) (known : List (Option Bool)) (k : ℕ) (c : List Literal) (l : Literal) → IsSound cs step known → clause_at cs k ≡ Some c → left_of known c ≡ l ∷ [] → IsSound cs step (slice_set known l.variable (Some l.positive))
sound_forced cs step known k c l s h left = record {
  assumed = λ values all f. let agrees = s.assumed values all f in
      agrees_set known values l (sym (left_literal known values c l left agrees) ∙ satisfied_at values cs k c all h) agrees;
}

-- what is known is so with a clause more, and where nothing is known it does not matter which clauses stand
pub sound_more : (cs : List (Option (List Literal))) (c step : List Literal) (known : List (Option Bool)) → IsSound cs step known → IsSound (cs ++ Some c ∷ []) step known
sound_more cs c step known s = record { assumed = λ values all. s.assumed values (each_of_append (λ d. met values d ≡ true) cs (Some c ∷ []) all).0 }

-- where the empty clause stands, nothing satisfies all clauses
pub refuted_at : (cs : List (Option (List Literal))) (k : ℕ) → clause_at cs k ≡ Some [] → IsRefuted cs
refuted_at cs k h = record { none = λ values all. let t = satisfied_at values cs k [] all h in cc }

-- what is left of a clause's front
pub left_more : (known : List (Option Bool)) (c : List Literal) (i : ℕ) (d : Literal) (before : List Literal) → i < length c → left_of known (take i c) ≡ before → known_false known (get_or c i d) ≡ false → left_of known (take (i + 1) c) ≡ before ++ get_or c i d ∷ []
left_more known c i d before within e f =
    filter_more (λ l. not (known_false known l)) c i d within ∙ (ap (λ xs. xs ++ (if not (known_false known (get_or c i d)) then get_or c i d ∷ [] else [])) e ∙ ap (λ b. before ++ (if not b then get_or c i d ∷ [] else [])) f)

-- where two are left of a clause's front, two are left of the clause
pub left_two : (known : List (Option Bool)) (c : List Literal) (i : ℕ) (d : Literal) (one : Option Literal) → i < length c → left_of known (take i c) ≡ option_to_list one → is_some one ≡ true → known_false known (get_or c i d) ≡ false → 2 ≤ length (left_of known c)
left_two known c i d None within e s f = cc
left_two known c i d (Some m) within e s f =
    let test : Literal → Bool = λ l. not (known_false known l) in
    let front : length (left_of known (take (i + 1) c)) ≡ 2 = ap length (left_more known c i d (m ∷ []) within e f) in
    let split : left_of known c ≡ left_of known (take (i + 1) c) ++ left_of known (drop (i + 1) c) =
    ap (left_of known) (sym (take-append-drop (i + 1) c)) ∙ filter-append test (take (i + 1) c) (drop (i + 1) c) in
    omega (arith, front, ap length split, length-append (left_of known (take (i + 1) c)) (left_of known (drop (i + 1) c)))

-- where the rest of a clause is made false, after one more of its literals
pub false_more : (c : List Literal) (old known new : List (Option Bool)) (i : ℕ) (d : Literal) → i < length c → with_false (drop i c) known ≡ with_false c old → new ≡ slice_set known (get_or c i d).variable (Some (not (get_or c i d).positive)) → with_false (drop (i + 1) c) new ≡ with_false c old
false_more c old known new i d within e n =
    let next : drop i c ≡ get_or c i d ∷ drop (i + 1) c = rw add-one (drop-cons c i d within) in
    ap (with_false (drop (i + 1) c)) n ∙ (sym (ap (λ xs. with_false xs known) next) ∙ e)

-- one more literal of the step's clause is assumed false
pub assumed_more : (c : List Literal) (old known new : List (Option Bool)) (i : ℕ) (d : Literal) → i < length c → Assumes c old known → new ≡ slice_set known (get_or c i d).variable (Some (not (get_or c i d).positive)) → Assumes c old new
assumed_more c old known new i d within a e = record {
  each = λ values f agrees.
      let literal = get_or c i d in
      let opposite = negated_literal values literal (false_at values c i literal f (slice_get-get_or c i d within)) in
      subst (λ (k : List (Option Bool)). Agrees k values) (sym e) (agrees_set known values (negated literal) opposite (a.each values f agrees));
}

pub closes : (cs new : List (Option (List Literal))) (step : List Literal) (known : List (Option Bool)) (k : ℕ) (c : List Literal) (now : Standing) → standing cs step known ≡ now → new ≡ cs ++ Some step ∷ [] → IsSound cs step known → clause_at cs k ≡ Some c → left_of known c ≡ [] → Closes now (standing new step known) k
closes cs new step known k c now v e s h l =
    subst (λ (old : Standing). Closes old (standing new step known) k) v (record {
      clause = c;
      shown = h;
      left = l;
      follows = step_follows cs step known k c s h l;
      stands = ap (λ ds. standing ds step known) e;
    })

pub forces : (cs : List (Option (List Literal))) (step : List Literal) (known new : List (Option Bool)) (k : ℕ) (c : List Literal) (l : Literal) (now : Standing) → standing cs step known ≡ now → new ≡ with_true known l → clause_at cs k ≡ Some c → left_of known c ≡ l ∷ [] → Forces now (standing cs step new) k l
forces cs step known new k c l now v e h left =
    subst (λ (old : Standing). Forces old (standing cs step new) k l) v (record {
      clause = c;
      shown = h;
      left = left;
      known = ap (standing cs step) e;
    })

-- where the empty clause is among clauses, and where it is not
pub has_empty : (cs : List (Option (List Literal))) (k : ℕ) → clause_at cs k ≡ Some [] → Contains cs (Some [])
has_empty cs k h = by_slot (slice_get cs k) refl h
  where
    by_slot : (o : Option (Option (List Literal))) → slice_get cs k ≡ o → unwrap_or o None ≡ Some [] → Contains cs (Some [])
    by_slot None e h = cc
    by_slot (Some s) e h = let stands : slice_get cs k ≡ Some (Some []) = e ∙ ap Some h in
        (k, slice_get_within cs k (Some []) stands, get_or_from_slice_get cs k (Some []) (Some []) stands)

pub has_no_empty : (cs : List (Option (List Literal))) (n : ℕ) → ((k : ℕ) → k < n → clause_at cs k ≡ Some [] → ⊥) → length cs ≤ n → Contains cs (Some []) → ⊥
has_no_empty cs n none le p = none p.0 (omega (arith, p.1)) (ap (λ o. unwrap_or o None) (slice_get-get_or cs p.0 (Some []) p.1 ∙ ap Some p.2))

-- a clause more of a list of clauses
pub take_clause : (cs : List (Option (List Literal))) (k : ℕ) (o : Option (List Literal)) → k < length cs → clause_at cs k ≡ o → take (k + 1) cs ≡ take k cs ++ o ∷ []
take_clause cs k o within e =
    rw add-one (take-suc cs k None within) ∙ ap (λ p. take k cs ++ p ∷ []) (sym (unwrap_or-slice_get cs k None) ∙ e)

-- hints whose first one shows nothing close no step
pub hinted_nothing : (h : ℕ) (hints : List ℕ) (cs : List (Option (List Literal))) (known : List (Option Bool)) → ((c : List Literal) → clause_at cs h ≡ Some c → 2 ≤ length (left_of known c)) → hinted (h ∷ hints) cs known ≡ false
hinted_nothing h hints cs known two = by_clause (clause_at cs h) two
  where
    by_left : (left : List Literal) → 2 ≤ length left → looked (Some left) (λ l. hinted hints cs (with_true known l)) ≡ false
    by_left [] le = absurd (omega arith)
    by_left (l ∷ []) le = absurd (omega arith)
    by_left (l ∷ m ∷ c) le = refl

    by_clause : (o : Option (List Literal)) → ((c : List Literal) → o ≡ Some c → 2 ≤ length (left_of known c)) → looked (option_map (left_of known) o) (λ l. hinted hints cs (with_true known l)) ≡ false
    by_clause None t = refl
    by_clause (Some c) t = by_left (left_of known c) (t c refl)

-- as many variables are known of, whichever are made false
pub length_false : (c : List Literal) (known : List (Option Bool)) → length (with_false c known) ≡ length known
length_false [] known = refl
length_false (l ∷ c) known = length_false c (slice_set known l.variable (Some (not l.positive))) ∙ length-set known l.variable (Some (not l.positive))

pub length_assumed : (c : List Literal) (n : ℕ) (known : List (Option Bool)) → known ≡ with_false c (all_open n) → length known ≡ n
length_assumed c n known e = ap length e ∙ length_false c (all_open n) ∙ length-replicate n None

-- what a look at a clause shows
pub ruleset show_steps = (sound_more, sound_forced, closes, forces)
