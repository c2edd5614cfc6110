-- How lines and steps are told.
use Rattle.tell_steps.proofs.Prelude.{◌≡◌, ℕ, suc, ◌+◌, ◌-◌, ◌<◌, true, List, [], ◌∷◌, ◌++◌, length, get_or, take, drop, Option, Some, None, refl, sym, ap, ◌∙◌, subst, arith, Vec, IfNone, reverse, Global, drop_more, drop_all, length_push}
use Rattle.tell_steps.proofs.Prelude.{take_all, take_more, get_or_push, reverse-append, All-nil, All-cons, ClientSession, log_of, IsReason, HaveNone, goes_on, without_runs, ChainOrder, Why, Item, Round, IsOrder, IsWhy, IsLineTold, ends}
use Rattle.tell_steps.proofs.Prelude.{goes, HasEnds, IsBetween, Stands, LineStands, IsRound, IsClosed, IsRoundTold, round_view, RoundStands, AllStand, cycle_round}
use Rattle.std.specs.Option.{option_map}
use Rattle.reason_laws.specs.Reasons.{IsNode}
use Rattle.reason_laws.proofs.Numbers.{node_from}
use Rattle.reasons.specs.declared.reason.Reason.{Reason}
use Rattle.reasons.specs.declared.reason.Reason.TheVariants as reason
use Rattle.reasons.proofs.Sessions.{ends_of_session, runs_some, runs_each, runs_ends}
use Rattle.tell_steps.specs.declared.item.Item.TheVariants as item

-- where there is none, and the one thing follows, so does the other
pub none_then : {X : Type 0} (o : Option X) (P Q : Type 0) → (P → Q) → IfNone o P → IfNone o Q
none_then None P Q f h = f h
none_then (Some x) P Q f h = h

-- ---- lines with ends
pub ends_there : (line : List ℕ) → 1 < length line → HasEnds (get_or line 0 0) (get_or line (length line - 1) 0) line
ends_there [] long = absurd (omega (arith, long))
ends_there (x ∷ ys) long =
    let n = length ys - 1 in
    let e : n + 1 ≡ length ys = omega (arith, long) in
    let f : length (x ∷ ys) - 1 ≡ suc n = omega (arith, long) in
    record { inner = take n ys; shape = ap (λ l. x ∷ l) (sym (take_all (n + 1) ys (omega (arith, e))) ∙ take_more ys n 0 (omega (arith, e))) ∙ ap (λ i. x ∷ (take n ys ++ get_or (x ∷ ys) i 0 ∷ [])) (sym f) }

-- a line with ends has two nodes or more, of which they are the first and the last
pub ends_are : (a b : ℕ) (line : List ℕ) → HasEnds a b line → (1 < length line) × (get_or line 0 0 ≡ a) × (get_or line (length line - 1) 0 ≡ b)
ends_are a b line h =
    let n = length h.inner in
    let long : length line ≡ suc (n + 1) = ap length h.shape ∙ ap suc (length_push h.inner b) in
    let last : length line - 1 ≡ suc n = omega (arith, long) in
    (omega (arith, long), ap (λ l. get_or l 0 0) h.shape, (λ i. get_or (h.shape i) (last i) 0) ∙ get_or_push h.inner b 0 n refl)

-- ---- the edges of a line, from its end to its start
pub line_end : (ss : List ClientSession) (steps decided : List ChainOrder) (line : List ℕ) (p : ℕ) → p + 1 ≡ length line → IsLineTold ss steps decided (drop p line) []
line_end ss steps decided line p e =
    subst (λ l. IsLineTold ss steps decided l []) (ap (λ l. get_or line p 0 ∷ l) (sym (drop_all (p + 1) line (omega (arith, e)))) ∙ sym (drop_more line p 0 (omega (arith, e)))) (ends (get_or line p 0))

pub line_more : (ss : List ClientSession) (steps decided : List ChainOrder) (line : List ℕ) (q p : ℕ) (why : Why) (items new : List Item) → p ≡ q + 1 → p < length line → IsWhy ss steps decided (get_or line q 0) (get_or line p 0) why
    → new ≡ items ++ item.Edge (get_or line q 0) (get_or line p 0) why ∷ [] → IsLineTold ss steps decided (drop p line) (reverse items) → IsLineTold ss steps decided (drop q line) (reverse new)
line_more ss steps decided line q p why items new e lt w more told =
    let a = get_or line q 0 in
    let b = get_or line p 0 in
    let edge = item.Edge a b why in
    let Told : List ℕ → List Item → Type 0 = λ l is. IsLineTold ss steps decided l is in
    let there : drop p line ≡ b ∷ drop (p + 1) line = drop_more line p 0 lt in
    let here : drop q line ≡ a ∷ drop p line = drop_more line q 0 (omega (arith, e, lt)) ∙ ap (λ n. a ∷ drop n line) (sym e) in
    let one : Told (a ∷ b ∷ drop (p + 1) line) (edge ∷ reverse items) = goes a b (drop (p + 1) line) why (reverse items) w (subst (λ l. Told l (reverse items)) there told) in
    subst (Told (drop q line)) (sym (ap reverse more ∙ reverse-append items (edge ∷ []))) (subst (λ l. Told l (edge ∷ reverse items)) (ap (λ l. a ∷ l) (sym there) ∙ sym here) one)

-- a reason is one
pub reason_not_none : (ss : List ClientSession) (a b : ℕ) (r : Reason) → IsReason ss a b r → HaveNone ss a b → ⊥
reason_not_none ss a b reason.Session h none = none.session h
reason_not_none ss a b (reason.Read i j) h none = none.read i j h
reason_not_none ss a b (reason.Overwritten i j) h none = none.overwritten i j h
reason_not_none ss a b (reason.Initial i j) h none = none.initial i j h
reason_not_none ss a b reason.Moments h none = none.moments h

-- ---- without runs of sessions
stands_on : (ss : List ClientSession) (steps decided : List ChainOrder) (a b c : ℕ) → Stands ss steps decided a b → Stands ss steps decided b c → goes_on ss a b c ≡ true → Stands ss steps decided a c
stands_on ss steps decided a b c h g t =
    let node : (v : ℕ) → IsBetween ss v → IsNode ss v = λ v z. node_from ss v z.low z.high in
    record {
      first = h.first;
      second = g.second;
      has = λ none. absurd (none.session (ends_of_session ss a b c (node a h.first) (node b g.first) (node c g.second) t));
    }

pub runs_stand : (ss : List ClientSession) (steps decided : List ChainOrder) (line : List ℕ) → LineStands ss steps decided line → LineStands ss steps decided (without_runs ss line)
runs_stand ss steps decided line h = record { some = runs_some ss line h.some; each = runs_each ss (Stands ss steps decided) (stands_on ss steps decided) line h.each }

pub runs_lead : (ss : List ClientSession) (u : ℕ) (line : List ℕ) → HasEnds u u line → HasEnds u u (without_runs ss line)
runs_lead ss u line h = let r = runs_ends ss u u h.inner in record { inner = r.0; shape = ap (without_runs ss) h.shape ∙ r.1 }

pub runs_round : (ss : List ClientSession) (line : List ℕ) → IsRound line → IsRound (without_runs ss line)
runs_round ss line round = record { start = round.start; ends = runs_lead ss round.start line round.ends }

-- a cycle's item is put in, and behind it the edges
pub round_told : (ss : List ClientSession) (steps decided : List ChainOrder) (line : List ℕ) (told old mid tail items : List Item) (start end edges : ℕ) → HasEnds start end line → start ≡ end → edges ≡ length line - 1 → IsLineTold ss steps decided line told
    → old ≡ [] → mid ≡ old ++ item.Cycle start edges ∷ [] → tail ≡ told → items ≡ mid ++ tail → IsRoundTold ss steps decided line items
round_told ss steps decided line told old mid tail items start end edges h same many t empty put behind all =
    let h' : HasEnds start start line = subst (λ v. HasEnds start v line) (sym same) h in
    let edges_are : edges ≡ length h'.inner + 1 = (let e = ap length h'.shape in let f = length_push h'.inner start in omega (arith, e, f, many)) in
    let is : items ≡ item.Cycle start edges ∷ told = all ∙ (λ i. put i ++ behind i) ∙ ap (λ l. (l ++ item.Cycle start edges ∷ []) ++ told) empty in
    record { round = record { start = start; ends = h' }; edges = told; told = t; whole = is ∙ ap (λ n. item.Cycle start n ∷ told) edges_are }

-- ---- a cycle alone, told behind the steps
pub cycle_is : (r : Round) (line : Vec ℕ Global) (short : List ℕ) → r.before.items ≡ [] → r.decided.items ≡ [] → r.line ≡ Some line → line.items ≡ short → round_view r ≡ cycle_round short
cycle_is r line short before decided is same = (λ i. record { before = before i; decided = decided i; line = option_map (λ (l : Vec ℕ Global). l.items) (is i) }) ∙ ap cycle_round same

pub cycle_stands : (ss : List ClientSession) (steps : List ChainOrder) (cycle : List ℕ) (r : Round) → round_view r ≡ cycle_round (without_runs ss cycle) → IsClosed ss steps cycle → AllStand ss steps (r ∷ [])
cycle_stands ss steps cycle r is h =
    let stands : RoundStands ss steps (cycle_round (without_runs ss cycle)) = record { decided = All-nil (IsOrder (log_of ss)); round = runs_round ss cycle h.round; rests = runs_stand ss steps [] cycle h.rests } in
    All-cons (λ x. RoundStands ss steps (round_view x)) r [] (subst (RoundStands ss steps) (sym is) stands) (All-nil (λ x. RoundStands ss steps (round_view x)))
