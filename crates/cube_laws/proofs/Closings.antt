-- Each node is closed at most once, and each closing is counted.
use Rattle.cube_laws.proofs.Prelude.{◌≡◌, ℕ, ◌+◌, Bool, true, false, cond, List, [], ◌∷◌, ◌++◌, length, Option, None, Some, refl, sym, ap, ◌∙◌, subst, inl, inr, arith, length-append, slice_get, slice_set, nat_eq, IsDistinct, false≢true}
use Rattle.cube_laws.proofs.Prelude.{cases_eq, get_put, Has, Apart, Has-append_cases, Apart-append, IsDistinct-from_Apart, One, Two, Entry, IsLegal, replay, Node, State, is_open, is_held_by, node_held, child, next_of, reply_of, CubeState}
use Rattle.cube_laws.proofs.Prelude.{Open, Held, Split as Divided, Refuted, Solved as Ended, CubeEvent, CubeReply, Children, Closed, Released, is_closing, as_list, closings}
use Rattle.cube_laws.specs.declared.messages.CubeReply.TheVariants.{Cube as Given, Solved}
use Rattle.cube_laws.proofs.Nodes.{Marked, one_value, get_other, get_front}
use Rattle.cube_laws.proofs.Ways.{marked, noted, counted, divided, ways, held_node}

-- ---- marks
-- split, refuted or solved
abbrev pub is_shut : CubeState → Bool
is_shut Open = false
is_shut (Held seat) = false
is_shut (Divided c) = true
is_shut Refuted = true
is_shut Ended = true

pub open_not_shut : (m : CubeState) → is_open m ≡ true → is_shut m ≡ false
open_not_shut Open t = refl
open_not_shut (Held seat) t = refl
open_not_shut (Divided c) t = absurd (false≢true t)
open_not_shut Refuted t = absurd (false≢true t)
open_not_shut Ended t = absurd (false≢true t)

pub held_not_shut : (seat : ℕ) (m : CubeState) → is_held_by seat m ≡ true → is_shut m ≡ false
held_not_shut seat Open t = refl
held_not_shut seat (Held other) t = refl
held_not_shut seat (Divided c) t = absurd (false≢true t)
held_not_shut seat Refuted t = absurd (false≢true t)
held_not_shut seat Ended t = absurd (false≢true t)

-- ---- a closed node stays so
shut_set : (nodes : List Node) (k id : ℕ) (x : Node) (mark : CubeState) → Marked is_shut nodes k → slice_get nodes id ≡ Some x → is_shut x.mark ≡ false → Marked is_shut (slice_set nodes id (marked x mark)) k
shut_set nodes k id x mark m e f = elim (cases_eq k id) [
  | inl same ↦ (let here : m.node ≡ x = one_value (slice_get nodes id) m.node x (subst (λ j. slice_get nodes j ≡ Some m.node) same m.at) e in
      absurd (false≢true (sym f ∙ ap (λ (y : Node). is_shut y.mark) (sym here) ∙ m.passes)))
  | inr apart ↦ record { node = m.node; at = get_other nodes id k m.node (marked x mark) apart m.at; passes = m.passes }
]

shut_front : (nodes more : List Node) (k : ℕ) → Marked is_shut nodes k → Marked is_shut (nodes ++ more) k
shut_front nodes more k m = record { node = m.node; at = get_front nodes more k m.node m.at; passes = m.passes }

shut_here : (nodes : List Node) (id : ℕ) (x : Node) (mark : CubeState) → slice_get nodes id ≡ Some x → is_shut mark ≡ true → Marked is_shut (slice_set nodes id (marked x mark)) id
shut_here nodes id x mark e t = record { node = marked x mark; at = get_put nodes id x (marked x mark) e; passes = t }

shut_next : (k : ℕ) (s : State) (seat : ℕ) (event : CubeEvent) → Marked is_shut s.nodes k → Marked is_shut (next_of s seat event).nodes k
shut_next k s seat event m = ways (λ t r. Marked is_shut t.nodes k) s seat event (record {
  stays = λ r _. m;
  holds = λ id x e o _. shut_set s.nodes k id x (Held seat) m e (open_not_shut x.mark o);
  opens = λ id x e h. shut_set s.nodes k id x Open m e (held_not_shut seat x.mark h);
  splits = λ id c x e h _ going can. shut_front (slice_set s.nodes id (marked x (Divided c))) (child id x.cube c One ∷ child id x.cube c Two ∷ []) k (shut_set s.nodes k id x (Divided c) m e (held_not_shut seat x.mark h));
  refutes = λ id line x e h _ going _. shut_set s.nodes k id x Refuted m e (held_not_shut seat x.mark h);
  solves = λ id order x e h _ going _. shut_set s.nodes k id x Ended m e (held_not_shut seat x.mark h);
})

-- ---- what one step closes
abbrev closed_now : State → ℕ → CubeReply → List ℕ
closed_now s seat r = cond (is_closing r) (as_list (node_held s seat)) []

record Counts (s : State) (seat : ℕ) (t : State) (r : CubeReply) : Type 0 where
  pub count : t.closed ≡ s.closed + length (closed_now s seat r)
  pub shut : (k : ℕ) → Has k (closed_now s seat r) → Marked is_shut t.nodes k

counts_none : (s : State) (seat : ℕ) (t : State) (r : CubeReply) → t.closed ≡ s.closed → is_closing r ≡ false → Counts s seat t r
counts_none s seat t r e f =
    let none : closed_now s seat r ≡ [] = ap (λ b. cond b (as_list (node_held s seat)) []) f in
    record {
      count = (let l = ap length none in omega (arith, e, l));
      shut = λ k h. absurd (subst (Has k) none h);
    }

shut_one : (nodes : List Node) (id : ℕ) → Marked is_shut nodes id → (k : ℕ) → Has k (id ∷ []) → Marked is_shut nodes k
shut_one nodes id m k (inl e) = subst (Marked is_shut nodes) e m
shut_one nodes id m k (inr h) = absurd h

counts_one : (s : State) (seat : ℕ) (t : State) (r : CubeReply) (id : ℕ) → node_held s seat ≡ Some id → is_closing r ≡ true → t.closed ≡ s.closed + 1 → Marked is_shut t.nodes id → Counts s seat t r
counts_one s seat t r id held closing e m =
    let one : closed_now s seat r ≡ id ∷ [] = λ i. cond (closing i) (as_list (held i)) [] in
    record {
      count = (let l = ap length one in omega (arith, e, l));
      shut = λ k h. shut_one t.nodes id m k (subst (Has k) one h);
    }

counts_next : (s : State) (seat : ℕ) (event : CubeEvent) → Counts s seat (next_of s seat event) (reply_of s seat event)
counts_next s seat event = ways (λ t r. Counts s seat t r) s seat event (record {
  stays = λ r f. counts_none s seat s r refl f;
  holds = λ id x e o _. counts_none s seat (noted s id x (Held seat)) (Given id) refl refl;
  opens = λ id x e h. counts_none s seat (noted s id x Open) Released refl refl;
  splits = λ id c x e h held going can. counts_one s seat (divided s id x c) (Children (length s.nodes) (length s.nodes + 1)) id held refl refl
      (shut_front (slice_set s.nodes id (marked x (Divided c))) (child id x.cube c One ∷ child id x.cube c Two ∷ []) id (shut_here s.nodes id x (Divided c) e refl));
  refutes = λ id line x e h held going _. counts_one s seat (counted s id x Refuted) Closed id held refl refl (shut_here s.nodes id x Refuted e refl);
  solves = λ id order x e h held going _. counts_one s seat (counted s id x Ended) Solved id held refl refl (shut_here s.nodes id x Ended e refl);
})

-- ---- lists of steps
has_now : (b : Bool) (o : Option ℕ) (k : ℕ) → Has k (cond b (as_list o) []) → o ≡ Some k
has_now true None k h = absurd h
has_now true (Some id) k (inl e) = ap (λ j. Some j) e
has_now true (Some id) k (inr h) = absurd h
has_now false o k h = absurd h

apart_now : (b : Bool) (o : Option ℕ) → Apart (cond b (as_list o) [])
apart_now true None = tt
apart_now true (Some id) = (λ h. h, tt)
apart_now false o = tt

-- what is closed already is not closed later
pub not_closed_again : (s : State) (history : List (Entry CubeEvent CubeReply)) (k : ℕ) → Marked is_shut s.nodes k → Has k (closings s history) → ⊥
not_closed_again s [] k m h = h
not_closed_again s (x ∷ xs) k m h = elim (Has-append_cases k (closed_now s x.seat x.reply) (closings (next_of s x.seat x.event) xs) h) [
  | inl now ↦ (let held = held_node s x.seat k (has_now (is_closing x.reply) (node_held s x.seat) k now) in
      let here : m.node ≡ held.node = one_value (slice_get s.nodes k) m.node held.node m.at held.at in
      false≢true (sym (held_not_shut x.seat held.node.mark held.passes) ∙ ap (λ (y : Node). is_shut y.mark) (sym here) ∙ m.passes))
  | inr later ↦ not_closed_again (next_of s x.seat x.event) xs k (shut_next k s x.seat x.event m) later
]

pub apart_closings : (s : State) (history : List (Entry CubeEvent CubeReply)) → IsLegal next_of reply_of s history → Apart (closings s history)
apart_closings s [] legal = tt
apart_closings s (x ∷ xs) legal =
    let next = next_of s x.seat x.event in
    let step = subst (Counts s x.seat next) (sym legal.0) (counts_next s x.seat x.event) in
    Apart-append (closed_now s x.seat x.reply) (closings next xs) (apart_now (is_closing x.reply) (node_held s x.seat)) (apart_closings next xs legal.1)
    (λ k now later. not_closed_again next xs k (step.shut k now) later)

pub closed_once : (s : State) (history : List (Entry CubeEvent CubeReply)) → IsLegal next_of reply_of s history → IsDistinct nat_eq (closings s history)
closed_once s history legal = IsDistinct-from_Apart (closings s history) (apart_closings s history legal)

pub closed_count : (s : State) (history : List (Entry CubeEvent CubeReply)) → IsLegal next_of reply_of s history → (replay next_of s history).closed ≡ s.closed + length (closings s history)
closed_count s [] legal = omega arith
closed_count s (x ∷ xs) legal =
    let next = next_of s x.seat x.event in
    let step = subst (Counts s x.seat next) (sym legal.0) (counts_next s x.seat x.event) in
    let rest = closed_count next xs legal.1 in
    let count = step.count in
    let l = length-append (closed_now s x.seat x.reply) (closings next xs) in
    omega (arith, rest, count, l)
