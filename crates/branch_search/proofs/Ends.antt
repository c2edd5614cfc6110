-- What a search's answer says of the run that it ends.
use Rattle.branch_search.proofs.Prelude.{◌≡◌, ℕ, Bool, true, false, ◌&&◌, not, List, Some, refl, sym, ap, ◌∙◌, subst, list_any, same_Some, Polygraph, Entry, IsLegal, IsReached, replay, State, opening_state, has_solved, has_live}
use Rattle.branch_search.proofs.Prelude.{is_exhausted, next_of, reply_of, solves, CubeEvent, CubeReply, IsSpent, IsReadFrom, EndsRun}
use Rattle.cube_laws.proofs.Grown.{grown_opening, grown_after}
use Rattle.cube_laws.proofs.Counted.{solved_before}
use Rattle.branch_search.specs.declared.answer.Answer.{Answer}

still_live : (a b : Bool) → a ≡ false → (not a && not b) ≡ false → b ≡ true
still_live true b e f = absurd (cc)
still_live false true e f = refl
still_live false false e f = absurd (cc)

-- a state that steps reach is spent where none of them solved a node, and a cube is left
pub spent_at : (p : Polygraph) (budget : ℕ) (steps : List (Entry CubeEvent CubeReply)) (s : State) (closed : ℕ) → IsReached next_of reply_of (Some (opening_state p budget)) steps s → list_any (λ x. solves x.event x.reply) steps ≡ false → is_exhausted s ≡ false → closed ≡ s.closed → closed ≡ budget → IsSpent s closed
spent_at p budget steps s closed r none left count spent =
    let first : opening_state p budget ≡ r.0 = same_Some (opening_state p budget) r.0 r.1 in
    let legal = subst (λ (t : State). IsLegal next_of reply_of t steps) (sym first) r.2 in
    let last : s ≡ replay next_of (opening_state p budget) steps = r.3 ∙ ap (λ (t : State). replay next_of t steps) (sym first) in
    let g = grown_after p budget (opening_state p budget) (grown_opening p budget) steps in
    let limit = ap (λ (t : State). t.budget) last ∙ g.limit in
    let unsolved = ap (λ (t : State). has_solved t.nodes) last ∙ solved_before p budget steps legal ∙ none in
    record {
      count = sym count;
      spent = sym count ∙ spent ∙ sym limit;
      unsolved = unsolved;
      live = still_live (has_solved s.nodes) (has_live s.nodes) unsolved left;
    }

-- an answer that is read from a state which steps reach
pub ends_run : (p : Polygraph) (budget : ℕ) (steps : List (Entry CubeEvent CubeReply)) (s first : State) (a : Answer) → first ≡ opening_state p budget → IsReached next_of reply_of (Some first) steps s → IsReadFrom s a → EndsRun p budget a
ends_run p budget steps s first a opening r read =
    let same : opening_state p budget ≡ r.0 = sym opening ∙ same_Some first r.0 r.1 in
    record {
      steps = steps;
      legal = subst (λ (t : State). IsLegal next_of reply_of t steps) (sym same) r.2;
      read = subst (λ (t : State). IsReadFrom t a) (r.3 ∙ ap (λ (t : State). replay next_of t steps) (sym same)) read;
    }
