-- The laws of runs of rounds with unknown outcomes.
use Rattle.round_laws.proofs.Prelude.{◌≡◌, List, [], ◌∷◌, map, refl, sym, ap, ◌∙◌, subst, AllByRecursion, resolved, learnt_resolved, Keeper, run_of_two, Round, run_of, AllTaken, IsSettled, ResolvedRun, EachOfUnknown, RunOfUnknown}
use Rattle.round_laws.proofs.Prelude.{UnknownAsEach, without_moments, resolved_without}
use Rattle.log_laws.proofs.Resolved.{nodes_stay}
use Rattle.round_laws.proofs.Many.{IsKind, each_of_run, run_of_each}
use Rattle.round_laws.proofs.Timeless.{run_as_each}
use Rattle.round_laws.proofs.Told.{run_taken, run_resolved}

-- ---- the run
all_taken : (keeper : Keeper) (r : Round) (earlier : List Round) → AllByRecursion (IsSettled keeper) (r ∷ earlier) → AllTaken (run_of keeper (r ∷ earlier))
all_taken keeper r [] h = h.0.taken
all_taken keeper r (e ∷ earlier) h = run_taken keeper (run_of keeper (e ∷ earlier)) r (all_taken keeper e earlier h.1) h.0

one_or_more : (keeper : Keeper) (r : Round) (earlier : List Round) → AllByRecursion (IsSettled keeper) (r ∷ earlier) → resolved (run_of keeper (r ∷ earlier)) ≡ run_of keeper (map resolved (r ∷ earlier))
one_or_more keeper r [] h = refl
one_or_more keeper r (e ∷ earlier) h =
    run_resolved keeper (run_of keeper (e ∷ earlier)) r (all_taken keeper e earlier h.1) h.0
    ∙ ap (λ run. run_of_two keeper run (resolved r)) (one_or_more keeper e earlier h.1)

none : resolved [] ≡ []
none = learnt_resolved [] tt

pub resolved_run : ResolvedRun
resolved_run keeper [] h = none
resolved_run keeper (r ∷ earlier) h = one_or_more keeper r earlier h

-- ---- orders of a log, and of it with its outcomes resolved
to : {P : Round → Type 0} → IsKind P → (r : Round) → P r → P (resolved r)
to kind r h = kind.same r (resolved r) (sym (nodes_stay r)) h

from : {P : Round → Type 0} → IsKind P → (r : Round) → P (resolved r) → P r
from kind r h = kind.same (resolved r) r (nodes_stay r) h

each_back : (P : Round → Type 0) → ((r : Round) → P (resolved r) → P r) → (rounds : List Round) → AllByRecursion P (map resolved rounds) → AllByRecursion P rounds
each_back P f [] h = tt
each_back P f (r ∷ rs) h = (f r h.0, each_back P f rs h.1)

each_there : (P : Round → Type 0) → ((r : Round) → P r → P (resolved r)) → (rounds : List Round) → AllByRecursion P rounds → AllByRecursion P (map resolved rounds)
each_there P f [] h = tt
each_there P f (r ∷ rs) h = (f r h.0, each_there P f rs h.1)

to_without : {P : Round → Type 0} → IsKind P → (r : Round) → P (without_moments r) → P (without_moments (resolved r))
to_without {P = P} kind r h = subst P (resolved_without r) (to kind (without_moments r) h)

from_without : {P : Round → Type 0} → IsKind P → (r : Round) → P (without_moments (resolved r)) → P (without_moments r)
from_without {P = P} kind r h = from kind (without_moments r) (subst P (sym (resolved_without r)) h)

-- ---- the laws
pub each_of_unknown : {P : Round → Type 0} → IsKind P → EachOfUnknown P
each_of_unknown {P = P} kind keeper rounds s h o = each_back P (from kind) rounds (each_of_run kind keeper (map resolved rounds) h (subst P (resolved_run keeper rounds s) (to kind (run_of keeper rounds) o)))

pub run_of_unknown : {P : Round → Type 0} → IsKind P → RunOfUnknown P
run_of_unknown {P = P} kind keeper rounds s h t o = from kind (run_of keeper rounds) (subst P (sym (resolved_run keeper rounds s)) (run_of_each kind keeper (map resolved rounds) h t (each_there P (to kind) rounds o)))

pub unknown_as_each : {P : Round → Type 0} → IsKind P → UnknownAsEach P
unknown_as_each {P = P} kind keeper rounds s h =
    let law = run_as_each kind keeper (map resolved rounds) h in (
      (λ o. each_back (λ r. P (without_moments r)) (from_without kind) rounds (law.0 (subst (λ l. P (without_moments l)) (resolved_run keeper rounds s) (to_without kind (run_of keeper rounds) o)))),
      λ o. from_without kind (run_of keeper rounds) (subst (λ l. P (without_moments l)) (sym (resolved_run keeper rounds s)) (law.1 (each_there (λ r. P (without_moments r)) (to_without kind) rounds o))),
    )
