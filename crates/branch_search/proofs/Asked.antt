-- What a worker asks for after a split.
use Rattle.branch_search.proofs.Prelude.{◌≡◌, ℕ, zero, suc, ◌<◌, true, false, List, [], ◌∷◌, ◌++◌, length, Option, Some, IfSome, Result, Ok, Err, IfOk, refl, arith, slice_get, is_none, option_map_or, Side, CubeEvent, Split, Release}
use Rattle.branch_search.proofs.Prelude.{CubeReply, Children, View, is_open_in, Any, split_in, request_after, IsAskedAfter}
use Rattle.branching.specs.Turns.{IsDecision}
use Rattle.branch_search.specs.declared.worker.Request.{Request}

open_within : (sides : List (Option Side)) (c : ℕ) → option_map_or is_none (slice_get sides c) false ≡ true → c < length sides
open_within [] c e = absurd (cc)
open_within (x ∷ sides) zero e = omega arith
open_within (x ∷ sides) (suc c) e = let r = open_within sides c e in omega (arith, r)

pub split_within : (v : View) (pick : Option ℕ) (e : CubeEvent) → ((c : ℕ) → pick ≡ Some c → is_open_in v c ≡ true) → IsDecision v pick e → IfSome (split_in e) (λ c. c < length v.sides)
split_within v pick (Split c) opens d = open_within v.sides c (opens c d.1)
split_within v pick _ opens d = tt

pub asked_after : (first : ℕ → Side) (earlier calls : List (CubeEvent × CubeReply)) (e : CubeEvent) (r : CubeReply) (request : Request) → calls ≡ earlier ++ (e, r) ∷ [] → request ≡ request_after first e r → IsAskedAfter first calls request
asked_after first earlier calls e r request last asked = record { earlier = earlier; event = e; reply = r; last = last; asked = asked }

released : (first : ℕ → Side) (r : CubeReply) → Any ≡ request_after first Release r
released first (Children one two) = refl
released first _ = refl

pub after_release : (first : ℕ → Side) (earlier calls : List (CubeEvent × CubeReply)) (r : CubeReply) → calls ≡ earlier ++ (Release, r) ∷ [] → IsAskedAfter first calls Any
after_release first earlier calls r last = asked_after first earlier calls Release r Any last (released first r)

pub ok_always : {A E P : Type 0} (r : Result A E) → P → IfOk r (λ _. P)
ok_always (Ok a) p = p
ok_always (Err e) p = tt
