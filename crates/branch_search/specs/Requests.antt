-- The cube that a worker asks for next.
use Rattle.std.specs.Prelude.{◌≡◌, ℕ, List, [], ◌∷◌, ◌++◌, Option, Some, None}
use Rattle.pruning_laws.specs.declared.side.Side.{Side}
use Rattle.pruning_laws.specs.declared.side.Side.TheVariants.{One, Two}
use Rattle.cube_laws.specs.declared.messages.CubeEvent.{CubeEvent}
use Rattle.cube_laws.specs.declared.messages.CubeEvent.TheVariants.{Claim, TakeAny, Split}
use Rattle.cube_laws.specs.declared.messages.CubeReply.{CubeReply}
use Rattle.cube_laws.specs.declared.messages.CubeReply.TheVariants.{Children}
use Rattle.branching.specs.View.{View, decided}
use Rattle.branch_search.specs.declared.retrace.KeptCube.{KeptCube}
use Rattle.branch_search.specs.declared.worker.Request.{Request}
use Rattle.branch_search.specs.declared.worker.Request.TheVariants.{Any, Own}
use Rattle.branch_search.specs.Views.{IsRetraced}

abbrev pub event_for : Request → CubeEvent
event_for Any = TakeAny
event_for (Own step) = Claim step.node

-- the choice by which an event splits a cube
abbrev pub split_in : CubeEvent → Option ℕ
split_in (Split c) = Some c
split_in _ = None

-- of the two children of a split the one that decides this side
abbrev pub child_by : Side → ℕ → ℕ → ℕ
child_by One one two = one
child_by Two one two = two

-- the child by this side of the choice
abbrev pub child : ℕ → Side → ℕ → ℕ → Request
child c side one two = Own (record { node = child_by side one two; choice = c; side = side })

-- the child by the side that is searched first, where a choice was split
abbrev pub first_child : (ℕ → Side) → Option ℕ → ℕ → ℕ → Request
first_child first None one two = Any
first_child first (Some c) one two = child c (first c) one two

-- what is asked for after a call: where it split a cube, the child by the side that is searched
-- first, else any cube
abbrev pub request_after : (ℕ → Side) → CubeEvent → CubeReply → Request
request_after first e (Children one two) = first_child first (split_in e) one two
request_after first e _ = Any

-- this is asked for after the last of a seat's calls
pub record IsAskedAfter (first : ℕ → Side) (calls : List (CubeEvent × CubeReply))
    (request : Request) : Type 0 where
  pub earlier : List (CubeEvent × CubeReply)
  pub event : CubeEvent
  pub reply : CubeReply
  pub last : calls ≡ earlier ++ (event, reply) ∷ []
  pub asked : request ≡ request_after first event reply

-- any cube, or a child by the choice that is picked and the side of it that is searched first
abbrev pub IsByStrategy : Option ℕ → (ℕ → Side) → Request → Type 0
IsByStrategy pick first Any = Unit {0}
IsByStrategy pick first (Own step) = (pick ≡ Some step.choice) × (step.side ≡ first step.choice)

-- this is the view of the node that was asked for, where the worker came from this view and has
-- kept these cubes
abbrev pub IsViewFor : Request → List KeptCube → View → ℕ → View → Type 0
IsViewFor Any kept from node v = IsRetraced kept from.polygraph node v
IsViewFor (Own step) kept from node v = v ≡ decided from step.choice step.side
