-- What holds of every list of steps of the machine.
use Rattle.std.specs.Prelude.{◌≡◌, ℕ, List, [], ◌∷◌, ◌++◌, Option, None, Some, Bool, true, false, if◌then◌else◌}
use Rattle.std.specs.List.{AllByRecursion}
use Rattle.serializability.specs.Polygraph.{Polygraph, Fits}
use Rattle.desk.specs.declared.history.Entry.{Entry}
use Rattle.cube_laws.specs.State.{State}
use Rattle.cube_laws.specs.Steps.{next_of, node_held}
use Rattle.cube_laws.specs.declared.messages.CubeEvent.{CubeEvent}
use Rattle.cube_laws.specs.declared.messages.CubeEvent.TheVariants.{Claim, TakeAny, Split, Refute, Solve, Release}
use Rattle.cube_laws.specs.declared.messages.CubeReply.{CubeReply}
use Rattle.cube_laws.specs.declared.messages.CubeReply.TheVariants.{Finished, HasCube, NotOpen, NoneNow, Cube as Given, NoCube, BadChoice, Children, BadCycle, Closed, BadOrder, Solved, Released}

-- an order that solved a node fits the polygraph
abbrev pub SolvesRightly : Polygraph → CubeEvent → CubeReply → Type 0
SolvesRightly p (Claim id) r = Unit {0}
SolvesRightly p TakeAny r = Unit {0}
SolvesRightly p (Split c) r = Unit {0}
SolvesRightly p (Refute line) r = Unit {0}
SolvesRightly p (Solve order) r = r ≡ Solved → Fits p order
SolvesRightly p Release r = Unit {0}

abbrev pub EachSolvesRightly : Polygraph → List (Entry CubeEvent CubeReply) → Type 0
EachSolvesRightly p history = AllByRecursion (λ x. SolvesRightly p x.event x.reply) history

-- whether a reply says that a node was closed: split, refuted or solved
abbrev pub is_closing : CubeReply → Bool
is_closing Finished = false
is_closing HasCube = false
is_closing NotOpen = false
is_closing NoneNow = false
is_closing (Given id) = false
is_closing NoCube = false
is_closing BadChoice = false
is_closing (Children a b) = true
is_closing BadCycle = false
is_closing Closed = true
is_closing BadOrder = false
is_closing Solved = true
is_closing Released = false

-- whether a reply says that a node was solved
abbrev pub is_solving : CubeReply → Bool
is_solving Finished = false
is_solving HasCube = false
is_solving NotOpen = false
is_solving NoneNow = false
is_solving (Given id) = false
is_solving NoCube = false
is_solving BadChoice = false
is_solving (Children a b) = false
is_solving BadCycle = false
is_solving Closed = false
is_solving BadOrder = false
is_solving Solved = true
is_solving Released = false

-- whether a step solved a node
abbrev pub solves : CubeEvent → CubeReply → Bool
solves (Claim id) r = false
solves TakeAny r = false
solves (Split c) r = false
solves (Refute line) r = false
solves (Solve order) r = is_solving r
solves Release r = false

-- the node that a seat held, as a list
abbrev pub as_list : Option ℕ → List ℕ
as_list None = []
as_list (Some id) = id ∷ []

-- the nodes that the steps of a history closed, in order: at each closing step the one that its
-- seat held
abbrev pub closings : State → List (Entry CubeEvent CubeReply) → List ℕ
closings s [] = []
closings s (x ∷ xs) = (if is_closing x.reply then as_list (node_held s x.seat) else []) ++ closings
    (next_of s x.seat x.event) xs

-- a reply that takes the search on: the node is split, refuted or solved
abbrev pub TakesOn : CubeReply → Type 0
TakesOn r = is_closing r ≡ true
