-- What is wrong with an order of a log's nodes.
use Rattle.std.specs.Prelude.{◌≡◌, ℕ, ◌==◌, ◌&&◌, nat_eq, nat_lt, nat_le, if◌then◌else◌, Bool, true, List, [], ◌∷◌, map, slice_index, Option, None, Some}
use Rattle.std.specs.List.{flat_map, list_any, list_all, count_by, enumerate_from, range_with_len}
use Rattle.std.specs.Option.{option_map, option_or}
use Rattle.serializability.specs.declared.event.Event.{Event}
use Rattle.serializability.specs.declared.event.Event.TheVariants.{Read, Write}
use Rattle.serializability.specs.Log.{Log}
use Rattle.serializability.specs.Replay.{Store, empty, after}
use Rattle.decode_order.specs.declared.fault.ReplayFault.{ReplayFault}
use Rattle.decode_order.specs.declared.fault.ReplayFault.TheVariants.{NotAPermutation, SessionOrder, MomentOrder, ReadMismatch, Memory}

-- each of nodes 1 to n is listed once, and nothing else is
abbrev pub lists_once : ℕ → List ℕ → Bool
lists_once n order =
    list_all (λ v. count_by (nat_eq v) order == 1) (range_with_len 1 n) && list_all
    (λ v. nat_lt 0 v && nat_le v n) order

-- the first listed node that stands before an earlier one of its session
abbrev pub first_early : (ℕ → ℕ) → List ℕ → Option ℕ
first_early session [] = None
first_early session (v ∷ behind) =
    if list_any (λ u. nat_lt u v && (session u == session v)) behind then Some v else first_early
    session behind

-- the first listed node that stands before one that ended before it began
abbrev pub first_before_ended : (ℕ → ℕ → Bool) → List ℕ → Option ℕ
first_before_ended earlier [] = None
first_before_ended earlier (v ∷ behind) =
    if list_any (λ u. earlier u v) behind then Some v else first_before_ended earlier behind

-- an operation, with its node and its number there, from 1
pub record PlacedOp : Type 0 where
  pub node : ℕ
  pub number : ℕ
  pub op : Event

-- the operations of node v, where the first has this number
abbrev pub placed_from : ℕ → ℕ → List Event → List PlacedOp
placed_from v number ops = map (λ e. record { node = v; number = e.0; op = e.1 })
    (enumerate_from number ops)

-- the operations of these nodes, in the order of their replay
abbrev pub in_replay : (ℕ → List Event) → List ℕ → List PlacedOp
in_replay ops order = flat_map (λ v. placed_from v 1 (ops v)) order

-- the map that an array of identities holds, by key
abbrev pub held : List ℕ → Store
held store = λ key. slice_index store key

-- a read meets the map where it names what the map holds
abbrev pub meets : Store → Event → Bool
meets store (Read x w) = store x == w
meets store (Write x w) = true

-- the node and the number of the first read that does not meet the map when it comes
abbrev pub first_mismatch : Store → List PlacedOp → Option (ℕ × ℕ)
first_mismatch store [] = None
first_mismatch store (p ∷ ps) =
    if meets store p.op then first_mismatch (after store (p.op ∷ [])) ps else Some
    (p.node, p.number)

-- the fault of a node that stands too early, where there is one
abbrev pub session_fault : Option ℕ → Option ReplayFault
session_fault found = option_map (λ v. SessionOrder v) found

-- the fault of a node that stands before one that ended before it began, where there is one
abbrev pub moment_fault : Option ℕ → Option ReplayFault
moment_fault found = option_map (λ v. MomentOrder v) found

-- the fault of a read that does not meet the map, by its node and number, where there is one
abbrev pub read_fault : Option (ℕ × ℕ) → Option ReplayFault
read_fault found = option_map (λ p. ReadMismatch p.0 p.1) found

-- What is wrong: that the nodes are not listed once each, else the first one that stands before an
-- earlier one of its session, else the first one that stands before one that ended before it began,
-- else the first read in replay that does not name what the map holds.
unfoldable pub replay_fault : Log → List ℕ → Option ReplayFault
replay_fault log order =
    if lists_once log.nodes order
    then option_or (session_fault (first_early log.session order))
    (option_or (moment_fault (first_before_ended log.earlier order))
    (read_fault (first_mismatch empty (in_replay log.ops order))))
    else Some NotAPermutation

-- memory may come in place of any answer
abbrev pub IsReplayFault : ReplayFault → Option ReplayFault → Type 0
IsReplayFault Memory whole = Unit {0}
IsReplayFault fault whole = whole ≡ Some fault
