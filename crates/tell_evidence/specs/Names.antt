-- What the field calls a fault, at the level that it breaks. The head of the crate has the sources.
use Rattle.std.specs.Prelude.{ℕ, ◌==◌, ◌&&◌, not, Bool, true, false, if◌then◌else◌, List, [], ◌∷◌, length, codes, Option, None, Some}
use Rattle.std.specs.List.{list_any}
use Rattle.level_laws.specs.declared.level.Level.{Level}
use Rattle.level_laws.specs.declared.level.Level.TheVariants.{ReadCommitted, MonotonicAtomicView, ReadAtomic, Causal}
use Rattle.level_refutations.specs.declared.evidence.{Hop.Hop, Step.Step, Overlooked.Overlooked, Edge.Edge, Why.Why, Evidence.Evidence}
use Rattle.level_refutations.specs.declared.evidence.Step.TheVariants as step
use Rattle.level_refutations.specs.declared.evidence.Edge.TheVariants as edge
use Rattle.level_refutations.specs.declared.evidence.Why.TheVariants as why
use Rattle.level_refutations.specs.declared.evidence.Evidence.TheVariants as evidence
use Rattle.tell_evidence.specs.declared.names.Way.{Way}
use Rattle.tell_evidence.specs.declared.names.Way.TheVariants.{Any, Far, Session, Other}
use Rattle.tell_evidence.specs.Sentences.{reads_it}

abbrev pub why_name : Why → Option (List ℕ)
why_name (why.MissesOwn write) = Some (codes "own write missed (internal)")
why_name why.Unwritten = None
why_name (why.Aborted write) = Some (codes "aborted read (G1a)")
why_name (why.Overwritten write later) = Some (codes "intermediate read (G1b)")
why_name (why.OwnLater write) = Some (codes "future read (internal)")

-- ---- how a read sees the write that it overlooks

abbrev pub is_session_step : Step → Bool
is_session_step step.Session = true
is_session_step (step.Read write read) = false

abbrev pub is_session : Hop → Bool
is_session hop = is_session_step hop.step

-- by a session somewhere on the way
abbrev pub has_session : Overlooked → Bool
has_session o = list_any is_session o.path.items

abbrev pub begins_by_session : List Hop → Bool
begins_by_session [] = false
begins_by_session (hop ∷ hops) = is_session hop

-- by several hops, first by a session, or first by a read of something else
abbrev pub sees : Way → Overlooked → Bool
sees Any o = true
sees Far o = not (length o.path.items == 1)
sees Session o = begins_by_session o.path.items
sees Other o = not (begins_by_session o.path.items) && not (reads_it o.write o.path.items)

-- the same of edges that are forced
abbrev pub is_forced : Way → Edge → Bool
is_forced way (edge.Known hop) = false
is_forced way (edge.Forced o found) = sees way o

abbrev pub has_session_edge : Edge → Bool
has_session_edge (edge.Known hop) = is_session hop
has_session_edge (edge.Forced o found) = has_session o

-- ---- names

-- A read overlooks a write that it sees: far away, by some session or by none, or else by its own
-- session, or else by a read of something else. What is left is that its transaction reads the very
-- write: two versions of a key. A fault has the name that it has at serializability.
abbrev pub view_name : Bool → Bool → List ℕ
view_name some other = if not other then codes "non-repeatable read (internal)"
    else if some then codes "read skew by way of sessions (G-single-process)"
    else codes "read skew (G-single)"

abbrev pub atomic_name : Bool → Bool → Bool → List ℕ
atomic_name some session other = if session
    then codes "a session misses its own write (G-single-process)" else view_name some other

abbrev pub causal_name : Bool → Bool → Bool → Bool → List ℕ
causal_name far some session other = if not far then atomic_name some session other
    else if some then codes "cycle with one missed write and sessions (G-single-process)"
    else codes "cycle with one missed write (G-single)"

abbrev pub seen_name : Level → Bool → Bool → Bool → Bool → Option (List ℕ)
seen_name ReadCommitted far some session other = None
seen_name MonotonicAtomicView far some session other = Some (view_name some other)
seen_name ReadAtomic far some session other = Some (atomic_name some session other)
seen_name Causal far some session other = Some (causal_name far some session other)

-- of edges of which none is forced
abbrev pub known_name : List Edge → List ℕ
known_name edges = if list_any has_session_edge edges
    then codes "a read from the future (G1c-process)"
    else codes "circular information flow (G1c)"

-- of edges of which some are forced: that of the read that sees farthest
abbrev pub forced_name : Level → List Edge → Option (List ℕ)
forced_name level edges = seen_name level (list_any (is_forced Far) edges)
    (list_any has_session_edge edges) (list_any (is_forced Session) edges)
    (list_any (is_forced Other) edges)

abbrev pub circle_name : Level → List Edge → Option (List ℕ)
circle_name level edges = if list_any (is_forced Any) edges then forced_name level edges
    else Some (known_name edges)

abbrev pub initial_name : Level → Overlooked → Option (List ℕ)
initial_name level o = seen_name level (sees Far o) (has_session o) (sees Session o) (sees Other o)

abbrev pub evidence_name : Level → Evidence → Option (List ℕ)
evidence_name level (evidence.Fault fault) = why_name fault.why
evidence_name level (evidence.Circle edges) = circle_name level edges.items
evidence_name level (evidence.Initial o) = initial_name level o
