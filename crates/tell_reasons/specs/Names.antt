-- What cycles are called, by what their edges are: in plain words, and behind these in brackets the
-- name that the literature has (Adya 1999; Elle).
use Rattle.std.specs.Prelude.{ℕ, ◌+◌, ◌-◌, ◌*◌, ◌^◌, ◌==◌, ◌&&◌, ◌||◌, not, nat_lt, Bool, false, min, max, List, if◌then◌else◌, codes}
use Rattle.tell_reasons.specs.declared.names.Shape.{Shape}

-- what the edges of a line and of one behind it are
abbrev pub followed : Shape → Shape → Shape
followed s t = record {
  edges = min (s.edges + t.edges) (2 ^ 8 - 1);
  missed = min (s.missed + t.missed) (2 ^ 8 - 1);
  has_read = s.has_read || t.has_read;
  has_written = s.has_written || t.has_written;
  has_session = s.has_session || t.has_session;
  has_moments = s.has_moments || t.has_moments;
  first = if s.edges == 0 then t.first else s.first;
  last = if t.edges == 0 then s.last else t.last;
  beside = (s.beside || t.beside) || (s.last && t.first);
}

-- with the orders of sessions and of moments that another line has
abbrev pub with_orders : Shape → Shape → Shape
with_orders s t = record s {
  has_session = s.has_session || t.has_session;
  has_moments = s.has_moments || t.has_moments;
}

-- in a circle of these edges no two neighbours miss a write; the first stands behind the last
abbrev pub are_apart : Shape → Bool
are_apart s = not (s.beside || (s.first && s.last))

-- ---- of two circles
-- by how many edges miss a write, where two are as many as more, then by whether none is of an order
-- of writes; nothing is milder than no edges
abbrev pub mildness : Shape → ℕ
mildness s = if s.edges == 0 then 0 else 2 * min s.missed 2 + (if s.has_written then 1 else 2)

-- what two circles are that are as mild, with as many edges as the longer one
abbrev pub either : Shape → Shape → Shape
either s t = record (followed s t) {
  edges = max s.edges t.edges;
  missed = min s.missed t.missed;
  first = false;
  last = false;
  beside = not (are_apart s && are_apart t);
}

-- the milder one, or what both are; with the orders of sessions and of moments that either takes
abbrev pub milder : Shape → Shape → Shape
milder s t = if nat_lt (mildness s) (mildness t) then with_orders t s
    else if nat_lt (mildness t) (mildness s) then with_orders s t
    else either s t

-- ---- names
abbrev pub by_order : Shape → List ℕ → List ℕ → List ℕ → List ℕ
by_order s none session moments =
    if s.has_moments then moments else if s.has_session then session else none

-- where no edge misses a write
abbrev pub name_unmissed : Shape → List ℕ
name_unmissed s =
    if s.has_read then by_order s (codes "circular information flow (G1c)")
    (codes "a read from the future (G1c-process)")
    (codes "a read from the future (G1c-realtime)")
    else if s.has_written then by_order s (codes "write cycle (G0)")
    (codes "cycle of writes and sessions (G0-process)")
    (codes "cycle of writes and real time (G0-realtime)")
    else codes "session order against real time"

-- where one edge misses a write
abbrev pub name_once_missed : Shape → List ℕ
name_once_missed s =
    if s.has_written || nat_lt 2 s.edges then by_order s (codes "cycle with one missed write (G-single)")
    (codes "cycle with one missed write and sessions (G-single-process)")
    (codes "cycle with one missed write and real time (G-single-realtime)")
    else if s.has_read then by_order s (codes "read skew (G-single)")
    (codes "read skew by way of sessions (G-single-process)")
    (codes "read skew by way of real time (G-single-realtime)")
    else by_order s (codes "stale read (G-single)")
    (codes "a session misses its own write (G-single-process)")
    (codes "stale read (G-single-realtime)")

-- where several do: all, or none next to another, or others
abbrev pub name_often_missed : Shape → List ℕ
name_often_missed s =
    if s.edges == 2 then by_order s (codes "write skew (G2-item)")
    (codes "write skew by way of sessions (G2-item-process)")
    (codes "write skew by way of real time (G2-item-realtime)")
    else if s.missed == s.edges then by_order s (codes "write skew in a ring (G2-item)")
    (codes "write skew in a ring by way of sessions (G2-item-process)")
    (codes "write skew in a ring by way of real time (G2-item-realtime)")
    else if are_apart s then by_order s (codes "long fork (G-nonadjacent-item)")
    (codes "long fork by way of sessions (G-nonadjacent-item-process)")
    (codes "long fork by way of real time (G-nonadjacent-item-realtime)")
    else by_order s (codes "cycle of missed writes (G2-item)")
    (codes "cycle of missed writes and sessions (G2-item-process)")
    (codes "cycle of missed writes and real time (G2-item-realtime)")

abbrev pub cycle_name : Shape → List ℕ
cycle_name s = if s.missed == 0 then name_unmissed s else if s.missed == 1 then name_once_missed s
    else name_often_missed s
