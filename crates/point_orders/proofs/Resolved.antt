-- The points of a log are those of the log with its unknown outcomes resolved, and so is their text.
use Rattle.std.proofs.Common.{◌≡◌, ℕ, Bool, false, List, sym, ap, ◌∙◌, subst}
use Rattle.std.specs.Prelude.{codes}
use Rattle.std.specs.List.{flat_map}
use Rattle.std.specs.Option.{option_map_or}
use Rattle.std.proofs.Math.Path.{fun_ext}
use Rattle.session_log.specs.Text.{ClientSession}
use Rattle.log_definitions.specs.Unknown.{resolved}
use Rattle.log_definitions.specs.Serial.{Committed, node_in, node_of, IsSerialOrder}
use Rattle.log_definitions.proofs.Settled.{learnt_resolved}
use Rattle.log_laws.specs.Logs.{IsSoundLog}
use Rattle.log_laws.proofs.Resolved.{nodes_stay, learnt_once_resolved}
use Rattle.session_history.specs.Tables.{name_in}
use Rattle.point_laws.specs.Snapshot.{Point, snapshot, commit, IsPointOrder, IsPrefixOrder}
use Rattle.point_laws.specs.Split.{split_writers}
use Rattle.point_laws.specs.Points.{points_from, points_at, points_along}
use Rattle.point_laws.specs.Prefix.{no_locks}
use Rattle.point_laws.proofs.Prefix.{points_of_prefix}
use Rattle.point_laws.proofs.Resolved.{Snapshots, to_nodes, from_nodes}
use Rattle.point_orders.specs.Text.{word_line, point_line, points_text}

-- ---- texts
names_stay : (ss : List ClientSession) (v : ℕ) → name_in (resolved ss) v ≡ name_in ss v
unfolding node_of
names_stay ss v = ap (λ nodes. option_map_or (λ (node : Committed). (node.session, node.place)) (node_in nodes v) (0, 0)) (nodes_stay ss)

lines_stay : (ss : List ClientSession) (p : Point) → point_line (resolved ss) p ≡ point_line ss p
lines_stay ss (snapshot v) = ap (λ name. word_line name (codes "snapshot")) (names_stay ss v)
lines_stay ss (commit v) = ap (λ name. word_line name (codes "commit")) (names_stay ss v)

along_stay : (ss : List ClientSession) (order : List ℕ) → points_along (resolved ss) order ≡ points_along ss order
along_stay ss order = ap (λ nodes. flat_map (points_at (points_from 1 nodes)) order) (nodes_stay ss)

pub text_stays : (ss : List ClientSession) (order : List ℕ) → points_text (resolved ss) (points_along (resolved ss) order) ≡ points_text ss (points_along ss order)
unfolding points_text
text_stays ss order =
    ap (flat_map (point_line (resolved ss))) (along_stay ss order)
    ∙ ap (λ (f : Point → List ℕ). flat_map f (points_along ss order)) (fun_ext (lines_stay ss))

-- ---- orders
pub points_stay : (locked : Bool) (ss : List ClientSession) (order : List ℕ) → IsPointOrder locked (resolved ss) (points_along (resolved ss) order) → IsPointOrder locked ss (points_along ss order)
points_stay locked ss order h =
    from_nodes ss (points_along ss order) (subst (λ nodes. Snapshots locked nodes (flat_map (points_at (points_from 1 nodes)) order)) (nodes_stay ss) (to_nodes (resolved ss) (points_along (resolved ss) order) h))

-- each serial order of the log that is split without locks is, by its points, a prefix order
pub prefix_order : (ss : List ClientSession) (order : List ℕ) → IsSoundLog (resolved ss) → IsSerialOrder (split_writers no_locks (resolved ss)) order → IsPrefixOrder ss (points_along ss order)
prefix_order ss order sound h =
    let twice : resolved (resolved ss) ≡ resolved ss = learnt_resolved (resolved ss) (learnt_once_resolved ss) in
    points_stay false ss order (points_of_prefix (resolved ss) sound order (subst (λ l. IsSerialOrder (split_writers no_locks l) order) (sym twice) h))

-- so the text of the points of what is known of a log is that of a prefix order of the log
pub prefix_text : (ss known : List ClientSession) (order text : List ℕ) → IsSoundLog known → known ≡ resolved ss → IsSerialOrder (split_writers no_locks known) order → text ≡ points_text known (points_along known order)
    → (points : List Point) × IsPrefixOrder ss points × (text ≡ points_text ss points)
prefix_text ss known order text sound same serial e = (
  points_along ss order,
  prefix_order ss order (subst IsSoundLog same sound) (subst (λ l. IsSerialOrder (split_writers no_locks l) order) same serial),
  e ∙ ap (λ l. points_text l (points_along l order)) same ∙ text_stays ss order,
)
