-- The text of an order of a level.
use Rattle.audit_command.proofs.Prelude.{◌≡◌, ℕ, List, sym, ap, ◌∙◌, subst, true, false, ClientSession, resolved, IsLog, IsSnapshotOrder, locks_of, Level, is_split, IsOrderAt, room_resolved, judged_resolved, IsOrderText}
use Rattle.log_definitions.specs.Serial.{IsSerialOrder}
use Rattle.point_laws.specs.Points.{points_along}
use Rattle.point_laws.proofs.Points.{points_of_writers}
use Rattle.splitting.proofs.Fresh.{locks_are_fresh}
use Rattle.order_text.specs.Text.{order_text}
use Rattle.point_orders.specs.Text.{points_text}
use Rattle.point_orders.proofs.Resolved.{text_stays, points_stay, prefix_order}
use Rattle.judging.specs.declared.level.Level.TheVariants as level

-- ---- of transactions
pub own_text : (l : Level) (ss : List ClientSession) (order text : List ℕ) → is_split l ≡ false → IsOrderAt l ss order → text ≡ order_text ss order → IsOrderText l ss text
own_text level.Serializable ss order text at h e = (order, h.judged, e)
own_text level.Snapshot ss order text at h e = cc
own_text level.Prefix ss order text at h e = cc
own_text (level.Below below) ss order text at h e = (order, h.judged, e)

-- ---- of points
snapshot_order : (ss : List ClientSession) (order : List ℕ) → IsLog (resolved ss) → IsOrderAt level.Snapshot ss order → IsSnapshotOrder ss (points_along ss order)
unfolding locks_of
snapshot_order ss order log h =
    let room = room_resolved ss ∙ h.room in
    let fresh = (locks_are_fresh (resolved ss) log.legal log.sound room).0 in
    let serial = subst (λ l. IsSerialOrder l order) (sym (judged_resolved ss)) h.judged in
    points_stay true ss order (points_of_writers (resolved ss) (locks_of (resolved ss)) log.sound fresh order serial)

pub points_order : (l : Level) (ss known : List ClientSession) (order text : List ℕ) → is_split l ≡ true → IsLog known → known ≡ resolved ss → IsOrderAt l ss order → text ≡ points_text known (points_along known order) → IsOrderText l ss text
points_order level.Serializable ss known order text at log same h e = cc
points_order (level.Below below) ss known order text at log same h e = cc
points_order level.Snapshot ss known order text at log same h e = (
  points_along ss order,
  snapshot_order ss order (subst IsLog same log) h,
  e ∙ ap (λ l. points_text l (points_along l order)) same ∙ text_stays ss order,
)
points_order level.Prefix ss known order text at log same h e = (
  points_along ss order,
  prefix_order ss order (subst IsLog same log).sound h.judged,
  e ∙ ap (λ l. points_text l (points_along l order)) same ∙ text_stays ss order,
)
