use Rattle.part_reasons.proofs.Prelude.{of_anomaly}
use Rattle.part_reasons.proofs.drawing.draw_shown.Goals as goal

pub returns-in_ok-graph-in-Anomaly : goal.returns-in_ok-graph-in-Anomaly
returns-in_ok-graph-in-Anomaly g c = record { drawn = of_anomaly c.in_ok-graph-in-Anomaly.ensures.drawn }
