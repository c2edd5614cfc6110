-- Whether a decision is an order, and what follows.
use Rattle.part_reasons.proofs.Prelude.{ℕ, List, refl, inr, ClientSession, Decides, is_order, IsFound}
use Rattle.deciding.specs.declared.decision.Decision.{Decision}
use Rattle.deciding.specs.declared.decision.Decision.TheVariants.{Serial, Anomalous, Cyclic, Dead, Refuted, Spent}

pub found : (budget : ℕ) (ss : List ClientSession) (d : Decision) → Decides budget ss d → IsFound budget ss (is_order d)
found budget ss (Serial order) h = (order, h.0)
found budget ss (Anomalous a) h = inr (Anomalous a, h, refl)
found budget ss (Cyclic line) h = inr (Cyclic line, h, refl)
found budget ss (Dead ledger) h = inr (Dead ledger, h, refl)
found budget ss (Refuted left tree) h = inr (Refuted left tree, h, refl)
found budget ss (Spent closed) h = inr (Spent closed, h, refl)
