-- A decision, from what the steps before a search and a search say.
use Rattle.std.proofs.Common.{◌≡◌, ℕ, List, sym, subst}
use Rattle.session_log.specs.Text.{ClientSession}
use Rattle.log_definitions.specs.Serial.{IsSerialOrder}
use Rattle.log_definitions.specs.Numbers.{IsWellFormedList}
use Rattle.log_definitions.proofs.OnlyTaken.{serial_where_some}
use Rattle.prune_ledger.specs.Pruned.{Remainder}
use Rattle.reduction.specs.Chained.{HasNoSerialOrder}
use Rattle.reduction.specs.Outcome.{IsOpenHistory}
use Rattle.branch_search.specs.Answers.{EndsRun}
use Rattle.cube_laws.specs.Trees.{IsRefutationTree}
use Rattle.branch_search.specs.declared.answer.Answer.{Answer}
use Rattle.branch_search.specs.declared.answer.Answer.TheVariants.{Yes, No, Unknown}
use Rattle.cube_laws.specs.declared.tree.TreeNode.{TreeNode}
use Rattle.deciding.specs.Decides.{HasNoOrder, IsSearched, Decides}
use Rattle.deciding.specs.declared.decision.Decision.{Decision}
use Rattle.deciding.specs.declared.decision.Decision.TheVariants.{Serial, Refuted, Spent}

pub no_order : (ss : List ClientSession) → IsWellFormedList ss → HasNoSerialOrder ss → HasNoOrder ss
no_order ss well h = record { none = λ order s. (let d = serial_where_some ss well (order, s) in h.none d.0 d.1) }

searched : (budget : ℕ) (ss : List ClientSession) (r : Remainder) (a : Answer) → IsOpenHistory ss r → EndsRun r.poly budget a → IsSearched budget ss a
searched budget ss r a h ran = record { left = r; history = h; ran = ran }

pub serial_decided : (budget : ℕ) (ss : List ClientSession) (r : Remainder) (order : List ℕ) → IsOpenHistory ss r → EndsRun r.poly budget (Yes order) → IsSerialOrder ss order → Decides budget ss (Serial order)
serial_decided budget ss r order h ran serial = (serial, searched budget ss r (Yes order) h ran)

pub spent_decided : (budget : ℕ) (ss : List ClientSession) (r : Remainder) (closed : ℕ) → IsOpenHistory ss r → EndsRun r.poly budget (Unknown closed) → closed ≡ budget → Decides budget ss (Spent closed)
spent_decided budget ss r closed h ran same = (same, searched budget ss r (Unknown closed) h ran)

pub refuted_decided : (budget : ℕ) (ss : List ClientSession) (r : Remainder) (tree : List TreeNode) (d : Decision) → d ≡ Refuted r tree → IsWellFormedList ss → IsOpenHistory ss r → EndsRun r.poly budget (No tree) → IsRefutationTree r.poly tree
    → ((order : List ℕ) → IsSerialOrder ss order → ⊥) → Decides budget ss d
refuted_decided budget ss r tree d is well h ran refutes none =
    subst (Decides budget ss) (sym is) (no_order ss well (record { none = none }), record { history = h; ran = ran; refutes = refutes })
