-- Parts of a log whose outcomes are known.
use Rattle.judging.proofs.Prelude.{Bool, List, sym, ◌∙◌, AllByRecursion, ClientSession, IsLegal, resolved, some_where_serial, IsLearnt, IsSoundLog, IsLog, IsTxnPart, IsSessionPart, IsPart, picked, is_kept, chosen, HasNoOrder}
use Rattle.judging.proofs.Prelude.{resolved_is_log}
use Rattle.part_laws.proofs.Thinned.{thinned_same, each_thinned}
use Rattle.part_laws.proofs.Sessions.{txns_of_part}
use Rattle.part_laws.proofs.Orders.{no_order_of_part}
use Rattle.part_laws.proofs.Logs.{part_is_log}
use Rattle.part_laws.proofs.Chosen.{thinned_is_part, session_itself}
use Rattle.log_parts.proofs.Steps.{passes, some_picked}
use Rattle.judging.proofs.Resolved.{serial_resolved, some_order}

pub part_log : (ss part : List ClientSession) → IsLog ss → IsPart ss part → IsLog part
part_log ss part log h =
    let is = part_is_log ss part log.legal log.sound h in
    record {
      legal = is.0;
      sound = is.1;
      learnt = each_thinned IsTxnPart IsLearnt IsLearnt (λ t u r k e. k (sym r.outcome ∙ e)) (txns_of_part h.sessions) log.learnt;
    }

-- what flags choose is a part
pub chosen_part : (ss : List ClientSession) (flags : List (List Bool)) → IsLog ss → IsPart ss (chosen flags ss)
chosen_part ss flags log =
    let some = picked flags ss in
    thinned_is_part ss some (is_kept ss some) log.sound (some_picked flags ss) (passes ss some)

-- all of it is a part
pub part_itself : (ss : List ClientSession) → IsPart ss ss
part_itself ss = record { sessions = thinned_same IsSessionPart session_itself ss; reads = λ key wid read wrote. wrote }

-- a part of the resolved log that has no order leaves the log none
pub none_of_part : (ss part : List ClientSession) → AllByRecursion IsLegal ss → IsSoundLog ss → IsPart (resolved ss) part → HasNoOrder part → HasNoOrder ss
none_of_part ss part legal sound h un = record {
  none = λ order s.
      (let own = some_order ss order legal sound s in
      let some = some_where_serial (resolved ss) (own.0, serial_resolved ss own.0 own.1) in
      no_order_of_part (resolved ss) part (resolved_is_log ss legal sound).sound h un.none some.0 some.1);
}
