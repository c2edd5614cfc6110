use Rattle.judging.proofs.Prelude.{List, map, sym, subst, ClientSession, view, IsFault, list_fault, IsFound, of_serial}
use Rattle.judging.proofs.Over.{limit_or_memory, over_limit}
use Rattle.judging.proofs.found.see_serial.Goals as goal

pub passed_limit-requires : goal.passed_limit-requires
passed_limit-requires g c =
    let P : List ClientSession → Type 0 = λ ss. IsFault c.in-Err.fault (list_fault 1 ss) in
    limit_or_memory (map view c.args.log.now) c.in-Err.fault c.requires.log (subst P c.in_ok-copy_log.ensures c.in-Err.ensures.fault)

pub returns-in_ok-passed_limit-in-Err : goal.returns-in_ok-passed_limit-in-Err
returns-in_ok-passed_limit-in-Err g c =
    let P : List ClientSession → Type 0 = λ ss. IsFault c.in-Err.fault (list_fault 1 ss) in
    subst (IsFound (of_serial c.args.means.now) (map view c.args.log.now)) (sym c.undecided-in-Err.ensures) (over_limit (map view c.args.log.now) c.in-Err.fault c.in_ok-passed_limit-in-Err.field-0 c.requires.log (subst P c.in_ok-copy_log.ensures c.in-Err.ensures.fault) c.in_ok-passed_limit-in-Err.ensures)
