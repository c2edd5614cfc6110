-- Which limit is passed first.
use Rattle.order_cnf.proofs.Prelude.{◌≡◌, ◌≤◌, length, None, le-ltb, Log, bipaths, choices_fault}

pub few_choices : (log : Log) → log.nodes ≤ 100 → length (bipaths log) ≤ 100000 → choices_fault log ≡ None
few_choices log few fits =
    let n = le-ltb 100 log.nodes few in
    let m = le-ltb 100000 (length (bipaths log)) fits in
    rw (n, m)
