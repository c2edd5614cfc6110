use Rattle.level_checks.proofs.Prelude.{◌≡◌, ◌-◌, Some, slice_get, looked_up, refl}
use Rattle.level_checks.proofs.Rows.{chain_within, none_far, none_of_none}
use Rattle.level_checks.proofs.looks.is_clear_far.Goals as goal

pub returns-then-look-eq0 : goal.returns-then-look-eq0
returns-then-look-eq0 c t noted of bound xs chain = none_of_none of c.args.entries.now bound c.args.look.link c.args.look.source c.args.row.now c.args.front.now xs chain c.if-look-eq0.true

pub returns-then-are_rows_clear : goal.returns-then-are_rows_clear
returns-then-are_rows_clear c t noted of bound xs chain =
    let e = c.in-Some.passed.now in
    let link = c.args.look.link in
    let at : slice_get c.args.entries.now (link - 1) ≡ Some e = looked_up c.args.entries.now (link - 1) e c.in-Some.ensures.lookup.0 c.in-Some.ensures.lookup.1 in
    none_far of c.args.entries.now c.args.spots.now c.args.row.now bound link e.root c.args.look.source e.position c.args.front.now xs noted chain (λ lt. record { passed = e; held = at; is = refl }) (chain_within of c.args.entries.now bound link e xs at chain) (c.are_rows_clear.ensures c.if-are_rows_clear.true) (c.are_sources_clear.ensures t of bound xs chain)
