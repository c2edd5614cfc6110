use Rattle.cobra_calls.proofs.Prelude.{◌∷◌, ◌++◌, subst, part_names, order_names, StandsTwice, twice_line}
use Rattle.cobra_calls.proofs.Usage.{usage_of}
use Rattle.cobra_calls.proofs.audits.refuse_same_files.Goals as goal

pub returns-in-Some-clause-refused : goal.returns-in-Some-clause-refused
returns-in-Some-clause-refused c =
    let w = c.args.words.now in
    let name = c.in-Some.name.now in
    record {
      name = name;
      twice = subst (λ log. StandsTwice (log ∷ part_names w.part ++ order_names w.order) name) c.log_name.ensures.name c.in-Some.ensures.twice;
      told = usage_of c.twice_line.result (twice_line name) c.usage.result c.twice_line.ensures.line c.usage.ensures.told;
    }
