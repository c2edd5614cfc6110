use Rattle.cobra_cli.proofs.Prelude.{cnf_of}
use Rattle.cobra_cli.proofs.Counting.{opens_no_more}
use Rattle.cobra_cli.proofs.statistics.count_history.Goals as goal

pub put_basis-requires : goal.put_basis-requires
put_basis-requires g c = record {
  some = opens_no_more c.args.options.now.plain c.args.history.now c.in_ok-belonging.belonging.basis (cnf_of c.in_ok-belonging.belonging.formula) c.in_ok-belonging.ensures.made;
}
