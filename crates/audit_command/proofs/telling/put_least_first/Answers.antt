use Rattle.audit_command.proofs.Prelude.{rules, length, arith, on_ok_weaker, IsNonDecreasingBy-from_sort_by_key, IsPartTold, ToldPart}
use Rattle.audit_command.proofs.Parts.{all_permuted}
use Rattle.audit_command.proofs.telling.put_least_first.Goals as goal

pub returns-clause-told : goal.returns-clause-told
returns-clause-told c o n ss h = all_permuted (IsPartTold o n ss) c.args.told.now.items c.sort_by_key.new.self.items c.sort_by_key.ensures.permutation h

pub returns-clause-least_first : goal.returns-clause-least_first
returns-clause-least_first c =
    on_ok_weaker c.sort_by_key.result
    (λ sorted. let rises = IsNonDecreasingBy-from_sort_by_key (λ (p : ToldPart). length p.txns.items) c.sort_by_key.new.self.items sorted (λ a r q k. search rules) in λ i j d lt within. rises i j d (omega (arith, lt)) within)
    c.sort_by_key.ensures.sorted
