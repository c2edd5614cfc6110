use Rattle.audit_command.proofs.Prelude.{◌<◌, ◌∷◌, [], ◌++◌, sym, ap, length, length-append, subst, append_assoc, append-nil, ◌∙◌, arith, all_more, IsPartTold, AreToldParts, AreDistinct, AreLeastFirst, holds_one}
use Rattle.audit_command.proofs.Doubles.{one_more, some_told, empty, without_one}
use Rattle.audit_command.proofs.distinct.without_doubles.Goals as goal

pub loop-part-preserved-in-Continue-1 : goal.loop-part-preserved-in-Continue-1
loop-part-preserved-in-Continue-1 c =
    let seen = c.loop-part.yielded in let i = c.loop-part.invariant in let kept = c.loop-part.kept.items in
    let x = c.in-Some.part in let more = c.next.new.self.rest.items in
    let grown = c.in_ok-push.ensures.items in
    let longer = ap length grown ∙ length-append kept (x ∷ []) in
    let counted = length-append seen (x ∷ []) in
    let apart = ap (λ l. holds_one l x) (sym c.deref.ensures.value) in
    record {
      whole = append_assoc seen (x ∷ []) more ∙ ap (λ l. seen ++ l) (sym c.in-Some.ensures.steps.0) ∙ i.whole;
      told = λ o n ss all. (
          let was = i.told o n ss all in
          let split = subst (AreToldParts o n ss) c.in-Some.ensures.steps.0 was.0 in
          (split.1, subst (AreToldParts o n ss) (sym grown) (all_more (IsPartTold o n ss) kept x was.1 split.0)));
      least = λ all. subst AreLeastFirst (ap (λ l. kept ++ l) c.in-Some.ensures.steps.0 ∙ sym (append_assoc kept (x ∷ []) more) ∙ ap (λ l. l ++ more) (sym grown)) (i.least all);
      distinct = subst AreDistinct (sym grown) (one_more kept x i.distinct (apart ∙ sym c.holds_one-holds.ensures.holds ∙ c.if-not-holds.true));
      some = λ some. omega (arith, longer);
      at_most = omega (arith, longer, counted, i.at_most);
    }

pub loop-part-preserved : goal.loop-part-preserved
loop-part-preserved c =
    let seen = c.loop-part.yielded in let i = c.loop-part.invariant in let kept = c.loop-part.kept.items in
    let x = c.in-Some.part in let more = c.next.new.self.rest.items in
    let step = c.in-Some.ensures.steps.0 in
    record {
      whole = append_assoc seen (x ∷ []) more ∙ ap (λ l. seen ++ l) (sym step) ∙ i.whole;
      told = λ o n ss all. (let was = i.told o n ss all in ((subst (AreToldParts o n ss) step was.0).1, was.1));
      least = λ all. without_one kept x more (subst AreLeastFirst (ap (λ l. kept ++ l) step) (i.least all));
      distinct = i.distinct;
      some = λ some. subst (λ l. 0 < length l) c.deref.ensures.value (some_told c.deref.result.now x (sym c.holds_one-holds.ensures.holds ∙ c.if-not-holds.false));
      at_most = omega (arith, length-append seen (x ∷ []), i.at_most);
    }

pub returns : goal.returns
returns c = record {
  parts = λ o n ss some most least all.
      let i = c.loop-part.invariant in
      let seen = c.loop-part.yielded in
      let rest = c.loop-part.part-iterator.rest in
      let none = c.in-None.ensures.steps.0 in
      let as_long = rest.ok in
      let end = ap length i.whole in
      let both = length-append seen rest.items in
      record {
        some = i.some (omega (arith, end, both, none, as_long, some));
        at_most = omega (arith, i.at_most, end, both, none, as_long, most);
        least_first = subst AreLeastFirst (ap (λ l. c.loop-part.kept.items ++ l) (empty rest.items (omega (arith, none, as_long))) ∙ append-nil c.loop-part.kept.items) (i.least least);
        distinct = i.distinct;
        told = (i.told o n ss all).1;
      };
}
