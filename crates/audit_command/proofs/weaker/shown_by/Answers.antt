use Rattle.audit_command.proofs.Prelude.{Some, sym, ap, ◌∙◌, subst, first_line, IsVerdict, IsMade, IsToldPart, resolved, Verdict, NotSerializable, AuditOptions, at_snapshot, verdict_word, unless_told, IsPartTold, IsShown, IsShownBy}
use Rattle.judging.specs.declared.level.Level.TheVariants.{Snapshot}
use Rattle.audit_command.proofs.weaker.shown_by.Goals as goal

pub returns-in-NotSerializable : goal.returns-in-NotSerializable
returns-in-NotSerializable g c =
    let o = c.args.options.now in
    let n = first_line c.args.version in
    let at = c.asked_at_snapshot-below.ensures.at in
    record {
      shown = λ ss same h made.
          let v : IsVerdict (at_snapshot o.means) ss (NotSerializable c.in-NotSerializable.refuted) = subst (IsVerdict (at_snapshot o.means) ss) c.in-NotSerializable.is h in
          let m : IsMade (resolved ss) (NotSerializable c.in-NotSerializable.refuted) = subst (IsMade (resolved ss)) c.in-NotSerializable.is made in
          let told : IsToldPart Snapshot ss c.in-NotSerializable.refuted = record { none = v.0; part = v.1; made = m } in
          let low = subst (λ (p : AuditOptions). IsToldPart p.means.level ss c.in-NotSerializable.refuted) (sym at) told in
          let is : IsShown o n ss c.args.answer.now c.unless_told.result = record {
            part = c.in_ok-part-in-NotSerializable.part;
            told = subst (λ (p : AuditOptions). IsPartTold p n ss c.in_ok-part-in-NotSerializable.part) at (c.in_ok-part-in-NotSerializable.ensures.told ss same low);
            where_other = c.unless_told.ensures.told ∙ ap (unless_told c.in_ok-part-in-NotSerializable.part) c.parts_of.ensures.parts;
          } in
          subst (λ (w : Verdict). IsShownBy o n ss c.args.answer.now (Some (verdict_word w)) c.unless_told.result) (sym c.in-NotSerializable.is) is;
    }
