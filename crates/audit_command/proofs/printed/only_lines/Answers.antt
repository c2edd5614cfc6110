use Rattle.audit_command.proofs.Prelude.{[], ◌∷◌, ◌++◌, sym, ap, subst, append_assoc, ◌∙◌, String, string_bytes, all_more, AreLines, IsLine}
use Rattle.std.specs.declared.alloc.Global.{Global}
use Rattle.audit_command.proofs.Parts.{all_front}
use Rattle.audit_command.proofs.printed.only_lines.Goals as goal

pub loop-text-preserved : goal.loop-text-preserved
loop-text-preserved c =
    let seen = c.loop-text.yielded in let i = c.loop-text.invariant in
    let x = c.in-Some.text in let more = c.next.new.self.rest.items in
    let line = c.only_line.result in let grown = c.in_ok-push.ensures.items in
    record {
      whole = append_assoc seen (x ∷ []) more ∙ ap (λ l. seen ++ l) (sym c.in-Some.ensures.steps.0) ∙ i.whole;
      lines = subst AreLines (sym grown) (all_more (λ (text : String Global). IsLine (string_bytes text)) c.loop-text.lines.items line i.lines c.only_line.ensures.line);
      same = λ all.
          let each = all_front (λ (text : String Global). IsLine (string_bytes text)) seen x all in
          grown ∙ ap (λ l. l ++ line ∷ []) (i.same each.0) ∙ ap (λ (t : String Global). seen ++ t ∷ []) (c.only_line.ensures.same each.1);
    }
