use Rattle.audit_report.proofs.Prelude.{[], ◌∷◌, ◌++◌, codes, on_ok_weaker, appended_twice, word_text}
use Rattle.audit_report.proofs.report.put_without_line.Goals as goal

pub returns : goal.returns
returns c =
    let old = c.args.out.now.items in
    let front = codes "without real time: " in
    let word = word_text c.args.word in
    let mid = c.put_word.new.out.items in
    record {
      put = on_ok_weaker c.put-2.result
          (λ e. appended_twice old (front ++ word) (10 ∷ []) mid c.put-2.new.out.items (appended_twice old front word c.put.new.out.items mid c.in_ok-put.ensures.put c.in_ok-put_word.ensures.put) e)
          c.put-2.ensures.put;
    }
