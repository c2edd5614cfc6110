use Rattle.cobra_cli.proofs.Prelude.{◌≡◌, ℕ, ◌+◌, ◌-◌, List, ◌++◌, length, ap, ◌∙◌, arith, keys_in, is_aborted, count_line, unlearnt_text, taken_count}
use Rattle.std.specs.Prelude.{codes, count_by}
use Rattle.log_definitions.specs.Unknown.{txns_in, ops_in, is_committed, is_unknown}
use Rattle.cobra_cli.proofs.Counting.{joined}
use Rattle.cobra_cli.proofs.statistics.put_counts.Goals as goal

pub returns : goal.returns
returns c =
    let ss = c.args.history.now in
    let v = c.args.version in
    let all = txns_in ss in
    let start : List ℕ = c.args.out.now.items in
    let one : List ℕ = c.put_count.new.out.items in
    let two : List ℕ = c.put_count-2.new.out.items in
    let three : List ℕ = c.put_count-3.new.out.items in
    let four : List ℕ = c.put_unlearnt.new.out.items in
    let five : List ℕ = c.put_count-4.new.out.items in
    let six : List ℕ = c.put_count-5.new.out.items in
    let a : List ℕ = count_line (codes "sessions") (length ss) in
    let b : List ℕ = count_line (codes "committed") (count_by is_committed all) in
    let d : List ℕ = count_line (codes "aborted") (count_by is_aborted all) in
    let e : List ℕ = unlearnt_text v (count_by is_unknown all) (taken_count ss) in
    let f : List ℕ = count_line (codes "keys") (length (keys_in ss)) in
    let g : List ℕ = count_line (codes "operations") (length (ops_in ss)) in
    let counts = c.counts-counts.ensures in
    let taken : c.counts-counts.result.taken ≡ taken_count ss = omega (arith, counts.taken, counts.committed) in
    let sessions : one ≡ start ++ a = c.in_ok-put_count.ensures.line ∙ ap (λ n. start ++ count_line (codes "sessions") n) counts.sessions in
    let committed : two ≡ one ++ b = c.in_ok-put_count-2.ensures.line ∙ ap (λ n. one ++ count_line (codes "committed") n) counts.committed in
    let aborted : three ≡ two ++ d = c.in_ok-put_count-3.ensures.line ∙ ap (λ n. two ++ count_line (codes "aborted") n) counts.aborted in
    let unlearnt : four ≡ three ++ e = c.in_ok-put_unlearnt.ensures.text ∙ (ap (λ n. three ++ unlearnt_text v n c.counts-counts.result.taken) counts.unknown ∙ ap (λ n. three ++ unlearnt_text v (count_by is_unknown all) n) taken) in
    let keys : five ≡ four ++ f = c.in_ok-put_count-4.ensures.line ∙ ap (λ n. four ++ count_line (codes "keys") n) counts.keys in
    let operations : six ≡ five ++ g = c.in_ok-put_count-5.ensures.line ∙ ap (λ n. five ++ count_line (codes "operations") n) counts.operations in
    record {
      text = joined start five six (a ++ b ++ d ++ e ++ f) g (joined start four five (a ++ b ++ d ++ e) f (joined start three four (a ++ b ++ d) e (joined start two three (a ++ b) d (joined start one two a b sessions committed) aborted) unlearnt) keys) operations;
    }
