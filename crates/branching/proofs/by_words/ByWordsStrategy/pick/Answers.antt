use Rattle.branching.proofs.Worded.{open_count, word_picks, none_picked}
use Rattle.branching.proofs.by_words.ByWordsStrategy.pick.Goals as goal

pub returns-then-open-eq0 : goal.returns-then-open-eq0
returns-then-open-eq0 c =
    let v = c.args.view.now in
    let n = open_count v c.count.result c.depth.result c.count.ensures.count c.count.ensures.view c.depth.ensures.depth in
    record { pick = none_picked c.args.self.now v _ c.in-Some.ensures.word.0 n c.if-open-eq0.true }

pub returns : goal.returns
returns c =
    let v = c.args.view.now in
    let n = open_count v c.count.result c.depth.result c.count.ensures.count c.count.ensures.view c.depth.ensures.depth in
    record { pick = word_picks c.args.self.now v c.in-Some.word _ c.open_at.result c.in-Some.ensures.word.0 c.in-Some.ensures.word.1 n c.open_at.ensures.choice }
