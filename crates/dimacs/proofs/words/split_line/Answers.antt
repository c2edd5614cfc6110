use Rattle.dimacs.proofs.Prelude.{◌∷◌, ◌+◌, drop, ap, ◌∙◌, sym, take_rest, lines_of}
use Rattle.dimacs.proofs.Cuts.{lines_some, lines_none}
use Rattle.dimacs.proofs.words.split_line.Goals as goal

pub returns-in-Some : goal.returns-in-Some
returns-in-Some c =
    let text = c.args.text.now in
    let rest = ap (λ line. line ∷ lines_of (drop (c.in-Some.end + 1) text)) (sym c.without_carriage_return.ensures) in
    rw take_rest (lines_some text c.in-Some.end c.in-Some.ensures ∙ rest)

pub returns-in-None : goal.returns-in-None
returns-in-None c = lines_none c.args.text.now c.requires c.in-None.ensures
