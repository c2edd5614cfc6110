-- What a search was begun of.
use Rattle.judging.proofs.Prelude.{◌≡◌, true, List, ClientSession, IsLeftOpen, IsFound, is_spent, of_serial, Found, Spent, TooLarge, TooManyChoices, NoRoom, NotBegun, NotShown, JudgeMeans}
use Rattle.judging.specs.declared.found.Found.TheVariants.{Serial, Refuted, Undecided}

pub spent_open : (m : JudgeMeans) (ss : List ClientSession) (f : Found) → IsFound (of_serial m) ss f → is_spent f ≡ true → IsLeftOpen ss
spent_open m ss (Serial order) h e = cc
spent_open m ss (Refuted finding) h e = cc
spent_open m ss (Undecided (Spent closed)) h e = (h.1.left, h.1.history)
spent_open m ss (Undecided (TooLarge which)) h e = cc
spent_open m ss (Undecided TooManyChoices) h e = cc
spent_open m ss (Undecided (NoRoom why)) h e = cc
spent_open m ss (Undecided NotBegun) h e = cc
spent_open m ss (Undecided NotShown) h e = cc
