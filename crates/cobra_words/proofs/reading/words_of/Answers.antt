use Rattle.cobra_words.proofs.Prelude.{map, string_bytes, ◌∙◌}
use Rattle.cobra_words.proofs.Entering.{shown_by, asked_by, none_asked}
use Rattle.cobra_words.proofs.reading.words_of.Goals as goal

pub returns-in-Err : goal.returns-in-Err
returns-in-Err c =
    let p = c.in_ok-program.ensures.app in
    let words = map string_bytes c.args.words.now in
    record {
      read = record {
        lists = p.lists;
        are = p.are;
        read_as = shown_by p.lists words _ _ p.has.is c.in-Err.ensures.kinds c.in-Err.ensures.passes
            (λ h. c.in_default.not-OutOfMemory (c.kind.ensures ∙ h));
      };
    }

pub returns-in-Some : goal.returns-in-Some
returns-in-Some c =
    let p = c.in_ok-program.ensures.app in
    let words = map string_bytes c.args.words.now in
    record {
      read = record {
        lists = p.lists;
        are = p.are;
        read_as = asked_by p.lists words _ c.in-Ok.matches c.in-Some.request p.has.is c.in-Ok.ensures.kinds c.in-Ok.ensures.matches c.in-Some.ensures.request;
      };
    }

pub returns : goal.returns
returns c =
    let p = c.in_ok-program.ensures.app in
    let words = map string_bytes c.args.words.now in
    record {
      read = record {
        lists = p.lists;
        are = p.are;
        read_as = none_asked p.lists words _ c.in-Ok.matches p.has.is c.in-Ok.ensures.kinds c.in-Ok.ensures.matches c.in-None.ensures.known;
      };
    }
