use Rattle.std.proofs.Common.{◌≡◌, Option, None, Some, map, string_bytes, refl, ap, subst, ◌∙◌}
use Rattle.std.specs.IoError.{error_kind}
use Rattle.cobra_words.specs.Asked.{IsRead}
use Rattle.cobra_words.specs.declared.request.Words.{Words}
use Rattle.cobra_words.specs.declared.request.Words.TheVariants.{Request as Asked, Shown}
use Rattle.cobra_calls.specs.Endings.{out_of_memory, status_of}
use Rattle.cobra_program.specs.Program.{words_ending, by_memory}
use Rattle.cobra_program.proofs.Told.{told_for}
use Rattle.cobra_program.proofs.Calling.{with_words, without_words, read_so, read_as}
use Rattle.cobra_program.proofs.calls.program.Goals as goal

pub returns-in-Err : goal.returns-in-Err
returns-in-Err g c =
    let is : c.words_ending.result ≡ words_ending (error_kind c.in-Err.error) = c.words_ending.ensures.ending ∙ ap words_ending c.kind.ensures in
    record {
      call = without_words c.args.start c.args.words c.in-Err.error _ c.tell_ending.result c.in-Err.is (record {
        ends = record {
          reads = refl;
          silent = record { bytes = refl; failures = refl };
          ends = record {
            told = told_for _ _ _ c.words_ending.result (words_ending (error_kind c.in-Err.error)) is c.tell_ending.ensures.told;
            code = c.tell_ending.ensures.status ∙ ap status_of is;
          };
        };
        nothing = record { reads = refl; files = refl };
      });
    }

pub returns-in-Ok-Some-Request : goal.returns-in-Ok-Some-Request
returns-in-Ok-Some-Request g c =
    let at = c.in-Ok-Some-Request in
    let read = read_as (map string_bytes c.deref.result.now) at.field-0 at.field-0-0 (Asked at.request) at.field-0-is at.field-0-0-is at.ensures.read in
    record {
      call = with_words c.args.start c.args.words c.in-Ok.words _ c.serve.result c.in-Ok.is
          (read_so c.args.start c.in-Ok.words.items c.deref.result.now (Some (Asked at.request)) _ c.serve.result c.deref.ensures.value read c.serve.ensures.served);
    }

pub returns-in-Ok-Some-Shown : goal.returns-in-Ok-Some-Shown
returns-in-Ok-Some-Shown g c =
    let at = c.in-Ok-Some-Shown in
    let read = read_as (map string_bytes c.deref.result.now) at.field-0 at.field-0-0 (Shown at.text) at.field-0-is at.field-0-0-is at.ensures.read in
    record {
      call = with_words c.args.start c.args.words c.in-Ok.words _ c.show.result c.in-Ok.is
          (read_so c.args.start c.in-Ok.words.items c.deref.result.now (Some (Shown at.text)) _ c.show.result c.deref.ensures.value read (c.show.ensures.shown, record { reads = c.show.ensures.unread; files = refl }));
    }

pub returns-in-Ok-None : goal.returns-in-Ok-None
returns-in-Ok-None g c =
    let none : Option Words = None in
    let read = subst (λ (r : Option Words). IsRead (map string_bytes c.deref.result.now) r) c.in-Ok-None.field-0-is c.in-Ok-None.ensures.read in
    record {
      call = with_words c.args.start c.args.words c.in-Ok.words _ 2 c.in-Ok.is
          (read_so c.args.start c.in-Ok.words.items c.deref.result.now none _ 2 c.deref.ensures.value read
          (record { reads = refl; silent = record { bytes = refl; failures = refl }; lines = refl; nothing = record { reads = refl; files = refl } }, refl));
    }

pub returns : goal.returns
returns g c = record {
  call = with_words c.args.start c.args.words c.in-Ok.words _ c.tell_ending-in-Err-words_of.result c.in-Ok.is (by_memory (record {
    ends = record {
      reads = refl;
      silent = record { bytes = refl; failures = refl };
      ends = record {
        told = told_for _ _ _ c.memory.result out_of_memory c.memory.ensures c.tell_ending-in-Err-words_of.ensures.told;
        code = c.tell_ending-in-Err-words_of.ensures.status ∙ ap status_of c.memory.ensures;
      };
    };
    nothing = record { reads = refl; files = refl };
  }));
}
